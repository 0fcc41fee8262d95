use Rattle.bounds_check_laws.proofs.ending_laws.Short.{bounded_runs_are_short}
use Rattle.bounds_check_laws.proofs.ending_laws.bounded_runs_are_short.Goals as goal

pub returns : goal.returns
returns c = bounded_runs_are_short
