use Rattle.bounds_check_laws.proofs.ending_laws.Asked.{no_run_time_error}
use Rattle.bounds_check_laws.proofs.ending_laws.no_run_time_error.Goals as goal

pub returns : goal.returns
returns c = no_run_time_error
