use Rattle.bounds_check_laws.proofs.ending_laws.Asked.{each_run_returns}
use Rattle.bounds_check_laws.proofs.ending_laws.each_run_returns.Goals as goal

pub returns : goal.returns
returns c = each_run_returns
