use Rattle.c_meaning.proofs.RunLaws.{one_run}
use Rattle.c_meaning.proofs.laws.one_run.Goals as goal

pub returns : goal.returns
returns c = one_run
