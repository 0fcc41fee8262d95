use Rattle.measurer_hits.proofs.run_laws.Taken.{answers_alike}
use Rattle.measurer_hits.proofs.run_laws.laws.answers_alike.Goals as goal

pub returns : goal.returns
returns c = answers_alike
