use Rattle.measurer_hits.proofs.run_laws.Ends.{ends_compose}
use Rattle.measurer_hits.proofs.run_laws.laws.ends_compose.Goals as goal

pub returns : goal.returns
returns c = ends_compose
