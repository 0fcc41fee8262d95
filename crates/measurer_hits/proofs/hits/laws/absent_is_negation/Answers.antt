use Rattle.measurer_hits.proofs.hits.Absent.{absent_negation}
use Rattle.measurer_hits.proofs.hits.laws.absent_is_negation.Goals as goal

pub returns : goal.returns
returns c = absent_negation
