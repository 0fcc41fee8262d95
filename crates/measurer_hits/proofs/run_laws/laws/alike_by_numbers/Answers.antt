use Rattle.measurer_hits.proofs.run_laws.Taken.{alike_by_numbers}
use Rattle.measurer_hits.proofs.run_laws.laws.alike_by_numbers.Goals as goal

pub returns : goal.returns
returns c = alike_by_numbers
