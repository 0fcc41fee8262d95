use Rattle.measurer_hits.proofs.run_laws.Alike.{alike_records}
use Rattle.measurer_hits.proofs.run_laws.laws.alike_records.Goals as goal

pub returns : goal.returns
returns c = alike_records
