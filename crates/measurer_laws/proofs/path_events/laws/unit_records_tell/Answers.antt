use Rattle.measurer_laws.proofs.path_events.Records.{unit_records_tell}
use Rattle.measurer_laws.proofs.path_events.laws.unit_records_tell.Goals as goal

pub returns : goal.returns
returns c = unit_records_tell
