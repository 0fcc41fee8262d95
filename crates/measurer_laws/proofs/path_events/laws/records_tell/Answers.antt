use Rattle.measurer_laws.proofs.path_events.Records.{records_tell}
use Rattle.measurer_laws.proofs.path_events.laws.records_tell.Goals as goal

pub returns : goal.returns
returns c = records_tell
