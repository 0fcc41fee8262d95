use Rattle.command_laws.proofs.replayed_laws.Replayed.{traces_are_replayed}
use Rattle.command_laws.proofs.replayed_laws.traces_are_replayed.Goals as goal

pub returns : goal.returns
returns c = traces_are_replayed c.one_outcome.ensures c.traces_are_read.ensures
