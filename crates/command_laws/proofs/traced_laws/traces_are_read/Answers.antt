use Rattle.command_laws.proofs.traced_laws.Traces.{traces_are_read}
use Rattle.command_laws.proofs.traced_laws.traces_are_read.Goals as goal

pub returns : goal.returns
returns c = traces_are_read c.accepted_texts_fit.ensures
