use Rattle.command_laws.proofs.due_laws.Printed.{printed_inputs_are_read}
use Rattle.command_laws.proofs.due_laws.laws.printed_inputs_are_read.Goals as goal

pub returns : goal.returns
returns c = printed_inputs_are_read
