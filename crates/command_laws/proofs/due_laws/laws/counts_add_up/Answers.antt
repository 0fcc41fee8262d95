use Rattle.command_laws.proofs.due_laws.Agreement.{counts_add_up}
use Rattle.command_laws.proofs.due_laws.laws.counts_add_up.Goals as goal

pub returns : goal.returns
returns c = counts_add_up
