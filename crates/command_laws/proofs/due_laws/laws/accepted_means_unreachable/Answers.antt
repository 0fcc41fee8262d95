use Rattle.command_laws.proofs.due_laws.Unreachable.{accepted_means_unreachable}
use Rattle.command_laws.proofs.due_laws.laws.accepted_means_unreachable.Goals as goal

pub returns : goal.returns
returns c = accepted_means_unreachable c.one_outcome.ensures c.unhit_is_unreachable.ensures
