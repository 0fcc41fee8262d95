use Rattle.command_laws.proofs.due_laws.Agreement.{covered_is_never_refuted}
use Rattle.command_laws.proofs.due_laws.laws.covered_is_never_refuted.Goals as goal

pub returns : goal.returns
returns c = covered_is_never_refuted
