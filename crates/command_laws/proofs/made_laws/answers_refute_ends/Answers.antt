use Rattle.command_laws.proofs.made_laws.Made.{answers_refute_ends}
use Rattle.command_laws.proofs.made_laws.answers_refute_ends.Goals as goal

pub returns : goal.returns
returns c = answers_refute_ends
