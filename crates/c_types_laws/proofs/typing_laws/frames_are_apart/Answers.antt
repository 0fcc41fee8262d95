use Rattle.c_types_laws.proofs.typing_laws.AlikeStatements.{same_locals}
use Rattle.c_types_laws.proofs.typing_laws.frames_are_apart.Goals as goal

pub returns : goal.returns
returns c = same_locals
