use Rattle.c_types_laws.proofs.tree_contents.Expressions.{choice_passes}
use Rattle.c_types_laws.proofs.tree_contents.laws.expressions_hold_their_tokens.Goals as goal

pub returns : goal.returns
returns c number place t ts derived good = choice_passes number place derived good
