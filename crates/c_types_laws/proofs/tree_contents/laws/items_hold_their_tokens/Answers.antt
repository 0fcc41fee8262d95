use Rattle.c_types_laws.proofs.tree_contents.Items.{items_pass}
use Rattle.c_types_laws.proofs.tree_contents.laws.items_hold_their_tokens.Goals as goal

pub returns : goal.returns
returns c number place items ts derived good = items_pass number place derived good
