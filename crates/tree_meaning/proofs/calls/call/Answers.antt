use Rattle.tree_meaning.proofs.StatementFits.{words_fit}
use Rattle.tree_meaning.proofs.calls.call.Goals as goal

pub push-requires : goal.push-requires
push-requires c = words_fit c.args.tree.now c.in-Defined.callee c.in-Defined.is c.requires
