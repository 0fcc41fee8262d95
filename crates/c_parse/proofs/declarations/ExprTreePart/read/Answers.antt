use Rattle.c_parse.proofs.Shorter.{choice_fewer}
use Rattle.c_parse.proofs.declarations.ExprTreePart.read.Goals as goal

pub returns-clause-fewer : goal.returns-clause-fewer
returns-clause-fewer c = choice_fewer c.args.tokens.now c.in_ok-tree.rest.now c.in_ok-tree.tree c.in_ok-tree.ensures
