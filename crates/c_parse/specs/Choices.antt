-- Choices that lie in one another's third operand.
-- Only proofs rest on this: no public contract speaks of it.
use Rattle.std.specs.Prelude.{List, [], ◌∷◌}
use Rattle.c_parse.specs.declared.expr.ExprTree.{ExprTree}
use Rattle.c_parse.specs.declared.expr.ExprForm.TheVariants as form
use Rattle.c_parse.specs.declared.expressions.OpenChoice.{OpenChoice}
use Rattle.c_parse.specs.Trees.{tree}

-- the outermost first, with the last third operand
unfoldable pub closed : List OpenChoice → ExprTree → ExprTree
closed [] last = last
closed (c ∷ cs) last = tree c.span (form.Choice c.test c.yes (closed cs last))
