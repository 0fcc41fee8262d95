-- Which expressions have a sequence point within them (ISO/IEC 9899:2011, Annex C).
-- Public contracts rest on this.
use Rattle.std.specs.Prelude.{Bool, true, false, ◌||◌}
use Rattle.c_parse.specs.declared.expr.ExprForm.TheOpen.{ExprForm-F}
use Rattle.c_parse.specs.declared.expr.ExprTree.{ExprTree, fold-ExprTree}

-- a form has one where a part has, or by itself: a call (6.5.2.2p10), `&&` (6.5.13p4), `||` (6.5.14p4), `?:` (6.5.15p4)
unfoldable pub sequence_step : ExprForm-F Bool Bool → Bool
sequence_step (ExprForm-F.Number n kind) = false
sequence_step (ExprForm-F.Name w) = false
sequence_step (ExprForm-F.Element w index) = index
sequence_step (ExprForm-F.Call w arguments) = true
sequence_step (ExprForm-F.Cast kind operand) = operand
sequence_step (ExprForm-F.Plus operand) = operand
sequence_step (ExprForm-F.Unary op operand) = operand
sequence_step (ExprForm-F.Binary op left right) = left || right
sequence_step (ExprForm-F.Both left right) = true
sequence_step (ExprForm-F.Either left right) = true
sequence_step (ExprForm-F.Choice test first second) = true

unfoldable pub has_sequence_point : ExprTree → Bool
has_sequence_point = fold-ExprTree Bool Bool sequence_step (λ t. t.form)
