use Rattle.std.proofs.Common.{◌+◌, ◌*◌, map, drop}
use Rattle.std.specs.Prelude.{max}
use denote.Param.Weighed.{most}
use Rattle.c_typed_trees.specs.declared.expression.TypedCall.{size-TypedCall}
use Rattle.c_typed_trees.specs.declared.expression.TypedExpr.{size-TypedExpr}
use Rattle.c_typed_trees.specs.declared.expression.TypedPlace.{size-TypedPlace}
use Rattle.c_lower_rules.specs.graph_of.Expressions.{value_of}
use Rattle.c_lower.proofs.ExpressionLaws.{Left}
use Rattle.c_lower.proofs.values.+value.Given as goal

abbrev pub invariant-words-loop-word : goal.invariant-words-loop-word
invariant-words-loop-word l = Left l.around (map value_of l.list) l.a l.initial.parts (map value_of (drop l.word-index l.list)) l.here l.parts l.operands

abbrev pub decreases-value : goal.decreases-value
decreases-value l = 5 * size-TypedExpr l.tree.now

abbrev pub decreases-condition : goal.decreases-condition
decreases-condition l = 5 * size-TypedExpr l.tree.now + 2

abbrev pub decreases-plain_condition : goal.decreases-plain_condition
decreases-plain_condition l = 5 * size-TypedExpr l.tree.now + 1

abbrev pub decreases-spot : goal.decreases-spot
decreases-spot l = 5 * size-TypedPlace l.place.now

abbrev pub decreases-words : goal.decreases-words
decreases-words l = 5 * most size-TypedExpr l.list.now + 1

abbrev pub decreases-call : goal.decreases-call
decreases-call l = 5 * size-TypedCall l.tree.now

abbrev pub decreases-both : goal.decreases-both
decreases-both l = 5 * max (size-TypedExpr l.left.now) (size-TypedExpr l.right.now) + 3

abbrev pub decreases-either : goal.decreases-either
decreases-either l = 5 * max (size-TypedExpr l.left.now) (size-TypedExpr l.right.now) + 3

abbrev pub decreases-both_value : goal.decreases-both_value
decreases-both_value l = 5 * max (size-TypedExpr l.left.now) (size-TypedExpr l.right.now) + 4

abbrev pub decreases-either_value : goal.decreases-either_value
decreases-either_value l = 5 * max (size-TypedExpr l.left.now) (size-TypedExpr l.right.now) + 4

abbrev pub decreases-part : goal.decreases-part
decreases-part l = 5 * size-TypedExpr l.tree.now + 1

abbrev pub decreases-choice : goal.decreases-choice
decreases-choice l = 5 * max (size-TypedExpr l.test.now) (max (size-TypedExpr l.yes.now) (size-TypedExpr l.no.now)) + 3
