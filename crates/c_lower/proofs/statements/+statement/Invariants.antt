use Rattle.std.proofs.Common.{◌≡◌, ℕ, ◌+◌, ◌*◌, map, drop, Option, Some, None}
use Rattle.std.specs.Prelude.{max}
use denote.Param.Weighed.{most}
use Rattle.std.specs.Option.{option_map}
use Rattle.c_typed_trees.specs.declared.expression.TypedExpr.{TypedExpr}
use Rattle.c_typed_trees.specs.declared.statement.TypedStatement.{TypedStatement, size-TypedStatement}
use Rattle.c_typed_trees.specs.declared.statement.TypedGroup.{size-TypedGroup}
use Rattle.c_lower_rules.specs.graph_of.Builder.{in_order, after}
use Rattle.c_lower_rules.specs.graph_of.Statements.{sequence, block_row, arms_row}
use Rattle.c_lower_rules.specs.graph_of.Switch.{groups_row}
use Rattle.c_lower_rules.specs.graph_of.Table.{piece, group_of}
use Rattle.c_lower.specs.Forms.{arm_of}
use Rattle.c_lower.proofs.statements.+statement.Given as goal

abbrev size_of_last : Option TypedStatement → ℕ
size_of_last None = 0
size_of_last (Some s) = size-TypedStatement s

abbrev pub invariant-block-loop-i : goal.invariant-block-loop-i
invariant-block-loop-i l = after (block_row (map piece l.list) l.around l.initial.here l.z) l.initial.parts ≡ after (sequence (map piece (drop l.i l.list)) l.now l.here l.z) l.parts

abbrev pub invariant-branches-loop-i : goal.invariant-branches-loop-i
invariant-branches-loop-i l =
    after (arms_row (map arm_of l.arms) (option_map piece l.otherwise) l.around l.initial.here l.z) l.initial.parts ≡ after (arms_row (map arm_of (drop l.i l.arms)) (option_map piece l.otherwise) l.around l.here l.z) l.parts

abbrev pub decreases-statement : goal.decreases-statement
decreases-statement l = 4 * size-TypedStatement l.tree.now

abbrev pub decreases-block : goal.decreases-block
decreases-block l = 4 * most size-TypedStatement l.list.now + 1

abbrev pub decreases-arm_of : goal.decreases-arm_of
decreases-arm_of l = 4 * size-TypedStatement l.arm.now.1 + 1

abbrev pub decreases-branches : goal.decreases-branches
decreases-branches l = 4 * max (most (λ (a : TypedExpr × TypedStatement). size-TypedStatement a.1) l.arms.now) (size_of_last l.otherwise.now) + 2

abbrev pub decreases-while_loop : goal.decreases-while_loop
decreases-while_loop l = 4 * size-TypedStatement l.body.now + 1

abbrev pub decreases-do_loop : goal.decreases-do_loop
decreases-do_loop l = 4 * size-TypedStatement l.body.now + 1

abbrev pub decreases-for_step : goal.decreases-for_step
decreases-for_step l = 4 * size_of_last l.next.now + 1

abbrev pub decreases-for_loop : goal.decreases-for_loop
decreases-for_loop l = 4 * max (size_of_last l.next.now) (size-TypedStatement l.body.now) + 2

abbrev pub decreases-for_statement : goal.decreases-for_statement
decreases-for_statement l = 4 * max (most size-TypedStatement l.first.now) (max (size_of_last l.next.now) (size-TypedStatement l.body.now)) + 3

abbrev pub invariant-groups_row-loop-i : goal.invariant-groups_row-loop-i
invariant-groups_row-loop-i l =
    after (in_order (groups_row (map group_of l.groups) l.around l.g l.z)) l.initial.parts ≡ after (in_order (groups_row (map group_of (drop l.i l.groups)) l.around (l.g + l.i) l.z)) l.parts

abbrev pub decreases-groups_row : goal.decreases-groups_row
decreases-groups_row l = 4 * most size-TypedGroup l.groups.now + 2

abbrev pub decreases-switch : goal.decreases-switch
decreases-switch l = 4 * most size-TypedGroup l.groups.now + 3
