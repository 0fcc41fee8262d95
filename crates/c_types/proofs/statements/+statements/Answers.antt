use Rattle.std.proofs.Common.{[]}
use Rattle.c_type_rules.specs.Rule.{alone_in}
use Rattle.c_type_rules.proofs.RuleLaws.{left_one, left_turn, left_made, left_after}
use Rattle.c_types.specs.Statements.{statement_rule, arm_rule, arm_of, arms_typing, group_rule, group, groups_typing}
use Rattle.c_types.proofs.statements.+statements.Goals as goal

pub arms-loop-tree-preserved : goal.arms-loop-tree-preserved
arms-loop-tree-preserved t c =
    left_one (λ a. arm_rule c.args.around (arm_of a)) [] c.args.trees.now c.args.typer.now c.loop-tree.tree-index c.tree-item.result
    c.in_ok-arm.field-0 c.loop-tree.list c.push.new.self c.loop-tree.typer c.arm.new.typer
    c.loop-tree-test.true c.tree-item.is c.in_ok-arm.ensures.made c.in_ok-push.ensures.ok c.in_ok-arm.ensures.state c.loop-tree.invariant

pub arms-returns-clause-made : goal.arms-returns-clause-made
unfolding arms_typing
arms-returns-clause-made t c = left_made (λ a. alone_in (arm_rule c.args.around (arm_of a))) [] c.args.trees.now c.args.typer.now c.loop-tree.tree-index c.loop-tree.list c.loop-tree.typer c.loop-tree-test.false c.loop-tree.invariant

pub arms-returns-clause-state : goal.arms-returns-clause-state
unfolding arms_typing
arms-returns-clause-state t c = left_after (λ a. alone_in (arm_rule c.args.around (arm_of a))) [] c.args.trees.now c.args.typer.now c.loop-tree.tree-index c.loop-tree.list c.loop-tree.typer c.loop-tree-test.false c.loop-tree.invariant

pub groups-loop-tree-preserved : goal.groups-loop-tree-preserved
groups-loop-tree-preserved t c =
    left_one (λ g. group_rule c.args.around c.args.kind (group g)) [] c.args.trees.now c.args.typer.now c.loop-tree.tree-index c.tree-item.result
    c.in_ok-one_group.field-0 c.loop-tree.list c.push.new.self c.loop-tree.typer c.one_group.new.typer
    c.loop-tree-test.true c.tree-item.is c.in_ok-one_group.ensures.made c.in_ok-push.ensures.ok c.in_ok-one_group.ensures.state c.loop-tree.invariant

pub groups-returns-clause-made : goal.groups-returns-clause-made
unfolding groups_typing
groups-returns-clause-made t c = left_made (λ g. alone_in (group_rule c.args.around c.args.kind (group g))) [] c.args.trees.now c.args.typer.now c.loop-tree.tree-index c.loop-tree.list c.loop-tree.typer c.loop-tree-test.false c.loop-tree.invariant

pub groups-returns-clause-state : goal.groups-returns-clause-state
unfolding groups_typing
groups-returns-clause-state t c = left_after (λ g. alone_in (group_rule c.args.around c.args.kind (group g))) [] c.args.trees.now c.args.typer.now c.loop-tree.tree-index c.loop-tree.list c.loop-tree.typer c.loop-tree-test.false c.loop-tree.invariant

pub in_turn-loop-tree-preserved : goal.in_turn-loop-tree-preserved
in_turn-loop-tree-preserved t c =
    left_turn (statement_rule c.args.around) [] c.args.trees.now c.args.typer.now c.loop-tree.tree-index c.tree-item.result
    c.loop-tree.list c.statement.new.out c.loop-tree.typer c.statement.new.typer
    c.loop-tree-test.true c.tree-item.is c.in_ok-statement.ensures.made c.in_ok-statement.ensures.state c.loop-tree.invariant

pub in_turn-returns-clause-made : goal.in_turn-returns-clause-made
in_turn-returns-clause-made t c = left_made (statement_rule c.args.around) [] c.args.trees.now c.args.typer.now c.loop-tree.tree-index c.loop-tree.list c.loop-tree.typer c.loop-tree-test.false c.loop-tree.invariant

pub in_turn-returns-clause-state : goal.in_turn-returns-clause-state
in_turn-returns-clause-state t c = left_after (statement_rule c.args.around) [] c.args.trees.now c.args.typer.now c.loop-tree.tree-index c.loop-tree.list c.loop-tree.typer c.loop-tree-test.false c.loop-tree.invariant
