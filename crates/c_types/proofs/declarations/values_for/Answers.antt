use Rattle.std.proofs.Common.{[]}
use Rattle.c_type_rules.specs.Rule.{alone_in}
use Rattle.c_type_rules.proofs.RuleLaws.{left_one, left_made, left_after}
use Rattle.c_types.specs.Declarations.{value_for, values_for}
use Rattle.c_types.proofs.declarations.values_for.Goals as goal

pub loop-tree-preserved : goal.loop-tree-preserved
loop-tree-preserved c =
    left_one (value_for c.args.kind) [] c.args.trees.now c.args.typer.now c.loop-tree.tree-index c.tree-item.result
    c.in_ok-value_for.field-0 c.loop-tree.list c.push.new.self c.loop-tree.typer c.value_for.new.typer
    c.loop-tree-test.true c.tree-item.is c.in_ok-value_for.ensures.made c.in_ok-push.ensures.ok c.in_ok-value_for.ensures.state c.loop-tree.invariant

pub returns-clause-made : goal.returns-clause-made
unfolding values_for
returns-clause-made c = left_made (λ t. alone_in (value_for c.args.kind t)) [] c.args.trees.now c.args.typer.now c.loop-tree.tree-index c.loop-tree.list c.loop-tree.typer c.loop-tree-test.false c.loop-tree.invariant

pub returns-clause-state : goal.returns-clause-state
unfolding values_for
returns-clause-state c = left_after (λ t. alone_in (value_for c.args.kind t)) [] c.args.trees.now c.args.typer.now c.loop-tree.tree-index c.loop-tree.list c.loop-tree.typer c.loop-tree-test.false c.loop-tree.invariant
