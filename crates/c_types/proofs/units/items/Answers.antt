use Rattle.c_types.proofs.UnitLaws.{left_turn, left_made, left_after}
use Rattle.c_types.proofs.units.items.Goals as goal

pub loop-tree-preserved : goal.loop-tree-preserved
loop-tree-preserved c =
    left_turn c.args.program.now c.args.trees.now c.args.typer.now c.loop-tree.tree-index c.tree-item.result c.loop-tree.parts c.item.new.parts c.loop-tree.typer c.item.new.typer
    c.loop-tree-test.true c.tree-item.is c.in_ok-item.ensures.made c.in_ok-item.ensures.state c.loop-tree.invariant

pub returns-clause-made : goal.returns-clause-made
returns-clause-made c = left_made c.args.program.now c.args.trees.now c.args.typer.now c.loop-tree.tree-index c.loop-tree.parts c.loop-tree.typer c.loop-tree-test.false c.loop-tree.invariant

pub returns-clause-state : goal.returns-clause-state
returns-clause-state c = left_after c.args.program.now c.args.trees.now c.args.typer.now c.loop-tree.tree-index c.loop-tree.parts c.loop-tree.typer c.loop-tree-test.false c.loop-tree.invariant
