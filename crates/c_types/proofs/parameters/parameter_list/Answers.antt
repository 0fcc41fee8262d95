use Rattle.c_types.proofs.ParameterLaws.{left_turn, left_made, left_after}
use Rattle.c_types.proofs.parameters.parameter_list.Goals as goal

pub loop-tree-preserved : goal.loop-tree-preserved
loop-tree-preserved c =
    left_turn c.args.defined c.args.trees.now c.args.typer.now c.loop-tree.tree-index c.tree-item.result c.loop-tree.cell c.in_ok-cell.cell c.loop-tree.lent c.in_ok-lent.lent
    c.loop-tree.variables c.push.new.self c.in_ok-variable.variable c.loop-tree.typer c.parameter.new.typer
    c.loop-tree-test.true c.tree-item.is c.in_ok-variable.ensures.made c.in_ok-variable.ensures.state c.in_ok-cell.ensures c.in_ok-lent.ensures c.in_ok-push.ensures.ok c.loop-tree.invariant

pub returns-clause-made : goal.returns-clause-made
returns-clause-made c = left_made c.args.defined c.args.trees.now c.args.typer.now c.loop-tree.tree-index c.loop-tree.cell c.loop-tree.lent c.loop-tree.variables c.loop-tree.typer c.loop-tree-test.false c.loop-tree.invariant

pub returns-clause-state : goal.returns-clause-state
returns-clause-state c = left_after c.args.defined c.args.trees.now c.args.typer.now c.loop-tree.tree-index c.loop-tree.cell c.loop-tree.lent c.loop-tree.variables c.loop-tree.typer c.loop-tree-test.false c.loop-tree.invariant
