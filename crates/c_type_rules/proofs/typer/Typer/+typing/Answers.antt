use Rattle.std.proofs.Common.{map}
use Rattle.c_type_rules.specs.Expressions.{piece}
use Rattle.c_type_rules.proofs.ExpressionLaws.{left_turn, left_made, left_after}
use Rattle.c_type_rules.proofs.typer.Typer.+typing.Goals as goal

pub arguments-loop-i-preserved : goal.arguments-loop-i-preserved
arguments-loop-i-preserved t c =
    left_turn c.args.parameters.now (map piece c.args.trees.now) c.args.self.now c.args.trees.now c.loop-i.i c.index-trees-i.result c.loop-i.given c.argument.new.given c.parameter_at.result c.loop-i.self c.argument.new.self
    c.loop-i-test.true c.index-trees-i.is c.parameter_at.ensures c.in_ok-argument.ensures.made c.in_ok-argument.ensures.state c.loop-i.invariant

pub arguments-returns-clause-made : goal.arguments-returns-clause-made
arguments-returns-clause-made t c = left_made c.args.parameters.now (map piece c.args.trees.now) c.args.self.now c.args.trees.now c.loop-i.i c.loop-i.given c.loop-i.self c.loop-i-test.false c.loop-i.invariant

pub arguments-returns-clause-state : goal.arguments-returns-clause-state
arguments-returns-clause-state t c = left_after c.args.parameters.now (map piece c.args.trees.now) c.args.self.now c.args.trees.now c.loop-i.i c.loop-i.given c.loop-i.self c.loop-i-test.false c.loop-i.invariant
