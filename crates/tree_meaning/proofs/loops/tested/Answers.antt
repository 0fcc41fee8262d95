use Rattle.std.proofs.Common.{refl}
use Rattle.tree_meaning.proofs.LoopSteps.{tested_on}
use Rattle.tree_meaning.proofs.loops.tested.Goals as goal

pub returns-clause-made : goal.returns-clause-made
returns-clause-made c =
    tested_on c.args.tasks.now c.push-2.new.self c.args.machine.now c.args.parts c.args.left c.push.new.self c.take_turn.new.self _ c.if-machine-eq0.false c.in_ok-take_turn.ensures.turns
    c.in_ok-take_turn.ensures.rest c.in_ok-push-2.ensures c.in_ok-push.ensures refl
