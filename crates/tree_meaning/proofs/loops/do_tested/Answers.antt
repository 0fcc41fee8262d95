use Rattle.std.proofs.Common.{[], refl}
use Rattle.tree_meaning.proofs.LoopSteps.{do_tested_stops}
use Rattle.tree_meaning.proofs.loops.do_tested.Goals as goal

pub returns-then-left-eq0-clause-err : goal.returns-then-left-eq0-clause-err
returns-then-left-eq0-clause-err c = do_tested_stops c.args.tasks.now [] c.args.machine.now c.args.parts c.args.left _ c.if-machine-eq0.false c.if-left-eq0.true refl
