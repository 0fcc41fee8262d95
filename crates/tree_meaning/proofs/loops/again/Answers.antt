use Rattle.std.proofs.Common.{◌≡◌, true, [], refl, rules}
use Rattle.tree_meaning.specs.Running.{is_on}
use Rattle.tree_meaning.proofs.LoopSteps.{again_stops}
use Rattle.tree_meaning.proofs.loops.again.Goals as goal

pub returns-then-left-eq0-clause-err : goal.returns-then-left-eq0-clause-err
returns-then-left-eq0-clause-err c =
    let on : is_on c.args.machine.now.way ≡ true = search rules in
    again_stops c.args.tasks.now [] c.args.machine.now c.args.parts c.args.left _ on c.if-left-eq0.true refl
