use Rattle.std.proofs.Common.{[], refl}
use Rattle.tree_meaning.proofs.StatementSteps.{assert_stops}
use Rattle.tree_meaning.proofs.statements.assert.Goals as goal

pub returns-then-machine-eq0-clause-err : goal.returns-then-machine-eq0-clause-err
returns-then-machine-eq0-clause-err c = assert_stops c.args.tasks.now [] c.args.machine.now _ c.if-machine-eq0.true refl
