use Rattle.std.proofs.Common.{refl, ◌∙◌}
use Rattle.tree_meaning.proofs.ValueSteps.{rest_stops}
use Rattle.tree_meaning.proofs.values.finish.Goals as goal

pub returns-in-Err-clause-err : goal.returns-in-Err-clause-err
returns-in-Err-clause-err c = rest_stops c.args.tasks.now c.args.tasks.now c.args.machine.now c.args.tree c.args.outer c.in-Err.trap _ ((rw c.deref.ensures at c.rest.ensures) ∙ c.in-Err.is) refl
