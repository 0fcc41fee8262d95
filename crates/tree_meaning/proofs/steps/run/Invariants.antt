use Rattle.std.proofs.Common.{◌≡◌}
use Rattle.tree_meaning.specs.Tasks.{behind}
use Rattle.tree_meaning.proofs.steps.run.Given as goal

abbrev pub invariant-steps : goal.invariant-steps
invariant-steps l = behind l.initial.tasks l.initial.machine ≡ behind l.tasks l.machine
