use Rattle.std.proofs.Common.{◌≡◌, take}
use Rattle.command.specs.Trees.{ends_on_trees}
use Rattle.command.proofs.trees.end_inputs.Given as goal

abbrev pub invariant-loop-input : goal.invariant-loop-input
invariant-loop-input l = l.ends.items ≡ ends_on_trees l.trees.typed l.entry l.turns (take l.input-index l.inputs)
