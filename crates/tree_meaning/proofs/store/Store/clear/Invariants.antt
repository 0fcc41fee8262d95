use Rattle.std.proofs.Common.{◌≡◌, ◌+◌, ◌-◌}
use Rattle.tree_meaning.specs.Activations.{cleared}
use Rattle.tree_meaning.proofs.store.Store.clear.Given as goal

abbrev pub invariant-loop-i : goal.invariant-loop-i
invariant-loop-i l = cleared l.initial.self l.first l.count ≡ cleared l.self (l.first + l.i) (l.count - l.i)
