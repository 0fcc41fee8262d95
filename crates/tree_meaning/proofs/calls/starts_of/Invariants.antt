use Rattle.std.proofs.Common.{◌≡◌, map, take}
use Rattle.cfa.specs.declared.parts.Variable.{Variable}
use Rattle.tree_meaning.specs.Activations.{start_of}
use Rattle.tree_meaning.proofs.calls.starts_of.Given as goal

abbrev pub invariant-loop-array : goal.invariant-loop-array
invariant-loop-array l = l.starts ≡ map (λ (v : Variable). start_of l.activation v.place) (take l.array-index l.arrays)
