use Rattle.std.proofs.Common.{◌≡◌, map, take}
use Rattle.cfa.specs.declared.parts.Variable.{Variable}
use Rattle.c_lower.proofs.calls.names_of.Given as goal

abbrev pub invariant-loop-array : goal.invariant-loop-array
invariant-loop-array l = l.names ≡ map (λ (v : Variable). v.name) (take l.array-index l.arrays)
