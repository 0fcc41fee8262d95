use Rattle.std.proofs.Common.{◌≡◌, map, take}
use Rattle.cfa.specs.declared.parts.Variable.{Variable}
use Rattle.c_lower_rules.specs.graph_of.Expressions.{array_of}
use Rattle.c_lower.proofs.calls.places_of.Given as goal

abbrev pub invariant-loop-array : goal.invariant-loop-array
invariant-loop-array l = l.places ≡ map (λ (v : Variable). array_of v.place) (take l.array-index l.arrays)
