use Rattle.std.proofs.Common.{◌≡◌, take}
use Rattle.std.specs.Prelude.{filter_map}
use Rattle.cfa.specs.declared.parts.Variable.{Variable}
use Rattle.c_lower.proofs.units.array_lengths.Given as goal

abbrev pub invariant-loop-parameter : goal.invariant-loop-parameter
invariant-loop-parameter l = l.lengths ≡ filter_map (λ (v : Variable). v.length) (take l.parameter-index l.parameters)
