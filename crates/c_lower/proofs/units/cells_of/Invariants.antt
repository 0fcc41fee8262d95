use Rattle.std.proofs.Common.{◌≡◌, ◌++◌, map, take}
use Rattle.c_lower.proofs.units.cells_of.Given as goal

abbrev pub invariant-loop-value : goal.invariant-loop-value
invariant-loop-value l = l.cells ≡ l.initial.cells ++ map (λ value. (l.kind, value)) (take l.value-index l.first)
