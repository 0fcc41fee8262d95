use Rattle.std.proofs.Common.{◌≡◌, ℕ, List, map, take}
use Rattle.cfa.specs.Values.{array_start}
use Rattle.sym_expr.proofs.sym_steps.operations.starts_of.Given as goal

abbrev pub invariant-loop-array : goal.invariant-loop-array
invariant-loop-array l = (cells : List ℕ) → l.starts ≡ map (array_start cells l.frame) (take l.array-index l.arrays)
