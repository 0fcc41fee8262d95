use Rattle.std.proofs.Common.{◌≡◌, map, take}
use Rattle.cfa.specs.Values.{array_start}
use Rattle.c_meaning.proofs.words.starts_of.Given as goal

abbrev pub invariant-loop-array : goal.invariant-loop-array
invariant-loop-array l = l.starts ≡ map (λ array. array_start l.store.cells l.store.frame array) (take l.array-index l.arrays)
