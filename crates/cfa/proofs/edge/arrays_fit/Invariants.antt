use Rattle.std.proofs.Common.{◌≡◌, length, drop}
use Rattle.cfa.specs.Graph.{arrays_fit}
use Rattle.cfa.proofs.edge.arrays_fit.Given as goal

abbrev pub invariant-loop-i : goal.invariant-loop-i
invariant-loop-i l = record {
  long : length l.places ≡ length l.lengths;
  rest : arrays_fit l.room (drop l.i l.places) (drop l.i l.lengths) ≡ arrays_fit l.room l.places l.lengths;
}
