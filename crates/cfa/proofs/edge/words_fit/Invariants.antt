use Rattle.std.proofs.Common.{◌≡◌, length, drop}
use Rattle.cfa.specs.Graph.{words_fit}
use Rattle.cfa.proofs.edge.words_fit.Given as goal

abbrev pub invariant-loop-i : goal.invariant-loop-i
invariant-loop-i l = record {
  long : length l.words ≡ length l.kinds;
  rest : words_fit l.room (drop l.i l.words) (drop l.i l.kinds) ≡ words_fit l.room l.words l.kinds;
}
