use Rattle.std.proofs.Common.{◌≡◌, length, take}
use Rattle.search_lemmas.specs.Known.{AreKnown}
use Rattle.search_lemmas.proofs.known.known_clauses.Given as goal

abbrev pub invariant-loop-place : goal.invariant-loop-place
invariant-loop-place l = record {
  size : length l.marks.items ≡ l.place;
  known : AreKnown l.held.circuit.now l.wires (take l.place l.refutation.formula.now.clauses) l.marks.items;
}
