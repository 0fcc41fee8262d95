use Rattle.std.proofs.Common.{◌≡◌, ◌+◌, ℕ, List, Option, length}
use Rattle.circuit.specs.declared.lit.Gate.{Gate}
use Rattle.cnf.specs.Checks.{clauses_before}
use Rattle.search_lemmas.specs.Known.{AreKnown}
use Rattle.search_lemmas.proofs.known.mark_lines.Given as goal

abbrev pub invariant-loop-line : goal.invariant-loop-line
invariant-loop-line l = record {
  size : length l.marks.items ≡ length l.refutation.formula.now.clauses + l.line-index;
  known : (gates : List Gate) (wires : List (Option ℕ)) → AreKnown gates wires l.refutation.formula.now.clauses l.initial.marks.items → AreKnown gates wires (clauses_before l.refutation.formula.now l.refutation.derivation.now l.line-index) l.marks.items;
}
