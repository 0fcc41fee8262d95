use Rattle.std.proofs.Common.{◌≡◌, ◌||◌, take}
use Rattle.std.specs.Prelude.{ℤ, ◌&&◌, not}
use Rattle.std.specs.Ordering.{int_eq}
use Rattle.cnf.specs.Clauses.{has_literal}
use Rattle.cnf.specs.literal_marks.Marks.{marked}
use Rattle.cnf.proofs.literal_marks.marks.mark_others.Given as goal

abbrev pub invariant-loop-literal : goal.invariant-loop-literal
invariant-loop-literal l = record {
  found : l.found ≡ has_literal (take l.literal-index l.literals) l.skipped;
  marks : (x : ℤ) → marked l.places l.marks x ≡ (marked l.places l.initial.marks x || (has_literal (take l.literal-index l.literals) x && not (int_eq x l.skipped)));
}
