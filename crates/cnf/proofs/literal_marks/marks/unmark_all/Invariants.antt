use Rattle.std.proofs.Common.{◌≡◌, take}
use Rattle.std.specs.Prelude.{ℤ, ◌&&◌, not}
use Rattle.cnf.specs.Clauses.{has_literal}
use Rattle.cnf.specs.literal_marks.Marks.{marked}
use Rattle.cnf.proofs.literal_marks.marks.unmark_all.Given as goal

abbrev pub invariant-loop-literal : goal.invariant-loop-literal
invariant-loop-literal l =
    (x : ℤ) → marked l.places l.marks x ≡ (marked l.places l.initial.marks x && not (has_literal (take l.literal-index l.literals) x))
