use Rattle.std.proofs.Common.{◌≡◌, ℤ, neg_ℤ, true, false, take}
use Rattle.std.specs.Ordering.{int_eq}
use Rattle.cnf.specs.Clauses.{has_literal}
use Rattle.cnf.specs.literal_marks.Marks.{marked}
use Rattle.cnf.specs.declared.literal_marks.places.Places.TheVariants.{ByKey}
use Rattle.search.proofs.visit.unwatched.Given as goal

abbrev pub invariant-loop-literal : goal.invariant-loop-literal
invariant-loop-literal l =
    (x : ℤ) → has_literal (take l.literal-index l.clause) x ≡ true → int_eq x l.partner ≡ false → marked ByKey l.values (neg_ℤ x) ≡ true
