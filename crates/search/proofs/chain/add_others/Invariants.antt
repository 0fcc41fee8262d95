use Rattle.std.proofs.Common.{◌≡◌, ◌||◌, ℕ, ℤ, List, length, take}
use Rattle.std.specs.Prelude.{◌&&◌, not}
use Rattle.cnf.specs.Clauses.{has_literal}
use Rattle.cnf.specs.literal_marks.Marks.{marked}
use Rattle.cnf.specs.declared.literal_marks.places.Places.TheVariants.{ByKey}
use Rattle.search.specs.declared.trail.Entry.{Entry}
use Rattle.search.specs.Chains.{AreFalseOthers, IsAdded, skips}
use Rattle.search.specs.Trails.{AreLocated, IsTrail}
use Rattle.search.proofs.chain.add_others.Given as goal

abbrev pub invariant-loop-literal : goal.invariant-loop-literal
invariant-loop-literal l = record {
  size : length l.marks ≡ length l.initial.marks;
  marks : (x : ℤ) → marked ByKey l.marks x ≡ (marked ByKey l.initial.marks x || (has_literal (take l.literal-index l.literals) x && not (skips l.skipped x)));
  chain : (n : ℕ) (trail : List Entry) → IsTrail n trail → AreLocated trail l.places → AreFalseOthers trail l.literals l.skipped
      → IsAdded trail (marked ByKey l.initial.marks) l.initial.chain (marked ByKey l.marks) l.chain;
}
