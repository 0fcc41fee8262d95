use Rattle.std.proofs.Common.{◌≡◌, ◌||◌, ℤ, length, take}
use Rattle.std.specs.Prelude.{◌&&◌, not}
use Rattle.cnf.specs.Clauses.{has_literal}
use Rattle.cnf.specs.literal_marks.Marks.{marked}
use Rattle.cnf.specs.declared.literal_marks.places.Places.TheVariants.{ByKey}
use Rattle.search.specs.Chains.{IsWider, skips}
use Rattle.search.proofs.minimizing.add_others_found.Given as goal

abbrev pub invariant-loop-literal : goal.invariant-loop-literal
invariant-loop-literal l = record {
  size : length l.marks ≡ length l.initial.marks;
  marks : (x : ℤ) → marked ByKey l.marks x ≡ (marked ByKey l.initial.marks x || (has_literal (take l.literal-index l.literals) x && not (skips l.skipped x)));
  start : l.chain.start ≡ l.initial.chain.start;
  low : l.chain.low ≡ l.initial.chain.low;
  steps : l.chain.steps ≡ l.initial.chain.steps;
  wider : IsWider (marked ByKey l.initial.marks) l.initial.chain.found.items (marked ByKey l.marks) l.chain.found.items (λ x. has_literal (take l.literal-index l.literals) x && not (skips l.skipped x));
}
