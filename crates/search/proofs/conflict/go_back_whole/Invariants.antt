use Rattle.std.proofs.Common.{◌≡◌, ◌-◌, ℤ, List, length}
use Rattle.cnf.specs.literal_marks.Marks.{marked}
use Rattle.cnf.specs.declared.literal_marks.places.Places.TheVariants.{ByKey}
use Rattle.search.specs.Chains.{IsBack}
use Rattle.search.specs.Sound.{all_clauses}
use Rattle.search.proofs.conflict.go_back_whole.Given as goal

abbrev pub invariant-loop-back : goal.invariant-loop-back
invariant-loop-back l = record {
  size : length l.marks ≡ length l.initial.marks;
  back : (first : List ℤ) → IsBack (all_clauses l.formula l.learned) l.trail first l.reach (marked ByKey l.initial.marks) l.initial.chain.steps.items
      → IsBack (all_clauses l.formula l.learned) l.trail first (l.reach - l.back) (marked ByKey l.marks) l.chain.steps.items;
}
