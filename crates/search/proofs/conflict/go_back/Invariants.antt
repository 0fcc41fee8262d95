use Rattle.std.proofs.Common.{◌≡◌, ◌≤◌, ℤ, List, length}
use Rattle.cnf.specs.literal_marks.Marks.{marked}
use Rattle.cnf.specs.declared.literal_marks.places.Places.TheVariants.{ByKey}
use Rattle.search.specs.Chains.{IsBack, IsGoing}
use Rattle.search.specs.Sound.{all_clauses}
use Rattle.search.proofs.conflict.go_back.Given as goal

abbrev pub invariant-loop-chain : goal.invariant-loop-chain
invariant-loop-chain l = record {
  inside : l.front ≤ l.reach;
  size : length l.marks ≡ length l.initial.marks;
  start : l.chain.start ≡ l.initial.chain.start;
  back : (first : List ℤ) → IsBack (all_clauses l.formula l.learned) l.trail first l.reach (marked ByKey l.initial.marks) l.initial.chain.steps.items
      → IsBack (all_clauses l.formula l.learned) l.trail first l.front (marked ByKey l.marks) l.chain.steps.items;
  going : IsGoing l.trail (marked ByKey l.marks) l.front l.chain;
}

abbrev pub decreases-loop-chain : goal.decreases-loop-chain
decreases-loop-chain l = l.front
