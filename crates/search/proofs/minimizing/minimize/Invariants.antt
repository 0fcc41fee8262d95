use Rattle.std.proofs.Common.{◌≡◌, length}
use Rattle.cnf.specs.literal_marks.Marks.{marked}
use Rattle.cnf.specs.declared.literal_marks.places.Places.TheVariants.{ByKey}
use Rattle.search.specs.Chains.{IsThinned}
use Rattle.search.specs.Sound.{all_clauses}
use Rattle.search.proofs.minimizing.minimize.Given as goal

abbrev pub invariant-loop-place : goal.invariant-loop-place
invariant-loop-place l = record {
  size : length l.marks ≡ length l.initial.marks;
  thinned : IsThinned (all_clauses l.formula l.learned) l.trail (marked ByKey l.initial.marks) l.initial.chain (marked ByKey l.marks) l.chain;
}
