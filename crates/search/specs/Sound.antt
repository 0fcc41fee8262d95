-- What the code keeps of a trail and of learned clauses, so that conflicts can be analysed.
use Rattle.std.specs.Prelude.{◌≡◌, ℕ, ℤ, neg_ℤ, true, List, length, take, slice_get, Some, IsSomeAnd}
use Rattle.std.specs.List.{list_all}
use Rattle.cnf.specs.declared.derivation.Derivation.{Derivation}
use Rattle.cnf.specs.declared.formula.Formula.{Formula}
use Rattle.cnf.specs.Checks.{clauses_before, numbered}
use Rattle.cnf.specs.Clauses.{has_literal}
use Rattle.search.specs.declared.trail.Entry.{Entry}
use Rattle.search.specs.Laws.{is_over}
use Rattle.search.specs.Machine.{is_true}
use Rattle.search.specs.Trails.{IsTrail}

-- all clauses, the formula's and the learned ones
abbrev pub all_clauses : Formula → Derivation → List (List ℤ)
all_clauses formula learned = clauses_before formula learned (length learned.lines)

-- a clause has a literal, and its others are false by a trail
pub record Implies (trail : List Entry) (x : ℤ) (clause : List ℤ) : Type 0 where
  pub here : has_literal clause x ≡ true
  pub others : (y : ℤ) → has_literal clause y ≡ true → (y ≡ x → ⊥) → is_true trail (neg_ℤ y) ≡ true

-- The trail has distinct ones of the variables, all clauses are over them, and each implied literal is so by the clause of
-- its reason and the trail before it.
pub record IsSound (formula : Formula) (learned : Derivation) (trail : List Entry) : Type 0 where
  pub kept : IsTrail formula.variables trail
  pub clauses : list_all (list_all (is_over formula.variables)) (all_clauses formula learned) ≡ true
  pub reasons : (j : ℕ) (e : Entry) (number : ℕ) → slice_get trail j ≡ Some e → e.reason ≡ Some number
      → IsSomeAnd (numbered (all_clauses formula learned) number) (Implies (take j trail) e.literal)
