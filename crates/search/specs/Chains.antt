-- Resolution back along the trail to the first unique implication point (Marques-Silva and Sakallah 1999).
use Rattle.std.specs.Prelude.{◌≡◌, ◌⊎◌, ℕ, ◌+◌, ◌<◌, ◌≤◌, ℤ, neg_ℤ, Bool, true, false, not, ◌&&◌, List, take, slice_get, Option, None, Some, IsSomeAnd}
use Rattle.std.specs.List.{list_all}
use Rattle.std.specs.Ordering.{int_eq}
use Rattle.cnf.specs.Checks.{resolved}
use Rattle.cnf.specs.Clauses.{has_literal}
use Rattle.search.specs.declared.chain.Chain.{Chain}
use Rattle.search.specs.declared.trail.Entry.{Entry}
use Rattle.search.specs.Machine.{is_implied_by, is_true}
use Rattle.search.specs.Watching.{IsDecidedAt}

-- a set has the negation of the literal at a place
abbrev pub IsMarkedAt : List Entry → (ℤ → Bool) → ℕ → Type 0
IsMarkedAt trail set place = IsSomeAnd (slice_get trail place) (λ e. set (neg_ℤ e.literal) ≡ true)

-- the shortest beginning of the trail by which a clause is false
pub record IsReach (trail : List Entry) (clause : List ℤ) (reach : ℕ) : Type 0 where
  pub falses : (y : ℤ) → has_literal clause y ≡ true → is_true (take reach trail) (neg_ℤ y) ≡ true
  pub last : (place : ℕ) → reach ≡ place + 1 → IsMarkedAt trail (has_literal clause) place

-- where the last decision before a place stands
abbrev pub IsLastDecision : List Entry → ℕ → Option ℕ → Type 0
IsLastDecision trail reach None = (d : ℕ) → IsDecidedAt trail d → d < reach → ⊥
IsLastDecision trail reach (Some start) = IsDecidedAt trail start × (start < reach) × ((d : ℕ) → IsDecidedAt trail d → start < d → d < reach → ⊥)

-- the clause so far of a chain that goes back along the trail
pub record IsBack (clauses : List (List ℤ)) (trail : List Entry) (first : List ℤ) (front : ℕ) (set : ℤ → Bool) (steps : List (ℕ × ℤ)) : Type 0 where
  pub chain : resolved clauses (has_literal first) steps ≡ Some set
  pub reasons : list_all (λ step. is_implied_by trail step.0 step.1) steps ≡ true
  pub falses : (y : ℤ) → set y ≡ true → is_true (take front trail) (neg_ℤ y) ≡ true

-- what is kept beside the marks of the clause so far
pub record IsGathered (trail : List Entry) (set : ℤ → Bool) (chain : Chain) : Type 0 where
  pub found : (y : ℤ) → has_literal chain.found.items y ≡ (set y && is_true (take chain.start trail) (neg_ℤ y))
  pub none : (y : ℤ) → set y ≡ true → is_true (take chain.low trail) (neg_ℤ y) ≡ true → is_true (take chain.start trail) (neg_ℤ y) ≡ true
  pub inside : chain.start ≤ chain.low

-- the same while entries from a place on are left to look at
pub record IsGoing (trail : List Entry) (set : ℤ → Bool) (front : ℕ) (chain : Chain) : Type 0 where
  pub gathered : IsGathered trail set chain
  pub low : IsMarkedAt trail set chain.low
  pub below : chain.low < front

-- literals were added to the set
pub record IsAdded (trail : List Entry) (set : ℤ → Bool) (before : Chain) (next : ℤ → Bool) (after : Chain) : Type 0 where
  pub start : after.start ≡ before.start
  pub steps : after.steps ≡ before.steps
  pub gathers : IsGathered trail set before → IsGathered trail next after
  pub low : (after.low ≡ before.low) ⊎ ((after.low < before.low) × IsMarkedAt trail next after.low)

-- literals were added to the set, and those that are new to a list of its literals
pub record IsWider (set : ℤ → Bool) (found : List ℤ) (next : ℤ → Bool) (wider : List ℤ) (added : ℤ → Bool) : Type 0 where
  pub keeps : (y : ℤ) → has_literal found y ≡ true → has_literal wider y ≡ true
  pub covers : (y : ℤ) → next y ≡ true → (set y ≡ true) ⊎ (has_literal wider y ≡ true)
  pub only : (y : ℤ) → has_literal wider y ≡ true → (has_literal found y ≡ true) ⊎ (added y ≡ true)

-- a list has all literals of the set that are false before a place, and none that isn't false before it
pub record AreFound (trail : List Entry) (start : ℕ) (set : ℤ → Bool) (found : List ℤ) : Type 0 where
  pub covers : (y : ℤ) → set y ≡ true → is_true (take start trail) (neg_ℤ y) ≡ true → has_literal found y ≡ true
  pub early : (y : ℤ) → has_literal found y ≡ true → is_true (take start trail) (neg_ℤ y) ≡ true

-- literals of the set were resolved away that are false before the start, and such were added
pub record IsThinned (clauses : List (List ℤ)) (trail : List Entry) (set : ℤ → Bool) (before : Chain) (next : ℤ → Bool) (after : Chain) : Type 0 where
  pub start : after.start ≡ before.start
  pub low : after.low ≡ before.low
  pub found : AreFound trail before.start set before.found.items → AreFound trail before.start next after.found.items
  pub less : (y : ℤ) → next y ≡ true → (set y ≡ true) ⊎ (is_true (take before.start trail) (neg_ℤ y) ≡ true)
  pub rest : (y : ℤ) → set y ≡ true → is_true (take before.start trail) (neg_ℤ y) ≡ false → next y ≡ true
  pub back : (first : List ℤ) (front : ℕ) → before.start ≤ front → IsBack clauses trail first front set before.steps.items → IsBack clauses trail first front next after.steps.items

-- whether a literal is the one that is skipped
abbrev pub skips : Option ℤ → ℤ → Bool
skips None y = false
skips (Some x) y = int_eq y x

-- all literals of a clause but the skipped one are false
abbrev pub AreFalseOthers : List Entry → List ℤ → Option ℤ → Type 0
AreFalseOthers trail clause skipped = (y : ℤ) → has_literal clause y ≡ true → skips skipped y ≡ false → is_true trail (neg_ℤ y) ≡ true

-- a set without a literal
abbrev pub without : (ℤ → Bool) → ℤ → ℤ → Bool
without set x y = set y && not (int_eq y x)
