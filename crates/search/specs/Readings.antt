-- How the watchers of a literal that became false are visited.
use Rattle.std.specs.Prelude.{◌≡◌, ◌⊎◌, ℕ, ◌+◌, ◌<◌, ◌≤◌, ℤ, neg_ℤ, Bool, true, ◌||◌, List, length, slice_get, slice_set, Some, IsSomeAnd}
use Rattle.std.specs.Ordering.{int_eq}
use Rattle.cnf.specs.declared.derivation.Derivation.{Derivation}
use Rattle.cnf.specs.declared.formula.Formula.{Formula}
use Rattle.search.specs.declared.machine.Machine.{Machine}
use Rattle.search.specs.declared.reading.Visit.{Visit}
use Rattle.search.specs.declared.reading.Visit.TheVariants as visit
use Rattle.search.specs.declared.reading.Queue.{Queue}
use Rattle.search.specs.declared.reading.Queue.TheVariants as queue
use Rattle.search.specs.declared.trail.Entry.{Entry}
use Rattle.search.specs.declared.watching.Pair.{Pair}
use Rattle.search.specs.declared.watching.Watcher.{Watcher}
use Rattle.search.specs.declared.watching.Watching.{Watching}
use Rattle.search.specs.At.{IsAt}
use Rattle.search.specs.Conflicts.{IsConflicting}
use Rattle.search.specs.Machine.{with_entry}
use Rattle.search.specs.Sound.{all_clauses}
use Rattle.search.specs.Watching.{AllPassing, IsWatching, is_among, is_satisfied, list_of, watchers_of}

abbrev pub is_of_pair : Pair → ℤ → Bool
is_of_pair pair x = int_eq pair.left x || int_eq pair.right x

-- the clauses of the first so many watchers of the literal that is being read, if they still watch it, are satisfied
pub record IsReading (formula : Formula) (learned : Derivation) (trail : List Entry) (w : Watching) (x : ℤ) (at : ℕ) : Type 0 where
  pub watching : IsWatching formula learned trail w
  pub literal : IsSomeAnd (slice_get trail w.head) (λ e. neg_ℤ e.literal ≡ x)
  pub done : (j k : ℕ) (clause : List ℤ) (pair : Pair) → j < at → slice_get (list_of w.watchers.items x) j ≡ Some k → slice_get (all_clauses formula learned) k ≡ Some clause
      → slice_get w.pairs.items k ≡ Some pair → is_of_pair pair x ≡ true → is_satisfied trail clause ≡ true

-- one clause watches another literal in place of one that became false
pub record IsRewatched (w n : Watching) (x : ℤ) (at place : ℕ) (pair : Pair) : Type 0 where
  pub pairs : n.pairs.items ≡ slice_set w.pairs.items place pair
  pub head : n.head ≡ w.head
  pub lists : length n.watchers.items ≡ length w.watchers.items
  pub keeps : (z : ℤ) (k : ℕ) → is_among k (list_of w.watchers.items z) ≡ true → (int_eq z x ≡ true → place ≡ k → ⊥) → is_among k (list_of n.watchers.items z) ≡ true
  pub only : (z : ℤ) (k : ℕ) → is_among k (list_of n.watchers.items z) ≡ true → (is_among k (list_of w.watchers.items z) ≡ true) ⊎ (k ≡ place)
  pub adds : is_among place (list_of n.watchers.items pair.left) ≡ true
  pub front : (j : ℕ) → j < at → slice_get (list_of n.watchers.items x) j ≡ slice_get (list_of w.watchers.items x) j
  pub shorter : length (watchers_of n.watchers.items x) + 1 ≡ length (watchers_of w.watchers.items x)
  pub passing : (test : Watcher → Bool) → test record { place = place; blocker = pair.right } ≡ true → AllPassing test w.watchers.items → AllPassing test n.watchers.items

-- the search between two reads: the state is right, all clauses have their pairs, and the budget isn't passed
pub record IsSearching (formula : Formula) (budget : ℕ) (m : Machine) (w : Watching) : Type 0 where
  pub at : IsAt formula m
  pub watching : IsWatching formula m.learned m.trail.items w
  pub full : length w.pairs.items ≡ length (all_clauses formula m.learned)
  pub paid : length m.moves.items ≤ budget

-- the search while a literal is read, so many of whose watchers were visited
pub record IsVisiting (formula : Formula) (budget : ℕ) (m : Machine) (w : Watching) (x : ℤ) (at : ℕ) : Type 0 where
  pub searching : IsSearching formula budget m w
  pub reading : IsReading formula m.learned m.trail.items w x at

-- what a visit leads to
abbrev pub IsVisit : Formula → ℕ → Watching → Machine → Watching → ℤ → ℕ → Visit → Type 0
IsVisit formula budget before m w x at visit.Stays =
    IsVisiting formula budget m w x (at + 1) × (length (watchers_of w.watchers.items x) ≡ length (watchers_of before.watchers.items x))
IsVisit formula budget before m w x at visit.Leaves =
    IsVisiting formula budget m w x at × (length (watchers_of w.watchers.items x) + 1 ≡ length (watchers_of before.watchers.items x))
IsVisit formula budget before m w x at (visit.Conflict number) = IsSearching formula budget m w × IsConflicting formula m number
IsVisit formula budget before m w x at visit.Spent = IsAt formula m × (length m.moves.items ≡ budget)

-- what reading one literal leads to
abbrev pub IsLiteralRead : Formula → ℕ → Watching → Machine → Watching → Queue → Type 0
IsLiteralRead formula budget before m w queue.Read = IsSearching formula budget m w × (w.head ≡ before.head + 1)
IsLiteralRead formula budget before m w (queue.Conflict number) = IsSearching formula budget m w × IsConflicting formula m number
IsLiteralRead formula budget before m w queue.Spent = IsAt formula m × (length m.moves.items ≡ budget)

-- what reading all of the queue leads to
abbrev pub IsQueue : Formula → ℕ → Machine → Watching → Queue → Type 0
IsQueue formula budget m w queue.Read = IsSearching formula budget m w × (length m.trail.items ≤ w.head)
IsQueue formula budget m w (queue.Conflict number) = IsSearching formula budget m w × IsConflicting formula m number
IsQueue formula budget m w queue.Spent = IsAt formula m × (length m.moves.items ≡ budget)

-- a clause's one open literal was put on the trail, or the budget is spent
abbrev pub IsImplied : Formula → ℕ → Machine → Machine → ℤ → ℕ → Visit → Type 0
IsImplied formula budget before m x place visit.Stays =
    IsAt formula m × (m.trail.items ≡ with_entry before.trail.items x (Some (place + 1))) × (m.learned ≡ before.learned)
    × (length m.moves.items ≡ length before.moves.items + 1) × (length before.moves.items < budget)
IsImplied formula budget before m x place visit.Leaves = ⊥
IsImplied formula budget before m x place (visit.Conflict number) = ⊥
IsImplied formula budget before m x place visit.Spent = (m ≡ before) × (length m.moves.items ≡ budget)
