-- Two watched literals a clause (Moskewicz, Madigan, Zhao, Zhang and Malik 2001; the words are those of MiniSat).
use Rattle.std.specs.Prelude.{◌≡◌, ◌⊎◌, ℕ, ◌+◌, ◌*◌, ◌<◌, ◌≤◌, ℤ, neg_ℤ, Bool, true, false, ◌==◌, List, [], ◌∷◌, ◌++◌, length, map, take, slice_get, Some, None, IsSomeAnd}
use Rattle.std.specs.List.{list_all, list_any}
use Rattle.std.specs.Option.{option_map_or}
use Rattle.std.specs.Ordering.{int_eq}
use Rattle.std.specs.Global.{Vec}
use Rattle.cnf.specs.declared.derivation.Derivation.{Derivation}
use Rattle.cnf.specs.declared.formula.Formula.{Formula}
use Rattle.cnf.specs.Clauses.{has_literal, literal_key}
use Rattle.search.specs.declared.trail.Entry.{Entry}
use Rattle.search.specs.declared.watching.Pair.{Pair}
use Rattle.search.specs.declared.watching.Watcher.{Watcher}
use Rattle.search.specs.declared.watching.Watching.{Watching}
use Rattle.search.specs.Machine.{is_true}
use Rattle.search.specs.Sound.{all_clauses}

-- the watchers of a literal
abbrev pub watchers_of : List (Vec Watcher) → ℤ → List Watcher
watchers_of watchers x = option_map_or (λ list. list.items) (slice_get watchers (literal_key x)) []

-- the places of their clauses
abbrev pub list_of : List (Vec Watcher) → ℤ → List ℕ
list_of watchers x = map (λ w. w.place) (watchers_of watchers x)

-- a watcher's blocking literal is in its clause
abbrev pub is_blocked : List (List ℤ) → Watcher → Bool
is_blocked clauses w = option_map_or (λ clause. has_literal clause w.blocker) (slice_get clauses w.place) false

-- all watchers of each literal pass a test
abbrev pub AllPassing : (Watcher → Bool) → List (Vec Watcher) → Type 0
AllPassing test watchers = (x : ℤ) → list_all test (watchers_of watchers x) ≡ true

abbrev pub is_among : ℕ → List ℕ → Bool
is_among k places = list_any (λ place. place == k) places

-- the trail has a decided literal at a place
abbrev pub IsDecidedAt : List Entry → ℕ → Type 0
IsDecidedAt trail d = IsSomeAnd (slice_get trail d) (λ e. e.reason ≡ None)

abbrev pub is_satisfied : List Entry → List ℤ → Bool
is_satisfied trail clause = list_any (is_true trail) clause

-- a clause is satisfied, now and where each decision was made
pub record IsSatisfied (trail : List Entry) (clause : List ℤ) : Type 0 where
  pub now : is_satisfied trail clause ≡ true
  pub before : (d : ℕ) → IsDecidedAt trail d → is_satisfied (take d trail) clause ≡ true

-- A literal is watched for a clause: where it is false by the part of the trail that was read, the clause is satisfied, and
-- so it was where each decision was made.
pub record IsWatched (trail : List Entry) (head : ℕ) (clause : List ℤ) (x : ℤ) : Type 0 where
  pub now : is_true (take head trail) (neg_ℤ x) ≡ true → is_satisfied trail clause ≡ true
  pub before : (d : ℕ) → IsDecidedAt trail d → is_true (take d trail) (neg_ℤ x) ≡ true → is_satisfied (take d trail) clause ≡ true

-- two literals of a clause are watched, and the clause is among the watchers of both
pub record IsPair (watchers : List (Vec Watcher)) (trail : List Entry) (head place : ℕ) (clause : List ℤ) (pair : Pair) : Type 0 where
  pub left : IsWatched trail head clause pair.left
  pub right : IsWatched trail head clause pair.right
  pub differ : int_eq pair.left pair.right ≡ false
  pub left_listed : is_among place (list_of watchers pair.left) ≡ true
  pub right_listed : is_among place (list_of watchers pair.right) ≡ true

-- what is kept of a clause: it has a pair, or is satisfied
abbrev pub IsTracked : List (Vec Watcher) → List Entry → ℕ → ℕ → List ℤ → Pair → Type 0
IsTracked watchers trail head place clause pair = IsSatisfied trail clause ⊎ IsPair watchers trail head place clause pair

-- the literals of a pair are in a clause
abbrev pub IsOf : Pair → List ℤ → Type 0
IsOf pair clause = (has_literal clause pair.left ≡ true) × (has_literal clause pair.right ≡ true)

-- what is kept of the clauses that have a pair in the table
pub record IsWatching (formula : Formula) (learned : Derivation) (trail : List Entry) (w : Watching) : Type 0 where
  pub lists : length w.watchers.items ≡ 2 * formula.variables + 2
  pub head : w.head ≤ length trail
  pub decided : (d : ℕ) → IsDecidedAt trail d → d ≤ w.head
  pub pairs : length w.pairs.items ≤ length (all_clauses formula learned)
  pub tracked : (k : ℕ) (clause : List ℤ) (pair : Pair) → slice_get (all_clauses formula learned) k ≡ Some clause → slice_get w.pairs.items k ≡ Some pair
      → IsTracked w.watchers.items trail w.head k clause pair
  pub own : (k : ℕ) (clause : List ℤ) (pair : Pair) → slice_get (all_clauses formula learned) k ≡ Some clause → slice_get w.pairs.items k ≡ Some pair → IsOf pair clause
  pub within : (x : ℤ) (k : ℕ) → is_among k (list_of w.watchers.items x) ≡ true → k < length w.pairs.items
  pub blocked : AllPassing (is_blocked (all_clauses formula learned)) w.watchers.items

-- one more clause watches two literals
pub record IsPaired (w n : Watching) (place : ℕ) (pair : Pair) : Type 0 where
  pub pairs : n.pairs.items ≡ w.pairs.items ++ pair ∷ []
  pub head : n.head ≡ w.head
  pub lists : length n.watchers.items ≡ length w.watchers.items
  pub keeps : (x : ℤ) (k : ℕ) → is_among k (list_of w.watchers.items x) ≡ true → is_among k (list_of n.watchers.items x) ≡ true
  pub only : (x : ℤ) (k : ℕ) → is_among k (list_of n.watchers.items x) ≡ true → (is_among k (list_of w.watchers.items x) ≡ true) ⊎ (k ≡ place)
  pub left_listed : is_among place (list_of n.watchers.items pair.left) ≡ true
  pub right_listed : is_among place (list_of n.watchers.items pair.right) ≡ true
  pub passing : (test : Watcher → Bool) → test record { place = place; blocker = pair.right } ≡ true → test record { place = place; blocker = pair.left } ≡ true
      → AllPassing test w.watchers.items → AllPassing test n.watchers.items
