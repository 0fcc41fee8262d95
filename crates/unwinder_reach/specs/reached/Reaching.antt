-- The pairs of node and context that walks from a function's entry reach within bounds, and the steps between them.
use Rattle.std.specs.Prelude.{◌≡◌, ℕ, ◌<◌, List, [], ◌∷◌, length, map, Some, slice_get}
use Rattle.std.specs.List.Sorted.{IsStrictlyIncreasing}
use Rattle.fq_core.specs.declared.refusal.Fault.{Fault}
use Rattle.fq_core.specs.declared.refusal.Fault.TheVariants as fault
use Rattle.fq_core.specs.declared.refusal.Place.TheVariants as place
use Rattle.fq_core.specs.Refusals.{refusal}
use Rattle.cfa.specs.declared.parts.Edge.{Edge}
use Rattle.cfa.specs.declared.parts.Function.{Function}
use Rattle.cfa.specs.declared.parts.GraphParts.{GraphParts}
use Rattle.cfa.specs.Contexts.{Context, Pair, Follows, IsWithin, first_pair}
use Rattle.cfa.specs.Each.{Each}
use Rattle.unwinder_reach.specs.declared.reached.bounds.Bounds.{Bounds}
use Rattle.unwinder_reach.specs.declared.reached.step.Step.{Step}

abbrev pub IsWithinBounds : Bounds → Context → Type 0
IsWithinBounds bounds c = IsWithin bounds.turns bounds.frames bounds.answers c

-- one pair follows another along the edge of a number, and its context is within the bounds
pub record FollowsWithin (parts : GraphParts) (bounds : Bounds) (at : ℕ) (e : Edge) (p q : Pair) : Type 0 where
  pub follows : Follows parts at e p q
  pub within : IsWithinBounds bounds q.context

-- a step within the bounds, along some edge
abbrev pub IsNextWithin : GraphParts → Bounds → Pair → Pair → Type 0
IsNextWithin parts bounds p q = (at : ℕ) × (e : Edge) × FollowsWithin parts bounds at e p q

-- a walk goes on from a pair by steps within the bounds, one for each further pair
abbrev pub IsWalkWithin : GraphParts → Bounds → Pair → List Pair → Type 0
IsWalkWithin parts bounds p [] = Unit {0}
IsWalkWithin parts bounds p (q ∷ qs) = IsNextWithin parts bounds p q × IsWalkWithin parts bounds q qs

-- the pair at which a walk from a pair ends
abbrev pub end_of_walk : Pair → List Pair → Pair
end_of_walk p [] = p
end_of_walk p (q ∷ qs) = end_of_walk q qs

-- a walk within the bounds from the entry of a function ends at a pair; the walk without steps ends where it begins
abbrev pub IsReachedWithin : GraphParts → Bounds → Function → Pair → Type 0
IsReachedWithin parts bounds f p = (walk : List Pair) × IsWalkWithin parts bounds (first_pair f) walk × (end_of_walk (first_pair f) walk ≡ p)

-- no pair is at two places
abbrev pub AreDistinct : List Pair → Type 0
AreDistinct pairs = (i j : ℕ) (p : Pair) → slice_get pairs i ≡ Some p → slice_get pairs j ≡ Some p → i ≡ j

-- A step leads from a pair, which is at a place, to the pair at a later one.
pub record LeadsOn (parts : GraphParts) (bounds : Bounds) (pairs : List Pair) (i : ℕ) (p : Pair) (s : Step) : Type 0 where
  pub later : i < s.to
  pub edge : Edge
  pub target : Pair
  pub there : slice_get pairs s.to ≡ Some target
  pub follows : FollowsWithin parts bounds s.edge edge p target

-- the numbers of the edges along which steps lead
abbrev pub edges_of : List Step → List ℕ
edges_of steps = map (λ (s : Step). s.edge) steps

-- The steps of the pair at a place: each leads on, each step within the bounds from it is one of them, and their edges
-- rise, so that each is there once.
pub record AreSteps (parts : GraphParts) (bounds : Bounds) (pairs : List Pair) (i : ℕ) (p : Pair) (steps : List Step) : Type 0 where
  pub each : Each steps (λ k s. LeadsOn parts bounds pairs i p s)
  pub all : (at : ℕ) (e : Edge) (q : Pair) → FollowsWithin parts bounds at e p q → (k : ℕ) × (s : Step) × (slice_get steps k ≡ Some s) × (s.edge ≡ at) × (slice_get pairs s.to ≡ Some q)
  pub rising : IsStrictlyIncreasing (edges_of steps)

-- The pairs that are reached within the bounds, the first one first and none twice, and the steps of each.
pub record AreReached (parts : GraphParts) (bounds : Bounds) (f : Function) (pairs : List Pair) (steps : List (List Step)) : Type 0 where
  pub first : slice_get pairs 0 ≡ Some (first_pair f)
  pub distinct : AreDistinct pairs
  pub reached : Each pairs (λ i p. IsReachedWithin parts bounds f p)
  pub rows : length steps ≡ length pairs
  pub leading : (i : ℕ) (p : Pair) (row : List Step) → slice_get pairs i ≡ Some p → slice_get steps i ≡ Some row → AreSteps parts bounds pairs i p row

-- more than 50,000 pairs are reached
pub record AreTooMany (parts : GraphParts) (bounds : Bounds) (f : Function) : Type 0 where
  pub pairs : List Pair
  pub many : length pairs ≡ 50001
  pub distinct : AreDistinct pairs
  pub reached : Each pairs (λ i p. IsReachedWithin parts bounds f p)

-- code 80 at the limit of 50,000 says that there are too many, and want of memory is free
abbrev pub IsReachedFault : GraphParts → Bounds → Function → Fault → Type 0
IsReachedFault parts bounds f (fault.Refused r) = (fault.Refused r ≡ refusal 80 (place.Limit 50000)) × AreTooMany parts bounds f
IsReachedFault parts bounds f fault.Memory = Unit {0}
