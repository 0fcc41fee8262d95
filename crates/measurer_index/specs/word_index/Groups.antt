-- Ranges of sorted words that go on alike.
use Rattle.std.specs.Prelude.{◌≡◌, ℕ, suc, ◌-◌, ◌^◌, ◌≤◌, ◌<◌, Bool, true, List, length, drop, slice_index, slice_get, Option, Some, None}
use Rattle.patterns.specs.declared.path_view.PathView.{PathView}
use Rattle.goals.specs.GoalForm.{GoalForm}
use Rattle.goals.specs.Words.{Word}
use Rattle.goals.specs.declared.goal_letter.GoalLetter.{GoalLetter}
use Rattle.goals.specs.declared.goal_letter.GoalLetter.TheVariants.{Node, Edge, Predicate, Absent, Quoted}
use Rattle.measurer_index.specs.word_index.Order.{ranked, IsSortedFrom}
use Rattle.measurer_index.specs.word_index.Walks.{Walks}
use Rattle.measurer_index.specs.declared.word_index.group.Group.{Group}

-- its words are in order from its depth on, and its number is above those of their absent predicates
pub record IsGroup (goals : List GoalForm) (order : List ℕ) (g : Group) : Type 0 where
  pub range : g.low ≤ g.high
  pub sorted : IsSortedFrom goals order g.depth g.low g.high
  pub absents : (r d p : ℕ) → g.low ≤ r → r < g.high → slice_get (ranked goals order r) d ≡ Some (Absent p) → p < g.absents

-- the group of those words of another that go on with this letter, past it
pub record IsNarrowed (goals : List GoalForm) (order : List ℕ) (letter : GoalLetter) (g narrow : Group) : Type 0 where
  pub group : IsGroup goals order narrow
  pub deeper : narrow.depth ≡ suc g.depth
  pub small : g.depth < 2 ^ 64 - 1
  pub from : g.low ≤ narrow.low
  pub to : narrow.high ≤ g.high
  pub with_letter : (r : ℕ) → narrow.low ≤ r → r < narrow.high → slice_get (ranked goals order r) g.depth ≡ Some letter
  pub all_with_letter : (r : ℕ) → g.low ≤ r → r < g.high → slice_get (ranked goals order r) g.depth ≡ Some letter → (narrow.low ≤ r) × (r < narrow.high)

-- the group of those words of another that go on, past those which end at its depth
pub record IsPastEnds (goals : List GoalForm) (order : List ℕ) (g rest : Group) : Type 0 where
  pub group : IsGroup goals order rest
  pub depth : rest.depth ≡ g.depth
  pub high : rest.high ≡ g.high
  pub absents : rest.absents ≡ g.absents
  pub from : g.low ≤ rest.low
  pub ended : (r : ℕ) → g.low ≤ r → r < rest.low → slice_get (ranked goals order r) g.depth ≡ None
  pub going : (r : ℕ) → rest.low ≤ r → r < g.high → slice_get (ranked goals order r) g.depth ≡ None → ⊥

-- the word goes from this state to one at which a walk may end
pub record GoesOn (path : PathView) (last : Bool) (word : Word) (from : ℕ) : Type 0 where
  pub to : ℕ
  pub within : to ≤ length path.edges
  pub at_last : last ≡ true → to ≡ length path.edges
  pub walks : Walks path word from to

-- A number of a goal of the group, whose word goes on so at the group's depth, and goes from this state to one at which a
-- walk may end.
pub record Continues (goals : List GoalForm) (order : List ℕ) (path : PathView) (last : Bool) (Head : Option GoalLetter → Type 0) (g : Group) (at number : ℕ) : Type 0 where
  pub rank : ℕ
  pub from : g.low ≤ rank
  pub below : rank < g.high
  pub is : number ≡ suc (slice_index order rank)
  pub head : Head (slice_get (ranked goals order rank) g.depth)
  pub goes : GoesOn path last (drop g.depth (ranked goals order rank)) at

-- the same from one of so many first states
abbrev pub Started : List GoalForm → List ℕ → PathView → Bool → (Option GoalLetter → Type 0) → Group → ℕ → ℕ → Type 0
Started goals order path last Head g count number = (at : ℕ) × ((at < count) × Continues goals order path last Head g at number)

-- each word of the group ends at its depth
abbrev pub IsEnded : List GoalForm → List ℕ → Group → Type 0
IsEnded goals order g = (r : ℕ) → g.low ≤ r → r < g.high → slice_get (ranked goals order r) g.depth ≡ None

-- ---- how a word goes on

abbrev pub IsAny : Option GoalLetter → Type 0
IsAny o = Unit {0}

abbrev pub IsEnd : Option GoalLetter → Type 0
IsEnd o = o ≡ None

abbrev pub IsLetter : GoalLetter → Option GoalLetter → Type 0
IsLetter l o = o ≡ Some l

-- with a letter of this kind, of a number below this one
abbrev pub IsBelow : (ℕ → GoalLetter) → ℕ → Option GoalLetter → Type 0
IsBelow letter n o = (p : ℕ) × ((p < n) × (o ≡ Some (letter p)))

abbrev pub IsPredicateBelow : ℕ → Option GoalLetter → Type 0
IsPredicateBelow n o = IsBelow Predicate n o

abbrev pub IsAbsentBelow : ℕ → Option GoalLetter → Type 0
IsAbsentBelow n o = IsBelow Absent n o

-- with a predicate or an absent one
abbrev pub IsTest : Option GoalLetter → Type 0
IsTest None = ⊥
IsTest (Some (Node n)) = ⊥
IsTest (Some (Edge e)) = ⊥
IsTest (Some (Predicate p)) = Unit {0}
IsTest (Some (Absent p)) = Unit {0}
IsTest (Some (Quoted q)) = ⊥

-- with a letter that stays at its state, or a quoted one
abbrev pub IsStaying : Option GoalLetter → Type 0
IsStaying None = ⊥
IsStaying (Some (Node n)) = Unit {0}
IsStaying (Some (Edge e)) = ⊥
IsStaying (Some (Predicate p)) = Unit {0}
IsStaying (Some (Absent p)) = Unit {0}
IsStaying (Some (Quoted q)) = Unit {0}

-- with no edge
abbrev pub IsNoEdge : Option GoalLetter → Type 0
IsNoEdge None = Unit {0}
IsNoEdge (Some (Node n)) = Unit {0}
IsNoEdge (Some (Edge e)) = ⊥
IsNoEdge (Some (Predicate p)) = Unit {0}
IsNoEdge (Some (Absent p)) = Unit {0}
IsNoEdge (Some (Quoted q)) = Unit {0}
