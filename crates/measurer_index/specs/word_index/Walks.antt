-- When a word of letters goes along a path (FQL: Holzer, Schallhart, Tautschnig, Veith, VMCAI 2009 and ASE 2010).
use Rattle.std.specs.Prelude.{◌≡◌, ℕ, suc, ◌≤◌, ◌==◌, Bool, true, false, List, [], ◌∷◌, length, slice_index, slice_get, Option, Some, None}
use Rattle.std.specs.Int.{bit_at}
use Rattle.patterns.specs.declared.path_view.PathView.{PathView}
use Rattle.goals.specs.GoalForm.{GoalForm}
use Rattle.goals.specs.Words.{Word}
use Rattle.goals.specs.declared.goal_letter.GoalLetter.{GoalLetter}
use Rattle.goals.specs.declared.goal_letter.GoalLetter.TheVariants.{Node, Edge, Predicate, Absent, Quoted}

-- ---- words

abbrev pub word_of : Option GoalForm → Word
word_of None = []
word_of (Some g) = g.word

-- the word of the goal at a place, from 0, or the empty word
abbrev pub word_at : List GoalForm → ℕ → Word
word_at goals g = word_of (slice_get goals g)

-- it has no quoted letter
abbrev pub is_unquoted : Word → Bool
is_unquoted [] = true
is_unquoted (Node n ∷ w) = is_unquoted w
is_unquoted (Edge e ∷ w) = is_unquoted w
is_unquoted (Predicate p ∷ w) = is_unquoted w
is_unquoted (Absent p ∷ w) = is_unquoted w
is_unquoted (Quoted q ∷ w) = false

-- it has a letter, and no quoted one
abbrev pub is_plain : Word → Bool
is_plain [] = false
is_plain (l ∷ w) = is_unquoted (l ∷ w)

-- ---- walks

-- A letter goes from one state to another. A node, a predicate or an absent predicate stays at its state, and an edge goes
-- to the next. No quoted letter is meant here.
abbrev pub Goes : PathView → GoalLetter → ℕ → ℕ → Type 0
Goes path (Node n) i j = (j ≡ i) × (slice_index path.nodes i ≡ n)
Goes path (Edge e) i j = (j ≡ suc i) × (slice_index path.edges i ≡ e)
Goes path (Predicate p) i j = (j ≡ i) × ((bit_at (slice_index path.masks i) p == 1) ≡ true)
Goes path (Absent p) i j = (j ≡ i) × ((bit_at (slice_index path.masks i) p == 1) ≡ false)
Goes path (Quoted q) i j = ⊥

-- a word goes from one state to another, letter by letter
abbrev pub Walks : PathView → Word → ℕ → ℕ → Type 0
Walks path [] i j = j ≡ i
Walks path (l ∷ w) i j = (m : ℕ) × (Goes path l i m × Walks path w m j)

-- The word goes from some state to another. It begins at the first state where that is asked, and ends at the last one where
-- that is asked.
pub record HasWalk (first last : Bool) (word : Word) (path : PathView) : Type 0 where
  pub from : ℕ
  pub to : ℕ
  pub within : to ≤ length path.edges
  pub at_first : first ≡ true → from ≡ 0
  pub at_last : last ≡ true → to ≡ length path.edges
  pub walks : Walks path word from to

-- the goal of this number, from 1, has a word without quoted letters, which goes along the path
pub record HasGoalWalk (goals : List GoalForm) (first last : Bool) (path : PathView) (number : ℕ) : Type 0 where
  pub place : ℕ
  pub is : number ≡ suc place
  pub plain : is_plain (word_at goals place) ≡ true
  pub walk : HasWalk first last (word_at goals place) path
