-- When a word of letters and gaps goes along a path (FQL: Holzer, Schallhart, Tautschnig, Veith, VMCAI 2009 and ASE 2010).
use Rattle.std.specs.Prelude.{◌≡◌, ℕ, suc, ◌+◌, ◌-◌, ◌≤◌, ◌<◌, ◌==◌, ◌↔◌, Bool, true, false, List, [], ◌∷◌, length, slice_index, slice_index_or}
use Rattle.std.specs.List.{list_any}
use Rattle.std.specs.Int.{bit_at}
use Rattle.patterns.specs.Match.{AtMost, Form, Match}
use Rattle.patterns.specs.Paths.{step_of}
use Rattle.patterns.specs.declared.letter.Letter.{Letter}
use Rattle.patterns.specs.declared.path_view.PathView.{PathView}
use Rattle.measurer_index.specs.gap_words.Placed.{Placed, with_sets}
use Rattle.measurer_index.specs.declared.gap_words.piece.Piece.{Piece}
use Rattle.measurer_index.specs.declared.gap_words.piece.Piece.TheVariants.{Edge, Node, Predicate, Absent, Gap}

-- each edge from one state to another is in the set
abbrev pub AreIn : List ℕ → List ℕ → ℕ → ℕ → Type 0
AreIn set edges i j = (k : ℕ) → i ≤ k → k < j → list_any (λ member. member == slice_index edges k) set ≡ true

-- A piece goes from one state to another. A node, a predicate or an absent predicate stays at its state, and an edge goes to
-- the next. A gap goes over edges of its set, of which there are no fewer and no more than it says.
abbrev pub Goes : Placed → Piece → ℕ → ℕ → Type 0
Goes path (Edge e) i j = (j ≡ suc i) × (slice_index path.edges i ≡ e)
Goes path (Node n) i j = (j ≡ i) × (slice_index path.nodes i ≡ n)
Goes path (Predicate p) i j = (j ≡ i) × ((bit_at (slice_index path.masks i) p == 1) ≡ true)
Goes path (Absent p) i j = (j ≡ i) × ((bit_at (slice_index path.masks i) p == 1) ≡ false)
Goes path (Gap span) i j = (i + span.least ≤ j) × (AtMost (j - i) span.most × AreIn (slice_index_or path.sets span.set []) path.edges i j)

-- a word goes from one state to another, piece by piece
abbrev pub Walks : Placed → List Piece → ℕ → ℕ → Type 0
Walks path [] i j = j ≡ i
Walks path (p ∷ w) i j = (m : ℕ) × (Goes path p i m × Walks path w m j)

-- the word goes from this state to one at which it may end: the last state, where that is asked
pub record GoesFrom (path : Placed) (last : Bool) (word : List Piece) (start : ℕ) : Type 0 where
  pub target : ℕ
  pub within : target ≤ length path.edges
  pub at_last : last ≡ true → target ≡ length path.edges
  pub walks : Walks path word start target

-- along each path the word goes where the pattern matches
abbrev pub IsWordOf : List (List ℕ) → Form Letter → List Piece → Type 0
IsWordOf sets pattern word = (path : PathView) (i j : ℕ) → Match (step_of path) pattern i j ↔ Walks (with_sets sets path) word i j
