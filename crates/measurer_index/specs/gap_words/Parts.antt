-- The parts of a word between its gaps, and where they go: what the parts of the code ask of each other.
use Rattle.std.specs.Prelude.{◌≡◌, ℕ, ◌+◌, ◌-◌, ◌≤◌, ◌<◌, ◌↔◌, Bool, true, false, List, [], ◌∷◌, ◌++◌, length, take, drop, slice_index, slice_index_or, Option, Some, None}
use Rattle.patterns.specs.Match.{AtMost, Form}
use Rattle.patterns.specs.declared.letter.Letter.{Letter}
use Rattle.measurer_index.specs.gap_words.Placed.{Placed}
use Rattle.measurer_index.specs.gap_words.Walks.{AreIn, Goes, GoesFrom, Walks, IsWordOf}
use Rattle.measurer_index.specs.declared.gap_words.parts.FirstGap.{FirstGap}
use Rattle.measurer_index.specs.declared.gap_words.piece.Piece.{Piece}
use Rattle.measurer_index.specs.declared.gap_words.piece.Piece.TheVariants.{Edge, Node, Predicate, Absent, Gap}
use Rattle.measurer_index.specs.declared.gap_words.piece.Span.{Span}

-- it is no gap
abbrev pub IsLetter : Piece → Type 0
IsLetter (Edge e) = Unit {0}
IsLetter (Node n) = Unit {0}
IsLetter (Predicate p) = Unit {0}
IsLetter (Absent p) = Unit {0}
IsLetter (Gap span) = ⊥

abbrev pub AreLetters : List Piece → Type 0
AreLetters [] = Unit {0}
AreLetters (p ∷ w) = IsLetter p × AreLetters w

-- it is an edge
abbrev pub is_edge : Piece → Bool
is_edge (Edge e) = true
is_edge (Node n) = false
is_edge (Predicate p) = false
is_edge (Absent p) = false
is_edge (Gap span) = false

-- the first gap of a word
pub record IsFirstGap (word : List Piece) (k : ℕ) (span : Span) : Type 0 where
  pub within : k < length word
  pub letters : AreLetters (take k word)
  pub gap : word ≡ take k word ++ Gap span ∷ drop (k + 1) word

abbrev pub IsFirstGapOrNone : List Piece → Option FirstGap → Type 0
IsFirstGapOrNone word None = AreLetters word
IsFirstGapOrNone word (Some gap) = IsFirstGap word gap.place gap.span

-- The set has all edges from a state to this one exactly where that state is none before the answer.
pub record IsBegin (set edges : List ℕ) (state begin : ℕ) : Type 0 where
  pub within : begin ≤ state
  pub from : (i : ℕ) → i ≤ state → AreIn set edges i state ↔ (begin ≤ i)

-- the same for each state of a path
abbrev pub AreBegins : List ℕ → List ℕ → List ℕ → Type 0
AreBegins set edges begins = (state : ℕ) → state ≤ length edges → IsBegin set edges state (slice_index begins state)

-- the tables of all sets
pub record AreAllBegins (sets : List (List ℕ)) (edges : List ℕ) (begins : List (List ℕ)) : Type 0 where
  pub size : length begins ≡ length sets
  pub each : (place : ℕ) → place < length sets → AreBegins (slice_index_or sets place []) edges (slice_index_or begins place [])

-- A gap reaches this state from a state, as far as its set and its greatest number of edges go, exactly where that state is
-- none before the answer.
pub record IsGapBegin (path : Placed) (span : Span) (state begin : ℕ) : Type 0 where
  pub within : begin ≤ state
  pub from : (i : ℕ) → i ≤ state → (AtMost (state - i) span.most × AreIn (slice_index_or path.sets span.set []) path.edges i state) ↔ (begin ≤ i)

-- where a letter goes from a state, if it goes anywhere on the path
abbrev pub IsStep : Placed → Piece → ℕ → Option ℕ → Type 0
IsStep path p i None = (j : ℕ) → j ≤ length path.edges → Goes path p i j → ⊥
IsStep path p i (Some j) = (j ≤ length path.edges) × Goes path p i j

-- where a word goes from a state, if it goes anywhere on the path
abbrev pub IsEnd : Placed → List Piece → ℕ → Option ℕ → Type 0
IsEnd path w i None = (j : ℕ) → j ≤ length path.edges → Walks path w i j → ⊥
IsEnd path w i (Some j) = (j ≤ length path.edges) × Walks path w i j

-- a state no later than any from which the word goes, from this one on
abbrev pub IsNoLater : Placed → List Piece → ℕ → Option ℕ → Type 0
IsNoLater path w start None = (i j : ℕ) → start ≤ i → j ≤ length path.edges → Walks path w i j → ⊥
IsNoLater path w start (Some s) = (start ≤ s) × ((s ≤ length path.edges) × ((i j : ℕ) → start ≤ i → i < s → j ≤ length path.edges → Walks path w i j → ⊥))

-- the first state from this one on from which the word goes to where it may end
pub record IsFirstStart (path : Placed) (last : Bool) (w : List Piece) (start state : ℕ) : Type 0 where
  pub after : start ≤ state
  pub goes : GoesFrom path last w state
  pub none_before : (i : ℕ) → start ≤ i → i < state → GoesFrom path last w i → ⊥

abbrev pub IsFirstStartOrNone : Placed → Bool → List Piece → ℕ → Option ℕ → Type 0
IsFirstStartOrNone path last w start None = (i : ℕ) → start ≤ i → GoesFrom path last w i → ⊥
IsFirstStartOrNone path last w start (Some state) = IsFirstStart path last w start state

-- the second list has those of the first and then a word of the pattern
pub record IsAppended (sets : List (List ℕ)) (pattern : Form Letter) (old new : List Piece) : Type 0 where
  pub word : List Piece
  pub is : new ≡ old ++ word
  pub of : IsWordOf sets pattern word

-- the piece stands for the pattern
abbrev pub IsPieceOf : List (List ℕ) → Form Letter → Piece → Type 0
IsPieceOf sets pattern piece = IsWordOf sets pattern (piece ∷ [])
