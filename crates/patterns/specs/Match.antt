-- When a segment of a path matches a pattern (FQL: Holzer, Schallhart, Tautschnig, Veith, VMCAI 2009 and ASE 2010).
use Rattle.std.specs.Prelude.{◌≡◌, ℕ, zero, suc, ◌≤◌, ◌⊎◌, Bool, true, Option, Some, None}

-- what is known of each letter at one place of a path: whether the edge into the state is in it, and whether the state is
pub record Step (L : Type 0) : Type 0 where
  pub edge : L → Bool
  pub state : L → Bool

-- a pattern over letters, as plain data
pub data Form (L : Type 0) : Type 0 where
  nothing : Form L
  letter : L → Form L
  dot : Form L → Form L → Form L
  either : Form L → Form L → Form L
  repeat : Form L → ℕ → Option ℕ → Form L

-- a letter matches one state alone, or one edge
abbrev pub LetterMatch : {L : Type 0} → (ℕ → Step L) → L → ℕ → ℕ → Type 0
LetterMatch path l i j = ((i ≡ j) × ((path j).state l ≡ true)) ⊎ ((j ≡ suc i) × ((path j).edge l ≡ true))

-- this many matches one after another. None of them need i = j
abbrev pub Turns : (ℕ → ℕ → Type 0) → ℕ → ℕ → ℕ → Type 0
Turns One zero i j = i ≡ j
Turns One (suc c) i j = (m : ℕ) × (Turns One c i m × One m j)

-- no more than the bound, where there is one
abbrev pub AtMost : ℕ → Option ℕ → Type 0
AtMost c None = Unit {0}
AtMost c (Some most) = c ≤ most

-- the segment from state i to state j matches
abbrev pub Match : {L : Type 0} → (ℕ → Step L) → Form L → ℕ → ℕ → Type 0
Match path nothing i j = ⊥
Match path (letter l) i j = LetterMatch path l i j
Match path (dot a b) i j = (m : ℕ) × (Match path a i m × Match path b m j)
Match path (either a b) i j = Match path a i j ⊎ Match path b i j
Match path (repeat a least most) i j = (c : ℕ) × ((least ≤ c) × (AtMost c most × Turns (Match path a) c i j))
