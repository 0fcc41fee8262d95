-- What an automaton's reach says of a path.
use Rattle.std.specs.Prelude.{◌≡◌, ℕ, suc, ◌≤◌, ◌↔◌, Bool, true, false, List, [], ◌∷◌, ◌++◌, ◌&&◌, ◌||◌, map, length}
use Rattle.patterns.specs.Match.{Step}
use Rattle.circuit.specs.Truth.{World}
use Rattle.automata.specs.Tree.{Tree, Ends, Good, alone, ended}
use Rattle.automata.specs.Values.{seen}

-- a step, by the numbers of the letters
abbrev pub numbered : {L : Type 0} → List L → Step L → Step ℕ
numbered letters s = seen (map s.edge letters) (map s.state letters)

-- a longer path, which has these steps from this place on
abbrev pub Has : {L : Type 0} → List L → (ℕ → Step ℕ) → ℕ → List (Step L) → Type 0
Has letters path n [] = Unit {0}
Has letters path n (s ∷ steps) = (path n ≡ numbered letters s) × Has letters path (suc n) steps

-- a match may begin at this state: at any, or at the first alone
abbrev pub MayBegin : Bool → ℕ → Type 0
MayBegin true i = i ≡ 0
MayBegin false i = Unit {0}

-- a match may end at this state of n: at any, or at the last alone
abbrev pub MayEnd : Bool → ℕ → ℕ → Type 0
MayEnd true n j = suc j ≡ n
MayEnd false n j = suc j ≤ n

-- among n states, some segment that the anchors allow matches
abbrev pub Accepts : (ℕ → Step ℕ) → Tree → Bool → Bool → ℕ → Type 0
Accepts path t first last n = (j : ℕ) × (MayEnd last n j × Ends path t (MayBegin first) j)

-- the marks and the bit of acceptance stand, in one world, for a path of these steps
pub record StandsFor {L : Type 0} (letters : List L) (t : Tree) (first last : Bool) (marks : List Bool) (hit : Bool) (steps : List (Step L)) : Type 0 where
  pub marked : (path : ℕ → Step ℕ) → Has letters path 0 steps → Good path t (MayBegin first) (length steps) marks
  pub found : (path : ℕ → Step ℕ) → Has letters path 0 steps → (hit ≡ true) ↔ Accepts path t first last (length steps)

-- what a step tells of each letter, in a world
abbrev pub told : {T S L : Type 0} → (S → L → Bool) → (T → S → L → World → Bool) → T → S → World → Step L
told edge_tells state_tells t step w = record { edge = edge_tells step; state = λ l. state_tells t step l w }

-- a match that began at an allowed state ends at the newest
abbrev pub ends_now : Step ℕ → Tree → Bool → List Bool → Bool
ends_now s t begin ms = ended s t ms || (begin && alone s t)

-- whether some match has been found: one that ends at the newest state, or, unless the end is tied, an earlier one
abbrev pub hit_after : Bool → Bool → Bool → Bool
hit_after true hit end = end
hit_after false hit end = hit || end

-- the steps, with one more where the guard holds
abbrev pub steps_after : {A : Type 0} → Bool → List A → A → List A
steps_after true steps s = steps ++ s ∷ []
steps_after false steps s = steps
