-- Where a number stands in a list.
use Rattle.std.specs.Prelude.{◌≡◌, ℕ, suc, ◌+◌, ◌-◌, ◌≤◌, ◌<◌, List, length, slice_index, slice_index_or, Option, Some, None}

-- the number stands at a place from one on, and below another
abbrev pub StandsIn : List ℕ → ℕ → ℕ → ℕ → Type 0
StandsIn numbers x start end = (k : ℕ) × ((start ≤ k) × ((k < end) × (slice_index numbers k ≡ x)))

-- at a place of the list, from this one on
abbrev pub StandsFrom : List ℕ → ℕ → ℕ → Type 0
StandsFrom numbers x start = StandsIn numbers x start (length numbers)

-- the first place from this one on at which the number stands
pub record IsFirstFrom (numbers : List ℕ) (x start place : ℕ) : Type 0 where
  pub after : start ≤ place
  pub within : place < length numbers
  pub is : slice_index numbers place ≡ x
  pub none_before : StandsIn numbers x start place → ⊥

-- there is such a place, or the number doesn't stand there
abbrev pub IsFirstOrNone : List ℕ → ℕ → ℕ → Option ℕ → Type 0
IsFirstOrNone numbers x start None = StandsFrom numbers x start → ⊥
IsFirstOrNone numbers x start (Some place) = IsFirstFrom numbers x start place

-- ---- the chains

-- a place where the number stands, or the end of the list, and the number doesn't stand between
pub record IsNext (numbers : List ℕ) (x start place : ℕ) : Type 0 where
  pub within : place ≤ length numbers
  pub is : place < length numbers → slice_index numbers place ≡ x
  pub none_before : StandsIn numbers x start place → ⊥

-- the first place from this one on of each number
abbrev pub AreFirstsFrom : List ℕ → ℕ → List ℕ → Type 0
AreFirstsFrom numbers start firsts = (x : ℕ) → (start ≤ slice_index_or firsts x (length numbers)) × IsNext numbers x start (slice_index_or firsts x (length numbers))

-- for each place from this one on the next one of the same number
abbrev pub AreNextFrom : List ℕ → ℕ → List ℕ → Type 0
AreNextFrom numbers start next =
    (k : ℕ) → start ≤ k → k < length numbers → (suc k ≤ slice_index next k) × IsNext numbers (slice_index numbers k) (suc k) (slice_index next k)

-- ---- the places by numbers

-- each place of a list before this part of it is below the start
abbrev pub IsAfterPart : List ℕ → ℕ → ℕ → ℕ → Type 0
IsAfterPart places begin i start = begin < i → slice_index places (i - 1) < start

-- From one entry of the list of places to another stand places of the number, and an entry is the first place from each
-- start on that is past the entry before it.
abbrev pub ArePlaces : List ℕ → ℕ → List ℕ → ℕ → ℕ → Type 0
ArePlaces numbers x places begin end =
    (i start : ℕ) → begin ≤ i → i < end → IsAfterPart places begin i start → start ≤ slice_index places i → IsFirstFrom numbers x start (slice_index places i)

-- they are all places of the number
pub record IsGroup (numbers : List ℕ) (x : ℕ) (places : List ℕ) (begin end : ℕ) : Type 0 where
  pub forward : begin ≤ end
  pub within : end ≤ length places
  pub each : ArePlaces numbers x places begin end
  pub none_after : (start : ℕ) → IsAfterPart places begin end start → StandsFrom numbers x start → ⊥

-- the places of each number below this one
abbrev pub AreGroups : List ℕ → List ℕ → List ℕ → ℕ → Type 0
AreGroups numbers places begins count = (x : ℕ) → x < count → IsGroup numbers x places (slice_index begins x) (slice_index begins (x + 1))

-- the places of all numbers, one number after the other, and where those of each number begin
pub record AreTables (numbers places begins : List ℕ) : Type 0 where
  pub groups : AreGroups numbers places begins (length begins - 1)
  pub none_above : (x : ℕ) → length begins ≤ x + 1 → StandsFrom numbers x 0 → ⊥

-- the first entry of a part of a list from which no entry is below the start, where the entries rise
pub record IsBoundary (places : List ℕ) (begin end start i : ℕ) : Type 0 where
  pub after : begin ≤ i
  pub within : i ≤ end
  pub below : IsAfterPart places begin i start
  pub here : i < end → start ≤ slice_index places i

-- the places of a number are added at the end
pub record IsAddedGroup (numbers : List ℕ) (x : ℕ) (old new : List ℕ) : Type 0 where
  pub kept : (k : ℕ) → k < length old → slice_index new k ≡ slice_index old k
  pub group : IsGroup numbers x new (length old) (length new)
