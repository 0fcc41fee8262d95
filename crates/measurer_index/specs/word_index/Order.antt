-- Words in lexicographic order, and the goals of an index by the order of their words.
use Rattle.std.specs.Prelude.{◌≡◌, ℕ, ◌+◌, ◌*◌, ◌≤◌, ◌<◌, true, false, List, length, map, drop, slice_index, slice_get, Option, Some, None}
use Rattle.std.specs.Cmp.Lexicographic.{slice_cmp}
use Rattle.std.specs.List.{Contains}
use Rattle.std.specs.Ordering.{is_lt, nat_cmp}
use Rattle.goals.specs.GoalForm.{GoalForm}
use Rattle.goals.specs.Words.{Word}
use Rattle.goals.specs.declared.goal_letter.GoalLetter.{GoalLetter}
use Rattle.goals.specs.declared.goal_letter.GoalLetter.TheVariants.{Node, Edge, Predicate, Absent, Quoted}
use Rattle.measurer_index.specs.word_index.Walks.{word_at, is_plain}

-- a number of its own for each letter
abbrev pub letter_key : GoalLetter → ℕ
letter_key (Edge e) = 5 * e + 1
letter_key (Node n) = 5 * n + 2
letter_key (Predicate p) = 5 * p + 3
letter_key (Absent p) = 5 * p + 4
letter_key (Quoted q) = 5 * q + 5

-- and 0 past the end of a word
abbrev pub key_of : Option GoalLetter → ℕ
key_of None = 0
key_of (Some l) = letter_key l

abbrev pub keys : Word → List ℕ
keys w = map letter_key w

-- goals by place, and some of their places in an order: the word of a rank
module _ (goals : List GoalForm) (order : List ℕ) where
  abbrev pub ranked : ℕ → Word
  ranked r = word_at goals (slice_index order r)

  abbrev pub key_at : ℕ → ℕ → ℕ
  key_at depth r = key_of (slice_get (ranked r) depth)

  -- from a depth on, the words of a range of ranks are in lexicographic order
  abbrev pub IsSortedFrom : ℕ → ℕ → ℕ → Type 0
  IsSortedFrom depth low high =
      (r s : ℕ) → low ≤ r → r ≤ s → s < high → is_lt (slice_cmp nat_cmp (drop depth (keys (ranked s))) (drop depth (keys (ranked r)))) ≡ false

-- the places of the goals whose words have no quoted letter, by the order of their words
pub record IsOrderOf (goals : List GoalForm) (order : List ℕ) : Type 0 where
  pub sorted : IsSortedFrom goals order 0 0 (length order)
  pub plain : (r : ℕ) → r < length order → is_plain (ranked goals order r) ≡ true
  pub all : (g : ℕ) → is_plain (word_at goals g) ≡ true → Contains order g

-- each number of an absent predicate of the goals' words is below this one
abbrev pub AreAbsentsBelow : List GoalForm → ℕ → Type 0
AreAbsentsBelow goals bound = (g d p : ℕ) → slice_get (word_at goals g) d ≡ Some (Absent p) → p < bound
