-- Trails of distinct variables.
use Rattle.std.specs.Prelude.{◌≡◌, ℕ, zero, suc, ℤ, pos, negsuc, Bool, true, List, map, nat_eq, slice_get, Some}
use Rattle.std.specs.List.{IsDistinct, list_all}
use Rattle.cnf.specs.Clauses.{literal_key}
use Rattle.search.specs.declared.trail.Entry.{Entry}
use Rattle.search.specs.Laws.{is_over}

-- a literal's variable, from 0
abbrev pub place : ℤ → ℕ
place (pos zero) = 0
place (pos (suc n)) = n
place (negsuc n) = n

abbrev pub places : List Entry → List ℕ
places trail = map (λ e. place e.literal) trail

abbrev pub are_over : ℕ → List Entry → Bool
are_over n trail = list_all (λ e. is_over n e.literal) trail

-- a trail of distinct ones of so many variables
pub record IsTrail (n : ℕ) (trail : List Entry) : Type 0 where
  pub over : are_over n trail ≡ true
  pub distinct : IsDistinct nat_eq (places trail)

-- a table that tells, by its key, where each literal of a trail stands
abbrev pub AreLocated : List Entry → List ℕ → Type 0
AreLocated trail places = (i : ℕ) (e : Entry) → slice_get trail i ≡ Some e → slice_get places (literal_key e.literal) ≡ Some i
