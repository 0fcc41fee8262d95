-- What a conflict teaches.
use Rattle.std.specs.Prelude.{◌≡◌, ℕ, ◌<◌, ◌≤◌, ℤ, neg_ℤ, Bool, true, false, List, [], take, Option, None, Some}
use Rattle.std.specs.List.{list_all}
use Rattle.std.specs.Ordering.{int_eq}
use Rattle.cnf.specs.declared.derivation.DerivationLine.{DerivationLine}
use Rattle.cnf.specs.Checks.{IsRight}
use Rattle.cnf.specs.Clauses.{IsClause, has_literal}
use Rattle.search.specs.declared.landing.Landing.{Landing}
use Rattle.search.specs.declared.trail.Entry.{Entry}
use Rattle.search.specs.Machine.{is_implied_by, is_true, unit_of}
use Rattle.search.specs.Watching.{IsDecidedAt}

-- all literals of a set but one are false by a trail
abbrev pub AreFalseBut : List Entry → (ℤ → Bool) → ℤ → Type 0
AreFalseBut trail set x = (y : ℤ) → set y ≡ true → int_eq y x ≡ false → is_true trail (neg_ℤ y) ≡ true

-- the literal of a set that became false last but one: it is false before no decision that stands before the cut
abbrev pub IsLatest : List Entry → (ℤ → Bool) → ℤ → ℕ → Option ℤ → Type 0
IsLatest trail set x cut None = ((y : ℤ) → set y ≡ true → int_eq y x ≡ true) × ((d : ℕ) → IsDecidedAt trail d → d < cut → ⊥)
IsLatest trail set x cut (Some y) =
    (set y ≡ true) × (int_eq y x ≡ false) × ((d : ℕ) → IsDecidedAt trail d → d < cut → is_true (take d trail) (neg_ℤ y) ≡ false)

-- the earliest decision before which the trail can be cut so that all literals of a set but one are false
pub record IsLanding (trail : List Entry) (set : ℤ → Bool) (x : ℤ) (place : ℕ) (landing : Landing) : Type 0 where
  pub literal : landing.literal ≡ x
  pub decided : IsDecidedAt trail landing.cut
  pub inside : landing.cut ≤ place
  pub falses : AreFalseBut (take landing.cut trail) set x
  pub latest : IsLatest trail set x landing.cut landing.other

-- where the trail is cut, the line's clause has one open literal and its others are false
pub record IsAsserting (trail : List Entry) (clause : List ℤ) (landing : Landing) : Type 0 where
  pub decided : IsDecidedAt trail landing.cut
  pub unit : unit_of (is_true (take landing.cut trail)) clause ≡ Some landing.literal
  pub latest : IsLatest trail (has_literal clause) landing.literal landing.cut landing.other

abbrev pub IsLandingFor : List Entry → List ℤ → Option Landing → Type 0
IsLandingFor trail clause None = clause ≡ []
IsLandingFor trail clause (Some landing) = IsAsserting trail clause landing

-- a line that begins with the conflict, and is right
pub record IsLesson (clauses : List (List ℤ)) (trail : List Entry) (conflict : ℕ) (line : DerivationLine) (lands : Option Landing) : Type 0 where
  pub first : line.first ≡ conflict
  pub right : IsRight clauses line
  pub reasons : list_all (λ step. is_implied_by trail step.0 step.1) line.steps ≡ true
  pub landing : IsLandingFor trail line.clause lands
  pub rises : IsClause line.clause
