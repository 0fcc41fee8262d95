-- Which tokens are a unit, and why others are refused (ISO/IEC 9899:2011, 6.9).
-- Public contracts rest on this.
use Rattle.std.specs.Prelude.{◌≡◌, ℕ, List, ◌∷◌, ◌++◌}
use Rattle.fq_core.specs.declared.refusal.Place.{Place}
use Rattle.c_parse.specs.declared.sign.Terminal.{Terminal}
use Rattle.c_parse.specs.declared.unit.Item.{Item}
use Rattle.c_parse.specs.Expression.{line_of, IsWithin, IsRefusedEarly}
use Rattle.c_parse.specs.Items.{DerivesItem, DerivesItems}

-- at this token the items end: those before it are items, and no front of what begins there is an item
pub record EndsAt (ts : List Terminal) (t : Terminal) : Type 0 where
  pub items : List Item
  pub front : List Terminal
  pub behind : List Terminal
  pub parts : ts ≡ front ++ t ∷ behind
  pub before : DerivesItems items front
  pub none : (i : Item) (xs ys : List Terminal) → t ∷ behind ≡ xs ++ ys → DerivesItem i xs → ⊥

-- the tokens are accepted as these items
pub record IsUnit (ts : List Terminal) (items : List Item) : Type 0 where
  pub within : IsWithin ts
  pub spelled : DerivesItems items ts

-- the tokens are no unit, for the cause of this code, at this place
pub data IsRefusedUnit (ts : List Terminal) : ℕ → Place → Type 0 where
  early : {code : ℕ} {p : Place} → IsRefusedEarly ts code p → IsRefusedUnit ts code p
  no_item : (t : Terminal) → IsWithin ts → EndsAt ts t → IsRefusedUnit ts 20 (line_of t)
