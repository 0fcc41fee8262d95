-- Which tokens are an expression, and why others are refused.
-- Public contracts rest on this.
use Rattle.std.specs.Prelude.{◌≡◌, ℕ, false, List, Some, None}
use Rattle.fq_core.specs.declared.refusal.Place.{Place}
use Rattle.fq_core.specs.declared.refusal.Place.TheVariants as place
use Rattle.c_parse.specs.declared.sign.Terminal.{Terminal}
use Rattle.c_parse.specs.declared.expr.ExprTree.{ExprTree}
use Rattle.c_parse.specs.Grammar.{DerivesChoice}
use Rattle.c_parse.specs.Limits.{first_foreign, first_passed}
use Rattle.c_parse.specs.SequencePoints.{has_sequence_point}

-- the line of a token, as the place of a refusal
abbrev pub line_of : Terminal → Place
line_of t = place.Source t.span.file t.span.line

-- tokens of the profile, within the limits
pub record IsWithin (ts : List Terminal) : Type 0 where
  pub profile : first_foreign ts ≡ None
  pub limits : first_passed ts ≡ None

-- tokens that are refused with a code and a place before they are read: the first that the profile leaves out, and
-- otherwise the first that passes a limit
pub data IsRefusedEarly (ts : List Terminal) : ℕ → Place → Type 0 where
  out_of_profile : (t : Terminal) → first_foreign ts ≡ Some t → IsRefusedEarly ts 21 (line_of t)
  too_deep : (limit : ℕ) → first_foreign ts ≡ None → first_passed ts ≡ Some limit → IsRefusedEarly ts 22 (place.Limit limit)

-- the tokens spell this expression, and it has no sequence point
pub record Spells (ts : List Terminal) (t : ExprTree) : Type 0 where
  pub derived : DerivesChoice t ts
  pub unsequenced : has_sequence_point t ≡ false

-- the tokens are accepted as this expression
pub record IsExpression (ts : List Terminal) (t : ExprTree) : Type 0 where
  pub within : IsWithin ts
  pub spelled : Spells ts t

-- the tokens are no expression, for the cause of this code, at this place
pub data IsRefusedExpression (ts : List Terminal) : ℕ → Place → Type 0 where
  early : {code : ℕ} {p : Place} → IsRefusedEarly ts code p → IsRefusedExpression ts code p
  no_expression : IsWithin ts → ((t : ExprTree) → Spells ts t → ⊥) → IsRefusedExpression ts 20 place.Nowhere
