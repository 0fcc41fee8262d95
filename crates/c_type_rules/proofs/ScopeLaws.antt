-- The places of names.
use Rattle.std.proofs.Common.{◌≡◌, ℕ, suc, Bool, true, false, List, [], ◌∷◌, ◌++◌, length, Option, Some, refl, ap, ◌∙◌}
use Rattle.std.specs.Prelude.{if◌then◌else◌}
use Rattle.std.specs.Str.{bytes_eq}
use Rattle.c_type_rules.specs.declared.scopes.Bound.{Bound}
use Rattle.c_type_rules.specs.Scopes.{last_place, or_first}

module _ (w : List ℕ) where
  behind_first : (b : Bound) (bs : List Bound) (o : Option ℕ) (u v : Bool) → or_first (if v then Some (length bs) else o) u ≡ (if v then Some (suc (length bs)) else or_first o u)
  behind_first b bs o u true = refl
  behind_first b bs o u false = refl

  pub placed : (bs : List Bound) (b : Bound) → last_place (bs ++ b ∷ []) w ≡ (if bytes_eq b.name w then Some (length bs) else last_place bs w)
  unfolding last_place
  placed [] b = refl
  placed (x ∷ xs) b = ap (λ o. or_first o (bytes_eq x.name w)) (placed xs b) ∙ behind_first b xs (last_place xs w) (bytes_eq x.name w) (bytes_eq b.name w)
