-- The clauses of a gate hold in every world.
use Rattle.std.proofs.Common.{◌≡◌, ℕ, zero, suc, ◌-◌, ◌<◌, Bool, true, false, not, ◌&&◌, ◌||◌, List, [], ◌∷◌, refl, sym, ◌∙◌, ap, subst, ⊎_elim, arith, Some}
use Rattle.std.specs.Prelude.{◌⊎◌, ℤ, pos, negsuc, neg_ℤ, slice_get, if◌then◌else◌}
use Rattle.circuit.specs.Sharing.{inverse}
use Rattle.circuit.specs.Truth.{World}
use Rattle.circuit.specs.Wires.{IsReduced, PartsUpTo, held, lit_value}
use Rattle.circuit.specs.declared.lit.Gate.{Gate}
use Rattle.circuit.specs.declared.lit.Gate.TheVariants.{And}
use Rattle.circuit.specs.declared.lit.Lit.{Lit}
use Rattle.clause_form.proofs.WorldLaws.{held_on}
use Rattle.cnf.specs.Formulas.{is_true_literal}
use Rattle.search_lemmas.specs.Holding.{HoldsAlways, wire_value}
use Rattle.search_lemmas.specs.Naming.{lit_number}

-- the number of a literal is true where the literal holds
signed_true : (value : ℕ → Bool) (n : ℕ) (negated : Bool) → 0 < n → is_true_literal value (if negated then neg_ℤ (pos n) else pos n) ≡ (if negated then not (value n) else value n)
signed_true value zero negated lt = absurd (omega arith)
signed_true value (suc n) true lt = refl
signed_true value (suc n) false lt = refl

own_true : (gates : List Gate) (w : World) (l : Lit) → 0 < l.wire → is_true_literal (wire_value gates w) (lit_number l) ≡ lit_value (held gates w) l
own_true gates w l lt = signed_true (wire_value gates w) l.wire l.negated lt

flipped : (b x : Bool) → (if not b then not x else x) ≡ not (if b then not x else x)
flipped true true = refl
flipped true false = refl
flipped false x = refl

inverse_true : (gates : List Gate) (w : World) (l : Lit) → 0 < l.wire → is_true_literal (wire_value gates w) (lit_number (inverse l)) ≡ not (lit_value (held gates w) l)
inverse_true gates w l lt = signed_true (wire_value gates w) l.wire (not l.negated) lt ∙ flipped l.negated (wire_value gates w l.wire)

part_left : (p q x : Bool) → x ≡ (p && q) → (p || (not x || false)) ≡ true
part_left true q x e = refl
part_left false q x e = ap (λ b. not b || false) e

part_right : (p q x : Bool) → x ≡ (p && q) → (q || (not x || false)) ≡ true
part_right p true x e = refl
part_right true false x e = ap (λ b. not b || false) e
part_right false false x e = ap (λ b. not b || false) e

whole_of : (p q x : Bool) → x ≡ (p && q) → (not p || (not q || (x || false))) ≡ true
whole_of true true x e = ap (λ b. b || false) e
whole_of true false x e = refl
whole_of false q x e = refl

module _ (gates : List Gate) (k : ℕ) (left right : Lit) (at : slice_get gates k ≡ Some (And left right)) (parts : PartsUpTo k (And left right)) (reduced : IsReduced (And left right)) where
  held_here : (w : World) → wire_value gates w (suc k) ≡ (lit_value (held gates w) left && lit_value (held gates w) right)
  held_here w = held_on gates k w (And left right) at parts

  right_some : 0 < right.wire
  right_some = omega (arith, reduced.0, reduced.1)

  pub left_clause : HoldsAlways gates (lit_number left ∷ negsuc k ∷ [])
  left_clause w = ap (λ b. b || (not (wire_value gates w (suc k)) || false)) (own_true gates w left reduced.0) ∙ part_left _ _ _ (held_here w)

  pub right_clause : HoldsAlways gates (lit_number right ∷ negsuc k ∷ [])
  right_clause w = ap (λ b. b || (not (wire_value gates w (suc k)) || false)) (own_true gates w right right_some) ∙ part_right _ _ _ (held_here w)

  pub whole_clause : HoldsAlways gates (lit_number (inverse left) ∷ lit_number (inverse right) ∷ pos (suc k) ∷ [])
  whole_clause w =
      ap (λ b. b || (is_true_literal (wire_value gates w) (lit_number (inverse right)) || (wire_value gates w (suc k) || false))) (inverse_true gates w left reduced.0)
      ∙ ap (λ b. not (lit_value (held gates w) left) || (b || (wire_value gates w (suc k) || false))) (inverse_true gates w right right_some)
      ∙ whole_of _ _ _ (held_here w)

-- ---- clauses by their last literal

pub part_clause : (gates : List Gate) (part whole : ℤ) (wire : ℕ) (left right : Lit) → 0 < wire → whole ≡ neg_ℤ (pos wire) → slice_get gates (wire - 1) ≡ Some (And left right)
    → PartsUpTo (wire - 1) (And left right) → IsReduced (And left right) → (part ≡ lit_number left) ⊎ (part ≡ lit_number right) → HoldsAlways gates (part ∷ whole ∷ [])
part_clause gates part whole zero left right low is at parts reduced own = absurd (omega arith)
part_clause gates part whole (suc k) left right low is at parts reduced own =
    let place : suc k - 1 ≡ k = omega arith in
    let here : slice_get gates k ≡ Some (And left right) = ap (slice_get gates) (sym place) ∙ at in
    let below : PartsUpTo k (And left right) = subst (λ n. PartsUpTo n (And left right)) place parts in
    let both : HoldsAlways gates (part ∷ negsuc k ∷ []) = ⊎_elim
    (λ e. subst (λ x. HoldsAlways gates (x ∷ negsuc k ∷ [])) (sym e) (left_clause gates k left right here below reduced))
    (λ e. subst (λ x. HoldsAlways gates (x ∷ negsuc k ∷ [])) (sym e) (right_clause gates k left right here below reduced))
    own in
    subst (λ x. HoldsAlways gates (part ∷ x ∷ [])) (sym is) both

pub whole_clause_at : (gates : List Gate) (first second whole : ℤ) (wire : ℕ) (left right : Lit) → 0 < wire → whole ≡ pos wire → slice_get gates (wire - 1) ≡ Some (And left right)
    → PartsUpTo (wire - 1) (And left right) → IsReduced (And left right) → first ≡ lit_number (inverse left) → second ≡ lit_number (inverse right) → HoldsAlways gates (first ∷ second ∷ whole ∷ [])
whole_clause_at gates first second whole zero left right low is at parts reduced e f = absurd (omega arith)
whole_clause_at gates first second whole (suc k) left right low is at parts reduced e f =
    let place : suc k - 1 ≡ k = omega arith in
    let here : slice_get gates k ≡ Some (And left right) = ap (slice_get gates) (sym place) ∙ at in
    let below : PartsUpTo k (And left right) = subst (λ n. PartsUpTo n (And left right)) place parts in
    subst (λ x. HoldsAlways gates (first ∷ second ∷ x ∷ [])) (sym is)
    (subst (λ x. HoldsAlways gates (x ∷ second ∷ pos (suc k) ∷ [])) (sym e)
    (subst (λ x. HoldsAlways gates (lit_number (inverse left) ∷ x ∷ pos (suc k) ∷ [])) (sym f) (whole_clause gates k left right here below reduced)))
