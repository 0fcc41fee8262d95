-- The guards of the two ways of a test, together.
use Rattle.std.proofs.Common.{◌≡◌, ◌&&◌, ◌||◌, Bool, true, false, not, List, refl, sym, ap, ◌∙◌, ⊎_elim}
use Rattle.circuit.specs.Truth.{World}
use Rattle.circuit.specs.Wires.{held, lit_holds}
use Rattle.circuit.specs.Sharing.{inverse}
use Rattle.circuit.specs.declared.lit.Lit.{Lit}
use Rattle.circuit.specs.declared.lit.Gate.{Gate}
use Rattle.circuit.proofs.Gates.{lit_not}
use Rattle.unwinder.specs.Guards.{IsConjunction, IsOtherWay}

either_value : (p t : Bool) → p ≡ ((p && t) || (p && not t))
either_value true true = refl
either_value true false = refl
either_value false t = refl

swapped : (p t : Bool) → (p && t) ≡ (t && p)
swapped true true = refl
swapped true false = refl
swapped false true = refl
swapped false false = refl

module _ (gates : List Gate) (a b guard test : Lit) (parts : Lit × Lit) (w : World) where
  opposite : lit_holds gates (inverse test) w ≡ not (lit_holds gates test w)
  opposite = lit_not (held gates w) test (not test.negated) refl

  other_holds : IsConjunction gates b parts.0 parts.1 → IsOtherWay guard test parts → lit_holds gates b w ≡ (lit_holds gates guard w && not (lit_holds gates test w))
  other_holds is way = ⊎_elim
      (λ h. is.holds w ∙ ap (λ l. lit_holds gates l w && lit_holds gates parts.1 w) h.0 ∙ ap (λ l. lit_holds gates guard w && lit_holds gates l w) h.1 ∙ ap (λ v. lit_holds gates guard w && v) opposite)
      (λ h. is.holds w ∙ ap (λ l. lit_holds gates parts.0 w && lit_holds gates l w) h.0 ∙ ap (λ l. lit_holds gates l w && lit_holds gates guard w) h.1 ∙ ap (λ v. v && lit_holds gates guard w) opposite ∙ swapped (not (lit_holds gates test w)) (lit_holds gates guard w))
      way

  pub guard_first : IsConjunction gates a guard test → IsConjunction gates b parts.0 parts.1 → IsOtherWay guard test parts → lit_holds gates guard w ≡ (lit_holds gates a w || lit_holds gates b w)
  guard_first one other way =
      either_value (lit_holds gates guard w) (lit_holds gates test w) ∙ ap (λ v. v || (lit_holds gates guard w && not (lit_holds gates test w))) (sym (one.holds w)) ∙ ap (λ v. lit_holds gates a w || v) (sym (other_holds other way))

  pub guard_second : IsConjunction gates a test guard → IsConjunction gates b parts.0 parts.1 → IsOtherWay guard test parts → lit_holds gates guard w ≡ (lit_holds gates a w || lit_holds gates b w)
  guard_second one other way =
      either_value (lit_holds gates guard w) (lit_holds gates test w) ∙ ap (λ v. v || (lit_holds gates guard w && not (lit_holds gates test w))) (swapped (lit_holds gates guard w) (lit_holds gates test w) ∙ sym (one.holds w)) ∙ ap (λ v. lit_holds gates a w || v) (sym (other_holds other way))
