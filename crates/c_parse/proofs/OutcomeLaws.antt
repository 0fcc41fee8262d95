-- What is answered, and why.
use Rattle.std.proofs.Common.{◌≡◌, ℕ, Bool, true, false, List, Option, Some, None, Ok, Err, refl, sym, subst, ◌∙◌}
use Rattle.fq_core.specs.declared.refusal.Place.{Place}
use Rattle.fq_core.specs.declared.refusal.Place.TheVariants as place
use Rattle.c_parse.specs.declared.sign.Terminal.{Terminal}
use Rattle.c_parse.specs.declared.expr.ExprTree.{ExprTree}
use Rattle.c_parse.specs.Limits.{first_foreign, first_passed}
use Rattle.fq_core.specs.Refusals.{refusal}
use Rattle.fq_core.proofs.RefusalLaws.{same_refusal}
use Rattle.c_parse.specs.Expression.{line_of, IsWithin, IsRefusedEarly, out_of_profile, too_deep, Spells, IsExpression, IsRefusedExpression, early, no_expression}
use Rattle.c_parse.specs.Outcome.{early_of, early_cause, by_early, or_syntax, if_unsequenced, expression_outcome}
use Rattle.c_parse.specs.Reading.{whole_at}
use Rattle.c_parse.specs.SequencePoints.{has_sequence_point}
use Rattle.c_parse.proofs.Whole.{whole_takes, whole_again}

-- nothing is refused early, and the list is within the profile and the limits
pub early-none : (ts : List Terminal) → early_cause ts ≡ None → IsWithin ts
early-none ts e = at (first_foreign ts) (first_passed ts) refl refl e
  where
    at : (f : Option Terminal) (l : Option ℕ) → first_foreign ts ≡ f → first_passed ts ≡ l → early_of f l ≡ None → IsWithin ts
    at None None f l e = record { profile = f; limits = l }
    at None (Some n) f l e = absurd cc
    at (Some t) l f g e = absurd cc

pub within-none : (ts : List Terminal) → IsWithin ts → early_cause ts ≡ None
within-none ts w = rw (w.profile, w.limits) refl

pub early-some : (ts : List Terminal) (c : ℕ × Place) → early_cause ts ≡ Some c → IsRefusedEarly ts c.0 c.1
early-some ts c e = at (first_foreign ts) (first_passed ts) refl refl e
  where
    at : (f : Option Terminal) (l : Option ℕ) → first_foreign ts ≡ f → first_passed ts ≡ l → early_of f l ≡ Some c → IsRefusedEarly ts c.0 c.1
    at None None f l e = absurd cc
    at None (Some n) f l e = let same : (22, place.Limit n) ≡ c = cc in subst (λ (d : ℕ × Place). IsRefusedEarly ts d.0 d.1) same (too_deep n f l)
    at (Some t) l f g e = let same : (21, line_of t) ≡ c = cc in subst (λ (d : ℕ × Place). IsRefusedEarly ts d.0 d.1) same (out_of_profile t f)

pub some-early : {ts : List Terminal} {code : ℕ} {p : Place} → IsRefusedEarly ts code p → early_cause ts ≡ Some (code, p)
some-early (out_of_profile t f) = rw f refl
some-early (too_deep n f l) = rw (f, l) refl

-- ---- expressions

-- the expression that the tokens spell is read, and no other
read_spells : (ts : List Terminal) (t : ExprTree) → if_unsequenced (whole_at ts) ≡ Some t → Spells ts t
read_spells ts t e = at (whole_at ts) refl e
  where
    when : (u : ExprTree) (v : Bool) → has_sequence_point u ≡ v → whole_at ts ≡ Some u → if_unsequenced (Some u) ≡ Some t → Spells ts t
    when u true h g e = absurd (let none : if_unsequenced (Some u) ≡ None = rw h refl in cc)
    when u false h g e =
        let some : if_unsequenced (Some u) ≡ Some u = rw h refl in
        let same : u ≡ t = cc in
        subst (λ (v : ExprTree). Spells ts v) same (record { derived = rw g at (whole_takes ts); unsequenced = h })

    at : (o : Option ExprTree) → whole_at ts ≡ o → if_unsequenced o ≡ Some t → Spells ts t
    at None g e = absurd cc
    at (Some u) g e = when u (has_sequence_point u) refl g e

spelled_is_read : (ts : List Terminal) (t : ExprTree) → Spells ts t → if_unsequenced (whole_at ts) ≡ Some t
spelled_is_read ts t s = rw (whole_again t ts s.derived, s.unsequenced) refl

pub accepted : (ts : List Terminal) (t : ExprTree) → expression_outcome ts ≡ Ok t → IsExpression ts t
unfolding expression_outcome
accepted ts t e = at (early_cause ts) (if_unsequenced (whole_at ts)) refl refl e
  where
    at : (c : Option (ℕ × Place)) (o : Option ExprTree) → early_cause ts ≡ c → if_unsequenced (whole_at ts) ≡ o → by_early c (or_syntax o place.Nowhere) ≡ Ok t → IsExpression ts t
    at (Some c) o f g e = absurd cc
    at None None f g e = absurd cc
    at None (Some u) f g e = let same : u ≡ t = cc in record { within = early-none ts f; spelled = subst (λ (v : ExprTree). Spells ts v) same (read_spells ts u g) }

pub accepts : (ts : List Terminal) (t : ExprTree) → IsExpression ts t → expression_outcome ts ≡ Ok t
unfolding expression_outcome
accepts ts t a = rw (within-none ts a.within, spelled_is_read ts t a.spelled) refl

pub refused : (ts : List Terminal) (code : ℕ) (p : Place) → expression_outcome ts ≡ Err (refusal code p) → IsRefusedExpression ts code p
unfolding expression_outcome
refused ts code p e = at (early_cause ts) (if_unsequenced (whole_at ts)) refl refl e
  where
    at : (c : Option (ℕ × Place)) (o : Option ExprTree) → early_cause ts ≡ c → if_unsequenced (whole_at ts) ≡ o → by_early c (or_syntax o place.Nowhere) ≡ Err (refusal code p) → IsRefusedExpression ts code p
    at (Some c) o f g e = same_refusal {X = ExprTree} c.0 code c.1 p (IsRefusedExpression ts) e (early (early-some ts c f))
    at None (Some u) f g e = absurd cc
    at None None f g e =
        same_refusal {X = ExprTree} 20 code place.Nowhere p (IsRefusedExpression ts) e
        (no_expression (early-none ts f) (λ t s. let none_read : None ≡ Some t = sym g ∙ spelled_is_read ts t s in absurd cc))

pub refuses : {ts : List Terminal} {code : ℕ} {p : Place} → IsRefusedExpression ts code p → expression_outcome ts ≡ Err (refusal code p)
unfolding expression_outcome
refuses (early d) = rw (some-early d) refl
refuses {ts} (no_expression w none_spelled) = at (if_unsequenced (whole_at ts)) refl
  where
    at : (o : Option ExprTree) → if_unsequenced (whole_at ts) ≡ o → by_early (early_cause ts) (or_syntax (if_unsequenced (whole_at ts)) place.Nowhere) ≡ Err (refusal 20 place.Nowhere)
    at None g = rw (within-none ts w, g) refl
    at (Some t) g = absurd (none_spelled t (read_spells ts t g))
