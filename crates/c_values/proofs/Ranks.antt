-- Promotions and common kinds.
use Rattle.std.proofs.Common.{◌≡◌, ℕ, ◌<◌, ◌≤◌, Bool, true, false, cond, refl, sym, ap, ◌∙◌, arith}
use Rattle.std.specs.Prelude.{◌==◌, ◌||◌, nat_le, IsTrue}
use mathlib.Core.Bool.{beq}
use Rattle.std.proofs.lemmas.Bool.Decides.{nat_tests}
use Rattle.c_values.specs.declared.kinds.Kind.{Kind}
use Rattle.c_values.specs.Kind.{IsKind, least, greatest, int, holds_all, promoted, common, mixed, wider, joined}
use Rattle.c_values.proofs.Fitting.{by_width, by_kind}

abbrev kind_at : ℕ → Bool → Kind
kind_at w s = record { width = w; signed = s }

pub promoted-narrow : (kind : Kind) → IsKind kind → kind.width < 32 → int ≡ promoted kind
unfolding promoted least greatest
promoted-narrow =
    by_kind (λ w s. w < 32 → int ≡ promoted (kind_at w s))
    (λ l. refl) (λ l. refl) (λ l. refl) (λ l. refl)
    (λ l. absurd (omega arith)) (λ l. absurd (omega arith)) (λ l. absurd (omega arith)) (λ l. absurd (omega arith))

pub promoted-wide : (kind : Kind) → IsKind kind → 32 ≤ kind.width → kind ≡ promoted kind
unfolding promoted least greatest
promoted-wide =
    by_kind (λ w s. 32 ≤ w → kind_at w s ≡ promoted (kind_at w s))
    (λ l. absurd (omega arith)) (λ l. absurd (omega arith)) (λ l. absurd (omega arith)) (λ l. absurd (omega arith))
    (λ l. refl) (λ l. refl) (λ l. refl) (λ l. refl)

-- a wider kind with a sign holds each number of a narrower one without
holds : (v w : ℕ) → IsTrue (v == 8 || v == 16 || v == 32 || v == 64) → IsTrue (w == 8 || w == 16 || w == 32 || w == 64) → w < v → holds_all (kind_at v true) (kind_at w false) ≡ true
unfolding least greatest
holds v w h k =
    by_width (λ v. w < v → holds_all (kind_at v true) (kind_at w false) ≡ true)
    (by_width (λ w. w < 8 → holds_all (kind_at 8 true) (kind_at w false) ≡ true)
    (λ l. absurd (omega arith)) (λ l. absurd (omega arith)) (λ l. absurd (omega arith)) (λ l. absurd (omega arith)) w k)
    (by_width (λ w. w < 16 → holds_all (kind_at 16 true) (kind_at w false) ≡ true)
    (λ l. refl) (λ l. absurd (omega arith)) (λ l. absurd (omega arith)) (λ l. absurd (omega arith)) w k)
    (by_width (λ w. w < 32 → holds_all (kind_at 32 true) (kind_at w false) ≡ true)
    (λ l. refl) (λ l. refl) (λ l. absurd (omega arith)) (λ l. absurd (omega arith)) w k)
    (by_width (λ w. w < 64 → holds_all (kind_at 64 true) (kind_at w false) ≡ true)
    (λ l. refl) (λ l. refl) (λ l. refl) (λ l. absurd (omega arith)) w k)
    v h

sign_is : (kind : Kind) (s : Bool) → kind.signed ≡ s → kind ≡ kind_at kind.width s
sign_is kind s e = ap (λ t. kind_at kind.width t) e

-- the rank decides
pub mixed-low : (s u : Kind) → s.width ≤ u.width → u ≡ mixed s u
mixed-low s u h =
    let is : nat_le s.width u.width ≡ true = grind (arith, nat_tests) in
    sym (ap (λ t. cond t u (cond (holds_all s u) s (record { width = s.width; signed = false }))) is)

pub mixed-high : (s u : Kind) → IsKind s → IsKind u → s.signed ≡ true → u.signed ≡ false → u.width < s.width → s ≡ mixed s u
mixed-high s u h k e f l =
    let is : nat_le s.width u.width ≡ false = grind (arith, nat_tests) in
    let all : holds_all s u ≡ true =
    ap (λ x. holds_all x u) (sign_is s true e) ∙ ap (λ y. holds_all (kind_at s.width true) y) (sign_is u false f) ∙ holds s.width u.width h k l in
    let other : Kind = record { width = s.width; signed = false } in
    sym (ap (λ t. cond t u (cond (holds_all s u) s other)) is ∙ ap (λ t. cond t s other) all)

-- the common kind, from the promoted ones
pub common-from : (a b p q : Kind) (s t : Bool) → p ≡ promoted a → q ≡ promoted b → p.signed ≡ s → q.signed ≡ t → joined p q s t ≡ common a b
unfolding common
common-from a b p q s t e f g h =
    sym (ap (λ x. joined p q x q.signed) g ∙ ap (λ y. joined p q s y) h)
    ∙ ap (λ x. joined x q x.signed q.signed) e ∙ ap (λ y. joined (promoted a) y (promoted a).signed y.signed) f

wider_joined : (p q : Kind) (s : Bool) → wider p q ≡ joined p q s s
wider_joined p q true = refl
wider_joined p q false = refl

common-alike : (a b p q : Kind) → p ≡ promoted a → q ≡ promoted b → p.signed ≡ q.signed → wider p q ≡ common a b
common-alike a b p q e f g = wider_joined p q q.signed ∙ common-from a b p q q.signed q.signed e f g refl

pub common-left : (a b p q : Kind) → p ≡ promoted a → q ≡ promoted b → p.signed ≡ q.signed → q.width ≤ p.width → p ≡ common a b
common-left a b p q e f g h =
    let is : nat_le q.width p.width ≡ true = grind (arith, nat_tests) in
    sym (ap (λ t. cond t p q) is) ∙ common-alike a b p q e f g

pub common-right : (a b p q : Kind) → p ≡ promoted a → q ≡ promoted b → p.signed ≡ q.signed → p.width < q.width → q ≡ common a b
common-right a b p q e f g h =
    let is : nat_le q.width p.width ≡ false = grind (arith, nat_tests) in
    sym (ap (λ t. cond t p q) is) ∙ common-alike a b p q e f g

-- ---- tests of two signs

pub alike : (s t : Bool) → beq s t ≡ true → s ≡ t
alike true true e = refl
alike true false e = cc
alike false true e = cc
alike false false e = refl

pub unlike_true : (s t : Bool) → beq s t ≡ false → s ≡ true → t ≡ false
unlike_true true true e f = cc
unlike_true true false e f = refl
unlike_true false true e f = cc
unlike_true false false e f = refl

pub unlike_false : (s t : Bool) → beq s t ≡ false → s ≡ false → t ≡ true
unlike_false true true e f = refl
unlike_false true false e f = cc
unlike_false false true e f = refl
unlike_false false false e f = cc
