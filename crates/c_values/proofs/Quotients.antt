-- Quotients, remainders and shifts: where they are, their ranges, and what the machine has of them.
use Rattle.std.proofs.Common.{◌≡◌, ℕ, zero, suc, ◌+◌, ◌-◌, ◌*◌, ◌/◌, ◌%◌, ◌^◌, ◌<◌, ◌≤◌, Bool, true, false, cond, ℤ, pos, negsuc, ◌*ℤ◌, neg_ℤ, Some, None, refl, sym, ap, ◌∙◌, subst, inl, inr, ⊎_elim, arith, to_z, of_z, w64}
use Rattle.std.specs.Prelude.{◌⊎◌, ◌↔◌, ◌≤ℤ◌, ◌<ℤ◌, ◌==◌, ◌&&◌, ◌||◌, not, nat_lt, int_le, int_lt, IsTrue, FitsSigned, int_div, int_rem, unsigned_abs}
use Rattle.std.specs.Int.{int_shr}
use Rattle.std.specs.Ordering.{int_eq}
use Rattle.std.proofs.lemmas.Bool.Decides.{same_from_decides, Decides-eqb, Decides-ltb, Decides-int_eq, Decides-like}
use Rattle.std.proofs.lemmas.Int.{ints, to_z-of_z, of_z-to_z}
use borrow.Author.Differences.{up, down, neg_is}
use Rattle.std.proofs.lemmas.Bool.{cases_lt}
use lib.Signed.{shr_z}
use native.Mathlib.Nat.{div-le_self, mod-le, div-add-mod'}
use Rattle.c_values.specs.declared.kinds.Kind.{Kind}
use Rattle.c_values.specs.Kind.{IsKind, IsValue, IsInRange, least, greatest, number_of, reading, residue, pattern_of, wrapped}
use Rattle.c_values.specs.Operations.{is_shift_amount, left_shift_of, right_shift_of, IsShiftAmount, is_zero_divisor, is_overflow_divisor, IsOverflowDivisor, has_quotient, HasNoQuotient, quotient_of, remainder_of}
use Rattle.c_values.proofs.Fitting.{width_is, by_kind, twos_cases, and_left, and_right, and_both, le_is, le_test, lt_is, lt_test, value_parts, value_from_parts, pattern_of-number_of, number_of-wrapped, wrapped-number_of, fit_same}
use Rattle.c_values.proofs.Bits.{width_below}
use Rattle.c_values.proofs.Machine.{of_z-pattern_of, number_of-unsigned, signed_operand}

abbrev kind_at : ℕ → Bool → Kind
kind_at w s = record { width = w; signed = s }

sign_is : (kind : Kind) (s : Bool) → kind.signed ≡ s → kind ≡ kind_at kind.width s
sign_is kind s e = ap (λ t. kind_at kind.width t) e

-- ---- tests for one number

-- a value has the number z where its pattern is that of z
test_number : (kind : Kind) (p q : ℕ) (z : ℤ) → p < 2 ^ 64 → pattern_of z ≡ q → number_of kind q ≡ z → (p == q) ≡ int_eq (number_of kind p) z
test_number kind p q z h e f =
    let one : number_of kind p ≡ z → p ≡ q = λ g. sym (pattern_of-number_of kind p h) ∙ ap pattern_of g ∙ e in
    let other : p ≡ q → number_of kind p ≡ z = λ g. ap (number_of kind) g ∙ f in
    same_from_decides (p == q) (int_eq (number_of kind p) z) (Decides-eqb p q)
    (Decides-like (int_eq (number_of kind p) z) one other (Decides-int_eq (number_of kind p) z))

zero_number : (s : Bool) → reading s 64 0 ≡ pos 0
zero_number true = refl
zero_number false = refl

pub number_of-zero : (kind : Kind) → number_of kind 0 ≡ pos 0
unfolding number_of
number_of-zero kind = zero_number kind.signed

pub zero_divisor-machine : (kind : Kind) (b : ℕ) → b < 2 ^ 64 → (b == 0) ≡ is_zero_divisor kind b
unfolding is_zero_divisor pattern_of residue
zero_divisor-machine kind b h = test_number kind b 0 (pos 0) h refl (number_of-zero kind)

pub is_zero_divisor-tells : (kind : Kind) (b : ℕ) → IsTrue (is_zero_divisor kind b) ↔ (number_of kind b ≡ pos 0)
unfolding is_zero_divisor
is_zero_divisor-tells kind b = Decides-int_eq (number_of kind b) (pos 0)

-- the patterns of -1 and of the least number
abbrev Signed : (ℕ → Bool → Type 0) → ℕ → Bool → Type 0
Signed P w s = s ≡ true → P w s

abbrev LeastIs : ℕ → Bool → Type 0
LeastIs w s = (pattern_of (least (kind_at w s)) ≡ (2 ^ 64 - 1) * 2 ^ (w - 1) % 2 ^ 64) × (number_of (kind_at w s) ((2 ^ 64 - 1) * 2 ^ (w - 1) % 2 ^ 64) ≡ least (kind_at w s))

least_is : (kind : Kind) → IsKind kind → Signed LeastIs kind.width kind.signed
unfolding least pattern_of number_of residue
least_is = by_kind (Signed LeastIs) (λ e. (refl, refl)) (λ e. cc) (λ e. (refl, refl)) (λ e. cc) (λ e. (refl, refl)) (λ e. cc) (λ e. (refl, refl)) (λ e. cc)

minus_one : (s : Bool) → s ≡ true → reading s 64 (2 ^ 64 - 1) ≡ negsuc 0
minus_one true e = refl
minus_one false e = cc

minus_one_is : (kind : Kind) → kind.signed ≡ true → number_of kind (2 ^ 64 - 1) ≡ negsuc 0
unfolding number_of
minus_one_is kind e = minus_one kind.signed e

and_test : (s : Bool) (x y v w : Bool) → (s ≡ true → x ≡ v) → (s ≡ true → y ≡ w) → (s && x && y) ≡ (s && v && w)
and_test true x y v w e f = ap (λ t. t && y) (e refl) ∙ ap (λ t. v && t) (f refl)
and_test false x y v w e f = refl

pub overflow_divisor-machine : (kind : Kind) (a b : ℕ) → IsValue kind a → IsValue kind b → (kind.signed && a == ((2 ^ 64 - 1) * 2 ^ (kind.width - 1) % 2 ^ 64) && b == (2 ^ 64 - 1)) ≡ is_overflow_divisor kind a b
unfolding is_overflow_divisor pattern_of residue
overflow_divisor-machine kind a b h k =
    let v = value_parts kind a h in
    let u = value_parts kind b k in
    let low = (2 ^ 64 - 1) * 2 ^ (kind.width - 1) % 2 ^ 64 in
    and_test kind.signed (a == low) (b == (2 ^ 64 - 1)) (int_eq (number_of kind a) (least kind)) (int_eq (number_of kind b) (negsuc 0))
    (λ s. (let l = least_is kind v.of_kind s in test_number kind a low (least kind) v.pattern l.0 l.1))
    (λ s. test_number kind b (2 ^ 64 - 1) (negsuc 0) u.pattern refl (minus_one_is kind s))

-- ---- where there is no quotient

true_or_false : (x : Bool) → (x ≡ true) ⊎ (x ≡ false)
true_or_false true = inl refl
true_or_false false = inr refl

neither : (x y : Bool) → not (x || y) ≡ false → (x ≡ true) ⊎ (y ≡ true)
neither true y e = inl refl
neither false true e = inr refl
neither false false e = cc

either_left : (x y : Bool) → x ≡ true → not (x || y) ≡ false
either_left true y e = refl
either_left false y e = cc

either_right : (x y : Bool) → y ≡ true → not (x || y) ≡ false
either_right true y e = refl
either_right false true e = refl
either_right false false e = cc

both_clear : (x y : Bool) → not (x || y) ≡ true → (x ≡ false) × (y ≡ false)
both_clear true y e = cc
both_clear false true e = cc
both_clear false false e = (refl, refl)

three : (x y z : Bool) → (x && y && z) ≡ true → (x ≡ true) × (y ≡ true) × (z ≡ true)
three true true true e = (refl, refl, refl)
three true true false e = cc
three true false z e = cc
three false y z e = cc

all_three : (x y z : Bool) → x ≡ true → y ≡ true → z ≡ true → (x && y && z) ≡ true
all_three true true true e f g = refl
all_three true true false e f g = cc
all_three true false z e f g = cc
all_three false y z e f g = cc

pub is_overflow_divisor-tells : (kind : Kind) (a b : ℕ) → IsTrue (is_overflow_divisor kind a b) ↔ IsOverflowDivisor kind a b
unfolding is_overflow_divisor
is_overflow_divisor-tells kind a b =
    let low = Decides-int_eq (number_of kind a) (least kind) in
    let one = Decides-int_eq (number_of kind b) (negsuc 0) in (
      λ o. (let parts = three kind.signed (int_eq (number_of kind a) (least kind)) (int_eq (number_of kind b) (negsuc 0)) o in
          (parts.0, low.0 parts.1, one.0 parts.2)),
      λ o. all_three kind.signed (int_eq (number_of kind a) (least kind)) (int_eq (number_of kind b) (negsuc 0)) o.0 (low.1 o.1) (one.1 o.2),
    )

pub no_quotient-tells : (kind : Kind) (a b : ℕ) → (has_quotient kind a b ≡ false) ↔ HasNoQuotient kind a b
no_quotient-tells kind a b =
    let zero_test = is_zero_divisor-tells kind b in
    let over = is_overflow_divisor-tells kind a b in (
      λ e. ⊎_elim (λ z. inl (zero_test.0 z)) (λ o. inr (over.0 o)) (neither (is_zero_divisor kind b) (is_overflow_divisor kind a b) e),
      λ h. ⊎_elim
          (λ z. either_left (is_zero_divisor kind b) (is_overflow_divisor kind a b) (zero_test.1 z))
          (λ o. either_right (is_zero_divisor kind b) (is_overflow_divisor kind a b) (over.1 o))
          h,
    )

-- the steps of a test by `&&`
pub join_last : (s x y o : Bool) → (s && x && y) ≡ o → s ≡ true → x ≡ true → y ≡ o
join_last true true y o e f g = e
join_last true false y o e f g = cc
join_last false x y o e f g = cc

pub join_first : (s x y o : Bool) → (s && x && y) ≡ o → s ≡ false → false ≡ o
join_first true x y o e f = cc
join_first false x y o e f = e

pub join_second : (s x y o : Bool) → (s && x && y) ≡ o → s ≡ true → x ≡ false → false ≡ o
join_second true true y o e f g = cc
join_second true false y o e f g = e
join_second false x y o e f g = cc

-- what is known of the answer false
pub told_false : (P : Type 0) (r t : Bool) → r ≡ t → ((t ≡ false) ↔ P) → (r ≡ false) ↔ P
told_false P r t e h = (λ g. h.0 (sym e ∙ g), λ p. e ∙ h.1 p)

pub clear_quotient : (x y : Bool) → x ≡ false → not y ≡ not (x || y)
clear_quotient true y e = cc
clear_quotient false y e = refl

-- ---- ranges

-- from -h to h - 1
pub record Between (h : ℕ) (z : ℤ) : Type 0 where
  pub low : down z ≤ up z + h
  pub high : up z < down z + h

between : (kind : Kind) (z : ℤ) → IsKind kind → kind.signed ≡ true → IsInRange kind z → Between (2 ^ (kind.width - 1)) z
unfolding least greatest
between kind z k s r =
    let w = width_is kind k in
    let l = w.half in
    let there = subst (λ x. IsInRange x z) (sign_is kind true s) r in
    let a = there.0 in
    let b = there.1 in
    record { low = omega (arith, ints); high = omega (arith, ints) }

in_range_from : (kind : Kind) (z : ℤ) → IsKind kind → kind.signed ≡ true → Between (2 ^ (kind.width - 1)) z → IsInRange kind z
unfolding least greatest
in_range_from kind z k s r =
    let w = width_is kind k in
    let l = w.half in
    let a = r.low in
    let b = r.high in
    let there : IsInRange (kind_at kind.width true) z = (omega (arith, ints), omega (arith, ints)) in
    subst (λ x. IsInRange x z) (sym (sign_is kind true s)) there

fits_between : (kind : Kind) (z : ℤ) → IsKind kind → Between (2 ^ (kind.width - 1)) z → FitsSigned w64 z
fits_between kind z k r = let w = width_is kind k in let m = w.within in let a = r.low in let b = r.high in omega (arith, ints)

-- a quotient by 2 or more is at most half
half_of : (n d h : ℕ) → n ≤ h → 0 < h → n / suc (suc d) < h
half_of n d h p q =
    let e = div-add-mod' n (suc (suc d)) in
    let s : n / suc (suc d) * suc (suc d) ≡ n / suc (suc d) * d + 2 * (n / suc (suc d)) = omega arith in
    omega arith

quotient_between : (h : ℕ) (x y : ℤ) → Between h x → ((x ≡ neg_ℤ (pos h)) → (y ≡ negsuc 0) → ⊥) → Between h (int_div x y)
quotient_between h (pos a) (pos b) r n = let p = r.high in let q = div-le_self a b in record { low = omega arith; high = omega arith }
quotient_between h (pos a) (negsuc b) r n =
    let p = r.high in let q = div-le_self a (suc b) in let g = neg_is (pos (a / suc b)) in
    record { low = omega arith; high = omega arith }
quotient_between h (negsuc a) (pos b) r n =
    let p = r.low in let q = div-le_self (suc a) b in let g = neg_is (pos (suc a / b)) in
    record { low = omega arith; high = omega arith }
quotient_between h (negsuc a) (negsuc zero) r n =
    let p = r.low in
    let apart : suc a ≡ h → ⊥ = λ e. n (ap (λ k. neg_ℤ (pos k)) e) refl in
    let q = div-le_self (suc a) 1 in
    record { low = omega arith; high = omega arith }
quotient_between h (negsuc a) (negsuc (suc b)) r n =
    let p = r.low in
    let q = half_of (suc a) b h (omega arith) (omega arith) in
    record { low = omega arith; high = omega arith }

remainder_between : (h : ℕ) (x y : ℤ) → Between h x → Between h (int_rem x y)
remainder_between h (pos a) y r = let p = r.high in let q = mod-le a (unsigned_abs y) in record { low = omega arith; high = omega arith }
remainder_between h (negsuc a) y r =
    let p = r.low in let q = mod-le (suc a) (unsigned_abs y) in let g = neg_is (pos (suc a % unsigned_abs y)) in
    record { low = omega arith; high = omega arith }

shift_between : (h : ℕ) (x : ℤ) (m : ℕ) → Between h x → Between h (shr_z x m)
shift_between h (pos a) m r = let p = r.high in let q = div-le_self a m in record { low = omega arith; high = omega arith }
shift_between h (negsuc a) m r = let p = r.low in let q = div-le_self a m in record { low = omega arith; high = omega arith }

-- ---- what the machine has of them

wrapped-in_range : (kind : Kind) (z : ℤ) → IsKind kind → IsInRange kind z → wrapped kind z ≡ pattern_of z
unfolding wrapped
wrapped-in_range kind z k r = ap pattern_of (fit_same kind z k r)

number_of-in_range : (kind : Kind) (z : ℤ) → IsKind kind → IsInRange kind z → number_of kind (wrapped kind z) ≡ z
number_of-in_range kind z k r = number_of-wrapped kind z k ∙ fit_same kind z k r

signed_result : (kind : Kind) (q z : ℤ) (r : ℕ) → IsKind kind → kind.signed ≡ true → Between (2 ^ (kind.width - 1)) z → q ≡ z → r ≡ of_z w64 (to_z w64 (of_z w64 q)) → r ≡ wrapped kind z
signed_result kind q z r k s b e f =
    let fits = fits_between kind z k b in
    f ∙ ap (λ y. of_z w64 (to_z w64 (of_z w64 y))) e ∙ ap (of_z w64) (to_z-of_z w64 z fits) ∙ of_z-pattern_of z fits
    ∙ sym (wrapped-in_range kind z k (in_range_from kind z k s b))

unsigned_least : (kind : Kind) → kind.signed ≡ false → least kind ≡ pos 0
unfolding least
unsigned_least kind s = ap least (sign_is kind false s)

-- a pattern that is not above a value without sign is such a value
smaller : (kind : Kind) (a r : ℕ) → kind.signed ≡ false → IsValue kind a → r ≤ a → IsValue kind r
smaller kind a r s h l =
    let v = value_parts kind a h in
    let small = v.pattern in
    let n = number_of-unsigned kind a s in
    let m = number_of-unsigned kind r s in
    let low = v.range.0 in
    let high = v.range.1 in
    let bottom = unsigned_least kind s in
    value_from_parts kind r (record { of_kind = v.of_kind; pattern = omega arith; range = (omega (arith, ints), omega (arith, ints)) })

unsigned_result : (kind : Kind) (a r : ℕ) (z : ℤ) → kind.signed ≡ false → IsValue kind a → r ≤ a → z ≡ pos r → r ≡ wrapped kind z
unsigned_result kind a r z s h l e =
    sym (ap (wrapped kind) (e ∙ sym (number_of-unsigned kind r s)) ∙ wrapped-number_of kind r (smaller kind a r s h l))

smaller_in_range : (kind : Kind) (a r : ℕ) (z : ℤ) → kind.signed ≡ false → IsValue kind a → r ≤ a → z ≡ pos r → IsInRange kind z
smaller_in_range kind a r z s h l e =
    subst (λ x. IsInRange kind x) (number_of-unsigned kind r s ∙ sym e) (value_parts kind r (smaller kind a r s h l)).range

some_is : (t : Bool) (v : ℕ) → not t ≡ true → Some v ≡ cond t None (Some v)
some_is true v e = cc
some_is false v e = refl

none_is : (t : Bool) (v : ℕ) → not t ≡ false → None ≡ cond t None (Some v)
none_is true v e = refl
none_is false v e = cc

pub quotient_of-none : (kind : Kind) (a b : ℕ) → has_quotient kind a b ≡ false → None ≡ quotient_of kind a b
unfolding quotient_of
quotient_of-none kind a b e = none_is (is_zero_divisor kind b || is_overflow_divisor kind a b) (wrapped kind (int_div (number_of kind a) (number_of kind b))) e

pub remainder_of-none : (kind : Kind) (a b : ℕ) → has_quotient kind a b ≡ false → None ≡ remainder_of kind a b
unfolding remainder_of
remainder_of-none kind a b e = none_is (is_zero_divisor kind b || is_overflow_divisor kind a b) (wrapped kind (int_rem (number_of kind a) (number_of kind b))) e

signed_least : (kind : Kind) → kind.signed ≡ true → least kind ≡ neg_ℤ (pos (2 ^ (kind.width - 1)))
unfolding least
signed_least kind s = ap least (sign_is kind true s)

module _ (kind : Kind) (a b : ℕ) (left : IsValue kind a) (right : IsValue kind b) (divides : has_quotient kind a b ≡ true) where
  pub no_zero : number_of kind b ≡ pos 0 → ⊥
  no_zero e = (let f = (no_quotient-tells kind a b).1 (inl e) in cc)

  pub divisor_is_positive : 0 < b
  divisor_is_positive = ⊎_elim (λ h. h) (λ h. (let e : b ≡ 0 = omega arith in absurd (no_zero (ap (number_of kind) e ∙ number_of-zero kind)))) (cases_lt 0 b)

  no_overflow : kind.signed ≡ true → number_of kind a ≡ neg_ℤ (pos (2 ^ (kind.width - 1))) → number_of kind b ≡ negsuc 0 → ⊥
  no_overflow s e f = (let g = (no_quotient-tells kind a b).1 (inr (s, e ∙ sym (signed_least kind s), f)) in cc)

  of_kind : IsKind kind
  of_kind = (value_parts kind a left).of_kind

  quotient_range : kind.signed ≡ true → Between (2 ^ (kind.width - 1)) (int_div (number_of kind a) (number_of kind b))
  quotient_range s =
      quotient_between (2 ^ (kind.width - 1)) (number_of kind a) (number_of kind b)
      (between kind (number_of kind a) of_kind s (value_parts kind a left).range) (no_overflow s)

  remainder_range : kind.signed ≡ true → Between (2 ^ (kind.width - 1)) (int_rem (number_of kind a) (number_of kind b))
  remainder_range s =
      remainder_between (2 ^ (kind.width - 1)) (number_of kind a) (number_of kind b)
      (between kind (number_of kind a) of_kind s (value_parts kind a left).range)

  module _ (x y : ℤ) (s : kind.signed ≡ true) (e : x ≡ to_z w64 a) (f : y ≡ to_z w64 b) where
    x_is : to_z w64 (of_z w64 x) ≡ number_of kind a
    x_is = signed_operand kind a x s (value_parts kind a left).pattern e

    y_is : to_z w64 (of_z w64 y) ≡ number_of kind b
    y_is = signed_operand kind b y s (value_parts kind b right).pattern f

    same_quotient : int_div (to_z w64 (of_z w64 x)) (to_z w64 (of_z w64 y)) ≡ int_div (number_of kind a) (number_of kind b)
    same_quotient = ap (λ t. int_div t (to_z w64 (of_z w64 y))) x_is ∙ ap (int_div (number_of kind a)) y_is

    same_remainder : int_rem (to_z w64 (of_z w64 x)) (to_z w64 (of_z w64 y)) ≡ int_rem (number_of kind a) (number_of kind b)
    same_remainder = ap (λ t. int_rem t (to_z w64 (of_z w64 y))) x_is ∙ ap (int_rem (number_of kind a)) y_is

    pub can_divide : (0 < of_z w64 y) × FitsSigned w64 (int_div (to_z w64 (of_z w64 x)) (to_z w64 (of_z w64 y)))
    can_divide = (
      let back : of_z w64 y ≡ b = ap (of_z w64) f ∙ of_z-to_z w64 b (value_parts kind b right).pattern in
          let some = divisor_is_positive in omega arith,
      subst (FitsSigned w64) (sym same_quotient) (fits_between kind (int_div (number_of kind a) (number_of kind b)) of_kind (quotient_range s)),
    )

    pub signed_quotient : (r : ℕ) → r ≡ of_z w64 (to_z w64 (of_z w64 (int_div (to_z w64 (of_z w64 x)) (to_z w64 (of_z w64 y))))) → r ≡ wrapped kind (int_div (number_of kind a) (number_of kind b))
    signed_quotient r g = signed_result kind _ (int_div (number_of kind a) (number_of kind b)) r of_kind s (quotient_range s) same_quotient g

    pub signed_remainder : (r : ℕ) → r ≡ of_z w64 (to_z w64 (of_z w64 (int_rem (to_z w64 (of_z w64 x)) (to_z w64 (of_z w64 y))))) → r ≡ wrapped kind (int_rem (number_of kind a) (number_of kind b))
    signed_remainder r g = signed_result kind _ (int_rem (number_of kind a) (number_of kind b)) r of_kind s (remainder_range s) same_remainder g

  pub unsigned_quotient : kind.signed ≡ false → a / b ≡ wrapped kind (int_div (number_of kind a) (number_of kind b))
  unsigned_quotient s =
      unsigned_result kind a (a / b) (int_div (number_of kind a) (number_of kind b)) s left (div-le_self a b)
      (ap (λ t. int_div t (number_of kind b)) (number_of-unsigned kind a s) ∙ ap (int_div (pos a)) (number_of-unsigned kind b s))

  pub unsigned_remainder : kind.signed ≡ false → a % b ≡ wrapped kind (int_rem (number_of kind a) (number_of kind b))
  unsigned_remainder s =
      unsigned_result kind a (a % b) (int_rem (number_of kind a) (number_of kind b)) s left (mod-le a b)
      (ap (λ t. int_rem t (number_of kind b)) (number_of-unsigned kind a s) ∙ ap (int_rem (pos a)) (number_of-unsigned kind b s))

  -- without a sign a quotient and a remainder are not above the dividend
  quotient_in_range : IsInRange kind (int_div (number_of kind a) (number_of kind b))
  quotient_in_range =
      let z = int_div (number_of kind a) (number_of kind b) in
      ⊎_elim (λ s. in_range_from kind z of_kind s (quotient_range s))
      (λ s. smaller_in_range kind a (a / b) z s left (div-le_self a b)
      (ap (λ t. int_div t (number_of kind b)) (number_of-unsigned kind a s) ∙ ap (int_div (pos a)) (number_of-unsigned kind b s)))
      (true_or_false kind.signed)

  remainder_in_range : IsInRange kind (int_rem (number_of kind a) (number_of kind b))
  remainder_in_range =
      let z = int_rem (number_of kind a) (number_of kind b) in
      ⊎_elim (λ s. in_range_from kind z of_kind s (remainder_range s))
      (λ s. smaller_in_range kind a (a % b) z s left (mod-le a b)
      (ap (λ t. int_rem t (number_of kind b)) (number_of-unsigned kind a s) ∙ ap (int_rem (pos a)) (number_of-unsigned kind b s)))
      (true_or_false kind.signed)

  pub number_of-quotient : number_of kind (wrapped kind (int_div (number_of kind a) (number_of kind b))) ≡ int_div (number_of kind a) (number_of kind b)
  number_of-quotient = number_of-in_range kind (int_div (number_of kind a) (number_of kind b)) of_kind quotient_in_range

  pub number_of-remainder : number_of kind (wrapped kind (int_rem (number_of kind a) (number_of kind b))) ≡ int_rem (number_of kind a) (number_of kind b)
  number_of-remainder = number_of-in_range kind (int_rem (number_of kind a) (number_of kind b)) of_kind remainder_in_range

  pub quotient_of-some : Some (wrapped kind (int_div (number_of kind a) (number_of kind b))) ≡ quotient_of kind a b
  unfolding quotient_of
  quotient_of-some = some_is (is_zero_divisor kind b || is_overflow_divisor kind a b) (wrapped kind (int_div (number_of kind a) (number_of kind b))) divides

  pub remainder_of-some : Some (wrapped kind (int_rem (number_of kind a) (number_of kind b))) ≡ remainder_of kind a b
  unfolding remainder_of
  remainder_of-some = some_is (is_zero_divisor kind b || is_overflow_divisor kind a b) (wrapped kind (int_rem (number_of kind a) (number_of kind b))) divides

-- ---- shifts

module _ (kind : Kind) (a : ℕ) (left : IsValue kind a) (k : ℕ) where
  shifted_kind : IsKind kind
  shifted_kind = (value_parts kind a left).of_kind

  shift_range : kind.signed ≡ true → Between (2 ^ (kind.width - 1)) (int_shr (number_of kind a) k)
  shift_range s =
      shift_between (2 ^ (kind.width - 1)) (number_of kind a) (2 ^ k)
      (between kind (number_of kind a) shifted_kind s (value_parts kind a left).range)

  unsigned_shift_is : kind.signed ≡ false → int_shr (number_of kind a) k ≡ pos (a / 2 ^ k)
  unsigned_shift_is s = ap (λ t. int_shr t k) (number_of-unsigned kind a s)

  pub signed_shift : (x : ℤ) (r : ℕ) → kind.signed ≡ true → x ≡ to_z w64 a → r ≡ of_z w64 (to_z w64 (of_z w64 (shr_z (to_z w64 (of_z w64 x)) (2 ^ k)))) → r ≡ wrapped kind (int_shr (number_of kind a) k)
  signed_shift x r s e f =
      signed_result kind _ (int_shr (number_of kind a) k) r shifted_kind s (shift_range s)
      (ap (λ t. shr_z t (2 ^ k)) (signed_operand kind a x s (value_parts kind a left).pattern e)) f

  pub unsigned_shift : kind.signed ≡ false → a / 2 ^ k ≡ wrapped kind (int_shr (number_of kind a) k)
  unsigned_shift s = unsigned_result kind a (a / 2 ^ k) (int_shr (number_of kind a) k) s left (div-le_self a (2 ^ k)) (unsigned_shift_is s)

  shift_in_range : IsInRange kind (int_shr (number_of kind a) k)
  shift_in_range =
      let z = int_shr (number_of kind a) k in
      ⊎_elim (λ s. in_range_from kind z shifted_kind s (shift_range s))
      (λ s. smaller_in_range kind a (a / 2 ^ k) z s left (div-le_self a (2 ^ k)) (unsigned_shift_is s))
      (true_or_false kind.signed)

  pub number_of-shift : number_of kind (wrapped kind (int_shr (number_of kind a) k)) ≡ int_shr (number_of kind a) k
  number_of-shift = number_of-in_range kind (int_shr (number_of kind a) k) shifted_kind shift_in_range

-- an amount from 0 to the width less 1 is its own pattern
amount_test : (s : Bool) (p w : ℕ) → w ≤ 64 → p < 2 ^ 64 → (p < w → (pos 0 ≤ℤ reading s 64 p) × (reading s 64 p <ℤ pos w)) × ((pos 0 ≤ℤ reading s 64 p) × (reading s 64 p <ℤ pos w) → p < w) × (p < w → reading s 64 p ≡ pos p)
amount_test false p w h l = (λ g. (omega (arith, ints), omega (arith, ints)), λ g. (let a = g.0 in let b = g.1 in omega (arith, ints)), λ g. refl)
amount_test true p w h l =
    ⊎_elim
    (λ c. let low = c.0 in let is = c.1 in
    (λ g. (omega (arith, ints), omega (arith, ints)), λ g. (let a = g.0 in let b = g.1 in omega (arith, ints)), λ g. is))
    (λ c. let high = c.0 in let is = c.1 in
    (λ g. absurd (omega arith), λ g. (let a = g.0 in let b = g.1 in omega (arith, ints)), λ g. absurd (omega arith)))
    (twos_cases 64 p)

module _ (kind amount_kind : Kind) (amount : ℕ) (k : IsKind kind) (h : amount < 2 ^ 64) where
  amount_is : (amount < kind.width → IsShiftAmount kind amount_kind amount) × (IsShiftAmount kind amount_kind amount → amount < kind.width) × (amount < kind.width → number_of amount_kind amount ≡ pos amount)
  unfolding number_of
  amount_is = amount_test amount_kind.signed amount kind.width (width_below kind k) h

  pub is_shift_amount-tells : IsTrue (is_shift_amount kind amount_kind amount) ↔ IsShiftAmount kind amount_kind amount
  unfolding is_shift_amount
  is_shift_amount-tells =
      let n = number_of amount_kind amount in (
        λ t. (
          le_is (pos 0) n (and_left (int_le (pos 0) n) (int_lt n (pos kind.width)) t),
          lt_is n (pos kind.width) (and_right (int_le (pos 0) n) (int_lt n (pos kind.width)) t),
        ),
        λ t. and_both (int_le (pos 0) n) (int_lt n (pos kind.width)) (le_test (pos 0) n t.0) (lt_test n (pos kind.width) t.1),
      )

  pub shift_amount-machine : nat_lt amount kind.width ≡ is_shift_amount kind amount_kind amount
  shift_amount-machine =
      let t = is_shift_amount-tells in
      same_from_decides {P = amount < kind.width} (nat_lt amount kind.width) (is_shift_amount kind amount_kind amount) (Decides-ltb amount kind.width)
      (Decides-like (is_shift_amount kind amount_kind amount) amount_is.1 amount_is.0 (t.0, t.1))

  pub amount_below : is_shift_amount kind amount_kind amount ≡ true → amount < kind.width
  amount_below e = amount_is.1 (is_shift_amount-tells.0 e)

  pub amount_number : is_shift_amount kind amount_kind amount ≡ true → number_of amount_kind amount ≡ pos amount
  amount_number e = amount_is.2 (amount_below e)

shift_some : (t : Bool) (v : ℕ) → t ≡ true → Some v ≡ cond t (Some v) None
shift_some true v e = refl
shift_some false v e = cc

shift_none : (t : Bool) (v : ℕ) → t ≡ false → None ≡ cond t (Some v) None
shift_none true v e = cc
shift_none false v e = refl

module _ (kind : Kind) (a : ℕ) (amount_kind : Kind) (amount : ℕ) where
  pub left_shift_of-some : is_shift_amount kind amount_kind amount ≡ true → Some (wrapped kind (number_of kind a *ℤ pos (2 ^ amount))) ≡ left_shift_of kind a amount_kind amount
  unfolding left_shift_of
  left_shift_of-some e = shift_some (is_shift_amount kind amount_kind amount) (wrapped kind (number_of kind a *ℤ pos (2 ^ amount))) e

  pub left_shift_of-none : is_shift_amount kind amount_kind amount ≡ false → None ≡ left_shift_of kind a amount_kind amount
  unfolding left_shift_of
  left_shift_of-none e = shift_none (is_shift_amount kind amount_kind amount) (wrapped kind (number_of kind a *ℤ pos (2 ^ amount))) e

  pub right_shift_of-some : is_shift_amount kind amount_kind amount ≡ true → Some (wrapped kind (int_shr (number_of kind a) amount)) ≡ right_shift_of kind a amount_kind amount
  unfolding right_shift_of
  right_shift_of-some e = shift_some (is_shift_amount kind amount_kind amount) (wrapped kind (int_shr (number_of kind a) amount)) e

  pub right_shift_of-none : is_shift_amount kind amount_kind amount ≡ false → None ≡ right_shift_of kind a amount_kind amount
  unfolding right_shift_of
  right_shift_of-none e = shift_none (is_shift_amount kind amount_kind amount) (wrapped kind (int_shr (number_of kind a) amount)) e
