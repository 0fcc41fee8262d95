-- Sums, differences, products and negatives: what the machine's operations on 64 bits have of them.
use Rattle.std.proofs.Common.{◌≡◌, ℕ, ◌+◌, ◌-◌, ◌*◌, ◌%◌, ◌^◌, ◌<◌, ℤ, pos, ◌+ℤ◌, ◌-ℤ◌, ◌*ℤ◌, neg_ℤ, false, refl, sym, ap, subst, ◌∙◌, arith}
use Rattle.std.specs.Prelude.{◌==◌, ◌&&◌, nat_lt}
use Rattle.std.proofs.lemmas.Bool.Decides.{same_from_decides, Decides-eqb, Decides-like}
use Rattle.std.proofs.lemmas.Int.{ints}
use lib.IntN.{*ℤ_comm, +ℤ_idl}
use native.Mathlib.Nat.{mul_comm}
use Rattle.c_values.specs.declared.kinds.Kind.{Kind}
use Rattle.c_values.specs.Kind.{is_kind, IsKind, is_value, IsValue, is_in_range, number_of, residue, pattern_of, fit, wrapped}
use Rattle.c_values.specs.Operations.{sum_of, difference_of, product_of, negative_of}
use Rattle.c_values.proofs.Residues.{apart, residue_is, residue-add, residue-sub, residue-mul_left}
use Rattle.c_values.proofs.Fitting.{value_parts, pattern_of-number_of, wrapped-pattern_of, IsValue-wrapped, number_of-wrapped, wrapped-number_of}

-- the kind's part of a number, from the number's 64 bits
pub wrapped-from : (kind : Kind) (z : ℤ) (x : ℕ) → IsKind kind → pattern_of z ≡ x → wrapped kind (pos x) ≡ wrapped kind z
wrapped-from kind z x k e = ap (λ n. wrapped kind (pos n)) (sym e) ∙ wrapped-pattern_of kind z k

-- a value's number and its pattern differ by a multiple of 2 ^ 64
record Differs (kind : Kind) (p : ℕ) : Type 0 where
  below : ℕ
  above : ℕ
  is : number_of kind p +ℤ pos (below * 2 ^ 64) ≡ pos p +ℤ pos (above * 2 ^ 64)

differs : (kind : Kind) (p : ℕ) → p < 2 ^ 64 → Differs kind p
unfolding pattern_of
differs kind p h =
    let a = apart (number_of kind p) (2 ^ 64) (omega arith) in
    record { below = a.below; above = a.above; is = a.is ∙ ap (λ n. pos n +ℤ pos (a.above * 2 ^ 64)) (pattern_of-number_of kind p h) }

pattern_of-sum : (kind : Kind) (a b : ℕ) → a < 2 ^ 64 → b < 2 ^ 64 → pattern_of (number_of kind a +ℤ number_of kind b) ≡ (a + b) % 2 ^ 64
unfolding pattern_of residue
pattern_of-sum kind a b h k =
    let d = differs kind a h in
    let e = differs kind b k in
    residue-add (number_of kind a) (number_of kind b) (pos a) (pos b) (2 ^ 64) d.below d.above e.below e.above (omega arith) d.is e.is

pattern_of-difference : (kind : Kind) (a b : ℕ) → a < 2 ^ 64 → b < 2 ^ 64 → pattern_of (number_of kind a -ℤ number_of kind b) ≡ (a + (2 ^ 64 - b)) % 2 ^ 64
unfolding pattern_of
pattern_of-difference kind a b h k =
    let d = differs kind a h in
    let e = differs kind b k in
    residue-sub (number_of kind a) (number_of kind b) (pos a) (pos b) (2 ^ 64) d.below d.above e.below e.above (omega arith) d.is e.is
    ∙ residue_is (pos a -ℤ pos b) (2 ^ 64) 1 (a + (2 ^ 64 - b)) (omega arith) (omega (arith, ints))

pattern_of-product : (kind : Kind) (a b : ℕ) → a < 2 ^ 64 → b < 2 ^ 64 → pattern_of (number_of kind a *ℤ number_of kind b) ≡ a * b % 2 ^ 64
unfolding pattern_of residue
pattern_of-product kind a b h k =
    let d = differs kind a h in
    let e = differs kind b k in
    residue-mul_left (number_of kind a) (pos a) (number_of kind b) (2 ^ 64) d.below d.above (omega arith) d.is
    ∙ ap (λ z. residue z (2 ^ 64)) (*ℤ_comm (pos a) (number_of kind b))
    ∙ residue-mul_left (number_of kind b) (pos b) (pos a) (2 ^ 64) e.below e.above (omega arith) e.is
    ∙ ap (λ n. n % 2 ^ 64) (mul_comm b a)

pub pattern_of-scaled : (kind : Kind) (a n : ℕ) → a < 2 ^ 64 → pattern_of (number_of kind a *ℤ pos n) ≡ a * n % 2 ^ 64
unfolding pattern_of residue
pattern_of-scaled kind a n h =
    let d = differs kind a h in
    residue-mul_left (number_of kind a) (pos a) (pos n) (2 ^ 64) d.below d.above (omega arith) d.is

zero_minus : (z : ℤ) → pos 0 -ℤ z ≡ neg_ℤ z
zero_minus z = +ℤ_idl (neg_ℤ z)

pattern_of-negative : (kind : Kind) (a : ℕ) → a < 2 ^ 64 → pattern_of (neg_ℤ (number_of kind a)) ≡ (0 + (2 ^ 64 - a)) % 2 ^ 64
unfolding pattern_of
pattern_of-negative kind a h =
    let e = differs kind a h in
    ap (λ z. residue z (2 ^ 64)) (sym (zero_minus (number_of kind a)))
    ∙ residue-sub (pos 0) (number_of kind a) (pos 0) (pos a) (2 ^ 64) 0 0 e.below e.above (omega arith) refl e.is
    ∙ residue_is (pos 0 -ℤ pos a) (2 ^ 64) 1 (0 + (2 ^ 64 - a)) (omega arith) (omega (arith, ints))

-- ---- what each operation gives is a value of the kind, and the fit of the operation's number

pub kind_of : (kind : Kind) (p : ℕ) → IsValue kind p → IsKind kind
kind_of kind p h = (value_parts kind p h).of_kind

module _ (kind : Kind) (a b : ℕ) (left : IsValue kind a) (right : IsValue kind b) where
  pub sum_of-machine : wrapped kind (pos ((a + b) % 2 ^ 64)) ≡ sum_of kind a b
  unfolding sum_of
  sum_of-machine =
      wrapped-from kind (number_of kind a +ℤ number_of kind b) ((a + b) % 2 ^ 64) (kind_of kind a left)
      (pattern_of-sum kind a b (value_parts kind a left).pattern (value_parts kind b right).pattern)

  pub difference_of-machine : wrapped kind (pos ((a + (2 ^ 64 - b)) % 2 ^ 64)) ≡ difference_of kind a b
  unfolding difference_of
  difference_of-machine =
      wrapped-from kind (number_of kind a -ℤ number_of kind b) ((a + (2 ^ 64 - b)) % 2 ^ 64) (kind_of kind a left)
      (pattern_of-difference kind a b (value_parts kind a left).pattern (value_parts kind b right).pattern)

  pub product_of-machine : wrapped kind (pos (a * b % 2 ^ 64)) ≡ product_of kind a b
  unfolding product_of
  product_of-machine =
      wrapped-from kind (number_of kind a *ℤ number_of kind b) (a * b % 2 ^ 64) (kind_of kind a left)
      (pattern_of-product kind a b (value_parts kind a left).pattern (value_parts kind b right).pattern)

pub negative_of-machine : (kind : Kind) (a : ℕ) → IsValue kind a → wrapped kind (pos ((0 + (2 ^ 64 - a)) % 2 ^ 64)) ≡ negative_of kind a
unfolding negative_of
negative_of-machine kind a h =
    wrapped-from kind (neg_ℤ (number_of kind a)) ((0 + (2 ^ 64 - a)) % 2 ^ 64) (kind_of kind a h)
    (pattern_of-negative kind a (value_parts kind a h).pattern)

module _ (kind : Kind) (a b : ℕ) (k : IsKind kind) where
  pub IsValue-sum_of : IsValue kind (sum_of kind a b)
  unfolding sum_of
  IsValue-sum_of = IsValue-wrapped kind (number_of kind a +ℤ number_of kind b) k

  pub number_of-sum_of : number_of kind (sum_of kind a b) ≡ fit kind (number_of kind a +ℤ number_of kind b)
  unfolding sum_of
  number_of-sum_of = number_of-wrapped kind (number_of kind a +ℤ number_of kind b) k

  pub IsValue-difference_of : IsValue kind (difference_of kind a b)
  unfolding difference_of
  IsValue-difference_of = IsValue-wrapped kind (number_of kind a -ℤ number_of kind b) k

  pub number_of-difference_of : number_of kind (difference_of kind a b) ≡ fit kind (number_of kind a -ℤ number_of kind b)
  unfolding difference_of
  number_of-difference_of = number_of-wrapped kind (number_of kind a -ℤ number_of kind b) k

  pub IsValue-product_of : IsValue kind (product_of kind a b)
  unfolding product_of
  IsValue-product_of = IsValue-wrapped kind (number_of kind a *ℤ number_of kind b) k

  pub number_of-product_of : number_of kind (product_of kind a b) ≡ fit kind (number_of kind a *ℤ number_of kind b)
  unfolding product_of
  number_of-product_of = number_of-wrapped kind (number_of kind a *ℤ number_of kind b) k

module _ (kind : Kind) (a : ℕ) (k : IsKind kind) where
  pub IsValue-negative_of : IsValue kind (negative_of kind a)
  unfolding negative_of
  IsValue-negative_of = IsValue-wrapped kind (neg_ℤ (number_of kind a)) k

  pub number_of-negative_of : number_of kind (negative_of kind a) ≡ fit kind (neg_ℤ (number_of kind a))
  unfolding negative_of
  number_of-negative_of = number_of-wrapped kind (neg_ℤ (number_of kind a)) k

-- ---- values

pub not_value : (kind : Kind) (v : ℕ) → is_kind kind ≡ false → false ≡ is_value kind v
unfolding is_value
not_value kind v e = sym (ap (λ t. t && nat_lt v (2 ^ 64) && is_in_range kind (number_of kind v)) e)

pub is_value-machine : (kind : Kind) (v : ℕ) → IsKind kind → v < 2 ^ 64 → (wrapped kind (pos v) == v) ≡ is_value kind v
is_value-machine kind v k h =
    let one : wrapped kind (pos v) ≡ v → IsValue kind v = λ e. subst (IsValue kind) e (IsValue-wrapped kind (pos v) k) in
    let other : IsValue kind v → wrapped kind (pos v) ≡ v =
    λ i. wrapped-from kind (number_of kind v) v k (pattern_of-number_of kind v h) ∙ wrapped-number_of kind v i in
    same_from_decides {P = IsValue kind v} (wrapped kind (pos v) == v) (is_value kind v)
    (Decides-like (wrapped kind (pos v) == v) one other (Decides-eqb (wrapped kind (pos v)) v)) (λ e. e, λ e. e)
