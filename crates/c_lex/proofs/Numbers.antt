-- Numbers that no kind holds.
use Rattle.std.proofs.Common.{◌≡◌, ℕ, zero, suc, ◌-◌, ◌≤◌, ◌<◌, ◌^◌, refl, sym, ◌∙◌, Bool, true, false, List, length, arith}
use Rattle.std.specs.Prelude.{None, nat_le, nat_lt, int_le, neg_ℤ, pos}
use Rattle.std.proofs.lemmas.Bool.{lt-leb, le-leb, ltb-true, ltb-false}
use Rattle.std.proofs.lemmas.Nat.{pow_pos}
use Rattle.std.proofs.lemmas.List.Sums.{prefix_len-le-length}
use Rattle.std.specs.List.{prefix_len}
use Rattle.c_values.specs.declared.kinds.Kind.{Kind}
use Rattle.c_values.specs.Kind.{least, greatest, is_in_range}
use Rattle.c_lex.specs.declared.constant.Suffix.{Suffix}
use Rattle.c_lex.specs.declared.constant.Base.{Base}
use Rattle.c_lex.specs.declared.constant.Base.TheVariants.{Decimal, Octal, Hexadecimal}
use Rattle.c_lex.specs.Constants.{kind_of_number}

module _ (n : ℕ) (wide : 2 ^ 64 ≤ n) where
  no_int : nat_le n 2147483647 ≡ false
  no_int = lt-leb n 2147483647 (omega arith)

  no_unsigned_int : nat_le n 4294967295 ≡ false
  no_unsigned_int = lt-leb n 4294967295 (omega arith)

  no_long : nat_le n 9223372036854775807 ≡ false
  no_long = lt-leb n 9223372036854775807 (omega arith)

  no_unsigned_long : nat_le n 18446744073709551615 ≡ false
  no_unsigned_long = lt-leb n 18446744073709551615 (omega arith)

  some : nat_le 0 n ≡ true
  some = le-leb 0 n (omega arith)

  no_kind_of : (base : Base) (unsigned long : Bool) → kind_of_number base (record { unsigned = unsigned; long = long }) n ≡ None
  unfolding kind_of_number least greatest
  no_kind_of Decimal true true = simp (some, no_unsigned_long)
  no_kind_of Octal true true = simp (some, no_unsigned_long)
  no_kind_of Hexadecimal true true = simp (some, no_unsigned_long)
  no_kind_of Decimal true false = simp (some, no_unsigned_int, no_unsigned_long)
  no_kind_of Octal true false = simp (some, no_unsigned_int, no_unsigned_long)
  no_kind_of Hexadecimal true false = simp (some, no_unsigned_int, no_unsigned_long)
  no_kind_of Decimal false true = simp (some, no_long)
  no_kind_of Octal false true = simp (some, no_long, no_unsigned_long)
  no_kind_of Hexadecimal false true = simp (some, no_long, no_unsigned_long)
  no_kind_of Decimal false false = simp (some, no_int, no_long)
  no_kind_of Octal false false = simp (some, no_int, no_unsigned_int, no_long, no_unsigned_long)
  no_kind_of Hexadecimal false false = simp (some, no_int, no_unsigned_int, no_long, no_unsigned_long)

pub no_kind : (base : Base) (suffix : Suffix) (n : ℕ) → 2 ^ 64 ≤ n → kind_of_number base suffix n ≡ None
no_kind base suffix n wide = no_kind_of n wide base suffix.unsigned suffix.long

pub prefix_within : (p : ℕ → Bool) (xs : List ℕ) → prefix_len p xs ≤ length xs
prefix_within p xs = prefix_len-le-length p xs

-- ---- ranges

not_below : (k n : ℕ) → int_le (neg_ℤ (pos k)) (pos n) ≡ true
not_below zero n = le-leb 0 n (omega arith)
not_below (suc k) n = refl

below_limit : (n m : ℕ) → 0 < m → nat_lt n m ≡ nat_le n (m - 1)
below_limit n m some = by (nat_lt n m) refl
  where
    by : (b : Bool) → nat_lt n m ≡ b → nat_lt n m ≡ nat_le n (m - 1)
    by true e = let l = ltb-true n m e in e ∙ sym (le-leb n (m - 1) (omega arith))
    by false e = let l = ltb-false n m e in e ∙ sym (lt-leb n (m - 1) (omega arith))

pub bits_of : Bool → ℕ → ℕ
bits_of true width = width - 1
bits_of false width = width

range_is : (signed : Bool) (width n : ℕ) → nat_lt n (2 ^ bits_of signed width) ≡ is_in_range (record { width = width; signed = signed }) (pos n)
unfolding least greatest bits_of
range_is true width n = rw (not_below (2 ^ (width - 1)) n) (below_limit n (2 ^ (width - 1)) (pow_pos (width - 1)))
range_is false width n = rw (le-leb 0 n (omega arith)) (below_limit n (2 ^ width) (pow_pos width))

module _ (kind : Kind) (n bits : ℕ) (same : bits ≡ bits_of kind.signed kind.width) where
  pub in_range : (limit : ℕ) → limit ≡ 2 ^ bits → nat_lt n limit ≡ is_in_range kind (pos n)
  in_range limit e = rw (e, same) (range_is kind.signed kind.width n)

  pub in_wide_range : n < 2 ^ 64 → (2 ^ bits < 2 ^ 64 → ⊥) → true ≡ is_in_range kind (pos n)
  in_wide_range fits wide = by (nat_lt n (2 ^ bits)) refl ∙ in_range (2 ^ bits) refl
    where
      by : (b : Bool) → nat_lt n (2 ^ bits) ≡ b → true ≡ nat_lt n (2 ^ bits)
      by true e = sym e
      by false e = let l = ltb-false n (2 ^ bits) e in absurd (wide (omega arith))

pub signed_bits : (kind : Kind) (bits less : ℕ) → kind.signed ≡ true → bits ≡ less → less ≡ kind.width - 1 → bits ≡ bits_of kind.signed kind.width
unfolding bits_of
signed_bits kind bits less s e f = rw s (e ∙ f)

pub unsigned_bits : (kind : Kind) (bits : ℕ) → kind.signed ≡ false → bits ≡ kind.width → bits ≡ bits_of kind.signed kind.width
unfolding bits_of
unsigned_bits kind bits s e = rw s e
