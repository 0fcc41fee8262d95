-- Which patterns are indexes of an array's elements.
use Rattle.std.proofs.Common.{◌≡◌, ℕ, ◌^◌, ◌<◌, ◌≤◌, Bool, true, false, ℤ, pos, ◌-ℤ◌, refl, ⊎_elim, arith}
use Rattle.std.specs.Prelude.{◌↔◌, ◌&&◌, int_le, int_lt, IsTrue}
use Rattle.std.proofs.lemmas.Int.{ints}
use Rattle.c_values.specs.Kind.{number_of, reading, twos_complement}
use Rattle.c_values.proofs.Fitting.{and_left, and_right, and_both, le_is, le_test, lt_is, lt_test, twos_cases, value_parts}
use Rattle.cfa.specs.Laws.{IndexesOfElements}

module _ (length i : ℕ) (n : ℤ) where
  abbrev between : Bool
  between = int_le (pos 0) n && int_lt n (pos length)

  from_zero : n ≡ pos i → IsTrue between ↔ (i < length)
  from_zero e = (
    λ t. let below = lt_is n (pos length) (and_right (int_le (pos 0) n) (int_lt n (pos length)) t) in omega (arith, ints),
    λ h. and_both (int_le (pos 0) n) (int_lt n (pos length)) (le_test (pos 0) n (omega (arith, ints))) (lt_test n (pos length) (omega (arith, ints))),
  )

  below_zero : length ≤ 2 ^ 63 → 2 ^ 63 ≤ i → i < 2 ^ 64 → n ≡ pos i -ℤ pos (2 ^ 64) → IsTrue between ↔ (i < length)
  below_zero small high most e = (
    λ t. absurd (let above = le_is (pos 0) n (and_left (int_le (pos 0) n) (int_lt n (pos length)) t) in omega (arith, ints)),
    λ h. absurd (omega arith),
  )

by_sign : (signed : Bool) (length i : ℕ) → length ≤ 2 ^ 63 → i < 2 ^ 64 → IsTrue (between length i (reading signed 64 i)) ↔ (i < length)
by_sign false length i small most = from_zero length i (pos i) refl
by_sign true length i small most =
    ⊎_elim (λ low. from_zero length i (twos_complement 64 i) low.1) (λ high. below_zero length i (twos_complement 64 i) small high.0 most high.1) (twos_cases 64 i)

pub indexes_of_elements : IndexesOfElements
unfolding number_of
indexes_of_elements length i kind small value = by_sign kind.signed length i small (value_parts kind i value).pattern
