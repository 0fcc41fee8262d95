-- The residue of a whole number: what it is from any number that differs by a multiple, and that of sums and products.
use Rattle.std.proofs.Common.{◌≡◌, ℕ, ◌+◌, ◌-◌, ◌*◌, ◌/◌, ◌%◌, ◌<◌, ◌≤◌, ℤ, pos, negsuc, ◌+ℤ◌, ◌-ℤ◌, ◌*ℤ◌, refl, sym, ap, ◌∙◌, arith}
use Rattle.std.specs.Prelude.{unsigned_abs}
use Rattle.std.specs.Int.{int_rem_euclid}
use Rattle.std.proofs.lemmas.Int.{ints, int_rem_euclid_is}
use borrow.Author.Differences.{up, down, same_in, same_out, sum_is_lem, neg_is, product_is}
use native.Mathlib.Nat.{mul-le-mul_left, div-add-mod'}
use Rattle.c_values.specs.Kind.{residue}

-- z plus k times m is the natural n
pub residue_is : (z : ℤ) (m k n : ℕ) → 0 < m → z +ℤ pos (k * m) ≡ pos n → residue z m ≡ n % m
unfolding residue
residue_is z m k n p e = is z ∙ ap unsigned_abs (int_rem_euclid_is z (pos m) m k n p refl e)
  where
    is : (z : ℤ) → residue z m ≡ unsigned_abs (int_rem_euclid z (pos m))
    is (pos a) = refl
    is (negsuc a) = refl

-- how many times m lifts z to a natural
pub record Lifted (z : ℤ) (m : ℕ) : Type 0 where
  pub times : ℕ
  pub natural : ℕ
  pub is : z +ℤ pos (times * m) ≡ pos natural

pub lifted : (z : ℤ) (m : ℕ) → 0 < m → Lifted z m
lifted z m p =
    let far : down z * 1 ≤ down z * m = mul-le-mul_left (down z) p in
    record { times = down z; natural = up z + down z * m - down z; is = omega (arith, ints) }

-- z and y differ by a multiple of m
pub same_residue : (y z : ℤ) (m j k : ℕ) → 0 < m → y +ℤ pos (j * m) ≡ z +ℤ pos (k * m) → residue y m ≡ residue z m
same_residue y z m j k p e =
    let l = lifted y m p in
    let h = l.is in
    residue_is y m (l.times + j) (l.natural + j * m) p (omega (arith, same_in, same_out, sum_is_lem))
    ∙ sym (residue_is z m (l.times + k) (l.natural + j * m) p (omega (arith, same_in, same_out, sum_is_lem)))

-- the multiples cancel at each operation
pub residue-add : (a b c d : ℤ) (m j k u v : ℕ) → 0 < m → a +ℤ pos (j * m) ≡ c +ℤ pos (k * m) → b +ℤ pos (u * m) ≡ d +ℤ pos (v * m) → residue (a +ℤ b) m ≡ residue (c +ℤ d) m
residue-add a b c d m j k u v p e f = same_residue (a +ℤ b) (c +ℤ d) m (j + u) (k + v) p (omega (arith, same_in, same_out, sum_is_lem))

pub residue-sub : (a b c d : ℤ) (m j k u v : ℕ) → 0 < m → a +ℤ pos (j * m) ≡ c +ℤ pos (k * m) → b +ℤ pos (u * m) ≡ d +ℤ pos (v * m) → residue (a -ℤ b) m ≡ residue (c -ℤ d) m
residue-sub a b c d m j k u v p e f = same_residue (a -ℤ b) (c -ℤ d) m (j + v) (k + u) p (omega (arith, same_in, same_out, sum_is_lem, neg_is))

-- one factor at a time
pub residue-mul_left : (a b c : ℤ) (m j k : ℕ) → 0 < m → a +ℤ pos (j * m) ≡ b +ℤ pos (k * m) → residue (a *ℤ c) m ≡ residue (b *ℤ c) m
residue-mul_left a b c m j k p e =
    let sum : up a + j * m + down b ≡ up b + k * m + down a = omega (arith, same_out, sum_is_lem) in
    let above = ap (λ x. x * up c) sum in
    let below = ap (λ x. x * down c) sum in
    same_residue (a *ℤ c) (b *ℤ c) m (j * up c + k * down c) (k * up c + j * down c) p (omega (arith, same_in, sum_is_lem, product_is))

-- a number and its residue differ by a multiple
pub record Apart (z : ℤ) (m : ℕ) : Type 0 where
  pub below : ℕ
  pub above : ℕ
  pub is : z +ℤ pos (below * m) ≡ pos (residue z m) +ℤ pos (above * m)

pub apart : (z : ℤ) (m : ℕ) → 0 < m → Apart z m
apart z m p =
    let l = lifted z m p in
    let e = residue_is z m l.times l.natural p l.is in
    let split = div-add-mod' l.natural m in
    let h = l.is in
    record { below = l.times; above = l.natural / m; is = omega (arith, same_in, same_out, sum_is_lem) }
