-- Numbers of bits.
use Rattle.std.proofs.Common.{ℕ, ◌^◌, ◌<◌, ◌≤◌, List, [], ◌∷◌, zero, suc, length, arith}
use Rattle.std.specs.Prelude.{Bool, true, false}
use Rattle.std.proofs.Math.Nat.{pow-suc}
use Rattle.path_runner.specs.Masks.{bit, number_of_bits}

bit_few : (b : Bool) → bit b ≤ 1
bit_few true = omega arith
bit_few false = omega arith

two_pow : (n : ℕ) → 0 < 2 ^ n
two_pow zero = omega arith
two_pow (suc n) = let h = two_pow n in omega (arith, pow-suc 2 n)

-- so many bits make a number below that power of two
pub bits_few : (bs : List Bool) (n : ℕ) → length bs ≤ n → number_of_bits bs < 2 ^ n
bits_few [] n h = two_pow n
bits_few (b ∷ bs) zero h = absurd (omega (arith, h))
bits_few (b ∷ bs) (suc n) h =
    let rest = bits_few bs n (omega (arith, h)) in
    let low = bit_few b in
    omega (arith, pow-suc 2 n)
