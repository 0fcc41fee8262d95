-- Counts that stop at a greatest number.
use Rattle.std.proofs.Common.{◌≡◌, ℕ, ◌+◌, ◌*◌, min, List, [], ◌∷◌, refl, ap, ◌∙◌, arith}
use Rattle.std.proofs.Math.Nat.{mul_comm}
use Rattle.patterns.proofs.Capped.{capped_mul}
use Rattle.goals.specs.Counts.{one_of}

-- a product of two counts that stop stops, too
pub capped_product : (a b m : ℕ) → min (min a m * min b m) m ≡ min (a * b) m
capped_product a b m =
    capped_mul a (min b m) m ∙ ap (λ v. min v m) (mul_comm a (min b m)) ∙ capped_mul b a m ∙ ap (λ v. min v m) (mul_comm b a)

pub capped_right : (a b m : ℕ) → min (a * min b m) m ≡ min (a * b) m
capped_right a b m = ap (λ v. min v m) (mul_comm a (min b m)) ∙ capped_mul b a m ∙ ap (λ v. min v m) (mul_comm b a)

-- a count where there is one
pub capped_one : (ns : List ℕ) (a m : ℕ) → one_of ns (min a m) ≡ min (one_of ns a) m
capped_one [] a m = omega arith
capped_one (n ∷ ns) a m = refl

-- one more than twice a count that stops
pub capped_more : (a m : ℕ) → min (min (a * 2) m + 1) m ≡ min (2 * a + 1) m
capped_more a m = omega arith
