-- Sums and products as they are counted.
use Rattle.std.proofs.Common.{◌≡◌, ℕ, ◌+◌, refl, arith}
use Rattle.unwinder_reach.specs.unwinding_size.Capped.{capped}

pub capped-zero : capped 0 ≡ 0
unfolding capped
capped-zero = refl

pub capped-sum : (a b : ℕ) → capped (capped a + capped b) ≡ capped (a + b)
unfolding capped
capped-sum a b = omega arith

pub capped-sum_left : (a b : ℕ) → capped (capped a + b) ≡ capped (a + b)
unfolding capped
capped-sum_left a b = omega arith

pub capped-sums : (l m n a b c ab abc : ℕ) → a ≡ capped l → b ≡ capped m → c ≡ capped n → ab ≡ capped (a + b) → abc ≡ capped (ab + c) → abc ≡ capped (l + m + n)
unfolding capped
capped-sums l m n a b c ab abc h i j k o = omega arith

pub ruleset capped_sums = (capped-sum, capped-sum_left, capped-zero)
