-- Numbers that stop at a largest one.
use Rattle.std.proofs.Common.{mul-suc, mul-zero, ◌≡◌, ℕ, zero, suc, ◌+◌, ◌*◌, ◌≤◌, min, inl, inr, ap, arith}
use Rattle.std.proofs.lemmas.Bool.{cases_lt}
use Rattle.patterns.proofs.Forms.{forms}

le_times : (c k : ℕ) → c ≤ c * suc k
le_times c k = omega (arith, mul-suc c k)

pub capped_mul : (c t m : ℕ) → min (min c m * t) m ≡ min (c * t) m
capped_mul c zero m = simp mul-zero
capped_mul c (suc k) m = elim (cases_lt m c) [
  | inl above ↦ let e : min c m ≡ m = omega arith in let x = le_times m k in let y = le_times c k in
      let f : min c m * suc k ≡ m * suc k = ap (λ v. v * suc k) e in omega arith
  | inr below ↦ let e : min c m ≡ c = omega arith in ap (λ v. min (v * suc k) m) e
]

pub capped_add : (a b m : ℕ) → min (min a m + min b m) m ≡ min (a + b) m
capped_add a b m = omega arith

pub ruleset counted = (forms, capped_mul, capped_add)
