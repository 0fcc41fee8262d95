-- Few letters make few gates.
use Rattle.std.proofs.Common.{ℕ, ◌+◌, ◌*◌, ◌≤◌, arith}
use native.Mathlib.Nat.{mul-le-mul}

squares : (a b : ℕ) → a ≤ b → (a + 2) * (a + 2) ≤ (b + 2) * (b + 2)
squares a b le = mul-le-mul (omega arith) (omega arith)

pub few_gates : (gates letters : ℕ) → gates ≤ 8 * ((letters + 2) * (letters + 2)) → letters ≤ 100 → gates ≤ 100000
few_gates gates letters h le = omega (arith, h, squares letters 100 le)
