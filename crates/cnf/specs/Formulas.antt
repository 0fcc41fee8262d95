-- When an assignment of truth values satisfies a formula.
use Rattle.std.specs.Prelude.{ℕ, zero, suc, ℤ, pos, negsuc, Bool, false, not, List, IsTrue}
use Rattle.std.specs.List.{list_any, list_all}
use Rattle.cnf.specs.declared.formula.Formula.{Formula}

-- whether a literal is true, where an assignment gives each variable its value; 0 is no literal
abbrev pub is_true_literal : (ℕ → Bool) → ℤ → Bool
is_true_literal value (pos zero) = false
is_true_literal value (pos (suc n)) = value (suc n)
is_true_literal value (negsuc n) = not (value (suc n))

-- whether some literal of a clause is true
abbrev pub is_true_clause : (ℕ → Bool) → List ℤ → Bool
is_true_clause value clause = list_any (is_true_literal value) clause

-- each clause has a literal that the assignment makes true
abbrev pub Satisfies : (ℕ → Bool) → Formula → Type 0
Satisfies value formula = IsTrue (list_all (is_true_clause value) formula.clauses)
