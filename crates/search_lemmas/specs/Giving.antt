-- A goal's formula with lessons behind its own clauses.
use Rattle.std.specs.Prelude.{◌≡◌, ℕ, Bool, true}
use Rattle.std.specs.List.{list_all}
use Rattle.clause_form.specs.Encoding.{is_over}
use Rattle.cnf.specs.Formulas.{Satisfies}
use Rattle.cnf.specs.declared.formula.Formula.{Formula}

-- a formula has the clauses of another one, and says no more than it
pub record SaysTheSame (formula given : Formula) : Type 0 where
  pub variables : given.variables ≡ formula.variables
  pub given_from : (value : ℕ → Bool) → Satisfies value formula → Satisfies value given
  pub own_from : (value : ℕ → Bool) → Satisfies value given → Satisfies value formula
  pub over : list_all (list_all (is_over formula.variables)) formula.clauses ≡ true → list_all (list_all (is_over given.variables)) given.clauses ≡ true
