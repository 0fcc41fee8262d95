-- Formulas with unit clauses at their end.
use Rattle.std.specs.Prelude.{ℤ, List, [], ◌∷◌, ◌++◌, map}
use Rattle.cnf.specs.declared.formula.Formula.{Formula}

-- the clauses that say that each of these literals is true
abbrev pub unit_clauses : List ℤ → List (List ℤ)
unit_clauses literals = map (λ x. x ∷ []) literals

-- a formula with these at its end, in order
abbrev pub with_units : Formula → List ℤ → Formula
with_units formula literals = record formula { clauses = formula.clauses ++ unit_clauses literals }
