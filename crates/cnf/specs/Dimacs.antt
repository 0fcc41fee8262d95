-- The text of a formula in the DIMACS form for satisfiability (DIMACS Challenge 1993).
use Rattle.std.specs.Prelude.{ℕ, ℤ, List, [], ◌∷◌, ◌++◌, length, map, codes}
use Rattle.std.specs.Fmt.{decimal, signed_decimal}
use Rattle.std.specs.List.{flat_map}
use Rattle.cnf.specs.declared.formula.Formula.{Formula}

-- lines, each with the line feed at its end
abbrev pub text_of_lines : List (List ℕ) → List ℕ
text_of_lines lines = flat_map (λ line. line ++ 10 ∷ []) lines

-- a clause: its literals, each with a space after it, and 0
abbrev pub clause_text : List ℤ → List ℕ
clause_text clause = flat_map (λ x. signed_decimal x ++ 32 ∷ []) clause ++ codes "0"

-- the first line, with the number of variables and of clauses
abbrev pub head_text : ℕ → ℕ → List ℕ
head_text variables clauses = codes "p cnf " ++ decimal variables ++ 32 ∷ decimal clauses

abbrev pub dimacs_lines : Formula → List (List ℕ)
dimacs_lines formula = head_text formula.variables (length formula.clauses) ∷ map clause_text formula.clauses

abbrev pub dimacs_text : Formula → List ℕ
dimacs_text formula = text_of_lines (dimacs_lines formula)
