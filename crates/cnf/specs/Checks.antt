-- When a derivation shows that no assignment satisfies a formula.
use Rattle.std.specs.Prelude.{◌≡◌, ℕ, zero, suc, ◌-◌, ◌<◌, ℤ, Bool, List, [], ◌∷◌, ◌++◌, length, take, map, slice_get, Option, None, Some, option_and_then, IfSome, IsSomeAnd, if◌then◌else◌}
use Rattle.cnf.specs.Clauses.{has_literal}
use Rattle.cnf.specs.Resolution.{can_resolve, resolvent}
use Rattle.cnf.specs.declared.formula.Formula.{Formula}
use Rattle.cnf.specs.declared.derivation.DerivationLine.{DerivationLine}
use Rattle.cnf.specs.declared.derivation.Derivation.{Derivation}

-- the clause with a number, from 1
abbrev pub numbered : List (List ℤ) → ℕ → Option (List ℤ)
numbered clauses zero = None
numbered clauses (suc n) = slice_get clauses n

-- the set of literals that resolutions in turn give from a set, where each exists; a step is an antecedent's number and a pivot
abbrev pub resolved : List (List ℤ) → (ℤ → Bool) → List (ℕ × ℤ) → Option (ℤ → Bool)
resolved earlier set [] = Some set
resolved earlier set (step ∷ steps) =
    option_and_then
    (λ antecedent.
    if can_resolve set step.1 (has_literal antecedent)
    then resolved earlier (resolvent set step.1 (has_literal antecedent)) steps
    else None)
    (numbered earlier step.0)

-- the set that a line's chain gives
abbrev pub chain_of : List (List ℤ) → DerivationLine → Option (ℤ → Bool)
chain_of earlier line = option_and_then (λ clause. resolved earlier (has_literal clause) line.steps) (numbered earlier line.first)

-- a line is right over the clauses before it: its chain exists and ends in the listed clause
abbrev pub IsRight : List (List ℤ) → DerivationLine → Type 0
IsRight earlier line = IsSomeAnd (chain_of earlier line) (λ set. (x : ℤ) → set x ≡ has_literal line.clause x)

-- the clauses before a line, of which there are this many: the formula's, and then those of the lines before it
abbrev pub clauses_before : Formula → Derivation → ℕ → List (List ℤ)
clauses_before formula derivation k = formula.clauses ++ map (λ line. line.clause) (take k derivation.lines)

-- the line after the first k is right, if there is one
abbrev pub IsRightAt : Formula → Derivation → ℕ → Type 0
IsRightAt formula derivation k = IfSome (slice_get derivation.lines k) (IsRight (clauses_before formula derivation k))

-- there is a last line, and its clause is empty
abbrev pub EndsEmpty : Derivation → Type 0
EndsEmpty derivation = IsSomeAnd (slice_get derivation.lines (length derivation.lines - 1)) (λ line. line.clause ≡ [])

-- all lines are right, and the last one has the empty clause
abbrev pub Checks : Formula → Derivation → Type 0
Checks formula derivation = ((k : ℕ) → k < length derivation.lines → IsRightAt formula derivation k) × EndsEmpty derivation
