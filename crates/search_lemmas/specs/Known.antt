-- Which clauses of a refutation are known to hold in every world.
use Rattle.std.specs.Prelude.{◌≡◌, ℕ, ◌-◌, ◌<◌, ℤ, Bool, true, List, Option, Some, All, length, slice_get}
use Rattle.circuit.specs.declared.lit.Gate.{Gate}
use Rattle.cnf.specs.Checks.{Checks, clauses_before}
use Rattle.cnf.specs.declared.derivation.DerivationLine.{DerivationLine}
use Rattle.search_lemmas.specs.Holding.{IsKnown}
use Rattle.search_lemmas.specs.declared.refutation.Refutation.{Refutation}

-- a derivation checks over its formula
abbrev pub IsRight : Refutation → Type 0
IsRight r = Checks r.formula.now r.derivation.now

-- each clause with a mark holds in every world
abbrev pub AreKnown : List Gate → List (Option ℕ) → List (List ℤ) → List Bool → Type 0
AreKnown gates wires clauses marks =
    (k : ℕ) (clause : List ℤ) → slice_get clauses k ≡ Some clause → slice_get marks k ≡ Some true → IsKnown gates wires clause

-- so do those of a refutation's formula and lines
abbrev pub AllKnown : List Gate → List (Option ℕ) → Refutation → List Bool → Type 0
AllKnown gates wires r marks = AreKnown gates wires (clauses_before r.formula.now r.derivation.now (length r.derivation.now.lines)) marks

-- the clause with a number, from 1, has a mark
abbrev pub IsMarked : List Bool → ℕ → Type 0
IsMarked marks number = (0 < number) × (slice_get marks (number - 1) ≡ Some true)

-- so have all clauses of a line's chain
pub record StandsOn (marks : List Bool) (line : DerivationLine) : Type 0 where
  pub first : IsMarked marks line.first
  pub steps : All (λ (step : ℕ × ℤ). IsMarked marks step.0) line.steps
