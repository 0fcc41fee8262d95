-- When a certificate can write what a search refuted.
use Rattle.std.specs.Prelude.{◌+◌, ◌<◌, ◌≤◌, ◌^◌, All, length}
use Rattle.certificate.specs.Certificates.{IsPair}
use Rattle.cnf.specs.Checks.{Checks}
use Rattle.cnf.specs.Clauses.{IsClause}
use Rattle.cnf.specs.declared.derivation.Derivation.{Derivation}
use Rattle.cnf.specs.declared.derivation.DerivationLine.{DerivationLine}
use Rattle.cnf.specs.declared.formula.Formula.{Formula}
use Rattle.search.specs.Laws.{IsFormula}

-- the literals of a line's clause rise
abbrev pub HasClause : DerivationLine → Type 0
HasClause line = IsClause line.clause

-- A certificate can write a formula and a derivation that checks over it, where the formula is over its variables, literals
-- of clauses rise, and the clauses, the formula's and the lines', have numbers below 2 ^ 32.
abbrev pub ChecksArePairs : Type 0
ChecksArePairs =
    (formula : Formula) (derivation : Derivation) → formula.variables ≤ 2 ^ 30 → IsFormula formula → All IsClause formula.clauses → All HasClause derivation.lines
    → length formula.clauses + length derivation.lines < 2 ^ 32 → Checks formula derivation → IsPair formula derivation
