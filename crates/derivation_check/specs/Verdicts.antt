-- The verdict on a derivation.
use Rattle.std.specs.Prelude.{ℕ, ◌+◌, ◌-◌, ◌<◌, ◌≤◌, length}
use Rattle.cnf.specs.declared.formula.Formula.{Formula}
use Rattle.cnf.specs.declared.derivation.Derivation.{Derivation}
use Rattle.cnf.specs.Checks.{IsRightAt, EndsEmpty, Checks}
use Rattle.derivation_check.specs.declared.verdict.Verdict.{Verdict}
use Rattle.derivation_check.specs.declared.verdict.Verdict.TheVariants as verdict

-- the verdict is the right one: no two of them are right of one derivation
abbrev pub IsVerdict : Formula → Derivation → Verdict → Type 0
IsVerdict formula derivation verdict.Yes = Checks formula derivation
IsVerdict formula derivation (verdict.BadStep line) =
    (0 < line) × (line ≤ length derivation.lines) × ((k : ℕ) → k + 1 < line → IsRightAt formula derivation k) × ¬ IsRightAt formula derivation (line - 1)
IsVerdict formula derivation verdict.NoEmptyClause =
    ((k : ℕ) → k < length derivation.lines → IsRightAt formula derivation k) × ¬ EndsEmpty derivation
