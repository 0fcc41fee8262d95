-- Clauses that are false.
use Rattle.std.specs.Prelude.{◌≡◌, ℕ, true, IsSomeAnd}
use Rattle.cnf.specs.declared.formula.Formula.{Formula}
use Rattle.cnf.specs.Checks.{numbered}
use Rattle.search.specs.declared.machine.Machine.{Machine}
use Rattle.search.specs.Machine.{is_conflict, is_true}
use Rattle.search.specs.Sound.{all_clauses}

-- the clause with this number is false
abbrev pub IsConflicting : Formula → Machine → ℕ → Type 0
IsConflicting formula m number = IsSomeAnd (numbered (all_clauses formula m.learned) number) (λ clause. is_conflict (is_true m.trail.items) clause ≡ true)
