-- What clauses are, by the set of the literals that are true.
use Rattle.std.specs.Prelude.{◌≡◌, ℤ, Bool, true, false, List, None, Some, IsSomeAnd}
use Rattle.std.specs.List.{list_any}
use Rattle.std.specs.Option.{is_some}
use Rattle.cnf.specs.Checks.{numbered}
use Rattle.cnf.specs.Clauses.{IsLiteral}
use Rattle.search.specs.declared.scan.Scan.{Scan}
use Rattle.search.specs.declared.scan.Scan.TheVariants as scan
use Rattle.search.specs.declared.status.Status.{Status}
use Rattle.search.specs.declared.status.Status.TheVariants as status
use Rattle.search.specs.Machine.{is_conflict, unit_of}

abbrev pub IsStatus : (ℤ → Bool) → List ℤ → Status → Type 0
IsStatus true_literals clause status.Conflict = is_conflict true_literals clause ≡ true
IsStatus true_literals clause (status.Unit x) = (is_conflict true_literals clause ≡ false) × (unit_of true_literals clause ≡ Some x) × IsLiteral x
IsStatus true_literals clause status.Neither = (is_conflict true_literals clause ≡ false) × (unit_of true_literals clause ≡ None)

-- a clause is false
abbrev pub some_conflict : (ℤ → Bool) → List (List ℤ) → Bool
some_conflict true_literals clauses = list_any (is_conflict true_literals) clauses

-- a clause has one open literal, and its others are false
abbrev pub some_unit : (ℤ → Bool) → List (List ℤ) → Bool
some_unit true_literals clauses = list_any (λ clause. is_some (unit_of true_literals clause)) clauses

abbrev pub IsScan : (ℤ → Bool) → List (List ℤ) → Scan → Type 0
IsScan true_literals clauses (scan.Conflict number) = IsSomeAnd (numbered clauses number) (λ clause. is_conflict true_literals clause ≡ true)
IsScan true_literals clauses (scan.Unit number x) =
    IsSomeAnd (numbered clauses number) (λ clause. unit_of true_literals clause ≡ Some x) × (some_conflict true_literals clauses ≡ false) × IsLiteral x
IsScan true_literals clauses scan.Neither = (some_conflict true_literals clauses ≡ false) × (some_unit true_literals clauses ≡ false)
