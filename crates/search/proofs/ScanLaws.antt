-- What the clauses so far are.
use Rattle.std.proofs.Common.{◌≡◌, ℕ, zero, suc, ◌+◌, ◌<◌, ◌≤◌, Bool, false, List, [], ◌∷◌, length, take, get_or, refl, ◌∙◌, ap, add-one, arith, None, Some}
use Rattle.std.specs.Prelude.{ℤ, IsSomeAnd, slice_get}
use Rattle.std.specs.List.{list_any}
use Rattle.std.specs.Option.{is_some}
use Rattle.std.proofs.lemmas.List.{length-append, length-map, take_all}
use Rattle.std.proofs.lemmas.List.Folds.{list_any_more}
use Rattle.cnf.specs.declared.derivation.Derivation.{Derivation}
use Rattle.cnf.specs.declared.derivation.DerivationLine.{DerivationLine}
use Rattle.cnf.specs.declared.formula.Formula.{Formula}
use Rattle.cnf.specs.Checks.{clauses_before, numbered}
use Rattle.cnf.specs.Clauses.{IsLiteral}
use Rattle.search.specs.declared.scan.Scan.{Scan}
use Rattle.search.specs.declared.scan.Scan.TheVariants as scan
use Rattle.search.specs.Machine.{is_conflict, unit_of}
use Rattle.search.specs.Statuses.{IsScan, some_conflict, some_unit}

-- no clause so far is false, and one that would propagate was found, or there is none
abbrev pub IsScanOf : (ℤ → Bool) → List (List ℤ) → ℕ → Scan → Type 0
IsScanOf set clauses count (scan.Conflict number) = ⊥
IsScanOf set clauses count (scan.Unit number x) =
    IsSomeAnd (numbered clauses number) (λ clause. unit_of set clause ≡ Some x) × (some_conflict set (take count clauses) ≡ false) × IsLiteral x
IsScanOf set clauses count scan.Neither = (some_conflict set (take count clauses) ≡ false) × (some_unit set (take count clauses) ≡ false)

at_number : (clauses : List (List ℤ)) (i : ℕ) (clause : List ℤ) → slice_get clauses i ≡ Some clause → (i < length clauses) × (get_or clauses i clause ≡ clause)
at_number [] i clause e = absurd cc
at_number (c ∷ cs) zero clause e = let same : c ≡ clause = cc in (omega arith, same)
at_number (c ∷ cs) (suc i) clause e = let rest = at_number cs i clause e in (omega (arith, rest.0), rest.1)

fewer : (set : ℤ → Bool) (clauses : List (List ℤ)) (i : ℕ) (clause : List ℤ) (test : List ℤ → Bool) → slice_get clauses i ≡ Some clause → test clause ≡ false
    → list_any test (take i clauses) ≡ false → list_any test (take (i + 1) clauses) ≡ false
fewer set clauses i clause test e own before =
    let at = at_number clauses i clause e in
    list_any_more test clauses i clause at.0 ∙ rw (before, at.1, own) refl

-- one more clause that isn't false
pub scan_more : (set : ℤ → Bool) (clauses : List (List ℤ)) (i : ℕ) (clause : List ℤ) (found : Scan) → slice_get clauses i ≡ Some clause
    → (is_conflict set clause ≡ false) × (unit_of set clause ≡ None) → IsScanOf set clauses i found → IsScanOf set clauses (i + 1) found
scan_more set clauses i clause (scan.Conflict number) e own is = absurd is
scan_more set clauses i clause (scan.Unit number x) e own is = (is.0, fewer set clauses i clause (is_conflict set) e own.0 is.1, is.2)
scan_more set clauses i clause scan.Neither e own is =
    (fewer set clauses i clause (is_conflict set) e own.0 is.0, fewer set clauses i clause (λ c. is_some (unit_of set c)) e (ap is_some own.1) is.1)

no_conflict_so_far : (set : ℤ → Bool) (clauses : List (List ℤ)) (i : ℕ) (found : Scan) → IsScanOf set clauses i found → some_conflict set (take i clauses) ≡ false
no_conflict_so_far set clauses i (scan.Conflict number) is = absurd is
no_conflict_so_far set clauses i (scan.Unit number x) is = is.1
no_conflict_so_far set clauses i scan.Neither is = is.0

pub numbered_next : (clauses : List (List ℤ)) (i : ℕ) → numbered clauses (i + 1) ≡ slice_get clauses i
numbered_next clauses i = ap (numbered clauses) (add-one i)

-- one more that would propagate
pub scan_unit : (set : ℤ → Bool) (clauses : List (List ℤ)) (i : ℕ) (clause : List ℤ) (x : ℤ) (found : Scan) → slice_get clauses i ≡ Some clause
    → (is_conflict set clause ≡ false) × (unit_of set clause ≡ Some x) × IsLiteral x → IsScanOf set clauses i found → IsScanOf set clauses (i + 1) (scan.Unit (i + 1) x)
scan_unit set clauses i clause x found e own is =
    (rw (numbered_next clauses i, e) own.1, fewer set clauses i clause (is_conflict set) e own.0 (no_conflict_so_far set clauses i found is), own.2)

-- all clauses
pub scan_all : (set : ℤ → Bool) (clauses : List (List ℤ)) (i : ℕ) (found : Scan) → length clauses ≤ i → IsScanOf set clauses i found → IsScan set clauses found
scan_all set clauses i (scan.Conflict number) h is = absurd is
scan_all set clauses i (scan.Unit number x) h is = (is.0, rw (take_all i clauses h) at is.1, is.2)
scan_all set clauses i scan.Neither h is = rw (take_all i clauses h) at is

pub clauses_count : (formula : Formula) (learned : Derivation) → length (clauses_before formula learned (length learned.lines)) ≡ length formula.clauses + length learned.lines
clauses_count formula learned =
    length-append formula.clauses _ ∙ rw (take_all (length learned.lines) learned.lines (omega arith)) (ap (λ n. length formula.clauses + n) (length-map learned.lines (λ (line : DerivationLine). line.clause)))

pub none_past : (clauses : List (List ℤ)) (i : ℕ) → slice_get clauses i ≡ None → length clauses ≤ i
none_past [] i e = omega arith
none_past (c ∷ cs) zero e = absurd cc
none_past (c ∷ cs) (suc i) e = omega (arith, none_past cs i e)
