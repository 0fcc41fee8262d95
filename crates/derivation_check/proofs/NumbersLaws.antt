-- The places that numbered clauses have in a table.
use Rattle.std.proofs.Common.{◌≡◌, ℕ, zero, suc, ◌+◌, ◌-◌, ◌<◌, ◌≤◌, Bool, true, false, List, [], ◌∷◌, ◌++◌, length, get_or, max, take, map, refl, sym, ◌∙◌, ap, arith, None, Some}
use Rattle.std.specs.Prelude.{ℤ, ◌&&◌, nat_lt, slice_get}
use Rattle.std.specs.List.{list_all}
use Rattle.std.specs.Option.{option_map}
use Rattle.std.proofs.lemmas.Bool.Decides.{Decides-ltb}
use Rattle.std.proofs.lemmas.List.Folds.{list_all-append, list_all-map, list_all_more}
use Rattle.std.proofs.lemmas.Option.{slice_get-map}
use Rattle.cnf.specs.declared.formula.Formula.{Formula}
use Rattle.cnf.specs.declared.derivation.Derivation.{Derivation}
use Rattle.cnf.specs.declared.derivation.DerivationLine.{DerivationLine}
use Rattle.cnf.specs.Checks.{numbered, clauses_before}
use Rattle.cnf.specs.Clauses.{literal_key, RisesFrom}
use Rattle.cnf.proofs.ChecksLaws.{all_at}
use Rattle.cnf.specs.declared.literal_marks.places.Places.{Places}
use Rattle.cnf.specs.declared.literal_marks.places.Places.TheVariants.{ByKey}
use Rattle.cnf.specs.literal_marks.Marks.{has_places}
use Rattle.derivation_check.specs.Marks.{HasPlaces}

-- ---- lists

all_taken : {X : Type 0} (p : X → Bool) (xs : List X) (n : ℕ) → list_all p xs ≡ true → list_all p (take n xs) ≡ true
all_taken p xs zero h = refl
all_taken p [] (suc n) h = refl
all_taken p (x ∷ xs) (suc n) h = by_test (p x) h (all_taken p xs n)
  where
    by_test : (b : Bool) → (b && list_all p xs) ≡ true → (list_all p xs ≡ true → list_all p (take n xs) ≡ true) → (b && list_all p (take n xs)) ≡ true
    by_test true g rest = rest g
    by_test false g rest = g

pub all_weaker : {X : Type 0} (p q : X → Bool) (xs : List X) → ((x : X) → p x ≡ true → q x ≡ true) → list_all p xs ≡ true → list_all q xs ≡ true
all_weaker p q [] f h = refl
all_weaker p q (x ∷ xs) f h = by_test (p x) refl h (all_weaker p q xs f)
  where
    by_test : (b : Bool) → p x ≡ b → (b && list_all p xs) ≡ true → (list_all p xs ≡ true → list_all q xs ≡ true) → (q x && list_all q xs) ≡ true
    by_test true e g rest = rw (f x e) (rest g)
    by_test false e g rest = absurd cc

-- ---- places

pub places_of_numbered : (table : Places) (size : ℕ) (formula : Formula) (derivation : Derivation) (before number : ℕ) (clause : List ℤ) → HasPlaces table size formula derivation
    → numbered (clauses_before formula derivation before) number ≡ Some clause → has_places table size clause ≡ true
places_of_numbered table size formula derivation before zero clause places e = absurd cc
places_of_numbered table size formula derivation before (suc n) clause places e =
    let lines = all_taken (λ line. has_places table size line.clause) derivation.lines before places.lines in
    let all : list_all (has_places table size) (clauses_before formula derivation before) ≡ true =
    list_all-append (has_places table size) formula.clauses (map (λ line. line.clause) (take before derivation.lines))
    ∙ rw (places.clauses, list_all-map (has_places table size) (λ line. line.clause) (take before derivation.lines), lines) refl in
    all_at (has_places table size) (clauses_before formula derivation before) n clause all e

pub more_places : (size larger : ℕ) (clause : List ℤ) → size ≤ larger → has_places ByKey size clause ≡ true → has_places ByKey larger clause ≡ true
more_places size larger clause h =
    all_weaker (λ x. nat_lt (literal_key x) size) (λ x. nat_lt (literal_key x) larger) clause
    (λ x e. (Decides-ltb (literal_key x) larger).1 (omega (arith, (Decides-ltb (literal_key x) size).0 e)))

place : (x last : ℤ) → literal_key x ≤ literal_key last → nat_lt (literal_key x) (literal_key last + 1) ≡ true
place x last h = (Decides-ltb (literal_key x) (literal_key last + 1)).1 (omega arith)

-- the last literal of a clause is the greatest
below_last : (low : ℕ) (y : ℤ) (ys : List ℤ) (last : ℤ) → RisesFrom low (y ∷ ys) → slice_get (y ∷ ys) (length ys) ≡ Some last
    → (literal_key y ≤ literal_key last) × (has_places ByKey (literal_key last + 1) (y ∷ ys) ≡ true)
below_last low y [] last r e =
    let same : y ≡ last = cc in
    let below : literal_key y ≤ literal_key last = omega (arith, ap literal_key same) in
    (below, rw (place y last below) refl)
below_last low y (z ∷ zs) last r e =
    let rest = below_last (literal_key y) z zs last r.2 e in
    let below : literal_key y ≤ literal_key last = omega (arith, r.2.0, rest.0) in
    (below, rw (place y last below) rest.1)

pub places_by_last : (low : ℕ) (clause : List ℤ) (last : ℤ) → RisesFrom low clause → slice_get clause (length clause - 1) ≡ Some last → has_places ByKey (literal_key last + 1) clause ≡ true
places_by_last low [] last r e = absurd cc
places_by_last low (y ∷ ys) last r e =
    let at : suc (length ys) - 1 ≡ length ys = omega arith in
    (below_last low y ys last r (rw at at e)).1

-- a table that has places for the first clauses, and one for the next, give one for all these
pub sizes_more : {X : Type 0} (clause_of : X → List ℤ) (xs : List X) (i size next : ℕ) (x : X) → i < length xs → list_all (λ y. has_places ByKey size (clause_of y)) (take i xs) ≡ true
    → x ≡ get_or xs i x → has_places ByKey next (clause_of x) ≡ true → list_all (λ y. has_places ByKey (max size next) (clause_of y)) (take (i + 1) xs) ≡ true
sizes_more clause_of xs i size next x h before is here =
    let before' = all_weaker (λ y. has_places ByKey size (clause_of y)) (λ y. has_places ByKey (max size next) (clause_of y)) (take i xs) (λ y. more_places size (max size next) (clause_of y) (omega arith)) before in
    let here' = more_places next (max size next) (clause_of x) (omega arith) here in
    list_all_more (λ y. has_places ByKey (max size next) (clause_of y)) xs i x h ∙ rw (before', ← is) here'
