-- The places of all literals that occur.
use Rattle.std.proofs.Common.{◌≡◌, ℕ, ◌+◌, ◌<◌, true, ◌||◌, List, [], ◌∷◌, ◌++◌, length, get_or, take, refl, ◌∙◌, ap}
use Rattle.std.specs.Prelude.{ℤ}
use Rattle.std.specs.Ordering.{int_eq}
use Rattle.std.specs.List.{list_all, flat_map}
use Rattle.std.proofs.lemmas.Bool.Decides.{Decides-ltb}
use Rattle.std.proofs.lemmas.Grind.{flat_map-append}
use Rattle.std.proofs.lemmas.List.{append-nil, append_assoc, take_more}
use Rattle.std.proofs.lemmas.List.Folds.{list_any-append}
use Rattle.cnf.specs.declared.derivation.Derivation.{Derivation}
use Rattle.cnf.specs.declared.derivation.DerivationLine.{DerivationLine}
use Rattle.cnf.specs.declared.formula.Formula.{Formula}
use Rattle.cnf.specs.Clauses.{has_literal}
use Rattle.cnf.specs.declared.literal_marks.places.Places.TheVariants.{Listed}
use Rattle.cnf.specs.literal_marks.Marks.{has_place, has_places}
use Rattle.cnf.proofs.literal_marks.PlacesLaws.{place_below}
use Rattle.derivation_check.specs.Marks.{HasPlaces}
use Rattle.derivation_check.proofs.LineLaws.{all_from, or_right}

-- ---- places of all

place_from : (all : List ℤ) (x : ℤ) → has_literal all x ≡ true → has_place (Listed all) (length all) x ≡ true
place_from all x e =
    let found = place_below all x e in
    rw found.1 ((Decides-ltb found.0 (length all)).1 found.2)

has_literal-append : (xs ys : List ℤ) (x : ℤ) → has_literal (xs ++ ys) x ≡ (has_literal xs x || has_literal ys x)
has_literal-append xs ys x = list_any-append (λ y. int_eq y x) xs ys

pub in_front : (xs ys : List ℤ) (x : ℤ) → has_literal xs x ≡ true → has_literal (xs ++ ys) x ≡ true
in_front xs ys x e = has_literal-append xs ys x ∙ rw e refl

pub behind : (xs ys : List ℤ) (x : ℤ) → has_literal ys x ≡ true → has_literal (xs ++ ys) x ≡ true
behind xs ys x e = has_literal-append xs ys x ∙ or_right (has_literal xs x) (has_literal ys x) e

-- clauses whose literals are all among these have places
pub among : {X : Type 0} (clause_of : X → List ℤ) (xs : List X) (all : List ℤ) → ((x : ℤ) → has_literal (flat_map clause_of xs) x ≡ true → has_literal all x ≡ true)
    → list_all (λ y. has_places (Listed all) (length all) (clause_of y)) xs ≡ true
among clause_of [] all has = refl
among clause_of (y ∷ ys) all has =
    let here : has_places (Listed all) (length all) (clause_of y) ≡ true =
    all_from (has_place (Listed all) (length all)) (clause_of y) (λ x e. place_from all x (has x (in_front (clause_of y) (flat_map clause_of ys) x e))) in
    rw here (among clause_of ys all (λ x e. has x (behind (clause_of y) (flat_map clause_of ys) x e)))

-- ---- literals in a row

-- what one more appends
pub one_more : {X : Type 0} (clause_of : X → List ℤ) (xs : List X) (i : ℕ) (x : X) (old now : List ℤ) → i < length xs → x ≡ get_or xs i x
    → now ≡ old ++ flat_map clause_of (take i xs) → now ++ clause_of x ≡ old ++ flat_map clause_of (take (i + 1) xs)
one_more clause_of xs i x old now h is before =
    let last : flat_map clause_of (take (i + 1) xs) ≡ flat_map clause_of (take i xs) ++ clause_of x =
    ap (flat_map clause_of) (take_more xs i x h) ∙ rw (← is) (flat_map-append clause_of (take i xs) (x ∷ []) ∙ ap (λ z. flat_map clause_of (take i xs) ++ z) (append-nil (clause_of x))) in
    rw (before, last) (append_assoc old (flat_map clause_of (take i xs)) (clause_of x))

-- where these literals have those of the formula and of the derivation, all have places
pub all_have_places : (formula : Formula) (derivation : Derivation) (literals all : List ℤ)
    → literals ≡ flat_map (λ (clause : List ℤ). clause) formula.clauses ++ flat_map (λ (line : DerivationLine). line.clause) derivation.lines
    → ((x : ℤ) → has_literal all x ≡ has_literal literals x) → HasPlaces (Listed all) (length all) formula derivation
all_have_places formula derivation literals all is same = record {
  clauses = among (λ clause. clause) formula.clauses all (λ x e. same x ∙ rw is (in_front (flat_map (λ clause. clause) formula.clauses) (flat_map (λ line. line.clause) derivation.lines) x e));
  lines = among (λ line. line.clause) derivation.lines all (λ x e. same x ∙ rw is (behind (flat_map (λ clause. clause) formula.clauses) (flat_map (λ line. line.clause) derivation.lines) x e));
}
