-- Whether a line is right, by the marks that its chain leaves.
use Rattle.std.proofs.Common.{◌≡◌, ℕ, Bool, true, false, ◌||◌, List, [], ◌∷◌, refl, sym, ◌∙◌, ap, Option, None, Some}
use Rattle.std.specs.Prelude.{ℤ, neg_ℤ, ◌&&◌, not, if◌then◌else◌, option_and_then, IsTrue, ◌↔◌}
use Rattle.std.specs.Bool.{OnTrue}
use Rattle.std.specs.Option.{option_map_or}
use Rattle.std.specs.Ordering.{int_eq}
use Rattle.std.specs.List.{list_all, list_any}
use Rattle.cnf.specs.declared.derivation.DerivationLine.{DerivationLine}
use Rattle.cnf.specs.Clauses.{has_literal}
use Rattle.cnf.specs.Resolution.{can_resolve, resolvent}
use Rattle.cnf.specs.Checks.{numbered, resolved, chain_of, IsRight}
use Rattle.cnf.proofs.ClauseLaws.{same_literal, equal_literal, on_true}
use Rattle.derivation_check.specs.Marks.{is_clear_of, is_clear_chain}

-- ---- tests

and_left : (a b : Bool) → (a && b) ≡ true → a ≡ true
and_left true b e = refl
and_left false b e = e

and_right : (a b : Bool) → (a && b) ≡ true → b ≡ true
and_right true b e = e
and_right false b e = absurd cc

pub or_right : (a b : Bool) → b ≡ true → (a || b) ≡ true
or_right true b e = refl
or_right false b e = e

all_in : (p : ℤ → Bool) (xs : List ℤ) (x : ℤ) → list_all p xs ≡ true → has_literal xs x ≡ true → p x ≡ true
all_in p [] x all e = absurd cc
all_in p (y ∷ ys) x all e = by_test (int_eq y x) refl e (λ rest. all_in p ys x (and_right (p y) (list_all p ys) all) rest)
  where
    by_test : (b : Bool) → int_eq y x ≡ b → (b || has_literal ys x) ≡ true → (has_literal ys x ≡ true → p x ≡ true) → p x ≡ true
    by_test true f g rest = let same : y ≡ x = same_literal y x f in ap p (sym same) ∙ and_left (p y) (list_all p ys) all
    by_test false f g rest = rest g

any_in : (p : ℤ → Bool) (xs : List ℤ) (x : ℤ) → has_literal xs x ≡ true → p x ≡ true → list_any p xs ≡ true
any_in p [] x e f = absurd cc
any_in p (y ∷ ys) x e f = by_test (int_eq y x) refl e (λ rest. any_in p ys x rest f)
  where
    by_test : (b : Bool) → int_eq y x ≡ b → (b || has_literal ys x) ≡ true → (has_literal ys x ≡ true → list_any p ys ≡ true) → (p y || list_any p ys) ≡ true
    by_test true g h rest = let same : y ≡ x = same_literal y x g in rw (ap p same ∙ f) refl
    by_test false g h rest = or_right (p y) (list_any p ys) (rest h)

own_literal : (x : ℤ) (xs : List ℤ) → has_literal (x ∷ xs) x ≡ true
own_literal x xs = rw (equal_literal x x refl) refl

pub all_from : (p : ℤ → Bool) (xs : List ℤ) → ((x : ℤ) → has_literal xs x ≡ true → p x ≡ true) → list_all p xs ≡ true
all_from p [] each = refl
all_from p (y ∷ ys) each =
    rw (each y (own_literal y ys)) (all_from p ys (λ x e. each x (or_right (int_eq y x) (has_literal ys x) e)))

none_from : (p : ℤ → Bool) (xs : List ℤ) → ((x : ℤ) → p x ≡ false) → list_any p xs ≡ false
none_from p [] none = refl
none_from p (y ∷ ys) none = rw (none y) (none_from p ys none)

-- ---- a clear chain

clear_of : (earlier : List (List ℤ)) (set : ℤ → Bool) (number : ℕ) (clause : List ℤ) (x : ℤ) → numbered earlier number ≡ Some clause → is_clear_of earlier set number ≡ true
    → has_literal clause x ≡ true → set x ≡ false
clear_of earlier set number clause x e clear h = by_test (set x) refl
  where
    by_test : (b : Bool) → set x ≡ b → set x ≡ false
    by_test false f = f
    by_test true f =
        let found : list_any set clause ≡ true = any_in set clause x h f in
        let no : false ≡ true = rw (e, found) at clear in
        absurd cc

-- what is in the set of a chain is in the set that it began with, or in an antecedent
steps_clear : (earlier : List (List ℤ)) (set last left : ℤ → Bool) (steps : List (ℕ × ℤ)) (x : ℤ) → resolved earlier set steps ≡ Some last → last x ≡ true
    → list_all (λ step. is_clear_of earlier left step.0) steps ≡ true → (set x ≡ true → left x ≡ false) → left x ≡ false
steps_clear earlier set last left [] x e h clear begun = let same : set ≡ last = cc in begun (rw same h)
steps_clear earlier set last left (step ∷ steps) x e h clear begun =
    by_clause (numbered earlier step.0) refl e
    (λ next f g. steps_clear earlier next last left steps x f h (and_right (is_clear_of earlier left step.0) _ clear) g)
  where
    here : is_clear_of earlier left step.0 ≡ true
    here = and_left (is_clear_of earlier left step.0) _ clear

    by_literal : (clause : List ℤ) → numbered earlier step.0 ≡ Some clause → (a b m n : Bool) → set x ≡ a → has_literal clause x ≡ b → ((a && m) || (b && n)) ≡ true → left x ≡ false
    by_literal clause f true b m n g i t = begun g
    by_literal clause f false true m n g i t = clear_of earlier left step.0 clause x f here i
    by_literal clause f false false m n g i t = absurd cc

    by_test : (b : Bool) (clause : List ℤ) → numbered earlier step.0 ≡ Some clause → (if b then resolved earlier (resolvent set step.1 (has_literal clause)) steps else None) ≡ Some last
        → ((next : ℤ → Bool) → resolved earlier next steps ≡ Some last → (next x ≡ true → left x ≡ false) → left x ≡ false) → left x ≡ false
    by_test true clause f g rest =
        rest (resolvent set step.1 (has_literal clause)) g
        (λ t. by_literal clause f (set x) (has_literal clause x) (not (int_eq x step.1)) (not (int_eq x (neg_ℤ step.1))) refl refl t)
    by_test false clause f g rest = absurd cc

    by_clause : (o : Option (List ℤ)) → numbered earlier step.0 ≡ o
        → option_and_then (λ antecedent. if can_resolve set step.1 (has_literal antecedent) then resolved earlier (resolvent set step.1 (has_literal antecedent)) steps else None) o ≡ Some last
        → ((next : ℤ → Bool) → resolved earlier next steps ≡ Some last → (next x ≡ true → left x ≡ false) → left x ≡ false) → left x ≡ false
    by_clause None f g rest = absurd cc
    by_clause (Some clause) f g rest = by_test (can_resolve set step.1 (has_literal clause)) clause f g rest

chain_clear : (earlier : List (List ℤ)) (line : DerivationLine) (last left : ℤ → Bool) (x : ℤ) → chain_of earlier line ≡ Some last → last x ≡ true
    → is_clear_chain earlier left line ≡ true → left x ≡ false
chain_clear earlier line last left x e h clear = by_clause (numbered earlier line.first) refl e
  where
    by_clause : (o : Option (List ℤ)) → numbered earlier line.first ≡ o → option_and_then (λ clause. resolved earlier (has_literal clause) line.steps) o ≡ Some last → left x ≡ false
    by_clause None f g = absurd cc
    by_clause (Some clause) f g =
        steps_clear earlier (has_literal clause) last left line.steps x g h (and_right (is_clear_of earlier left line.first) _ clear)
        (λ i. clear_of earlier left line.first clause x f (and_left (is_clear_of earlier left line.first) _ clear) i)

empty_clear : (earlier : List (List ℤ)) (set : ℤ → Bool) (number : ℕ) → ((x : ℤ) → set x ≡ false) → is_clear_of earlier set number ≡ true
empty_clear earlier set number none = by_clause (numbered earlier number)
  where
    by_clause : (o : Option (List ℤ)) → option_map_or (λ clause. not (list_any set clause)) o true ≡ true
    by_clause None = refl
    by_clause (Some clause) = rw (none_from set clause none) refl

empty_clear_steps : (earlier : List (List ℤ)) (set : ℤ → Bool) (steps : List (ℕ × ℤ)) → ((x : ℤ) → set x ≡ false) → list_all (λ step. is_clear_of earlier set step.0) steps ≡ true
empty_clear_steps earlier set [] none = refl
empty_clear_steps earlier set (step ∷ steps) none = rw (empty_clear earlier set step.0 none) (empty_clear_steps earlier set steps none)

-- ---- right lines

-- the chain of a line gives a set, of which the marks of the listed literals have been taken away
pub record Unmarked (earlier : List (List ℤ)) (line : DerivationLine) (set left : ℤ → Bool) : Type 0 where
  pub chain : chain_of earlier line ≡ Some set
  pub listed : list_all set line.clause ≡ true
  pub left_over : (x : ℤ) → left x ≡ (set x && not (has_literal line.clause x))

right_line : (earlier : List (List ℤ)) (line : DerivationLine) (set : ℤ → Bool) → chain_of earlier line ≡ Some set → ((x : ℤ) → set x ≡ has_literal line.clause x) → IsRight earlier line
right_line earlier line set e same = rw e same

set_of_right : (earlier : List (List ℤ)) (line : DerivationLine) (set : ℤ → Bool) → chain_of earlier line ≡ Some set → IsRight earlier line → (x : ℤ) → set x ≡ has_literal line.clause x
set_of_right earlier line set e right = rw e at right

pub not_all_listed : (earlier : List (List ℤ)) (line : DerivationLine) (set : ℤ → Bool) → chain_of earlier line ≡ Some set → list_all set line.clause ≡ false → IsRight earlier line → ⊥
not_all_listed earlier line set e f right =
    let all : list_all set line.clause ≡ true = all_from set line.clause (λ x g. set_of_right earlier line set e right x ∙ g) in
    let no : true ≡ false = sym all ∙ f in
    absurd cc

same_as_listed : (earlier : List (List ℤ)) (line : DerivationLine) (set left : ℤ → Bool) → Unmarked earlier line set left → is_clear_chain earlier left line ≡ true
    → (x : ℤ) → set x ≡ has_literal line.clause x
same_as_listed earlier line set left u clear x = by_test (set x) (has_literal line.clause x) refl refl
  where
    by_test : (a b : Bool) → set x ≡ a → has_literal line.clause x ≡ b → set x ≡ has_literal line.clause x
    by_test true true e f = e ∙ sym f
    by_test false false e f = e ∙ sym f
    by_test false true e f = let no : false ≡ true = sym e ∙ all_in set line.clause x u.listed f in absurd cc
    by_test true false e f =
        let over : left x ≡ true = rw (u.left_over x, e, f) refl in
        let no : true ≡ false = sym over ∙ chain_clear earlier line set left x u.chain e clear in
        absurd cc

pub right_by_clear : (earlier : List (List ℤ)) (line : DerivationLine) (set left : ℤ → Bool) (result : Bool) → Unmarked earlier line set left
    → result ≡ is_clear_chain earlier left line → IsTrue result ↔ IsRight earlier line
right_by_clear earlier line set left result u is = (
  λ yes. right_line earlier line set u.chain (same_as_listed earlier line set left u (sym is ∙ yes)),
  λ right. is ∙ clear (λ x. u.left_over x ∙ rw (set_of_right earlier line set u.chain right x) (both (has_literal line.clause x))),
)
  where
    both : (b : Bool) → (b && not b) ≡ false
    both true = refl
    both false = refl

    clear : ((x : ℤ) → left x ≡ false) → is_clear_chain earlier left line ≡ true
    clear none = rw (empty_clear earlier left line.first none) (empty_clear_steps earlier left line.steps none)

pub clear_by_clear : (earlier : List (List ℤ)) (line : DerivationLine) (set left : ℤ → Bool) (result : Bool) → Unmarked earlier line set left
    → result ≡ is_clear_chain earlier left line → OnTrue result ((x : ℤ) → left x ≡ false)
clear_by_clear earlier line set left result u is =
    on_true result _ (λ yes x. u.left_over x ∙ rw (same_as_listed earlier line set left u (sym is ∙ yes) x) (both (has_literal line.clause x)))
  where
    both : (b : Bool) → (b && not b) ≡ false
    both true = refl
    both false = refl
