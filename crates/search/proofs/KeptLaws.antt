-- What each state that a history leads to keeps.
use Rattle.std.proofs.Common.{◌≡◌, ◌⊎◌, ℕ, zero, suc, ◌+◌, ◌*◌, ◌<◌, ◌≤◌, Bool, true, false, ◌||◌, eqb, List, [], ◌∷◌, ◌++◌, length, take, refl, sym, ◌∙◌, ap, arith, Option, None, Some}
use mathlib.Core.Logic.{inl, inr}
use Rattle.std.specs.Prelude.{ℤ, pos, negsuc, neg_ℤ, not, ◌&&◌, option_and_then, filter, IsSomeAnd, if◌then◌else◌}
use Rattle.std.specs.List.{AllByRecursion, IsDistinct, list_all, list_any}
use Rattle.std.specs.Ordering.{int_eq}
use Rattle.std.proofs.lemmas.Bool.Decides.{Decides-eqb, Decides-ltb}
use Rattle.std.proofs.lemmas.List.Folds.{list_all-append}
use Rattle.std.proofs.lemmas.Map.Keys.{IsDistinct-head, IsDistinct-tail, IsDistinct-cons}
use Rattle.std.proofs.lemmas.Map.Steps.{length-le_from_distinct_below}
use Rattle.cnf.specs.declared.derivation.DerivationLine.{DerivationLine}
use Rattle.cnf.specs.Checks.{IsRight, chain_of, numbered, resolved}
use Rattle.cnf.specs.Clauses.{has_literal, literal_key}
use Rattle.cnf.specs.Resolution.{can_resolve, resolvent}
use Rattle.cnf.proofs.ChecksLaws.{all_at}
use Rattle.cnf.proofs.ClauseLaws.{same_literal, equal_literal}
use Rattle.search.specs.Laws.{is_over}
use Rattle.search.specs.declared.trail.Entry.{Entry}
use Rattle.search.specs.Trails.{IsTrail, are_over, place, places}
use Rattle.search.specs.Machine.{IsOver, is_open, is_true, lone_open, remaining, unit_of, with_entry}

-- ---- tests

pub and_left : (a b : Bool) → (a && b) ≡ true → a ≡ true
and_left true b e = refl
and_left false b e = e

pub and_right : (a b : Bool) → (a && b) ≡ true → b ≡ true
and_right true b e = e
and_right false b e = absurd cc

neither : (a b : Bool) → not (a || b) ≡ true → (a ≡ false) × (b ≡ false)
neither true b e = absurd cc
neither false true e = absurd cc
neither false false e = (refl, refl)

-- ---- literals over so many variables

pub is_over-from : (n : ℕ) (x : ℤ) → IsOver n x → is_over n x ≡ true
is_over-from n x h = rw ((Decides-ltb 1 (literal_key x)).1 (omega (arith, h.0))) ((Decides-ltb (literal_key x) (2 * n + 2)).1 (omega (arith, h.1)))

pub is_over-tells : (n : ℕ) (x : ℤ) → is_over n x ≡ true → IsOver n x
is_over-tells n x e =
    let low : 1 < literal_key x = (Decides-ltb 1 (literal_key x)).0 (and_left _ _ e) in
    let high : literal_key x < 2 * n + 2 = (Decides-ltb (literal_key x) (2 * n + 2)).0 (and_right _ _ e) in
    (omega arith, omega arith)

place_below : (n : ℕ) (x : ℤ) → IsOver n x → place x < n
place_below n (pos zero) h = absurd (omega (arith, h.0))
place_below n (pos (suc k)) h = omega (arith, h.1)
place_below n (negsuc k) h = omega (arith, h.1)

one_variable : (n : ℕ) (x y : ℤ) → IsOver n x → IsOver n y → place x ≡ place y → (x ≡ y) ⊎ (x ≡ neg_ℤ y)
one_variable n (pos zero) y h g e = absurd (omega (arith, h.0))
one_variable n x (pos zero) h g e = absurd (omega (arith, g.0))
one_variable n (pos (suc a)) (pos (suc b)) h g e = inl (ap (λ k. pos (suc k)) e)
one_variable n (pos (suc a)) (negsuc b) h g e = inr (ap (λ k. pos (suc k)) e)
one_variable n (negsuc a) (pos (suc b)) h g e = inr (ap negsuc e)
one_variable n (negsuc a) (negsuc b) h g e = inl (ap negsuc e)

-- ---- trails

-- an open literal's variable isn't on the trail
open_place : (n : ℕ) (trail : List Entry) (x : ℤ) → IsOver n x → are_over n trail ≡ true → is_true trail x ≡ false → is_true trail (neg_ℤ x) ≡ false
    → AllByRecursion (λ p. eqb p (place x) ≡ false) (places trail)
open_place n [] x h all t f = tt
open_place n (e ∷ trail) x h all t f =
    let own = is_over-tells n e.literal (and_left _ _ all) in
    let here = differs (eqb (place e.literal) (place x)) refl own in
    (here, open_place n trail x h (and_right _ _ all) (or_right _ _ t) (or_right _ _ f))
  where
    or_left : (a b : Bool) → (a || b) ≡ false → a ≡ false
    or_left true b q = q
    or_left false b q = refl

    or_right : (a b : Bool) → (a || b) ≡ false → b ≡ false
    or_right true b q = absurd cc
    or_right false b q = q

    differs : (b : Bool) → eqb (place e.literal) (place x) ≡ b → IsOver n e.literal → eqb (place e.literal) (place x) ≡ false
    differs false q own = q
    differs true q own =
        by_sign (one_variable n e.literal x own h ((Decides-eqb (place e.literal) (place x)).0 q))
      where
        by_sign : (e.literal ≡ x) ⊎ (e.literal ≡ neg_ℤ x) → eqb (place e.literal) (place x) ≡ false
        by_sign (inl same) = let no : true ≡ false = sym (equal_literal e.literal x same) ∙ or_left _ _ t in absurd cc
        by_sign (inr same) = let no : true ≡ false = sym (equal_literal e.literal (neg_ℤ x) same) ∙ or_left _ _ f in absurd cc

all_snoc : (P : ℕ → Type 0) (xs : List ℕ) (p : ℕ) → AllByRecursion P xs → P p → AllByRecursion P (xs ++ p ∷ [])
all_snoc P [] p a q = (q, tt)
all_snoc P (x ∷ xs) p a q = (a.0, all_snoc P xs p a.1 q)

distinct_snoc : (xs : List ℕ) (p : ℕ) → IsDistinct eqb xs → AllByRecursion (λ y. eqb y p ≡ false) xs → IsDistinct eqb (xs ++ p ∷ [])
distinct_snoc [] p d a = IsDistinct-cons eqb p [] tt d
distinct_snoc (x ∷ xs) p d a =
    IsDistinct-cons eqb x (xs ++ p ∷ []) (all_snoc (λ y. eqb x y ≡ false) xs p (IsDistinct-head eqb x xs d) a.0) (distinct_snoc xs p (IsDistinct-tail eqb x xs d) a.1)

all_taken : (P : ℕ → Type 0) (trail : List Entry) (k : ℕ) → AllByRecursion P (places trail) → AllByRecursion P (places (take k trail))
all_taken P trail zero a = tt
all_taken P [] (suc k) a = tt
all_taken P (e ∷ trail) (suc k) a = (a.0, all_taken P trail k a.1)

distinct_taken : (trail : List Entry) (k : ℕ) → IsDistinct eqb (places trail) → IsDistinct eqb (places []) → IsDistinct eqb (places (take k trail))
distinct_taken trail zero d none = none
distinct_taken [] (suc k) d none = none
distinct_taken (e ∷ trail) (suc k) d none =
    IsDistinct-cons eqb _ _ (all_taken (λ y. eqb (place e.literal) y ≡ false) trail k (IsDistinct-head eqb _ _ d)) (distinct_taken trail k (IsDistinct-tail eqb _ _ d) none)

over_taken : (n : ℕ) (trail : List Entry) (k : ℕ) → are_over n trail ≡ true → are_over n (take k trail) ≡ true
over_taken n trail zero a = refl
over_taken n [] (suc k) a = refl
over_taken n (e ∷ trail) (suc k) a =
    let own : is_over n e.literal ≡ true = and_left _ _ a in
    rw own (over_taken n trail k (and_right _ _ a))

places-append : (trail : List Entry) (e : Entry) → places (trail ++ e ∷ []) ≡ places trail ++ place e.literal ∷ []
places-append [] e = refl
places-append (f ∷ trail) e = ap (λ xs. place f.literal ∷ xs) (places-append trail e)

pub trail_more : (n : ℕ) (trail : List Entry) (x : ℤ) (reason : Option ℕ) → IsOver n x → is_open (is_true trail) x ≡ true → IsTrail n trail → IsTrail n (with_entry trail x reason)
trail_more n trail x reason h o is =
    let free = neither _ _ o in
    record {
      over = list_all-append (λ (e : Entry). is_over n e.literal) trail _ ∙ rw (is.over, is_over-from n x h) refl;
      distinct = rw (places-append trail record { literal = x; reason = reason }) (distinct_snoc (places trail) (place x) is.distinct (open_place n trail x h is.over free.0 free.1));
    }

pub trail_taken : (n : ℕ) (trail : List Entry) (k : ℕ) → IsDistinct eqb (places []) → IsTrail n trail → IsTrail n (take k trail)
trail_taken n trail k none is = record { over = over_taken n trail k is.over; distinct = distinct_taken trail k is.distinct none }

length_places : (trail : List Entry) → length (places trail) ≡ length trail
length_places [] = refl
length_places (e ∷ trail) = ap suc (length_places trail)

place_of_some : (n : ℕ) (trail : List Entry) (q : ℕ) → are_over n trail ≡ true → list_any (eqb q) (places trail) ≡ true → q < n
place_of_some n [] q a h = absurd cc
place_of_some n (e ∷ trail) q a h = by_test (eqb q (place e.literal)) refl h (place_of_some n trail q (and_right _ _ a))
  where
    by_test : (b : Bool) → eqb q (place e.literal) ≡ b → (b || list_any (eqb q) (places trail)) ≡ true → (list_any (eqb q) (places trail) ≡ true → q < n) → q < n
    by_test true f g rest =
        let same : q ≡ place e.literal = (Decides-eqb q (place e.literal)).0 f in
        let below = place_below n e.literal (is_over-tells n e.literal (and_left _ _ a)) in
        omega arith
    by_test false f g rest = rest g

-- it is at most as long as there are variables
pub trail_short : (n : ℕ) (trail : List Entry) → IsTrail n trail → length trail ≤ n
trail_short n trail is =
    let short = length-le_from_distinct_below (places trail) n is.distinct (λ q h. place_of_some n trail q is.over h) in
    rw (length_places trail) at short

-- ---- units

pub has_filtered : (p : ℤ → Bool) (xs : List ℤ) (x : ℤ) → has_literal (filter p xs) x ≡ true → has_literal xs x ≡ true
has_filtered p [] x h = h
has_filtered p (y ∷ ys) x h = by_test (p y) h (has_filtered p ys x)
  where
    by_test : (b : Bool) → has_literal (if b then y ∷ filter p ys else filter p ys) x ≡ true → (has_literal (filter p ys) x ≡ true → has_literal ys x ≡ true)
        → (int_eq y x || has_literal ys x) ≡ true
    by_test true g rest = here (int_eq y x) g rest
      where
        here : (t : Bool) → (t || has_literal (filter p ys) x) ≡ true → (has_literal (filter p ys) x ≡ true → has_literal ys x ≡ true) → (t || has_literal ys x) ≡ true
        here true q more = refl
        here false q more = more q
    by_test false g rest = later (int_eq y x) (rest g)
      where
        later : (t : Bool) → has_literal ys x ≡ true → (t || has_literal ys x) ≡ true
        later true q = refl
        later false q = q

pub lone : (trail : List Entry) (xs : List ℤ) (x : ℤ) → lone_open (is_true trail) xs ≡ Some x → (xs ≡ x ∷ []) × (is_open (is_true trail) x ≡ true)
lone trail [] x e = absurd cc
lone trail (y ∷ []) x e = by_test (is_open (is_true trail) y) refl e
  where
    by_test : (b : Bool) → is_open (is_true trail) y ≡ b → (if b then Some y else None) ≡ Some x → (y ∷ [] ≡ x ∷ []) × (is_open (is_true trail) x ≡ true)
    by_test true f g = let same : y ≡ x = cc in (ap (λ z. z ∷ []) same, rw (← same) f)
    by_test false f g = absurd cc
lone trail (y ∷ z ∷ more) x e = absurd cc

-- the one open literal of a clause is in it, and open
pub unit_is : (trail : List Entry) (clause : List ℤ) (x : ℤ) → unit_of (is_true trail) clause ≡ Some x → (has_literal clause x ≡ true) × (is_open (is_true trail) x ≡ true)
unit_is trail clause x e =
    let found = lone trail (remaining (is_true trail) clause) x e in
    (has_filtered (λ y. not (is_true trail (neg_ℤ y))) clause x (rw (found.0, equal_literal x x refl) refl), found.1)

-- ---- clauses over so many variables

pub has_over : (n : ℕ) (xs : List ℤ) (x : ℤ) → list_all (is_over n) xs ≡ true → has_literal xs x ≡ true → is_over n x ≡ true
has_over n [] x a h = absurd cc
has_over n (y ∷ ys) x a h = by_test (int_eq y x) refl h (has_over n ys x (and_right _ _ a))
  where
    by_test : (b : Bool) → int_eq y x ≡ b → (b || has_literal ys x) ≡ true → (has_literal ys x ≡ true → is_over n x ≡ true) → is_over n x ≡ true
    by_test true f g rest = let same : y ≡ x = same_literal y x f in ap (is_over n) (sym same) ∙ and_left _ _ a
    by_test false f g rest = rest g

all_over : (n : ℕ) (xs : List ℤ) → ((x : ℤ) → has_literal xs x ≡ true → is_over n x ≡ true) → list_all (is_over n) xs ≡ true
all_over n [] each = refl
all_over n (y ∷ ys) each =
    rw (each y (rw (equal_literal y y refl) refl)) (all_over n ys (λ x e. each x (later (int_eq y x) _ e)))
  where
    later : (a b : Bool) → b ≡ true → (a || b) ≡ true
    later true b q = refl
    later false b q = q

pub numbered_over : (n : ℕ) (clauses : List (List ℤ)) (number : ℕ) (clause : List ℤ) → list_all (list_all (is_over n)) clauses ≡ true → numbered clauses number ≡ Some clause
    → list_all (is_over n) clause ≡ true
numbered_over n clauses zero clause a e = absurd cc
numbered_over n clauses (suc k) clause a e = all_at (list_all (is_over n)) clauses k clause a e

resolved_over : (n : ℕ) (earlier : List (List ℤ)) (set : ℤ → Bool) (steps : List (ℕ × ℤ)) (result : ℤ → Bool) → list_all (list_all (is_over n)) earlier ≡ true
    → ((x : ℤ) → set x ≡ true → is_over n x ≡ true) → resolved earlier set steps ≡ Some result → (x : ℤ) → result x ≡ true → is_over n x ≡ true
resolved_over n earlier set [] result a over e x h = let same : set ≡ result = cc in over x (ap (λ f. f x) same ∙ h)
resolved_over n earlier set (step ∷ steps) result a over e x h =
    by_clause (numbered earlier step.0) refl e (λ next all is. resolved_over n earlier next steps result a all is x h)
  where
    both : (p q r s : Bool) → ((p && q) || (r && s)) ≡ true → (p ≡ true) ⊎ (r ≡ true)
    both true q r s g = inl refl
    both false q true s g = inr refl
    both false q false s g = absurd cc

    by_clause : (c : Option (List ℤ)) → numbered earlier step.0 ≡ c
        → option_and_then (λ antecedent. if can_resolve set step.1 (has_literal antecedent) then resolved earlier (resolvent set step.1 (has_literal antecedent)) steps else None) c ≡ Some result
        → ((next : ℤ → Bool) → ((y : ℤ) → next y ≡ true → is_over n y ≡ true) → resolved earlier next steps ≡ Some result → is_over n x ≡ true) → is_over n x ≡ true
    by_clause None f g rest = absurd cc
    by_clause (Some c) f g rest = by_test (can_resolve set step.1 (has_literal c)) g
      where
        own : list_all (is_over n) c ≡ true
        own = numbered_over n earlier step.0 c a f

        by_test : (b : Bool) → (if b then resolved earlier (resolvent set step.1 (has_literal c)) steps else None) ≡ Some result → is_over n x ≡ true
        by_test false q = absurd cc
        by_test true q = rest (resolvent set step.1 (has_literal c)) (λ y m. by_side y (both _ _ _ _ m)) q
          where
            by_side : (y : ℤ) → (set y ≡ true) ⊎ (has_literal c y ≡ true) → is_over n y ≡ true
            by_side y (inl m) = over y m
            by_side y (inr m) = has_over n c y own m

-- the clause of a right line is over the variables of the clauses before it
pub line_over : (n : ℕ) (earlier : List (List ℤ)) (line : DerivationLine) → list_all (list_all (is_over n)) earlier ≡ true → IsRight earlier line → list_all (is_over n) line.clause ≡ true
line_over n earlier line a right = by_chain (chain_of earlier line) refl right
  where
    chain_over : (set : ℤ → Bool) (c : Option (List ℤ)) → numbered earlier line.first ≡ c → option_and_then (λ clause. resolved earlier (has_literal clause) line.steps) c ≡ Some set
        → (x : ℤ) → set x ≡ true → is_over n x ≡ true
    chain_over set None f g x h = absurd cc
    chain_over set (Some c) f g x h =
        resolved_over n earlier (has_literal c) line.steps set a (λ y m. has_over n c y (numbered_over n earlier line.first c a f) m) g x h

    by_chain : (c : Option (ℤ → Bool)) → chain_of earlier line ≡ c → IsSomeAnd c (λ set. (x : ℤ) → set x ≡ has_literal line.clause x) → list_all (is_over n) line.clause ≡ true
    by_chain None f g = absurd g
    by_chain (Some set) f g = all_over n line.clause (λ x m. chain_over set (numbered earlier line.first) refl f x (g x ∙ m))
