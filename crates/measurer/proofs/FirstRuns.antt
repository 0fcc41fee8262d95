-- The first run that hits a goal, after one more run.
use Rattle.std.proofs.Common.{◌≡◌, ℕ, suc, ◌+◌, ◌-◌, cond, Bool, true, false, List, [], ◌∷◌, ◌++◌, Option, Some, None, length, refl, sym, ◌∙◌, ap, arith, length-append}
use Rattle.std.specs.Prelude.{slice_get}
use Rattle.std.specs.List.{position_from}
use Rattle.measurer.proofs.Matchers.{get_push_new}
use Rattle.measurer.specs.Firsts.{first_hit, has_number}
use Rattle.measurer.specs.Noted.{noted}

first_from : (goal n : ℕ) (lists : List (List ℕ)) (hits : List ℕ) → position_from (has_number goal) n (lists ++ hits ∷ []) ≡ noted (has_number goal hits) (n + length lists) (position_from (has_number goal) n lists)
first_from goal n [] hits = by_test (has_number goal hits)
  where
    by_test : (b : Bool) → cond b (Some n) None ≡ noted b (n + 0) None
    by_test true = ap Some (omega arith)
    by_test false = refl
first_from goal n (xs ∷ lists) hits =
    let ih = first_from goal (n + 1) lists hits in
    let e : n + 1 + length lists ≡ n + suc (length lists) = omega arith in
    by_test (has_number goal xs) (ih ∙ ap (λ k. noted (has_number goal hits) k (position_from (has_number goal) (n + 1) lists)) e)
  where
    by_test : (b : Bool) → position_from (has_number goal) (n + 1) (lists ++ hits ∷ []) ≡ noted (has_number goal hits) (n + suc (length lists)) (position_from (has_number goal) (n + 1) lists)
        → cond b (Some n) (position_from (has_number goal) (n + 1) (lists ++ hits ∷ [])) ≡ noted (has_number goal hits) (n + suc (length lists)) (cond b (Some n) (position_from (has_number goal) (n + 1) lists))
    by_test true h = refl
    by_test false h = h

-- a goal that no earlier run hit is first hit by the new one
pub first_more : (goal : ℕ) (lists : List (List ℕ)) (hits : List ℕ) → first_hit (lists ++ hits ∷ []) goal ≡ noted (has_number goal hits) (length lists + 1) (first_hit lists goal)
first_more goal lists hits = let e : 1 + length lists ≡ length lists + 1 = omega arith in first_from goal 1 lists hits ∙ ap (λ k. noted (has_number goal hits) k (first_hit lists goal)) e

pub noted_is : (goal n : ℕ) (places last : List ℕ) (old new : List (List ℕ)) (v : Option ℕ) → places ≡ last → n ≡ length old + 1 → v ≡ first_hit old goal → new ≡ old ++ last ∷ [] → noted (has_number goal places) n v ≡ first_hit new goal
noted_is goal n places last old new v e f g h =
    ap (λ xs. noted (has_number goal xs) n v) e ∙ ap (λ k. noted (has_number goal last) k v) f ∙ ap (noted (has_number goal last) (length old + 1)) g
    ∙ sym (first_more goal old last) ∙ ap (λ lists. first_hit lists goal) (sym h)

-- the last element after a push
pub last_pushed : {X : Type 0} (all old : List X) (x added : X) → all ≡ old ++ x ∷ [] → Some added ≡ slice_get all (length all - 1) → added ≡ x
last_pushed all old x added e h =
    let size : length all ≡ suc (length old) = ap length e ∙ omega (arith, length-append old (x ∷ [])) in
    let place : length all - 1 ≡ length old = omega arith in
    let found : slice_get all (length all - 1) ≡ Some x = (λ i. slice_get (e i) (place i)) ∙ get_push_new old x in
    let both : Some added ≡ Some x = h ∙ found in
    cc
