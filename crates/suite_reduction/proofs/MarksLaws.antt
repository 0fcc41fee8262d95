-- Laws of the first hits of goals, input by input.
use Rattle.std.proofs.Common.{◌≡◌, ℕ, zero, suc, ◌+◌, ◌<◌, ◌≤◌, Bool, true, false, cond, List, [], ◌∷◌, ◌++◌, length, map, take, set, get_or, option_map, slice_get, replicate, Some, None, refl, sym, ap, ◌∙◌, ◌≢◌, arith, add-zero, inl, inr}
use Rattle.std.specs.Prelude.{Option, ◌==◌, ◌||◌, nat_lt}
use Rattle.std.specs.List.{list_all, position_from, range_with_len}
use Rattle.std.specs.Option.{option_map_or}
use Rattle.std.proofs.lemmas.List.{length-take-le, take_more}
use Rattle.std.proofs.lemmas.List.Folds.{list_all_at, list_all_more, list_any_more}
use Rattle.std.proofs.lemmas.Bool.Decides.{eqb_tells}
use Rattle.std.proofs.lemmas.Bool.{and_parts, eq-eqb, false≢true, lt-ltb, ltb-true, ne_eqb, true_from_ne_false}
use Rattle.suite_reduction.specs.Marks.{are_goals, first_by, first_hit, first_hits, marked}
use Rattle.measurer.specs.Firsts.{has_number}
use Rattle.suite_reduction.specs.declared.first_hit.FirstHit.{FirstHit}
use Rattle.suite_reduction.specs.declared.first_hit.FirstHit.TheVariants as earliest

-- ---- goals in range

-- a test that holds of each element holds of the one at a place
pub list_all-get_or : {X : Type 0} (test : X → Bool) (xs : List X) (i : ℕ) (d : X) → list_all test xs ≡ true → i < length xs
    → test (get_or xs i d) ≡ true
list_all-get_or test xs i d all within =
    true_from_ne_false _ (λ none. false≢true (sym (list_all_at test xs i d within none) ∙ all))

-- a goal of a list that are goals is below their count
pub goal_in_range : (count : ℕ) (goals : List ℕ) (i : ℕ) → are_goals count goals ≡ true → i < length goals
    → get_or goals i 0 < count
goal_in_range count goals i all within = ltb-true _ _ (list_all-get_or _ goals i 0 all within)

-- goals below a count are below a greater one
are_goals-more : (n m : ℕ) (goals : List ℕ) → n ≤ m → are_goals n goals ≡ true → are_goals m goals ≡ true
are_goals-more n m [] more all = refl
are_goals-more n m (goal ∷ goals) more all =
    let parts = and_parts _ _ all in
    let below : goal < n = ltb-true _ _ parts.0 in
    rw (lt-ltb goal m (omega (arith, below)), are_goals-more n m goals more parts.1) refl

all_goals-more : (n m : ℕ) (hits : List (List ℕ)) → n ≤ m → list_all (are_goals n) hits ≡ true → list_all (are_goals m) hits ≡ true
all_goals-more n m [] more all = refl
all_goals-more n m (goals ∷ hits) more all =
    let parts = and_parts _ _ all in
    rw (are_goals-more n m goals more parts.0, all_goals-more n m hits more parts.1) refl

pub goals_counted : (n m : ℕ) (goals : List ℕ) (i : ℕ) → i < length goals → are_goals n (take i goals) ≡ true → n ≤ m → get_or goals i 0 < m
    → are_goals m (take (i + 1) goals) ≡ true
goals_counted n m goals i within all more here =
    rw (list_all_more (λ goal. nat_lt goal m) goals i 0 within, are_goals-more n m (take i goals) more all, lt-ltb _ _ here) refl

pub lists_counted : (n m : ℕ) (hits : List (List ℕ)) (i : ℕ) (d : List ℕ) → i < length hits → list_all (are_goals n) (take i hits) ≡ true → n ≤ m
    → are_goals m (get_or hits i d) ≡ true → list_all (are_goals m) (take (i + 1) hits) ≡ true
lists_counted n m hits i d within all more here =
    rw (list_all_more (are_goals m) hits i d within, all_goals-more n m (take i hits) more all, here) refl

-- ---- one more input

position_from-push : (test : List ℕ → Bool) (n : ℕ) (hits : List (List ℕ)) (goals : List ℕ)
    → position_from test n (hits ++ goals ∷ []) ≡ option_map_or Some (position_from test n hits) (cond (test goals) (Some (n + length hits)) None)
position_from-push test n [] goals = rw add-zero refl
position_from-push test n (h ∷ hits) goals =
    let count : n + 1 + length hits ≡ n + suc (length hits) = omega arith in
    elim (test h) as (λ b. cond b (Some n) (position_from test (n + 1) (hits ++ goals ∷ []))
    ≡ option_map_or Some (cond b (Some n) (position_from test (n + 1) hits)) (cond (test goals) (Some (n + suc (length hits))) None)) [
      | true ↦ refl
      | false ↦ rw (position_from-push test (n + 1) hits goals, count) refl
    ]

first_step : (found : Option ℕ) (here : Bool) (m n : ℕ) → m ≡ n
    → option_map_or earliest.By (option_map_or Some found (cond here (Some m) None)) earliest.Never
    ≡ cond here (first_by n (option_map_or earliest.By found earliest.Never)) (option_map_or earliest.By found earliest.Never)
first_step (Some j) true m n same = refl
first_step (Some j) false m n same = refl
first_step None true m n same = ap earliest.By same
first_step None false m n same = refl

-- one more input marks its goals
pub first_hit-push : (hits : List (List ℕ)) (goals : List ℕ) (goal : ℕ)
    → first_hit (hits ++ goals ∷ []) goal ≡ marked (length hits + 1) goals goal (first_hit hits goal)
first_hit-push hits goals goal =
    rw (position_from-push (has_number goal) 1 hits goals)
    (first_step (position_from (has_number goal) 1 hits) (has_number goal goals) (1 + length hits) (length hits + 1) (omega arith))

firsts_from-push : (hits : List (List ℕ)) (goals : List ℕ) (first count : ℕ) (new : List FirstHit)
    → ((k : ℕ) → slice_get new k ≡ option_map (marked (length hits + 1) goals (first + k)) (slice_get (map (first_hit hits) (range_with_len first count)) k))
    → new ≡ map (first_hit (hits ++ goals ∷ [])) (range_with_len first count)
firsts_from-push hits goals first zero [] each = refl
firsts_from-push hits goals first zero (x ∷ new) each = let none = each 0 in cc
firsts_from-push hits goals first (suc count) [] each = let some = each 0 in cc
firsts_from-push hits goals first (suc count) (x ∷ new) each =
    let start : first + 0 ≡ first = omega arith in
    let head = each 0 in
    let first_is : Some x ≡ Some (marked (length hits + 1) goals first (first_hit hits first)) = rw start at head in
    let rest = firsts_from-push hits goals (first + 1) count new (λ k.
    let next : first + suc k ≡ first + 1 + k = omega arith in
    let later = each (suc k) in
    rw next at later) in
    let here : x ≡ marked (length hits + 1) goals first (first_hit hits first) = cc in
    rw (here, rest, first_hit-push hits goals first) refl

-- the first hits after one more input, from those before it
pub first_hits-push : (hits : List (List ℕ)) (goals : List ℕ) (number count : ℕ) (old new : List FirstHit)
    → number ≡ length hits + 1 → old ≡ first_hits hits count
    → ((k : ℕ) → slice_get new k ≡ option_map (marked number goals k) (slice_get old k))
    → new ≡ first_hits (hits ++ goals ∷ []) count
first_hits-push hits goals number count old new is before each =
    firsts_from-push hits goals 0 count new (λ k.
    let shift : 0 + k ≡ k = omega arith in
    let one = each k in
    rw shift (rw (before, is) at one))

pub first_hits-more : (hits : List (List ℕ)) (i count : ℕ) (d goals : List ℕ) (old new : List FirstHit) → i < length hits
    → goals ≡ get_or hits i d → old ≡ first_hits (take i hits) count
    → ((k : ℕ) → slice_get new k ≡ option_map (marked (i + 1) goals k) (slice_get old k))
    → new ≡ first_hits (take (i + 1) hits) count
first_hits-more hits i count d goals old new within is before each =
    let number : i + 1 ≡ length (take i hits) + 1 = rw (length-take-le i hits (omega arith)) refl in
    rw (take_more hits i d within, ← is) (first_hits-push (take i hits) goals (i + 1) count old new number before each)

-- ---- one more goal of an input

pub slice_get-set_here : {X : Type 0} (xs : List X) (p : ℕ) (y : X) → p < length xs → slice_get (set xs p y) p ≡ Some y
slice_get-set_here [] p y within = absurd (omega arith)
slice_get-set_here (x ∷ xs) zero y within = refl
slice_get-set_here (x ∷ xs) (suc p) y within = slice_get-set_here xs p y (omega arith)

pub slice_get-set_other : {X : Type 0} (xs : List X) (p k : ℕ) (y : X) → k ≢ p → slice_get (set xs p y) k ≡ slice_get xs k
slice_get-set_other [] p k y other = refl
slice_get-set_other (x ∷ xs) zero zero y other = absurd (other refl)
slice_get-set_other (x ∷ xs) zero (suc k) y other = refl
slice_get-set_other (x ∷ xs) (suc p) zero y other = refl
slice_get-set_other (x ∷ xs) (suc p) (suc k) y other = slice_get-set_other xs p k y (λ same. other (ap suc same))

first_twice : (input : ℕ) (before : FirstHit) → first_by input (first_by input before) ≡ first_by input before
first_twice input earliest.Never = refl
first_twice input (earliest.By earlier) = refl

first_marked : (input : ℕ) (goals : List ℕ) (goal : ℕ) (before : FirstHit)
    → first_by input (marked input goals goal before) ≡ first_by input before
first_marked input goals goal before =
    elim (has_number goal goals) as (λ b. first_by input (cond b (first_by input before) before) ≡ first_by input before) [
      | true ↦ first_twice input before
      | false ↦ refl
    ]

marked_here : (goals : List ℕ) (i input : ℕ) (before : FirstHit) → i < length goals
    → marked input (take (i + 1) goals) (get_or goals i 0) before ≡ first_by input (marked input (take i goals) (get_or goals i 0) before)
marked_here goals i input before within =
    rw (
      list_any_more (λ other. other == get_or goals i 0) goals i 0 within,
      eq-eqb (get_or goals i 0) _ refl,
      first_marked input (take i goals) (get_or goals i 0) before,
    )
    (elim (has_number (get_or goals i 0) (take i goals))
    as (λ b. cond (b || true) (first_by input before) before ≡ first_by input before) [ true ↦ refl | false ↦ refl ])

marked_elsewhere : (goals : List ℕ) (i input goal : ℕ) (before : FirstHit) → i < length goals → get_or goals i 0 ≢ goal
    → marked input (take (i + 1) goals) goal before ≡ marked input (take i goals) goal before
marked_elsewhere goals i input goal before within other =
    rw (list_any_more (λ other. other == goal) goals i 0 within, ne_eqb (get_or goals i 0) goal other)
    (elim (has_number goal (take i goals))
    as (λ b. cond (b || false) (first_by input before) before ≡ cond b (first_by input before) before) [ true ↦ refl | false ↦ refl ])

-- a place that was marked, from what the goal's place held
marked_place : (initial : Option FirstHit) (goals : List ℕ) (i input : ℕ) (was : FirstHit) → i < length goals
    → Some was ≡ option_map (marked input (take i goals) (get_or goals i 0)) initial
    → Some (first_by input was) ≡ option_map (marked input (take (i + 1) goals) (get_or goals i 0)) initial
marked_place None goals i input was within is = cc
marked_place (Some before) goals i input was within is =
    let same : was ≡ marked input (take i goals) (get_or goals i 0) before = cc in
    rw (marked_here goals i input before within, same) refl

kept_place : (initial : Option FirstHit) (goals : List ℕ) (i input goal : ℕ) → i < length goals → get_or goals i 0 ≢ goal
    → option_map (marked input (take i goals) goal) initial ≡ option_map (marked input (take (i + 1) goals) goal) initial
kept_place None goals i input goal within other = refl
kept_place (Some before) goals i input goal within other = rw (marked_elsewhere goals i input goal before within other) refl

-- one more goal of the input's list
pub marked_more : (initial firsts : List FirstHit) (goals : List ℕ) (i input : ℕ) (was : FirstHit) → i < length goals
    → get_or goals i 0 < length firsts
    → ((k : ℕ) → slice_get firsts k ≡ option_map (marked input (take i goals) k) (slice_get initial k))
    → slice_get firsts (get_or goals i 0) ≡ Some was
    → (k : ℕ) → slice_get (set firsts (get_or goals i 0) (first_by input was)) k
    ≡ option_map (marked input (take (i + 1) goals) k) (slice_get initial k)
marked_more initial firsts goals i input was within room so_far here k =
    elim (eqb_tells k (get_or goals i 0)) [
      | inl same ↦
          let number : k ≡ get_or goals i 0 = same.1 in
          let before = so_far k in
          let was_is : slice_get firsts k ≡ Some was = rw same.1 here in
          let there : slice_get (set firsts (get_or goals i 0) (first_by input was)) k ≡ Some (first_by input was) =
          rw same.1 (slice_get-set_here firsts (get_or goals i 0) (first_by input was) room) in
          there ∙ rw number (marked_place (slice_get initial (get_or goals i 0)) goals i input was within (rw number at (sym was_is ∙ before)))
      | inr other ↦
          let apart : get_or goals i 0 ≢ k = λ is. other.1 (sym is) in
          slice_get-set_other firsts (get_or goals i 0) k (first_by input was) other.1 ∙ so_far k
          ∙ kept_place (slice_get initial k) goals i input k within apart
    ]

-- ---- before the first input

never_from : (first count : ℕ) → replicate count earliest.Never ≡ map (first_hit []) (range_with_len first count)
never_from first zero = refl
never_from first (suc count) = ap (λ rest. earliest.Never ∷ rest) (never_from (first + 1) count)

pub first_hits-none : (count : ℕ) → replicate count earliest.Never ≡ first_hits [] count
first_hits-none count = never_from 0 count
