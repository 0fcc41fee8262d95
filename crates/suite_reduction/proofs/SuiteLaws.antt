-- Laws of the reduced suite, input by input from the last.
use Rattle.std.proofs.Common.{◌≡◌, ℕ, zero, suc, ◌+◌, ◌-◌, ◌<◌, ◌≤◌, Bool, true, false, cond, List, [], ◌∷◌, ◌++◌, length, map, take, drop, reverse, get_or, Some, refl, sym, ◌∙◌, arith, option_map, slice_get}
use Rattle.std.specs.Prelude.{◌||◌}
use Rattle.std.specs.List.{list_all, list_any, position_from}
use Rattle.std.specs.Option.{option_map_or}
use Rattle.std.proofs.Math.Seq.{drop-length}
use Rattle.std.proofs.lemmas.List.{drop_more, length-map, length-reverse, take_more}
use Rattle.std.proofs.lemmas.List.Folds.{list_any-append}
use Rattle.std.proofs.lemmas.List.FromFn.{get_or-map-range_with_len}
use Rattle.std.proofs.lemmas.Grind.{reverse_onto}
use Rattle.std.proofs.lemmas.Bool.{and_parts, lt-ltb, le-ltb, ltb-true}
use Rattle.suite_reduction.specs.Marks.{are_goals, first_hit, first_hits, is_before, is_elsewhere, is_found, marked}
use Rattle.suite_reduction.proofs.MarksLaws.{first_hits-push}
use Rattle.measurer.specs.Firsts.{has_number}
use Rattle.suite_reduction.specs.Suite.{is_hit, kept_from}
use Rattle.suite_reduction.specs.declared.first_hit.FirstHit.{FirstHit}
use Rattle.suite_reduction.specs.declared.first_hit.FirstHit.TheVariants as earliest

-- what is kept of the inputs from a place on
abbrev pub kept_at : List (List ℕ) → ℕ → List (ℕ × List ℕ)
kept_at hits place = kept_from (take place hits) (place + 1) (drop place hits)

abbrev goal_lists : List (ℕ × List ℕ) → List (List ℕ)
goal_lists = map (λ input. input.1)

-- ---- what the first hits tell of the inputs

position_from-above : (test : List ℕ → Bool) (n m : ℕ) (hits : List (List ℕ)) → m ≤ n
    → is_before m (option_map_or earliest.By (position_from test n hits) earliest.Never) ≡ false
position_from-above test n m [] above = refl
position_from-above test n m (h ∷ hits) above =
    elim (test h) as (λ b. is_before m (option_map_or earliest.By (cond b (Some n) (position_from test (n + 1) hits)) earliest.Never) ≡ false) [
      | true ↦ le-ltb n m above
      | false ↦ position_from-above test (n + 1) m hits (omega arith)
    ]

before_from : (test : List ℕ → Bool) (n p : ℕ) (hits : List (List ℕ))
    → is_before (n + p) (option_map_or earliest.By (position_from test n hits) earliest.Never) ≡ list_any test (take p hits)
before_from test n zero hits = position_from-above test n (n + 0) hits (omega arith)
before_from test n (suc p) [] = refl
before_from test n (suc p) (h ∷ hits) =
    let count : n + 1 + p ≡ n + suc p = omega arith in
    let rest = before_from test (n + 1) p hits in
    elim (test h)
    as (λ b. is_before (n + suc p) (option_map_or earliest.By (cond b (Some n) (position_from test (n + 1) hits)) earliest.Never) ≡ (b || list_any test (take p hits))) [
      | true ↦ lt-ltb n (n + suc p) (omega arith)
      | false ↦ rw count at rest
    ]

-- the first hit has a lower number where one of those hits the goal
first_before : (hits : List (List ℕ)) (p goal : ℕ) → is_before (p + 1) (first_hit hits goal) ≡ is_hit (take p hits) goal
first_before hits p goal = let shift : 1 + p ≡ p + 1 = omega arith in let h = before_from (has_number goal) 1 p hits in rw shift at h

found_from : (test : List ℕ → Bool) (n : ℕ) (hits : List (List ℕ))
    → is_found (option_map_or earliest.By (position_from test n hits) earliest.Never) ≡ list_any test hits
found_from test n [] = refl
found_from test n (h ∷ hits) =
    elim (test h) as (λ b. is_found (option_map_or earliest.By (cond b (Some n) (position_from test (n + 1) hits)) earliest.Never) ≡ (b || list_any test hits)) [
      | true ↦ refl
      | false ↦ found_from test (n + 1) hits
    ]

or_swap : (a b : Bool) → (a || (b || false)) ≡ (b || a)
or_swap true true = refl
or_swap true false = refl
or_swap false true = refl
or_swap false false = refl

list_any-reverse : (test : List ℕ → Bool) (hits : List (List ℕ)) → list_any test (reverse hits) ≡ list_any test hits
list_any-reverse test [] = refl
list_any-reverse test (h ∷ hits) = rw (reverse_onto hits h [], list_any-append, list_any-reverse test hits) (or_swap (list_any test hits) (test h))

get_or-first_hits : (hits : List (List ℕ)) (count goal : ℕ) (d : FirstHit) → goal < count → get_or (first_hits hits count) goal d ≡ first_hit hits goal
get_or-first_hits hits count goal d within = get_or-map-range_with_len (first_hit hits) 0 count goal goal d within (omega arith)

elsewhere_is : (hits lists : List (List ℕ)) (count p goal : ℕ) → goal < count
    → is_elsewhere (p + 1) (first_hits hits count) (first_hits (reverse lists) count) goal ≡ (is_hit (take p hits) goal || is_hit lists goal)
elsewhere_is hits lists count p goal within =
    rw (
      get_or-first_hits hits count goal earliest.Never within,
      get_or-first_hits (reverse lists) count goal earliest.Never within,
      first_before hits p goal,
      found_from (has_number goal) 1 (reverse lists),
      list_any-reverse (has_number goal) lists,
    ) refl

each_elsewhere : (hits lists : List (List ℕ)) (count p : ℕ) (goals : List ℕ) → are_goals count goals ≡ true
    → list_all (is_elsewhere (p + 1) (first_hits hits count) (first_hits (reverse lists) count)) goals
    ≡ list_all (λ goal. is_hit (take p hits) goal || is_hit lists goal) goals
each_elsewhere hits lists count p [] all = refl
each_elsewhere hits lists count p (goal ∷ goals) all =
    let parts = and_parts _ _ all in
    rw (elsewhere_is hits lists count p goal (ltb-true _ _ parts.0), each_elsewhere hits lists count p goals parts.1) refl

-- ---- the step of the loop

kept_step : (hits : List (List ℕ)) (p : ℕ) (d : List ℕ) → p < length hits
    → kept_at hits p ≡ cond (list_all (λ goal. is_hit (take p hits) goal || is_hit (goal_lists (kept_at hits (p + 1))) goal) (get_or hits p d))
    (kept_at hits (p + 1)) ((p + 1, get_or hits p d) ∷ kept_at hits (p + 1))
kept_step hits p d within = rw (drop_more hits p d within, take_more hits p d within) refl

-- the input before a place is dropped, or it is kept
pub kept_before : (hits : List (List ℕ)) (firsts later : List FirstHit) (place : ℕ) (d goals : List ℕ) (redundant : Bool) → 0 < place → place ≤ length hits
    → goals ≡ get_or hits (place - 1) d → are_goals (length firsts) goals ≡ true → firsts ≡ first_hits hits (length firsts)
    → later ≡ first_hits (reverse (map (λ input. input.1) (kept_at hits place))) (length firsts)
    → redundant ≡ list_all (is_elsewhere (place - 1 + 1) firsts later) goals
    → kept_at hits (place - 1) ≡ cond redundant (kept_at hits place) ((place - 1 + 1, goals) ∷ kept_at hits place)
kept_before hits firsts later place d goals redundant some within is all known last said =
    let next : place - 1 + 1 ≡ place = omega arith in
    let step = kept_step hits (place - 1) d (omega arith) in
    let each = each_elsewhere hits (goal_lists (kept_at hits place)) (length firsts) (place - 1) goals all in
    let test : redundant ≡ list_all (λ goal. is_hit (take (place - 1) hits) goal || is_hit (goal_lists (kept_at hits place)) goal) goals =
    said ∙ rw (known, last) each in
    rw (test, next) (rw (next, ← is) at step)

at_end : (hits : List (List ℕ)) → kept_at hits (length hits) ≡ []
at_end hits = rw (drop-length hits) refl

-- nothing is kept of no inputs
pub none_at_end : (hits : List (List ℕ)) (count : ℕ) → ([] ≡ reverse (map (λ input. input.0) (kept_at hits (length hits))))
    × (first_hits [] count ≡ first_hits (reverse (map (λ input. input.1) (kept_at hits (length hits)))) count)
none_at_end hits count = (rw (at_end hits) refl, rw (at_end hits) refl)

-- ---- one more input that is kept, where they are listed from the last

pub number_added : (kept : List (ℕ × List ℕ)) (numbers : List ℕ) (number : ℕ) (goals : List ℕ) → numbers ≡ reverse (map (λ input. input.0) kept)
    → numbers ++ number ∷ [] ≡ reverse (map (λ input. input.0) ((number, goals) ∷ kept))
number_added kept numbers number goals is = rw is (sym (reverse_onto (map (λ input. input.0) kept) number []))

pub list_added : (kept : List (ℕ × List ℕ)) (numbers : List ℕ) (number : ℕ) (goals : List ℕ) (place count : ℕ) (old new : List FirstHit)
    → numbers ≡ reverse (map (λ input. input.0) kept) → place ≡ length numbers + 1 → old ≡ first_hits (reverse (map (λ input. input.1) kept)) count
    → ((k : ℕ) → slice_get new k ≡ option_map (marked place goals k) (slice_get old k))
    → new ≡ first_hits (reverse (map (λ input. input.1) ((number, goals) ∷ kept))) count
list_added kept numbers number goals place count old new is last before each =
    let long : place ≡ length (reverse (map (λ input. input.1) kept)) + 1 = rw (last, is, length-reverse, length-map, length-reverse, length-map) refl in
    rw (reverse_onto (map (λ input. input.1) kept) goals []) (first_hits-push (reverse (map (λ input. input.1) kept)) goals place count old new long before each)
