-- The reduced suite hits all that the inputs hit, and each of its inputs is needed.
use Rattle.std.proofs.Common.{◌≡◌, ℕ, ◌+◌, Bool, true, false, cond, List, [], ◌∷◌, ◌++◌, map, refl, sym, append_assoc, inl, inr}
use Rattle.std.specs.Prelude.{◌||◌}
use Rattle.std.specs.List.{list_all}
use Rattle.std.proofs.lemmas.Bool.{and_cases, and_parts, eq-eqb, eqb-true, or_cases, or_from, or_left, or_parts, or_right, true≢false}
use Rattle.std.proofs.lemmas.List.Folds.{list_any-append}
use Rattle.measurer.specs.Firsts.{has_number}
use Rattle.suite_reduction.specs.Suite.{is_hit, kept_from}

abbrev lists : List (ℕ × List ℕ) → List (List ℕ)
lists = map (λ input. input.1)

-- the goal is hit elsewhere
abbrev Elsewhere : List (List ℕ) → List (ℕ × List ℕ) → ℕ → Bool
Elsewhere earlier later goal = is_hit earlier goal || is_hit (lists later) goal

all_at : (test : ℕ → Bool) (goals : List ℕ) (goal : ℕ) → list_all test goals ≡ true → has_number goal goals ≡ true → test goal ≡ true
all_at test [] goal all among = absurd (true≢false (sym among))
all_at test (first ∷ goals) goal all among =
    elim (or_cases _ _ among) [
      | inl here ↦ rw (← eqb-true first goal here) (and_parts (test first) _ all).0
      | inr there ↦ all_at test goals goal (and_parts (test first) _ all).1 there
    ]

-- a goal at which the test fails, where it doesn't hold of all
record Fails (test : ℕ → Bool) (goals : List ℕ) : Type 0 where
  goal : ℕ
  among : has_number goal goals ≡ true
  fails : test goal ≡ false

some_fails : (test : ℕ → Bool) (goals : List ℕ) → list_all test goals ≡ false → Fails test goals
some_fails test [] not_all = absurd (true≢false not_all)
some_fails test (first ∷ goals) not_all =
    elim (and_cases _ _ not_all) [
      | inl here ↦ record { goal = first; among = or_left _ _ (eq-eqb first first refl); fails = here }
      | inr there ↦ let rest = some_fails test goals there in
          record { goal = rest.goal; among = or_right _ _ rest.among; fails = rest.fails }
    ]

cons_head : {X : Type 0} (x y : X) (xs ys : List X) → x ∷ xs ≡ y ∷ ys → x ≡ y
cons_head x y xs ys is = cc

cons_tail : {X : Type 0} (x y : X) (xs ys : List X) → x ∷ xs ≡ y ∷ ys → xs ≡ ys
cons_tail x y xs ys is = cc

-- ---- all is hit

is_hit-append : (xs ys : List (List ℕ)) (goal : ℕ) → is_hit (xs ++ ys) goal ≡ (is_hit xs goal || is_hit ys goal)
is_hit-append xs ys goal = list_any-append (has_number goal) xs ys

drop_or_keep : (earlier : List (List ℕ)) (n : ℕ) (goals : List ℕ) (later : List (ℕ × List ℕ)) (goal : ℕ) (redundant : Bool)
    → list_all (Elsewhere earlier later) goals ≡ redundant
    → is_hit ((earlier ++ goals ∷ []) ++ lists later) goal ≡ true
    → is_hit (earlier ++ lists (cond redundant later ((n, goals) ∷ later))) goal ≡ true
drop_or_keep earlier n goals later goal false test hit = rw append_assoc at hit
drop_or_keep earlier n goals later goal true test hit =
    let parts = rw (is_hit-append (earlier ++ goals ∷ []) (lists later) goal, is_hit-append earlier (goals ∷ []) goal) at hit in
    let there = is_hit earlier goal in
    let after = is_hit (lists later) goal in
    rw (is_hit-append earlier (lists later) goal) (elim (or_cases (there || (has_number goal goals || false)) after parts) [
      | inl front ↦ elim (or_cases there (has_number goal goals || false) front) [
        | inl hit_there ↦ or_left there after hit_there
        | inr here ↦ elim (or_cases (has_number goal goals) false here) [
          | inl among ↦ all_at (Elsewhere earlier later) goals goal test among
          | inr none ↦ absurd (true≢false (sym none))
        ]
      ]
      | inr back ↦ or_right there after back
    ])

kept_hit : (earlier : List (List ℕ)) (n : ℕ) (rest : List (List ℕ)) (goal : ℕ) → is_hit (earlier ++ rest) goal ≡ true
    → is_hit (earlier ++ lists (kept_from earlier n rest)) goal ≡ true
kept_hit earlier n [] goal hit = hit
kept_hit earlier n (goals ∷ rest) goal hit =
    let split : (earlier ++ goals ∷ []) ++ rest ≡ earlier ++ goals ∷ rest = simp append_assoc refl in
    let hit_there : is_hit ((earlier ++ goals ∷ []) ++ rest) goal ≡ true = rw split hit in
    drop_or_keep earlier n goals (kept_from (earlier ++ goals ∷ []) (n + 1) rest) goal _ refl
    (kept_hit (earlier ++ goals ∷ []) (n + 1) rest goal hit_there)

pub kept_hit_all : (hits : List (List ℕ)) (goal : ℕ) → is_hit hits goal ≡ true → is_hit (map (λ input. input.1) (kept_from [] 1 hits)) goal ≡ true
kept_hit_all hits goal hit = kept_hit [] 1 hits goal hit

-- ---- each is needed

record Needed (earlier front back : List (List ℕ)) (goals : List ℕ) : Type 0 where
  goal : ℕ
  among : has_number goal goals ≡ true
  not_earlier : is_hit earlier goal ≡ false
  not_front : is_hit front goal ≡ false
  not_back : is_hit back goal ≡ false

kept_here : (earlier : List (List ℕ)) (goals : List ℕ) (later : List (ℕ × List ℕ)) → list_all (Elsewhere earlier later) goals ≡ false
    → Needed earlier [] (lists later) goals
kept_here earlier goals later test =
    let some = some_fails (Elsewhere earlier later) goals test in
    let parts = or_parts _ _ some.fails in
    record { goal = some.goal; among = some.among; not_earlier = parts.0; not_front = refl; not_back = parts.1 }

-- what isn't hit by one more earlier input isn't hit by that input, nor by those before it
without_it : (earlier front back : List (List ℕ)) (first goals : List ℕ) → Needed (earlier ++ first ∷ []) front back goals
    → Needed earlier front back goals × Needed earlier (first ∷ front) back goals
without_it earlier front back first goals need =
    let missed = need.not_earlier in
    let parts = or_parts (is_hit earlier need.goal) _ (rw (is_hit-append earlier (first ∷ []) need.goal) at missed) in
    let not_first = (or_parts (has_number need.goal first) false parts.1).0 in (
      record { goal = need.goal; among = need.among; not_earlier = parts.0; not_front = need.not_front; not_back = need.not_back },
      record { goal = need.goal; among = need.among; not_earlier = parts.0; not_front = or_from _ _ not_first need.not_front; not_back = need.not_back },
    )

kept_or_dropped : (earlier : List (List ℕ)) (n : ℕ) (first : List ℕ) (later front back : List (ℕ × List ℕ)) (input : ℕ × List ℕ) (redundant : Bool)
    → list_all (Elsewhere earlier later) first ≡ redundant
    → ((front' : List (ℕ × List ℕ)) → later ≡ front' ++ input ∷ back → Needed (earlier ++ first ∷ []) (lists front') (lists back) input.1)
    → cond redundant later ((n, first) ∷ later) ≡ front ++ input ∷ back
    → Needed earlier (lists front) (lists back) input.1
kept_or_dropped earlier n first later front back input true test again is = (without_it earlier (lists front) (lists back) first input.1 (again front is)).0
kept_or_dropped earlier n first later [] back input false test again is =
    let same : (n, first) ≡ input = cons_head _ _ _ _ is in
    let rest : later ≡ back = cons_tail _ _ _ _ is in
    rw (← same, ← rest) (kept_here earlier first later test)
kept_or_dropped earlier n first later (kept ∷ front) back input false test again is =
    let same : (n, first) ≡ kept = cons_head _ _ _ _ is in
    let rest : later ≡ front ++ input ∷ back = cons_tail _ _ _ _ is in
    rw (← same) (without_it earlier (lists front) (lists back) first input.1 (again front rest)).1

needed : (earlier : List (List ℕ)) (n : ℕ) (rest : List (List ℕ)) (front back : List (ℕ × List ℕ)) (input : ℕ × List ℕ)
    → kept_from earlier n rest ≡ front ++ input ∷ back → Needed earlier (lists front) (lists back) input.1
needed earlier n [] [] back input is = cc
needed earlier n [] (kept ∷ front) back input is = cc
needed earlier n (first ∷ rest) front back input is =
    kept_or_dropped earlier n first (kept_from (earlier ++ first ∷ []) (n + 1) rest) front back input _ refl
    (λ front' there. needed (earlier ++ first ∷ []) (n + 1) rest front' back input there) is

pub kept_are_needed : (hits : List (List ℕ)) (front back : List (ℕ × List ℕ)) (input : ℕ × List ℕ) → kept_from [] 1 hits ≡ front ++ input ∷ back
    → (goal : ℕ) × (has_number goal input.1 ≡ true) × (is_hit (map (λ kept. kept.1) front) goal ≡ false) × (is_hit (map (λ kept. kept.1) back) goal ≡ false)
kept_are_needed hits front back input is = let need = needed [] 1 hits front back input is in (need.goal, need.among, need.not_front, need.not_back)
