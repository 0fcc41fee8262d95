-- The first of several lists that passes a test, and lists that a number is in.
use Rattle.std.proofs.Common.{◌≡◌, ℕ, zero, suc, ◌+◌, ◌-◌, ◌<◌, ◌≤◌, ◌==◌, ◌||◌, Bool, true, false, cond, List, [], ◌∷◌, ◌++◌, take, length, get_or, Some, None, refl, sym, ap, ◌∙◌, arith, eq-eqb, eqb-true, ⊎_elim}
use Rattle.std.specs.Prelude.{slice_get}
use Rattle.std.specs.List.{Contains, list_any, position_from}
use Rattle.std.specs.List.Sorted.{IsStrictlyIncreasing}
use Rattle.std.proofs.lemmas.Bool.{cases_lt, or_from}
use Rattle.std.proofs.lemmas.List.{get_or_append_left, get_or-append-add}

pub record Found (test : List ℕ → Bool) (first place : ℕ) (hits : List (List ℕ)) : Type 0 where
  pub goals : List ℕ
  pub from : first ≤ place
  pub here : slice_get hits (place - first) ≡ Some goals
  pub passes : test goals ≡ true
  pub none_before : list_any test (take (place - first) hits) ≡ false

pub found : (test : List ℕ → Bool) (first place : ℕ) (hits : List (List ℕ)) → position_from test first hits ≡ Some place → Found test first place hits
found test first place [] is = cc
found test first place (goals ∷ hits) is = by (test goals) refl (found test (first + 1) place hits) is
  where
    by : (b : Bool) → test goals ≡ b → (position_from test (first + 1) hits ≡ Some place → Found test (first + 1) place hits)
        → cond b (Some first) (position_from test (first + 1) hits) ≡ Some place → Found test first place (goals ∷ hits)
    by true passes rest is =
        let same : first ≡ place = cc in
        let zero_after : place - first ≡ 0 = omega (arith, same) in
        record { goals = goals; from = omega (arith, same); here = rw zero_after refl; passes = passes; none_before = rw zero_after refl }
    by false fails rest is =
        let later = rest is in
        let above = later.from in
        let next : place - first ≡ suc (place - (first + 1)) = omega (arith, above) in
        record {
          goals = later.goals;
          from = omega (arith, above);
          here = rw next later.here;
          passes = later.passes;
          none_before = rw next (or_from _ _ fails later.none_before);
        }

pub missing : (test : List ℕ → Bool) (first : ℕ) (hits : List (List ℕ)) → position_from test first hits ≡ None → list_any test hits ≡ false
missing test first [] is = refl
missing test first (goals ∷ hits) is = by (test goals) refl (missing test (first + 1) hits) is
  where
    by : (b : Bool) → test goals ≡ b → (position_from test (first + 1) hits ≡ None → list_any test hits ≡ false)
        → cond b (Some first) (position_from test (first + 1) hits) ≡ None → list_any test (goals ∷ hits) ≡ false
    by true passes rest is = cc
    by false fails rest is = or_from _ _ fails (rest is)

-- where none passes, the one at a place doesn't
pub none_at : {X : Type 0} (test : X → Bool) (xs : List X) (k : ℕ) (x : X) → list_any test xs ≡ false → slice_get xs k ≡ Some x → test x ≡ false
none_at test [] k x none there = absurd cc
none_at {X} test (y ∷ xs) zero x none there = by (test y) refl none
  where
    by : (b : Bool) → test y ≡ b → (b || list_any test xs) ≡ false → test x ≡ false
    by true is h = absurd cc
    by false is h = let same : y ≡ x = cc in ap test (sym same) ∙ is
none_at {X} test (y ∷ xs) (suc k) x none there = by (test y) (λ rest. none_at test xs k x rest there) none
  where
    by : (b : Bool) → (list_any test xs ≡ false → test x ≡ false) → (b || list_any test xs) ≡ false → test x ≡ false
    by true later h = absurd cc
    by false later h = later h

-- ---- a number among numbers

pub contains_any : (xs : List ℕ) (n : ℕ) → list_any (λ m. m == n) xs ≡ true → Contains xs n
contains_any [] n h = absurd cc
contains_any (x ∷ xs) n h = by (x == n) refl (contains_any xs n) h
  where
    by : (b : Bool) → (x == n) ≡ b → (list_any (λ m. m == n) xs ≡ true → Contains xs n) → (b || list_any (λ m. m == n) xs) ≡ true → Contains (x ∷ xs) n
    by true is later g = (0, omega arith, eqb-true x n is)
    by false is later g = let rest = later g in (suc rest.0, (let lt = rest.1 in omega arith), rest.2)

pub any_contains : (xs : List ℕ) (n : ℕ) → Contains xs n → list_any (λ m. m == n) xs ≡ true
any_contains [] n (k, lt, is) = absurd (omega arith)
any_contains (x ∷ xs) n (zero, lt, is) = ap (λ b. b || list_any (λ m. m == n) xs) (eq-eqb x n is)
any_contains (x ∷ xs) n (suc k, lt, is) = by (x == n) (any_contains xs n (k, omega arith, is))
  where
    by : (b : Bool) → list_any (λ m. m == n) xs ≡ true → (b || list_any (λ m. m == n) xs) ≡ true
    by true h = refl
    by false h = h

-- ---- lists

-- the element at a place within a list
pub there_at : {X : Type 0} (xs : List X) (k : ℕ) → k < length xs → (x : X) × (slice_get xs k ≡ Some x)
there_at [] k lt = absurd (omega arith)
there_at (x ∷ xs) zero lt = (x, refl)
there_at (x ∷ xs) (suc k) lt = there_at xs k (omega arith)

index_of : (xs : List ℕ) (k x : ℕ) → slice_get xs k ≡ Some x → get_or xs k 0 ≡ x
index_of [] k x is = absurd cc
index_of (y ∷ xs) zero x is = cc
index_of (y ∷ xs) (suc k) x is = index_of xs k x is

-- a rising list goes on rising with a number above all of it
pub rises_further : (xs : List ℕ) (n : ℕ) → IsStrictlyIncreasing xs → ((k x : ℕ) → slice_get xs k ≡ Some x → x < n) → (k : ℕ) → k + 1 < length xs + 1 → get_or (xs ++ n ∷ []) k 0 < get_or (xs ++ n ∷ []) (k + 1) 0
rises_further xs n rise below k lt = ⊎_elim inside last (cases_lt (k + 1) (length xs))
  where
    inside : k + 1 < length xs → get_or (xs ++ n ∷ []) k 0 < get_or (xs ++ n ∷ []) (k + 1) 0
    inside h =
        let left = get_or_append_left xs (n ∷ []) 0 k (omega arith) in
        let right = get_or_append_left xs (n ∷ []) 0 (k + 1) h in
        let up : get_or xs k 0 < get_or xs (k + 1) 0 = rise k h in
        omega (arith, left, right, up)

    last : length xs ≤ k + 1 → get_or (xs ++ n ∷ []) k 0 < get_or (xs ++ n ∷ []) (k + 1) 0
    last h =
        let left = get_or_append_left xs (n ∷ []) 0 k (omega arith) in
        let it = there_at xs k (omega arith) in
        let own = index_of xs k it.0 it.1 in
        let up = below k it.0 it.1 in
        let place : k + 1 ≡ length xs + 0 = omega arith in
        let right : get_or (xs ++ n ∷ []) (k + 1) 0 ≡ n = ap (λ i. get_or (xs ++ n ∷ []) i 0) place ∙ get_or-append-add xs (n ∷ []) 0 0 in
        omega (arith, left, own, up, right)
