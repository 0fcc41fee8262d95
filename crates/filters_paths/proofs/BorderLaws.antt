-- Tables of nodes.
use Rattle.std.proofs.Common.{◌≡◌, ℕ, zero, suc, ◌+◌, ◌<◌, ◌||◌, ◌==◌, cond, Bool, true, false, List, [], ◌∷◌, ◌++◌, Some, length, get_or, take, refl, sym, ◌∙◌, ap, add-one, add-zero, zero-add, arith}
use Rattle.std.specs.Prelude.{slice_get}
use Rattle.std.specs.List.{list_any, filter, range_with_len}
use Rattle.std.proofs.lemmas.List.{append-nil}
use Rattle.std.proofs.lemmas.List.Elements.{filter-append}
use Rattle.std.specs.Option.{IsSomeAnd}
use Rattle.std.proofs.lemmas.List.Folds.{list_any_more}
use Rattle.std.proofs.lemmas.Option.{get_or_from_slice_get, slice_get_within, slice_get_read}
use Rattle.cfa.proofs.Exits.{taken}

-- the index of what is there is within
pub within_by : {X : Type 0} (xs : List X) (P : X → Type 0) (i : ℕ) → IsSomeAnd (slice_get xs i) P → i < length xs
within_by xs P i h = let there = taken P (slice_get xs i) h in slice_get_within xs i there.0 there.1

-- one more element, whose number is known
pub any_more : {X : Type 0} (number : X → ℕ) (xs : List X) (i v n : ℕ) → IsSomeAnd (slice_get xs i) (λ x. number x ≡ v)
    → list_any (λ x. number x == n) (take (i + 1) xs) ≡ (list_any (λ x. number x == n) (take i xs) || (v == n))
any_more number xs i v n h =
    let there = taken (λ x. number x ≡ v) (slice_get xs i) h in
    let lt = slice_get_within xs i there.0 there.1 in
    list_any_more (λ x. number x == n) xs i there.0 lt
    ∙ ap (λ x. list_any (λ y. number y == n) (take i xs) || (number x == n)) (get_or_from_slice_get xs i there.0 there.0 there.1)
    ∙ ap (λ m. list_any (λ y. number y == n) (take i xs) || (m == n)) there.2

-- what is read at a place that is within
pub read_within : {X : Type 0} (xs ys : List X) → ys ≡ xs → (i : ℕ) (x : X) → i < length xs → x ≡ get_or ys i x → slice_get xs i ≡ Some x
read_within xs ys same i x lt is = slice_get_read xs (length xs) i x refl lt (is ∙ ap (λ l. get_or l i x) same)

-- a range of one more number
range_more : (a n : ℕ) → range_with_len a (suc n) ≡ range_with_len a n ++ (a + n) ∷ []
range_more a zero = ap (λ m. m ∷ []) (sym (add-zero a))
range_more a (suc n) = ap (λ xs. a ∷ xs) (range_more (a + 1) n) ∙ ap (λ m. a ∷ (range_with_len (a + 1) n ++ m ∷ [])) (omega arith)

pub first_numbers : (test : ℕ → Bool) (n : ℕ) → filter test (range_with_len 0 (n + 1)) ≡ filter test (range_with_len 0 n) ++ filter test (n ∷ [])
first_numbers test n =
    ap (λ m. filter test (range_with_len 0 m)) (add-one n) ∙ ap (filter test) (range_more 0 n) ∙ filter-append test (range_with_len 0 n) ((0 + n) ∷ [])
    ∙ ap (λ m. filter test (range_with_len 0 n) ++ filter test (m ∷ [])) (zero-add n)

pub first_passes : (test : ℕ → Bool) (n : ℕ) → test n ≡ true → filter test (range_with_len 0 (n + 1)) ≡ filter test (range_with_len 0 n) ++ n ∷ []
first_passes test n h = first_numbers test n ∙ ap (λ b. filter test (range_with_len 0 n) ++ cond b (n ∷ []) []) h

pub first_fails : (test : ℕ → Bool) (n : ℕ) → test n ≡ false → filter test (range_with_len 0 (n + 1)) ≡ filter test (range_with_len 0 n)
first_fails test n h = first_numbers test n ∙ ap (λ b. filter test (range_with_len 0 n) ++ cond b (n ∷ []) []) h ∙ append-nil _
