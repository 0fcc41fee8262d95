-- Tables of marks.
use Rattle.std.proofs.Common.{◌≡◌, ℕ, ◌+◌, ◌≤◌, ◌<◌, ◌&&◌, Bool, true, false, List, [], ◌∷◌, ◌++◌, length, get_or, inl, inr, refl, sym, ◌∙◌, ap, arith}
use Rattle.std.proofs.lemmas.Bool.{cases_lt, lt-ltb, le-ltb}
use Rattle.std.proofs.lemmas.List.{get_or_push}
use lib.ListN.{get_or-append}
use Rattle.std.proofs.Math.ListN.{get_or-eq_default}
use Rattle.std.specs.Prelude.{nat_lt}
use Rattle.filters.specs.declared.marks.Combination.{Combination}
use Rattle.filters.specs.declared.marks.Combination.TheVariants.{Without, Either, Both}
use Rattle.filters.specs.Combining.{combined_mark}
use Rattle.filters.specs.Parts.{is_marked}

-- one more mark
pub each_more : (f : ℕ → Bool) (xs : List Bool) (x : Bool) (n : ℕ) → length xs ≡ n → ((k : ℕ) → k < n → get_or xs k false ≡ f k) → x ≡ f n
    → (k : ℕ) → k < n + 1 → get_or (xs ++ x ∷ []) k false ≡ f k
each_more f xs x n size below here k lt = elim (cases_lt k n) [
  | inl old ↦ get_or-append xs (x ∷ []) false k (omega arith) ∙ below k old
  | inr new ↦ let e : length xs ≡ k = omega arith in get_or_push xs x false k e ∙ here ∙ ap f (sym size ∙ e)
]

-- tables that give the same marks are the same sets
pub sets_equal : (f g : ℕ → Bool) → ((k : ℕ) → f k ≡ g k) → f ≡ g
sets_equal f g h = λ i. λ k. h k i

-- a table of n marks is a set that has nothing past them
pub table_is : (f : ℕ → Bool) (xs : List Bool) (n : ℕ) → length xs ≡ n → ((k : ℕ) → k < n → get_or xs k false ≡ f k) → ((k : ℕ) → n ≤ k → f k ≡ false) → (λ k. get_or xs k false) ≡ f
table_is f xs n size below above = sets_equal (λ k. get_or xs k false) f (λ k. elim (cases_lt k n) [
  | inl lt ↦ below k lt
  | inr ge ↦ get_or-eq_default xs false (omega arith) ∙ sym (above k ge)
])

past : (xs : List Bool) (k : ℕ) → length xs ≤ k → get_or xs k false ≡ false
past xs k ge = get_or-eq_default xs false ge

combined_past : (c : Combination) (x y : Bool) → x ≡ false → y ≡ false → combined_mark c x y ≡ false
combined_past Without false false p q = refl
combined_past Either false false p q = refl
combined_past Both false false p q = refl
combined_past c true y p q = cc
combined_past c x true p q = cc

-- combined marks, each by the two at its place
pub combined_is : (c : Combination) (a b xs : List Bool) → length a ≡ length b → length xs ≡ length a
    → ((k : ℕ) → k < length a → get_or xs k false ≡ combined_mark c (get_or a k false) (get_or b k false))
    → is_marked xs ≡ (λ k. combined_mark c (is_marked a k) (is_marked b k))
combined_is c a b xs same size each = table_is (λ k. combined_mark c (is_marked a k) (is_marked b k)) xs (length a) size each
    (λ k ge. combined_past c (get_or a k false) (get_or b k false) (past a k ge) (past b k (omega arith)))

pub all_is : (xs : List Bool) (n : ℕ) → length xs ≡ n → ((k : ℕ) → k < n → get_or xs k false ≡ true) → is_marked xs ≡ (λ k. nat_lt k n)
all_is xs n size each = table_is (λ k. nat_lt k n) xs n size (λ k lt. each k lt ∙ sym (lt-ltb k n lt)) (λ k ge. le-ltb k n ge)

and_past : (x y : Bool) → x ≡ false → (x && y) ≡ false
and_past true y h = cc
and_past false y h = refl

-- of a table's marks those that pass a test
pub kept_is : (test : ℕ → Bool) (a xs : List Bool) → length xs ≡ length a → ((k : ℕ) → k < length a → get_or xs k false ≡ (get_or a k false && test k))
    → is_marked xs ≡ (λ k. is_marked a k && test k)
kept_is test a xs size each = table_is (λ k. is_marked a k && test k) xs (length a) size each (λ k ge. and_past (get_or a k false) (test k) (past a k ge))
