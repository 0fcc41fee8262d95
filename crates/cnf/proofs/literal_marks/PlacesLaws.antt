-- What the proofs about places share.
use Rattle.std.proofs.Common.{◌≡◌, ℕ, zero, suc, ◌<◌, ◌≤◌, ◌^◌, SFits, w32, Bool, true, false, List, [], ◌∷◌, length, get_or, refl, sym, ◌∙◌, ap, arith, cond, Option, None, Some}
use Rattle.std.specs.Prelude.{ℤ, pos, negsuc, nat_lt, slice_get, option_map, Result, Ok, Err, ◌||◌}
use Rattle.std.specs.Result.{result_ok}
use Rattle.std.specs.Ordering.{int_eq, nat_cmp, ordering_index}
use Rattle.std.specs.List.{AllWithin}
use Rattle.std.specs.List.Sorted.{IsBinarySearchResult, IsSearchInRange}
use Rattle.std.specs.declared.cmp.Ordering.TheVariants.{Less, Equal, Greater}
use Rattle.std.proofs.lemmas.Bool.Decides.{Decides-ltb, nat_tests}
use Rattle.cnf.specs.Clauses.{literal_key, RisesFrom, IsClause, has_literal}
use Rattle.cnf.proofs.ClauseLaws.{same_key, same_literal, equal_literal}
use Rattle.cnf.specs.declared.literal_marks.places.Places.{Places}
use Rattle.cnf.specs.declared.literal_marks.places.Places.TheVariants.{ByKey, Listed}
use Rattle.cnf.specs.literal_marks.Places.{place_in, place_of}

-- ---- the literal at a place

later : (p : Option ℕ) (i : ℕ) → option_map (λ j. suc j) p ≡ Some i → (j : ℕ) × (p ≡ Some j) × (i ≡ suc j)
later None i e = absurd cc
later (Some j) i e = let s : suc j ≡ i = cc in (j, refl, sym s)

pub at_place : (xs : List ℤ) (x : ℤ) (i : ℕ) → place_in xs x ≡ Some i → slice_get xs i ≡ Some x
at_place [] x i e = absurd cc
at_place (y ∷ ys) x i e = by_test (int_eq y x) refl e (at_place ys x)
  where
    by_test : (b : Bool) → int_eq y x ≡ b → cond b (Some zero) (option_map (λ j. suc j) (place_in ys x)) ≡ Some i
        → ((j : ℕ) → place_in ys x ≡ Some j → slice_get ys j ≡ Some x) → slice_get (y ∷ ys) i ≡ Some x
    by_test true f g rest = let at : zero ≡ i = cc in rw (← at) (ap Some (same_literal y x f))
    by_test false f g rest = let found = later (place_in ys x) i g in rw found.2 (rest found.0 found.1)

-- no two literals have one place
pub one_place : (places : Places) (x y : ℤ) (i : ℕ) → place_of places x ≡ Some i → place_of places y ≡ Some i → x ≡ y
one_place ByKey x y i e f = let same : literal_key x ≡ literal_key y = cc in same_key x y same
one_place (Listed all) x y i e f =
    let first = at_place all x i e in
    let second = at_place all y i f in
    cc

-- ---- a search

-- a literal that is there has a place, below the length
pub place_below : (xs : List ℤ) (x : ℤ) → has_literal xs x ≡ true → (i : ℕ) × (place_in xs x ≡ Some i) × (i < length xs)
place_below [] x e = absurd cc
place_below (y ∷ ys) x e = by_test (int_eq y x) e (place_below ys x)
  where
    by_test : (b : Bool) → (b || has_literal ys x) ≡ true → (has_literal ys x ≡ true → (i : ℕ) × (place_in ys x ≡ Some i) × (i < length ys)) → (i : ℕ) × (cond b (Some zero) (option_map (λ j. suc j) (place_in ys x)) ≡ Some i) × (i < suc (length ys))
    by_test true f rest = (zero, refl, omega arith)
    by_test false f rest = let found = rest f in (suc found.0, ap (option_map (λ j. suc j)) found.1, omega (arith, found.2))

key_above : (low : ℕ) (xs : List ℤ) (i : ℕ) (d : ℤ) → RisesFrom low xs → i < length xs → low < literal_key (get_or xs i d)
key_above low [] i d r h = absurd (omega arith)
key_above low (y ∷ ys) zero d r h = r.0
key_above low (y ∷ ys) (suc i) d r h = omega (arith, r.0, key_above (literal_key y) ys i d r.2 (omega arith))

keys_rise : (low : ℕ) (xs : List ℤ) (i j : ℕ) (d : ℤ) → RisesFrom low xs → i ≤ j → j < length xs → literal_key (get_or xs i d) ≤ literal_key (get_or xs j d)
keys_rise low [] i j d r h s = absurd (omega arith)
keys_rise low (y ∷ ys) zero zero d r h s = omega arith
keys_rise low (y ∷ ys) zero (suc j) d r h s = omega (arith, key_above (literal_key y) ys j d r.2 (omega arith))
keys_rise low (y ∷ ys) (suc i) zero d r h s = absurd (omega arith)
keys_rise low (y ∷ ys) (suc i) (suc j) d r h s = keys_rise (literal_key y) ys i j d r.2 (omega arith) (omega arith)

other_literal : (x y : ℤ) → (literal_key x ≡ literal_key y → ⊥) → int_eq x y ≡ false
other_literal x y differ = by_test (int_eq x y) refl
  where
    by_test : (b : Bool) → int_eq x y ≡ b → b ≡ false
    by_test true e = absurd (differ (ap literal_key (same_literal x y e)))
    by_test false e = refl

found_at : (low : ℕ) (xs : List ℤ) (x : ℤ) (i : ℕ) (d : ℤ) → RisesFrom low xs → i < length xs → get_or xs i d ≡ x → place_in xs x ≡ Some i
found_at low [] x i d r h e = absurd (omega arith)
found_at low (y ∷ ys) x zero d r h e = rw (equal_literal y x e) refl
found_at low (y ∷ ys) x (suc i) d r h e =
    let above = key_above (literal_key y) ys i d r.2 (omega arith) in
    let other = other_literal y x (λ same. let k : literal_key (get_or ys i d) ≡ literal_key x = ap literal_key e in omega (arith, above, same, k)) in
    rw other (ap (option_map (λ j. suc j)) (found_at (literal_key y) ys x i d r.2 (omega arith) e))

found_nowhere : (xs : List ℤ) (x : ℤ) → ((i : ℕ) → i < length xs → literal_key (get_or xs i (pos 0)) ≡ literal_key x → ⊥) → place_in xs x ≡ None
found_nowhere [] x none = refl
found_nowhere (y ∷ ys) x none =
    rw (other_literal y x (none zero (omega arith))) (ap (option_map (λ j. suc j)) (found_nowhere ys x (λ i h. none (suc i) (omega arith))))

-- a literal fits a word of 32 bits
pub literal_fits : (x : ℤ) → literal_key x < 2 ^ 32 → SFits w32 x
literal_fits (pos n) h = record { sfits = omega (arith, h) }
literal_fits (negsuc n) h = record { sfits = omega (arith, h) }

equal_key : (a b : ℕ) → nat_cmp a b ≡ Equal → a ≡ b
equal_key a b e = grind (arith, nat_tests)

not_less : (a b : ℕ) → nat_cmp a b ≡ Less → a ≡ b → ⊥
not_less a b e same = grind (arith, nat_tests)

not_greater : (a b : ℕ) → nat_cmp a b ≡ Greater → a ≡ b → ⊥
not_greater a b e same = grind (arith, nat_tests)

higher : (a b k : ℕ) → a ≤ b → ordering_index (nat_cmp a k) ≤ ordering_index (nat_cmp b k)
higher a b k h = grind (arith, nat_tests)

-- what a binary search answers is the place, where the code's key of each literal is its key
pub searched_place : (xs : List ℤ) (x : ℤ) (key : ℤ → ℕ) (k : ℕ) (r : Result ℕ ℕ) → IsClause xs → ((i : ℕ) (d : ℤ) → i < length xs → key (get_or xs i d) ≡ literal_key (get_or xs i d))
    → k ≡ literal_key x → IsSearchInRange r (length xs) → IsBinarySearchResult (λ y. nat_cmp (key y) k) xs r → result_ok r ≡ place_in xs x
searched_place xs x key k (Ok i) rises keys own bound h =
    sym (found_at 0 xs x i (pos 0) rises bound (same_key _ _ (sym (keys i (pos 0) bound) ∙ equal_key _ _ (h (pos 0)) ∙ own)))
searched_place xs x key k (Err i) rises keys own bound h =
    let parted = h (λ a b d le lt. higher _ _ k (rw (keys a d (omega arith), keys b d lt) (keys_rise 0 xs a b d rises le lt))) in
    sym (found_nowhere xs x (λ j below same. by_test j below (keys j (pos 0) below ∙ same ∙ sym own) parted.0 parted.1 (nat_lt j i) refl))
  where
    by_test : (j : ℕ) → j < length xs → key (get_or xs j (pos 0)) ≡ k → AllWithin (λ y. nat_cmp (key y) k ≡ Less) xs 0 i
        → AllWithin (λ y. nat_cmp (key y) k ≡ Greater) xs i (length xs) → (b : Bool) → nat_lt j i ≡ b → ⊥
    by_test j below same less greater true e = not_less _ _ (less j (pos 0) (omega arith) ((Decides-ltb j i).0 e)) same
    by_test j below same less greater false e =
        let past : j < i → ⊥ = λ l. let yes = (Decides-ltb j i).1 l in absurd cc in
        not_greater _ _ (greater j (pos 0) (omega arith) below) same
