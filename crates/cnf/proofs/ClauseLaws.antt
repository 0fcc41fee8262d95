-- What the proofs about literals and clauses share.
use Rattle.std.proofs.Common.{◌≡◌, ℕ, zero, suc, ◌+◌, ◌-◌, ◌<◌, ◌≤◌, ◌^◌, Bool, true, false, ◌||◌, List, [], ◌∷◌, ◌++◌, length, get_or, take, map, refl, sym, ◌∙◌, ap, arith, nat_eq}
use Rattle.std.specs.Prelude.{ℤ, pos, negsuc, All}
use Rattle.std.specs.Bool.{OnTrue}
use Rattle.std.specs.Ordering.{int_eq, nat_cmp}
use Rattle.std.specs.List.{list_any}
use Rattle.std.specs.List.Sorted.{IsSorted, IsNonDecreasing, IsPermutation}
use Rattle.std.proofs.lemmas.Bool.Decides.{Decides-int_eq, Decides-eqb}
use Rattle.std.proofs.lemmas.List.Folds.{list_any-append, list_any_more}
use Rattle.std.proofs.lemmas.List.Sorted.{IsNonDecreasingBy-from_sort, All-permutation, list_any-IsPermutation}
use Rattle.cnf.specs.Clauses.{literal_key, IsLiteral, RisesFrom, has_literal}

-- ---- tests

pub same_test : (a b : Bool) → (a ≡ true → b ≡ true) → (b ≡ true → a ≡ true) → a ≡ b
same_test true b f g = sym (f refl)
same_test false true f g = g refl
same_test false false f g = refl

pub or_settled : (a b : Bool) → (b ≡ true → a ≡ true) → (a || b) ≡ a
or_settled true b f = refl
or_settled false true f = sym (f refl)
or_settled false false f = refl

pub on_true : (b : Bool) (P : Type 0) → (b ≡ true → P) → OnTrue b P
on_true true P f = f refl
on_true false P f = tt

-- ---- keys

pub same_key : (x y : ℤ) → literal_key x ≡ literal_key y → x ≡ y
same_key (pos a) (pos b) e = let h : a ≡ b = omega arith in ap pos h
same_key (pos a) (negsuc b) e = absurd (omega arith)
same_key (negsuc a) (pos b) e = absurd (omega arith)
same_key (negsuc a) (negsuc b) e = let h : a ≡ b = omega arith in ap negsuc h

pub same_literal : (x y : ℤ) → int_eq x y ≡ true → x ≡ y
same_literal x y = (Decides-int_eq x y).0

pub equal_literal : (x y : ℤ) → x ≡ y → int_eq x y ≡ true
equal_literal x y = (Decides-int_eq x y).1

pub int_eq-by_key : (x y : ℤ) → int_eq x y ≡ nat_eq (literal_key x) (literal_key y)
int_eq-by_key x y =
    same_test (int_eq x y) (nat_eq (literal_key x) (literal_key y))
    (λ e. (Decides-eqb (literal_key x) (literal_key y)).1 (ap literal_key (same_literal x y e)))
    (λ e. equal_literal x y (same_key x y ((Decides-eqb (literal_key x) (literal_key y)).0 e)))

-- the literals by their keys
pub has_literal-by_keys : (xs : List ℤ) (x : ℤ) → list_any (λ key. nat_eq key (literal_key x)) (map literal_key xs) ≡ has_literal xs x
has_literal-by_keys [] x = refl
has_literal-by_keys (y ∷ ys) x = rw (int_eq-by_key y x, has_literal-by_keys ys x) refl

-- ---- clauses

-- each literal of a clause is one
pub literal_in_clause : (low : ℕ) (xs : List ℤ) (x : ℤ) → RisesFrom low xs → has_literal xs x ≡ true → (low < literal_key x) × (literal_key x < 2 ^ 32)
literal_in_clause low [] x r h = absurd cc
literal_in_clause low (y ∷ ys) x r h = by_test (int_eq y x) refl h (literal_in_clause (literal_key y) ys x r.2)
  where
    by_test : (b : Bool) → int_eq y x ≡ b → (b || has_literal ys x) ≡ true
        → (has_literal ys x ≡ true → (literal_key y < literal_key x) × (literal_key x < 2 ^ 32)) → (low < literal_key x) × (literal_key x < 2 ^ 32)
    by_test true e g rest = let same : y ≡ x = same_literal y x e in rw (← same) (r.0, r.1)
    by_test false e g rest = let found = rest g in (omega (arith, found.0, r.0), found.1)

pub literals_of_clause : (low : ℕ) (xs : List ℤ) → RisesFrom low xs → All IsLiteral xs
literals_of_clause low [] r k d h = absurd (omega arith)
literals_of_clause low (y ∷ ys) r zero d h = (omega (arith, r.0), r.1)
literals_of_clause low (y ∷ ys) r (suc k) d h = literals_of_clause (literal_key y) ys r.2 k d (omega arith)

-- ---- a clause that grows

-- literals rise from above a place up to a place
abbrev pub RisesTo : ℕ → List ℤ → ℕ → Type 0
RisesTo low [] high = low ≤ high
RisesTo low (x ∷ xs) high = (low < literal_key x) × (literal_key x < 2 ^ 32) × RisesTo (literal_key x) xs high

pub rises : (low : ℕ) (xs : List ℤ) (high : ℕ) → RisesTo low xs high → RisesFrom low xs
rises low [] high r = tt
rises low (x ∷ xs) high r = (r.0, r.1, rises (literal_key x) xs high r.2)

pub rises_more : (low : ℕ) (xs : List ℤ) (high : ℕ) (x : ℤ) → RisesTo low xs high → high < literal_key x → literal_key x < 2 ^ 32 → RisesTo low (xs ++ x ∷ []) (literal_key x)
rises_more low [] high x r h s = (omega arith, s, omega arith)
rises_more low (y ∷ ys) high x r h s = (r.0, r.1, rises_more (literal_key y) ys high x r.2 h s)

-- whether a key is among them
abbrev pub has_key : List ℕ → ℕ → Bool
has_key keys k = list_any (λ key. nat_eq key k) keys

-- the clause so far has the literals of the first keys, and its last one that of the key before
pub record Grown (keys : List ℕ) (i : ℕ) (built : List ℤ) (last : ℕ) : Type 0 where
  pub rising : RisesTo 0 built last
  pub same : (x : ℤ) → has_literal built x ≡ has_key (take i keys) (literal_key x)
  pub none : i ≡ 0 → last ≡ 0
  pub latest : 0 < i → last ≡ get_or keys (i - 1) 0

pub grown_by : (keys : List ℕ) (i : ℕ) (built : List ℤ) (last : ℕ) (x : ℤ) → i < length keys → get_or keys i 0 < 2 ^ 32 → last < get_or keys i 0 → literal_key x ≡ get_or keys i 0
    → Grown keys i built last → Grown keys (i + 1) (built ++ x ∷ []) (get_or keys i 0)
grown_by keys i built last x h small above e g = record {
  rising = rw (sym e) (rises_more 0 built last x g.rising (omega arith) (omega arith));
  same = λ z. rw (list_any-append (λ y. int_eq y z) built (x ∷ []), g.same z, list_any_more (λ key. nat_eq key (literal_key z)) keys i 0 h, int_eq-by_key x z, e) (or_false (has_key (take i keys) (literal_key z)) _);
  none = λ z. absurd (omega arith);
  latest = λ _. let p : (i + 1) - 1 ≡ i = omega arith in rw p refl;
}
  where
    or_false : (a b : Bool) → (a || (b || false)) ≡ (a || b)
    or_false true b = refl
    or_false false true = refl
    or_false false false = refl

found_before : (keys : List ℕ) (n k : ℕ) → n < length keys → nat_eq (get_or keys n 0) k ≡ true → has_key (take (n + 1) keys) k ≡ true
found_before keys n k h e = list_any_more (λ key. nat_eq key k) keys n 0 h ∙ rw e (or_true (has_key (take n keys) k))
  where
    or_true : (a : Bool) → (a || true) ≡ true
    or_true true = refl
    or_true false = refl

-- a key that isn't above the last one is that one
pub grown_same : (keys : List ℕ) (i : ℕ) (built : List ℤ) (last : ℕ) → i < length keys → 0 < get_or keys i 0 → IsSorted nat_cmp keys → get_or keys i 0 ≤ last
    → Grown keys i built last → Grown keys (i + 1) built last
grown_same keys i built last h positive sorted below g = by_place i refl
  where
    up : IsNonDecreasing keys
    up = IsNonDecreasingBy-from_sort (λ x. x) keys sorted

    by_place : (n : ℕ) → i ≡ n → Grown keys (i + 1) built last
    by_place zero e = absurd (omega (arith, g.none e))
    by_place (suc n) e =
        let before : i - 1 ≡ n = omega arith in
        let at : i ≡ n + 1 = omega arith in
        let was : last ≡ get_or keys n 0 = g.latest (omega arith) ∙ ap (λ k. get_or keys k 0) before in
        let now : get_or keys i 0 ≡ last = omega (arith, up n i 0 (omega arith) h) in
        record {
          rising = g.rising;
          same = λ z. g.same z ∙ sym (list_any_more (λ key. nat_eq key (literal_key z)) keys i 0 h ∙ or_settled _ _ (λ t. rw at (found_before keys n (literal_key z) (omega arith) (rw (sym was ∙ sym now) t))));
          none = λ z. absurd (omega arith);
          latest = λ _. let p : (i + 1) - 1 ≡ i = omega arith in rw p (sym now);
        }

-- ---- the keys of literals

key_two : (x : ℤ) → 0 < literal_key x → 2 ≤ literal_key x
key_two (pos n) h = omega arith
key_two (negsuc n) h = omega arith

-- the keys of literals, in whatever order
pub keys_of_literals : (xs : List ℤ) (keys : List ℕ) → IsPermutation (map literal_key xs) keys → All IsLiteral xs → All (λ key. (2 ≤ key) × (key < 2 ^ 32)) keys
keys_of_literals xs keys p all = All-permutation (λ key. (2 ≤ key) × (key < 2 ^ 32)) (map literal_key xs) keys p (each xs all)
  where
    each : (ys : List ℤ) → All IsLiteral ys → All (λ key. (2 ≤ key) × (key < 2 ^ 32)) (map literal_key ys)
    each [] a k d h = absurd (omega arith)
    each (y ∷ ys) a zero d h = let one = a 0 y (omega arith) in (key_two y one.0, one.1)
    each (y ∷ ys) a (suc k) d h = each ys (λ j e l. a (suc j) e (omega arith)) k d (omega arith)

pub same_by_keys : (xs : List ℤ) (keys : List ℕ) (x : ℤ) → IsPermutation (map literal_key xs) keys → has_key keys (literal_key x) ≡ has_literal xs x
same_by_keys xs keys x p = sym (list_any-IsPermutation (λ key. nat_eq key (literal_key x)) (map literal_key xs) keys p) ∙ has_literal-by_keys xs x
