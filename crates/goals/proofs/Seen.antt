-- Tests of lists from which later duplicates went.
use Rattle.std.proofs.Common.{◌≡◌, ◌+◌, ◌≤◌, length, arith, Bool, true, false, ◌||◌, ◌&&◌, if◌then◌else◌, List, [], ◌∷◌, ◌++◌, refl, sym, ap, ◌∙◌, true≢false, eqb-true}
use Rattle.std.specs.List.{list_all, list_any}
use Rattle.std.proofs.lemmas.List.{length-append}
use Rattle.std.proofs.lemmas.List.Folds.{list_all-append, list_any-append}
use Rattle.indexmap.specs.IndexSet.{insert_key, insert_all}
use Rattle.goals.specs.Words.{Word, same_letter, same_word}
use Rattle.goals.specs.declared.goal_letter.GoalLetter.{GoalLetter}
use Rattle.goals.specs.declared.goal_letter.GoalLetter.TheVariants.{Node, Edge, Predicate, Absent, Quoted}

or_false : (b : Bool) → (b || false) ≡ b
or_false true = refl
or_false false = refl

or_assoc : (a b c : Bool) → ((a || b) || c) ≡ (a || (b || c))
or_assoc true b c = refl
or_assoc false b c = refl

pub or_true : (b : Bool) → (b || true) ≡ true
or_true true = refl
or_true false = refl

pub or_cases : (a b : Bool) {P : Type 0} → (a || b) ≡ true → (a ≡ true → P) → (b ≡ true → P) → P
or_cases true b h f g = f refl
or_cases false b h f g = g h

pub both_true : (a b : Bool) {P : Type 0} → (a && b) ≡ true → (a ≡ true → b ≡ true → P) → P
both_true true b h f = f refl h
both_true false b h f = absurd (true≢false (sym h))

module _ {X : Type 0} (same : X → X → Bool) (p : X → Bool) (respects : (x y : X) → same x y ≡ true → p x ≡ true → p y ≡ true) where
  seen_already : (ks : List X) (x : X) → list_any (same x) ks ≡ true → p x ≡ true → list_any p ks ≡ true
  seen_already [] x h t = absurd (true≢false (sym h))
  seen_already (k ∷ ks) x h t = or_cases (same x k) (list_any (same x) ks) h
      (λ here. ap (λ b. b || list_any p ks) (respects x k here t))
      (λ later. ap (λ b. p k || b) (seen_already ks x later t) ∙ or_true (p k))

  any_inserted : (ks : List X) (x : X) → list_any p (insert_key same ks x) ≡ (list_any p ks || p x)
  any_inserted ks x = by (list_any (same x) ks) refl
    where
      kept : (b : Bool) → p x ≡ b → list_any (same x) ks ≡ true → list_any p ks ≡ (list_any p ks || b)
      kept true t h = seen_already ks x h t ∙ sym (or_true (list_any p ks))
      kept false t h = sym (or_false (list_any p ks))

      by : (b : Bool) → list_any (same x) ks ≡ b → list_any p (insert_key same ks x) ≡ (list_any p ks || p x)
      by true e = ap (λ b. list_any p (if b then ks else ks ++ x ∷ [])) e ∙ kept (p x) refl e
      by false e = ap (λ b. list_any p (if b then ks else ks ++ x ∷ [])) e ∙ list_any-append p ks (x ∷ []) ∙ ap (λ b. list_any p ks || b) (or_false (p x))

  -- some item passes exactly where some item that is left does
  pub any_seen : (ks xs : List X) → list_any p (insert_all same ks xs) ≡ (list_any p ks || list_any p xs)
  any_seen ks [] = sym (or_false (list_any p ks))
  any_seen ks (x ∷ xs) = any_seen (insert_key same ks x) xs ∙ ap (λ b. b || list_any p xs) (any_inserted ks x) ∙ or_assoc (list_any p ks) (p x) (list_any p xs)

letters_equal : (a b : GoalLetter) → same_letter a b ≡ true → a ≡ b
letters_equal (Node m) (Node n) h = ap Node (eqb-true m n h)
letters_equal (Node m) (Edge n) h = absurd (true≢false (sym h))
letters_equal (Node m) (Predicate n) h = absurd (true≢false (sym h))
letters_equal (Node m) (Absent n) h = absurd (true≢false (sym h))
letters_equal (Node m) (Quoted n) h = absurd (true≢false (sym h))
letters_equal (Edge m) (Node n) h = absurd (true≢false (sym h))
letters_equal (Edge m) (Edge n) h = ap Edge (eqb-true m n h)
letters_equal (Edge m) (Predicate n) h = absurd (true≢false (sym h))
letters_equal (Edge m) (Absent n) h = absurd (true≢false (sym h))
letters_equal (Edge m) (Quoted n) h = absurd (true≢false (sym h))
letters_equal (Predicate m) (Node n) h = absurd (true≢false (sym h))
letters_equal (Predicate m) (Edge n) h = absurd (true≢false (sym h))
letters_equal (Predicate m) (Predicate n) h = ap Predicate (eqb-true m n h)
letters_equal (Predicate m) (Absent n) h = absurd (true≢false (sym h))
letters_equal (Predicate m) (Quoted n) h = absurd (true≢false (sym h))
letters_equal (Absent m) (Node n) h = absurd (true≢false (sym h))
letters_equal (Absent m) (Edge n) h = absurd (true≢false (sym h))
letters_equal (Absent m) (Predicate n) h = absurd (true≢false (sym h))
letters_equal (Absent m) (Absent n) h = ap Absent (eqb-true m n h)
letters_equal (Absent m) (Quoted n) h = absurd (true≢false (sym h))
letters_equal (Quoted m) (Node n) h = absurd (true≢false (sym h))
letters_equal (Quoted m) (Edge n) h = absurd (true≢false (sym h))
letters_equal (Quoted m) (Predicate n) h = absurd (true≢false (sym h))
letters_equal (Quoted m) (Absent n) h = absurd (true≢false (sym h))
letters_equal (Quoted m) (Quoted n) h = ap Quoted (eqb-true m n h)

pub words_equal : (v w : Word) → same_word v w ≡ true → v ≡ w
words_equal [] [] h = refl
words_equal [] (b ∷ w) h = absurd (true≢false (sym h))
words_equal (a ∷ v) [] h = absurd (true≢false (sym h))
words_equal (a ∷ v) (b ∷ w) h = both_true (same_letter a b) (same_word v w) h (λ x y. λ i. letters_equal a b x i ∷ words_equal v w y i)

-- what holds of all items holds of all that are left
module _ {X : Type 0} (same : X → X → Bool) (p : X → Bool) where
  one_kept : (ks : List X) (x : X) → list_all p ks ≡ true → p x ≡ true → list_all p (insert_key same ks x) ≡ true
  one_kept ks x h g = by (list_any (same x) ks) refl
    where
      by : (b : Bool) → list_any (same x) ks ≡ b → list_all p (insert_key same ks x) ≡ true
      by true e = ap (λ b. list_all p (if b then ks else ks ++ x ∷ [])) e ∙ h
      by false e = ap (λ b. list_all p (if b then ks else ks ++ x ∷ [])) e ∙ list_all-append p ks (x ∷ []) ∙ (λ i. h i && (g i && true))

  pub all_kept : (ks xs : List X) → list_all p ks ≡ true → list_all p xs ≡ true → list_all p (insert_all same ks xs) ≡ true
  all_kept ks [] h g = h
  all_kept ks (x ∷ xs) h g = both_true (p x) (list_all p xs) g (λ here rest. all_kept (insert_key same ks x) xs (one_kept ks x h here) rest)

-- no more are left than there were
module _ {X : Type 0} (same : X → X → Bool) where
  one_more : (ks : List X) (x : X) → length (insert_key same ks x) ≤ length ks + 1
  one_more ks x = by (list_any (same x) ks) refl
    where
      by : (b : Bool) → list_any (same x) ks ≡ b → length (insert_key same ks x) ≤ length ks + 1
      by true e = let f : length (insert_key same ks x) ≡ length ks = ap (λ b. length (if b then ks else ks ++ x ∷ [])) e in omega arith
      by false e = let f : length (insert_key same ks x) ≡ length (ks ++ x ∷ []) = ap (λ b. length (if b then ks else ks ++ x ∷ [])) e in omega (arith, length-append ks (x ∷ []))

  pub no_more : (ks xs : List X) → length (insert_all same ks xs) ≤ length ks + length xs
  no_more ks [] = omega arith
  no_more ks (x ∷ xs) = let rest = no_more (insert_key same ks x) xs in let one = one_more ks x in omega arith
