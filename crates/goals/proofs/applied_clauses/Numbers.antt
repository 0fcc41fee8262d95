-- Rising lists of numbers.
use Rattle.std.proofs.Common.{◌≡◌, ℕ, zero, suc, ◌+◌, ◌<◌, ◌≤◌, ◌||◌, Bool, true, false, cond, List, [], ◌∷◌, length, get_or, refl, sym, ap, ◌∙◌, subst, true≢false, inl, inr, eq-eqb, arith}
use Rattle.std.proofs.lemmas.Bool.{cases_lt}
use Rattle.std.proofs.lemmas.Bool.Decides.{nat_tests}
use Rattle.std.specs.List.{filter, range_with_len}
use Rattle.std.specs.List.Sorted.{IsStrictlyIncreasing}
use Rattle.cfa.specs.declared.parts.GraphParts.{GraphParts}
use Rattle.filters.specs.declared.target_graph.TargetGraph.{TargetGraph}
use Rattle.filters.specs.Parts.{Part, is_among, part_of, IsWithin}
use Rattle.goals.specs.applied_clauses.Applied.{numbers, target_of}

-- the list rises, from this number on
abbrev RisesFrom : ℕ → List ℕ → Type 0
RisesFrom a [] = Unit {0}
RisesFrom a (x ∷ xs) = (a ≤ x) × RisesFrom (x + 1) xs

tail_rises : (x : ℕ) (xs : List ℕ) → IsStrictlyIncreasing (x ∷ xs) → IsStrictlyIncreasing xs
tail_rises x xs h k lt =
    let up : get_or (x ∷ xs) (suc k) 0 < get_or (x ∷ xs) (suc k + 1) 0 = h (suc k) (omega arith) in
    let P : ℕ → Type 0 = λ j. get_or xs k 0 < get_or (x ∷ xs) j 0 in
    let Q : ℕ → Type 0 = λ j. get_or xs k 0 < get_or xs j 0 in
    let e : suc k + 1 ≡ suc (k + 1) = omega arith in
    subst P e up

rises_from : (xs : List ℕ) (a : ℕ) → IsStrictlyIncreasing xs → (0 < length xs → a ≤ get_or xs 0 0) → RisesFrom a xs
rises_from [] a h low = tt
rises_from (x ∷ xs) a h low =
    (low (omega arith), rises_from xs (x + 1) (tail_rises x xs h) (λ some. let up = h 0 (omega arith) in omega arith))

not_below : (xs : List ℕ) (a k : ℕ) → RisesFrom a xs → k < a → is_among xs k ≡ false
not_below [] a k h lt = refl
not_below (x ∷ xs) a k h lt =
    let rest = not_below xs (x + 1) k h.1 (omega arith) in grind (arith, nat_tests)

among_head : (x : ℕ) (xs : List ℕ) → is_among (x ∷ xs) x ≡ true
among_head x xs = ap (λ b. b || is_among xs x) (eq-eqb x x refl)

among_tail : (x : ℕ) (xs : List ℕ) (k : ℕ) → is_among xs k ≡ true → is_among (x ∷ xs) k ≡ true
among_tail x xs k h = grind (arith, nat_tests)

among_others : (x : ℕ) (xs : List ℕ) (k : ℕ) → x < k → is_among (x ∷ xs) k ≡ is_among xs k
among_others x xs k lt = grind (arith, nat_tests)

module _ (p : ℕ → Bool) where
  same_numbers : (n a : ℕ) (xs : List ℕ) → RisesFrom a xs → ((k : ℕ) → is_among xs k ≡ true → k < a + n) → ((k : ℕ) → a ≤ k → is_among xs k ≡ p k) → xs ≡ filter p (range_with_len a n)
  same_numbers zero a [] h below each = refl
  same_numbers zero a (x ∷ xs) h below each = let low = h.0 in let lt = below x (among_head x xs) in absurd (omega arith)
  same_numbers (suc n) a [] h below each =
      let rest = filter p (range_with_len (a + 1) n) in
      same_numbers n (a + 1) [] tt (λ k q. absurd (true≢false (sym q))) (λ k ge. each k (omega arith)) ∙ ap (λ b. cond b (a ∷ rest) rest) (each a (omega arith))
  same_numbers (suc n) a (x ∷ xs) h below each =
      let rest = filter p (range_with_len (a + 1) n) in
      let low = h.0 in
      elim (cases_lt a x) [
        | inl lt ↦
            let up : RisesFrom (a + 1) (x ∷ xs) = (omega arith, h.1) in
            same_numbers n (a + 1) (x ∷ xs) up (λ k q. let b = below k q in omega arith) (λ k ge. each k (omega arith))
            ∙ ap (λ b. cond b (a ∷ rest) rest) (sym (not_below (x ∷ xs) (a + 1) a up (omega arith)) ∙ each a (omega arith))
        | inr ge ↦
            let e : x ≡ a = omega arith in
            let there : true ≡ p a = sym (subst (λ j. is_among (x ∷ xs) j ≡ true) e (among_head x xs)) ∙ each a (omega arith) in
            let same = same_numbers n (a + 1) xs (subst (λ j. RisesFrom (j + 1) xs) e h.1) (λ k q. let b = below k (among_tail x xs k q) in omega arith) (λ k more. sym (among_others x xs k (omega arith)) ∙ each k (omega arith)) in
            (λ i. e i ∷ same i) ∙ ap (λ b. cond b (a ∷ rest) rest) there
      ]

-- a rising list of numbers below a bound is that of the numbers below the bound that are in it
pub rising_numbers : (xs : List ℕ) (n : ℕ) → IsStrictlyIncreasing xs → ((k : ℕ) → is_among xs k ≡ true → k < n) → xs ≡ numbers (is_among xs) n
rising_numbers xs n rise below = same_numbers (is_among xs) n 0 xs (rises_from xs 0 rise (λ some. omega arith)) (λ k h. let lt = below k h in omega arith) (λ k ge. refl)

-- a target graph within the graph is its part, with the numbers in rising order
pub target_is : (parts : GraphParts) (a : Part) (t : TargetGraph) → IsStrictlyIncreasing t.nodes → IsStrictlyIncreasing t.edges → IsWithin parts (part_of t) → part_of t ≡ a → t ≡ target_of parts a
target_is parts a t up more within e =
    let f = rising_numbers t.nodes (length parts.nodes) up within.nodes in
    let g = rising_numbers t.edges (length parts.edges) more within.edges in
    let same : t ≡ target_of parts (part_of t) = λ i. record { nodes = f i; edges = g i } in
    same ∙ ap (target_of parts) e
