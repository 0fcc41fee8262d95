-- What pairs weigh, so many of them.
use Rattle.std.proofs.Common.{◌≡◌, ℕ, zero, suc, ◌+◌, ◌≤◌, List, [], ◌∷◌, take, Some, ap, ◌∙◌, arith}
use Rattle.std.specs.Prelude.{slice_get, sum_by}
use Rattle.std.proofs.lemmas.List.Sums.{sum_by_more}
use Rattle.std.proofs.lemmas.Option.{get_or_from_slice_get, slice_get_within}
use Rattle.cfa.specs.declared.parts.Function.{Function}
use Rattle.cfa.specs.declared.parts.GraphParts.{GraphParts}
use Rattle.cfa.specs.declared.state.Predicates.{Predicates}
use Rattle.cfa.specs.Contexts.{Pair}
use Rattle.unwinder_reach.specs.declared.reached.step.Step.{Step}
use Rattle.unwinder_reach.specs.unwinding_size.Sizes.{pair_weight, pairs_weight, size_sum}

module _ (parts : GraphParts) (predicates : Predicates) (first : Function) (steps : List (List Step)) where
  from_more : (i n : ℕ) (pairs : List Pair) (p : Pair) → slice_get pairs n ≡ Some p → pairs_weight parts predicates first steps i (take (suc n) pairs) ≡ pairs_weight parts predicates first steps i (take n pairs) + pair_weight parts predicates first steps (i + n) p
  from_more i n [] p e = absurd cc
  from_more i zero (q ∷ pairs) p e =
      let same : q ≡ p = cc in
      let number : i ≡ i + 0 = omega arith in
      let one : pair_weight parts predicates first steps i q ≡ pair_weight parts predicates first steps (i + 0) p = ap (pair_weight parts predicates first steps i) same ∙ ap (λ m. pair_weight parts predicates first steps m p) number in
      omega (arith, one)
  from_more i (suc n) (q ∷ pairs) p e =
      let rest = from_more (i + 1) n pairs p e in
      let number : (i + 1) + n ≡ i + suc n = omega arith in
      let last = ap (λ m. pair_weight parts predicates first steps m p) number in
      omega (arith, rest, last)

  -- one pair more
  pub weight_more : (n : ℕ) (pairs : List Pair) (p : Pair) → slice_get pairs n ≡ Some p → pairs_weight parts predicates first steps 0 (take (n + 1) pairs) ≡ pairs_weight parts predicates first steps 0 (take n pairs) + pair_weight parts predicates first steps n p
  weight_more n pairs p e =
      let on : n + 1 ≡ suc n = omega arith in
      let number : 0 + n ≡ n = omega arith in
      ap (λ m. pairs_weight parts predicates first steps 0 (take m pairs)) on ∙ from_more 0 n pairs p e ∙ ap (λ m. pairs_weight parts predicates first steps 0 (take n pairs) + pair_weight parts predicates first steps m p) number

  from_part : (i n : ℕ) (pairs : List Pair) → pairs_weight parts predicates first steps i (take n pairs) ≤ pairs_weight parts predicates first steps i pairs
  from_part i zero pairs = omega arith
  from_part i (suc n) [] = omega arith
  from_part i (suc n) (q ∷ pairs) = let rest = from_part (i + 1) n pairs in omega (arith, rest)

  -- some weigh no more than all
  pub weight_part : (n : ℕ) (pairs : List Pair) → pairs_weight parts predicates first steps 0 (take n pairs) ≤ size_sum parts predicates first pairs steps
  weight_part n pairs = from_part 0 n pairs

-- one row more
pub sum_more : {X : Type 0} (f : X → ℕ) (n : ℕ) (xs : List X) (x : X) → slice_get xs n ≡ Some x → sum_by f (take (n + 1) xs) ≡ sum_by f (take n xs) + f x
sum_more f n xs x e = sum_by_more f xs n x (slice_get_within xs n x e) ∙ ap (λ y. sum_by f (take n xs) + f y) (get_or_from_slice_get xs n x x e)
