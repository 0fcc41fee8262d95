-- The weights of pairs, one after another.
use Rattle.std.proofs.Common.{◌≡◌, ℕ, ◌+◌, ◌<◌, List, [], ◌∷◌, ◌++◌, take, length, get_or, sym, ap, ◌∙◌, zero-add, arith}
use Rattle.std.proofs.lemmas.List.{take_more, length-take-le}
use Rattle.cfa.specs.declared.parts.Function.{Function}
use Rattle.cfa.specs.declared.parts.GraphParts.{GraphParts}
use Rattle.cfa.specs.declared.state.Predicates.{Predicates}
use Rattle.cfa.specs.Contexts.{Pair}
use Rattle.unwinder_reach.specs.declared.reached.step.Step.{Step}
use Rattle.unwinder_reach.specs.unwinding_size.Capped.{capped}
use Rattle.unwinder_reach.specs.unwinding_size.Sizes.{pair_weight, pairs_weight}
use Rattle.unwinder_reach.proofs.unwinding_size.CappedLaws.{capped-sum}

module _ (parts : GraphParts) (predicates : Predicates) (first : Function) (steps : List (List Step)) where
  pairs_push : (i : ℕ) (ps : List Pair) (p : Pair) → pairs_weight parts predicates first steps i (ps ++ p ∷ []) ≡ pairs_weight parts predicates first steps i ps + pair_weight parts predicates first steps (i + length ps) p
  pairs_push i [] p =
      let at : i + 0 ≡ i = omega arith in
      let own = ap (λ n. pair_weight parts predicates first steps n p) at in
      omega (arith, own)
  pairs_push i (q ∷ ps) p =
      let rest = pairs_push (i + 1) ps p in
      let at : (i + 1) + length ps ≡ i + length (q ∷ ps) = omega arith in
      let own = ap (λ n. pair_weight parts predicates first steps n p) at in
      omega (arith, rest, own)

  -- the pairs so far, and the next one
  pub pairs_more : (pairs : List Pair) (i : ℕ) (p : Pair) (t w r : ℕ) → i < length pairs → p ≡ get_or pairs i p → t ≡ capped (pairs_weight parts predicates first steps 0 (take i pairs)) → w ≡ capped (pair_weight parts predicates first steps i p) → r ≡ capped (t + w)
      → r ≡ capped (pairs_weight parts predicates first steps 0 (take (i + 1) pairs))
  pairs_more pairs i p t w r in_range is so_far own made =
      let before : List Pair = take i pairs in
      let long : 0 + length before ≡ i = zero-add (length before) ∙ length-take-le i pairs (omega arith) in
      let all : pairs_weight parts predicates first steps 0 (take (i + 1) pairs) ≡ pairs_weight parts predicates first steps 0 before + pair_weight parts predicates first steps i p =
      ap (pairs_weight parts predicates first steps 0) (take_more pairs i p in_range ∙ ap (λ (y : Pair). before ++ y ∷ []) (sym is)) ∙ pairs_push 0 before p
      ∙ ap (λ n. pairs_weight parts predicates first steps 0 before + pair_weight parts predicates first steps n p) long in
      made ∙ ap (λ n. capped (n + w)) so_far ∙ ap (λ n. capped (capped (pairs_weight parts predicates first steps 0 before) + n)) own
      ∙ capped-sum (pairs_weight parts predicates first steps 0 before) (pair_weight parts predicates first steps i p) ∙ ap capped (sym all)
