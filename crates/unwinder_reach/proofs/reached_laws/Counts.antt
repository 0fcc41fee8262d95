-- How many pairs are reached.
use Rattle.std.proofs.Common.{◌≡◌, ℕ, ◌≤◌, List, length, Some, arith}
use Rattle.std.specs.Prelude.{slice_get}
use Rattle.cfa.specs.declared.parts.Function.{Function}
use Rattle.cfa.specs.declared.parts.GraphParts.{GraphParts}
use Rattle.cfa.specs.Contexts.{Pair}
use Rattle.cfa.specs.Each.{Each}
use Rattle.unwinder_reach.specs.declared.reached.bounds.Bounds.{Bounds}
use Rattle.unwinder_reach.specs.declared.reached.step.Step.{Step}
use Rattle.unwinder_reach.specs.reached.Reaching.{AreReached, IsReachedWithin}
use Rattle.unwinder_reach.proofs.reached.Listed.{each_is_listed}
use Rattle.unwinder_reach.proofs.reached.Lists.{in_at, place_of}
use Rattle.unwinder_reach.specs.reached_laws.Laws.{NotTooMany, OneCount}
use Rattle.unwinder_reach.proofs.reached_laws.Members.{no_longer, once_each}
use Rattle.unwinder_reach.proofs.reached_laws.Weights.{EachIsIn}

module _ (parts : GraphParts) (bounds : Bounds) (f : Function) (pairs : List Pair) (steps : List (List Step)) (are : AreReached parts bounds f pairs steps) where
  -- pairs that are reached are listed
  pub listed : (others : List Pair) → Each others (λ i p. IsReachedWithin parts bounds f p) → EachIsIn others pairs
  listed others reached i p e = each_is_listed parts bounds f pairs steps are p (reached i p e)

  -- so there are no more of them
  pub most : (others : List Pair) → ((i j : ℕ) (p : Pair) → slice_get others i ≡ Some p → slice_get others j ≡ Some p → i ≡ j)
      → Each others (λ i p. IsReachedWithin parts bounds f p) → length others ≤ length pairs
  most others distinct reached =
      no_longer others pairs (once_each others distinct) (λ p h.
      let at = place_of others p h in
      let there = listed others reached at.0 p at.2 in
      in_at pairs there.0 p there.1)

pub one_count : OneCount
one_count parts bounds f pairs others steps rows are also =
    let less = most parts bounds f pairs steps are others also.distinct also.reached in
    let more = most parts bounds f others rows also pairs are.distinct are.reached in
    omega (arith, less, more)

pub not_too_many : NotTooMany
not_too_many parts bounds f pairs steps are few many =
    let less = most parts bounds f pairs steps are many.pairs many.distinct many.reached in
    let long = many.many in
    absurd (omega (arith, less, long, few))
