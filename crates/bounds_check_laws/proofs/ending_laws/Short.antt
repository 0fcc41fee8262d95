-- How long a run is that stays within bounds: each edge leads to a later place among the pairs that are reached.
use Rattle.std.proofs.Common.{◌≡◌, ℕ, suc, ◌+◌, ◌<◌, List, [], ◌∷◌, length, Some, refl, ap, arith}
use Rattle.std.specs.Prelude.{slice_get}
use Rattle.std.proofs.lemmas.List.{length-map}
use Rattle.std.proofs.lemmas.Option.{slice_get_within}
use Rattle.cfa.proofs.Eaches.{element_at}
use Rattle.cfa.specs.Contexts.{IsWalk, Pair, first_pair}
use Rattle.cfa.specs.Each.{Each}
use Rattle.cfa.specs.declared.parts.Function.{Function}
use Rattle.cfa.specs.declared.parts.GraphParts.{GraphParts}
use Rattle.c_meaning.proofs.PairLaws.{runs_walk}
use Rattle.c_meaning.specs.Pairs.{pair_along, pairs_along}
use Rattle.c_meaning.specs.Runs.{Move, edges_in}
use Rattle.unwinder_reach.specs.reached.Reaching.{AreReached, IsWalkWithin, IsWithinBounds}
use Rattle.unwinder_reach.specs.declared.reached.bounds.Bounds.{Bounds}
use Rattle.unwinder_reach.specs.declared.reached.step.Step.{Step}
use Rattle.bounds_check_laws.specs.ending_laws.Laws.{BoundedRunsAreShort}

module _ (parts : GraphParts) (bounds : Bounds) where
  -- a walk whose pairs are within the bounds is one by steps within them
  walk_within : (p : Pair) (qs : List Pair) → IsWalk parts p qs → Each (p ∷ qs) (λ i q. IsWithinBounds bounds q.context) → IsWalkWithin parts bounds p qs
  walk_within p [] walk within = tt
  walk_within p (q ∷ qs) walk within =
      ((walk.0.0, walk.0.1, record { follows = walk.0.2; within = within 1 q refl }), walk_within q qs walk.1 (λ i r e. within (suc i) r e))

  module _ (f : Function) (pairs : List Pair) (steps : List (List Step)) (are : AreReached parts bounds f pairs steps) where
    -- a walk within the bounds from the pair of a place has fewer steps than there are places behind it
    few_steps : (i : ℕ) (p : Pair) (qs : List Pair) → slice_get pairs i ≡ Some p → IsWalkWithin parts bounds p qs → i + length qs < length pairs
    few_steps i p [] there walk = let within = slice_get_within pairs i p there in omega (arith, within)
    few_steps i p (q ∷ qs) there walk =
        let within = slice_get_within pairs i p there in
        let rows = are.rows in
        let row = element_at steps i (omega (arith, within, rows)) in
        let ways = are.leading i p row.0 there row.1 in
        let step = ways.all walk.0.0 walk.0.1 q walk.0.2 in
        let on = ways.each step.0 step.1 step.2 in
        let later = on.later in
        let rest = few_steps step.1.to q qs step.4 walk.1 in
        omega (arith, later, rest)

pairs_many : (parts : GraphParts) (p : Pair) (edges : List ℕ) → length (pairs_along parts p edges) ≡ length edges
pairs_many parts p [] = refl
pairs_many parts p (at ∷ edges) = ap suc (pairs_many parts (pair_along parts p at) edges)

pub bounded_runs_are_short : BoundedRunsAreShort
bounded_runs_are_short parts k entry bounds pairs steps input r g own can are begins within =
    let walk = (runs_walk parts k entry input r g own can begins).0 in
    let few = few_steps parts bounds entry pairs steps are 0 (first_pair entry) (pairs_along parts (first_pair entry) (edges_in r)) are.first (walk_within parts bounds (first_pair entry) (pairs_along parts (first_pair entry) (edges_in r)) walk within) in
    let many = pairs_many parts (first_pair entry) (edges_in r) in
    let edges = length-map r.moves (λ (m : Move). m.edge) in
    omega (arith, few, many, edges)
