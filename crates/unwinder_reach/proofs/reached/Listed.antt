-- Each pair that is reached is listed.
use Rattle.std.proofs.Common.{◌≡◌, ℕ, ◌<◌, List, [], ◌∷◌, length, Some, ap, ◌∙◌, arith}
use Rattle.std.specs.Prelude.{slice_get}
use Rattle.std.proofs.lemmas.Option.{slice_get_within}
use Rattle.cfa.specs.declared.parts.Function.{Function}
use Rattle.cfa.specs.declared.parts.GraphParts.{GraphParts}
use Rattle.cfa.specs.Contexts.{Pair, first_pair}
use Rattle.cfa.proofs.Eaches.{element_at}
use Rattle.unwinder_reach.specs.declared.reached.bounds.Bounds.{Bounds}
use Rattle.unwinder_reach.specs.declared.reached.step.Step.{Step}
use Rattle.unwinder_reach.specs.reached.Laws.{EachIsListed}
use Rattle.unwinder_reach.specs.reached.Reaching.{AreReached, IsWalkWithin, end_of_walk}

module _ (parts : GraphParts) (bounds : Bounds) (f : Function) (pairs : List Pair) (steps : List (List Step)) (are : AreReached parts bounds f pairs steps) where
  listed_from : (walk : List Pair) (p : Pair) (i : ℕ) → slice_get pairs i ≡ Some p → IsWalkWithin parts bounds p walk → (j : ℕ) × (slice_get pairs j ≡ Some (end_of_walk p walk))
  listed_from [] p i e h = (i, e)
  listed_from (q ∷ walk) p i e h =
      let within = slice_get_within pairs i p e in
      let long = are.rows in
      let inside : i < length steps = omega arith in
      let row = element_at steps i inside in
      let step = (are.leading i p row.0 e row.1).all h.0.0 h.0.1 q h.0.2 in
      listed_from walk q step.1.to step.4 h.1

pub each_is_listed : EachIsListed
each_is_listed parts bounds f pairs steps are p reached =
    let l = listed_from parts bounds f pairs steps are reached.0 (first_pair f) 0 are.first reached.1 in
    (l.0, l.1 ∙ ap Some reached.2)
