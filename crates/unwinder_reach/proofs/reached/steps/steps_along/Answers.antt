use Rattle.std.proofs.Common.{[], refl, sym, subst, get_or}
use Rattle.std.proofs.lemmas.List.{take_all}
use Rattle.unwinder_reach.specs.reached.Searching.{AreStepsAlong}
use Rattle.unwinder_reach.proofs.reached.StepLaws.{no_steps, places_stay, steps_more}
use Rattle.unwinder_reach.proofs.reached.steps.steps_along.Goals as goal

pub loop-at-init : goal.loop-at-init
loop-at-init c = (
  c.requires.places,
  λ p there.
      subst (AreStepsAlong c.args.graph.now c.args.bounds.now c.args.places.now.pairs.items p []) (sym c.new-steps.ensures)
      (no_steps c.args.graph.now c.args.bounds.now c.args.places.now.pairs.items p c.args.ways.now),
)

pub step_along-requires-clause-places : goal.step_along-requires-clause-places
step_along-requires-clause-places c = c.loop-at.invariant.0

pub loop-at-preserved : goal.loop-at-preserved
loop-at-preserved c = (
  places_stay c.args.graph.now c.args.bounds.now c.loop-at.table c.step_along.new.table c.args.places.now c.in_ok-step.ensures.extends c.loop-at.invariant.0,
  λ p there.
      steps_more c.args.graph.now c.args.bounds.now c.args.places.now.pairs.items p c.args.ways.now c.loop-at.at-index (get_or c.args.ways.now c.loop-at.at-index 0) c.loop-at.steps c.add.new.steps c.in_ok-step.step c.requires.rising c.loop-at-test.true
      refl (c.loop-at.invariant.1 p there) (c.in_ok-step.ensures.step p there) c.in_ok-add.ensures,
)

pub returns-clause-steps : goal.returns-clause-steps
returns-clause-steps c p there =
    subst (λ l. AreStepsAlong c.args.graph.now c.args.bounds.now c.args.places.now.pairs.items p l c.loop-at.steps) (take_all c.loop-at.at-index c.args.ways.now c.loop-at-test.false) (c.loop-at.invariant.1 p there)

pub returns-clause-places_after : goal.returns-clause-places_after
returns-clause-places_after c = c.loop-at.invariant.0
