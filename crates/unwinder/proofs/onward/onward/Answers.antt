use Rattle.std.proofs.Common.{arith, get_or}
use Rattle.std.proofs.lemmas.Option.{slice_get-get_or}
use Rattle.bit_words.proofs.Steps.{grows_then, grows_within}
use Rattle.unwinder_reach.specs.declared.reached.step.Step.{Step}
use Rattle.unwinder.proofs.WayLaws.{along_all, along_more}
use Rattle.unwinder.proofs.onward.onward.Goals as goal

pub returns-in_err-arrival-clause-grows : goal.returns-in_err-arrival-clause-grows
returns-in_err-arrival-clause-grows c = grows_within _ (grows_then c.loop-i.invariant.grows c.arrival_along.ensures.grows) (omega arith)

pub returns-in_err-push-clause-grows : goal.returns-in_err-push-clause-grows
returns-in_err-push-clause-grows c = grows_within _ (grows_then c.loop-i.invariant.grows c.arrival_along.ensures.grows) (omega arith)

pub loop-i-preserved : goal.loop-i-preserved
loop-i-preserved c =
    let none : Step = record { edge = 0; to = 0 } in
    rw c.in_ok-push.ensures.ok (along_more c.args.graph.now c.args.circuit.now c.loop-i.circuit c.arrival_along.new.circuit c.args.guard c.args.ways.now c.args.behind.now c.args.steps.now c.loop-i.arrivals c.loop-i.i (get_or c.args.steps.now c.loop-i.i none) c.in_ok-arrival.arrival c.loop-i.invariant
    (slice_get-get_or c.args.steps.now c.loop-i.i none (omega arith)) c.arrival_along.ensures.grows c.requires.guard c.requires.ways c.in_ok-arrival.ensures.along)

pub returns-clause-along : goal.returns-clause-along
returns-clause-along c = along_all _ _ _ _ _ _ _ _ _ c.loop-i.invariant (omega arith)
