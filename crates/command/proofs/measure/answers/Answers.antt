use Rattle.std.proofs.Common.{refl}
use Rattle.measurer.specs.Measurers.{hits_of}
use Rattle.command.proofs.MeasureLaws.{answer_more}
use Rattle.command.proofs.measure.answers.Goals as goal
use Rattle.command.proofs.measure.answers.Goals.{in-Some, in-None}

pub loop-place-preserved : goal.loop-place-preserved
loop-place-preserved c =
    elim c.match-first.branch [
      | in-Some w ↦
          answer_more (hits_of c.args.measurer.now) c.loop-place.place _ _ _ c.first.result c.in_ok-push.ensures.items c.loop-place.invariant c.first.ensures
          (rw (w.in-Some.is, w.answer-is) refl)
      | in-None w ↦
          answer_more (hits_of c.args.measurer.now) c.loop-place.place _ _ _ c.first.result c.in_ok-push.ensures.items c.loop-place.invariant c.first.ensures
          (rw (w.in-None.is, w.answer-is) refl)
    ]
