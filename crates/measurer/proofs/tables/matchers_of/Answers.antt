use Rattle.std.proofs.Common.{◌+◌, sym, ◌∙◌, ap, subst}
use Rattle.measurer_index.specs.word_index.Walks.{is_plain}
use Rattle.measurer.specs.Measured.{AreMatchers}
use Rattle.measurer.proofs.Matchers.{get_some, goal_added, goal_skipped}
use Rattle.measurer.proofs.tables.matchers_of.Goals as goal
use Rattle.measurer.proofs.tables.matchers_of.Goals.{then-not-is_plain+in_ok-own+in_ok-push, else-not-is_plain}

pub loop-place-preserved : goal.loop-place-preserved
loop-place-preserved c =
    let e = get_some c.args.goals.now c.loop-place.place c.index-goals-place.result c.loop-place-test.true c.index-goals-place.is in
    let plain = sym (c.is_plain.ensures ∙ ap is_plain c.word.ensures) in
    elim c.if-not-is_plain.branch [
      | then-not-is_plain+in_ok-own+in_ok-push w ↦ subst (AreMatchers c.args.sets.now c.args.goals.now c.args.first c.args.last (c.loop-place.place + 1)) (sym (w.matchers-is ∙ w.in_ok-push.ensures.ok))
          (goal_added c.args.sets.now c.args.goals.now c.args.first c.args.last c.loop-place.place c.index-goals-place.result c.loop-place.matchers w.in_ok-own.own e w.in_ok-own.ensures.number
          (record { other = plain ∙ w.if-not-is_plain.true; matcher = w.in_ok-own.ensures.matcher }) c.loop-place.invariant)
      | else-not-is_plain w ↦ subst (AreMatchers c.args.sets.now c.args.goals.now c.args.first c.args.last (c.loop-place.place + 1)) (sym w.matchers-is)
          (goal_skipped c.args.sets.now c.args.goals.now c.args.first c.args.last c.loop-place.place c.index-goals-place.result c.loop-place.matchers e (plain ∙ w.if-not-is_plain.false) c.loop-place.invariant)
    ]
