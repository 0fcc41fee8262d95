use Rattle.std.proofs.Common.{◌≡◌, ◌+◌, ◌-◌, ◌<◌, length, refl, sym, ap, subst, ◌∙◌, arith}
use Rattle.std.specs.Prelude.{slice_get}
use Rattle.std.proofs.lemmas.Option.{slice_get_within}
use Rattle.suite.specs.Progress.{IsSizeFault}
use Rattle.suite.proofs.Firsts.{there_at}
use Rattle.suite.proofs.generating.test_sizes.Goals as goal

pub returns-then-branch-clause-refused : goal.returns-then-branch-clause-refused
returns-then-branch-clause-refused c =
    let goals = c.args.plan.now.goals in
    let place = c.loop-place.place in
    let lt : place < length goals = omega arith in
    let it = there_at goals place lt in
    let index : place + 1 - 1 ≡ place = omega arith in
    subst (IsSizeFault c.args.plan.now c.args.pairs) (sym c.too_large.ensures) (
      refl,
      record {
        place = place;
        goal = it.0;
        there = it.1;
        large = (c.in_ok-is_goal_too_large.ensures it.0 (ap (slice_get goals) index ∙ it.1)).0 c.if-branch.true;
      },
    )

pub returns-clause-small : goal.returns-clause-small
returns-clause-small c = λ place g at.
    let within = slice_get_within c.args.plan.now.goals place g at in
    c.loop-place.invariant place g (omega (arith, within)) at
