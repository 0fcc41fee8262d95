use Rattle.std.proofs.Common.{inr, refl, sym, subst}
use Rattle.fq_core.specs.Refusals.{IfRefused}
use Rattle.fq_core.specs.declared.refusal.Fault.{Fault}
use Rattle.suite.specs.Seeking.{IsRefused}
use Rattle.goal_formula.specs.Sizes.{goal_size}
use Rattle.suite.proofs.GoalSizes.{goal_is_too_large, goal_is_within, small_unless}
use Rattle.suite.proofs.sought.Sought.at.Goals as goal

pub returns-then-branch-clause-refused : goal.returns-then-branch-clause-refused
returns-then-branch-clause-refused c =
    let x = c.args.goal in
    let g = x.given.now in
    let e = g.planned.entry in
    subst (λ (y : Fault). IfRefused y (IsRefused x)) (sym c.too_large.ensures)
    (λ form is. inr (refl, goal_is_too_large e.graph.now g.planned.predicates e.function.now e.number g.bounds g.ends c.in_ok-unwound.unwound c.in_ok-unwound.ensures.accepted g.planned.plan form ((c.in_ok-is_goal_too_large.ensures form is).0 c.if-branch.true)))

pub returns-in-Ok-clause-within : goal.returns-in-Ok-clause-within
returns-in-Ok-clause-within c = λ form is.
    let x = c.args.goal in
    let g = x.given.now in
    let e = g.planned.entry in
    goal_is_within e.graph.now g.planned.predicates e.function.now e.number g.bounds g.ends c.in_ok-unwound.unwound c.in_ok-unwound.ensures.accepted g.planned.plan form
    (small_unless c.in_ok-is_goal_too_large.field-0 (goal_size g.planned.plan form c.in_ok-unwound.unwound.pairs) (c.in_ok-is_goal_too_large.ensures form is) c.if-branch.false)
