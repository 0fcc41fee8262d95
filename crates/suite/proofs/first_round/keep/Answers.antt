use Rattle.std.proofs.Common.{◌-◌, sym, subst, arith}
use Rattle.suite_problem.specs.declared.goal.Goal.{Goal}
use Rattle.goals.specs.GoalForm.{GoalForm}
use Rattle.suite.specs.Seeking.{IsDecidedAs, IsGoalOf, IsNoneFrom, Seeking}
use Rattle.suite.proofs.Firsts.{there_at}
use Rattle.suite.proofs.first_round.keep.Goals as goal

-- a goal that is sought has a form
form_of : (x : Goal) → (form : GoalForm) × IsGoalOf x form
form_of x =
    let some = x.some in
    let there = x.there in
    there_at x.given.now.planned.plan.goals (x.number - 1) (omega (arith, some, there))

pub add_input-requires : goal.add_input-requires
add_input-requires c =
    let x = c.args.sought.now.goal in
    let own = form_of x in
    let found = c.requires in
    (own.0, subst (IsDecidedAs x own.0 found.0) c.in-Covered.is (found.1 own.0 own.1))

pub learn-requires : goal.learn-requires
learn-requires c =
    let x = c.args.sought.now.goal in
    let own = form_of x in
    let found = c.requires in
    (subst (IsDecidedAs x own.0 found.0) c.in-Refuted.is (found.1 own.0 own.1)).1.0

pub refute-requires : goal.refute-requires
refute-requires c =
    let x = c.args.sought.now.goal in
    let found = c.requires in
    subst (λ (s : Seeking). IsNoneFrom s.goal) (sym c.learn.ensures) (λ form is. (subst (IsDecidedAs x form found.0) c.in-Refuted.is (found.1 form is)).2)
