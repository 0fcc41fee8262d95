use Rattle.std.proofs.Common.{◌∙◌, ◌-◌, inr, refl, sym, subst, arith}
use Rattle.suite.specs.Seeking.{IsDecidedAs, IsMadeAs, Seeking}
use Rattle.suite.proofs.Firsts.{there_at}
use Rattle.suite.proofs.generating.next_answer.Goals as goal

pub returns-then-is_refuted-clause-next : goal.returns-then-is_refuted-clause-next
returns-then-is_refuted-clause-next g c = λ form at.
    inr (rw c.goal-number.ensures at (sym c.first.ensures ∙ c.in_default.is), (c.is_refuted.ensures c.if-is_refuted.true form at, refl, refl))

pub add_input-requires-clause-input : goal.add_input-requires-clause-input
add_input-requires-clause-input g c =
    let x = c.args.sought.now.goal in
    let some = x.some in
    let there = x.there in
    let own = there_at x.given.now.planned.plan.goals (x.number - 1) (omega (arith, some, there)) in
    let made : IsMadeAs x own.0 c.in-Covered.input = subst (IsDecidedAs x own.0 c.args.budget) c.in-Covered.is (c.in_ok-input.ensures.decided own.0 own.1) in
    (own.0, subst (λ (s : Seeking). IsMadeAs s.goal own.0 c.in-Covered.input) (sym c.in_ok-input.ensures.same) made)

pub returns-in_ok-shown-in-Undecided-clause-next : goal.returns-in_ok-shown-in-Undecided-clause-next
returns-in_ok-shown-in-Undecided-clause-next g c = λ form at.
    let x = c.args.sought.now.goal in
    let undecided = subst (IsDecidedAs x form c.args.budget) c.in-Undecided.is (c.in_ok-input.ensures.decided form at) in
    inr (
      rw c.goal-number.ensures at (sym c.first.ensures ∙ c.in_default.is),
      (
        (x.number, c.in-Undecided.formula.formula, c.in-Undecided.history),
        refl,
        record {
          goal = form;
          some = x.some;
          there = at;
          formula = c.in-Undecided.formula;
          formula_is = refl;
          exact = undecided.0;
          spent = undecided.1;
        },
        refl,
        rw c.goal-number.ensures at c.in_ok-shown-in-Undecided.ensures.ok,
      ),
    )
