use Rattle.std.proofs.Common.{◌∙◌, ◌-◌, ap, subst, arith}
use Rattle.std.specs.Prelude.{slice_get}
use Rattle.goal_formula.specs.Sizes.{IsFormulaFault, goal_size}
use Rattle.suite.proofs.Firsts.{there_at}
use Rattle.suite.proofs.SeekingLaws.{exact_given}
use Rattle.suite.proofs.sought.formula_over.Goals as goal

pub returns-in-Ok-clause-exact : goal.returns-in-Ok-clause-exact
returns-in-Ok-clause-exact c =
    let x = c.args.goal in
    let e = x.given.now.planned.entry in
    let u = c.args.unwound.now in
    let is = c.requires.unwound in
    let some = x.some in
    let there = x.there in
    let own = there_at x.given.now.planned.plan.goals (x.number - 1) (omega (arith, some, there)) in
    let exact = c.in-Ok.ensures.accepted e.function.now own.0 (ap (slice_get e.graph.now.functions) is.given_entry ∙ e.there) own.1 in
    record { form = own.0; is = own.1; exact = exact_given x c.in-Ok.formula u own.0 is exact; few = c.in-Ok.ensures.small }

pub unreachable-requires : goal.unreachable-requires
unreachable-requires c =
    let x = c.args.goal in
    let plan = x.given.now.planned.plan in
    let some = x.some in
    let there = x.there in
    let own = there_at plan.goals (x.number - 1) (omega (arith, some, there)) in
    let small = c.requires.small own.0 own.1 in
    let size = goal_size plan own.0 c.args.unwound.now.pairs in
    let fault = subst (IsFormulaFault size) c.in-Err-Refused.field-0-is (c.in-Err-Refused.ensures.refused own.0 own.1) in
    let large = fault.1 in
    omega (arith, small, large)
