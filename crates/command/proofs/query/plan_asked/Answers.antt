use Rattle.std.proofs.lemmas.Result.{err_from_is_err_and}
use Rattle.command.proofs.QueryLaws.{no_plan, no_predicates}
use Rattle.command.proofs.query.plan_asked.Goals as goal

pub returns-in_err-predicates-clause-answer : goal.returns-in_err-predicates-clause-answer
returns-in_err-predicates-clause-answer c = λ bytes asked.
    let p = err_from_is_err_and c.from_residual.result c.from_residual.ensures.1 in
    rw (p.1, p.2) (no_predicates c.args.graph.now bytes c.args.query.now asked c.in_err-predicates.field-0.0 c.in_err-predicates.ensures.outcome)

pub returns-in_err-plan-clause-answer : goal.returns-in_err-plan-clause-answer
returns-in_err-plan-clause-answer c = λ bytes asked.
    let p = err_from_is_err_and c.from_residual-in_err-plan.result c.from_residual-in_err-plan.ensures.1 in
    rw (p.1, p.2) (no_plan c.args.graph.now bytes c.args.query.now asked c.in_ok-predicates.predicates c.in_ok-predicates.ensures.outcome c.in_err-plan.field-0.0 c.in_err-plan.ensures.outcome)
