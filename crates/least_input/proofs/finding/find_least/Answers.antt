use Rattle.std.proofs.Common.{◌≡◌, sym, subst}
use Rattle.std.proofs.lemmas.Result.{IfOk-weaker}
use Rattle.suite_problem.specs.declared.goal.Goal.{Goal}
use Rattle.suite.specs.Seeking.{IsFormulaFor}
use Rattle.least_input.specs.AtGoal.{IsAnsweredAt, IsOpenAt}
use Rattle.least_input.specs.declared.least.Least.{Least}
use Rattle.least_input.proofs.Openings.{open_where_short}
use Rattle.least_input.proofs.finding.find_least.Goals as goal

pub searched-requires : goal.searched-requires
searched-requires c = subst (λ (x : Goal). IsFormulaFor x c.in_ok-whole.whole) (sym c.goal-goal.ensures) c.in_ok-whole.ensures.exact

pub returns-clause-answered : goal.returns-clause-answered
returns-clause-answered c = rw c.goal-goal.ensures at c.searched.ensures

pub returns-clause-enough : goal.returns-clause-enough
returns-clause-enough c =
    let x = c.args.sought.now.goal in
    let g = x.given.now in
    let e = g.planned.entry in
    IfOk-weaker c.searched.result (IsAnsweredAt x c.args.budget) (IsOpenAt x c.args.budget)
    (λ (least : Least) h form is. open_where_short e.graph.now e.function.now g.planned.predicates g.planned.plan g.bounds g.ends form c.args.budget least (h form is)) (rw c.goal-goal.ensures at c.searched.ensures)
