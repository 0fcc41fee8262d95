use Rattle.std.proofs.Common.{ℕ, ◌∙◌, Option, subst}
use Rattle.std.specs.Prelude.{IfOk, IfSome}
use Rattle.std.proofs.lemmas.Result.{IfOk-weaker}
use Rattle.suite_problem.specs.declared.goal.Goal.{Goal}
use Rattle.suite.specs.Seeking.{IsDecidedAt, IsOpenAt, Seeking}
use Rattle.suite.specs.declared.decided.Decided.{Decided}
use Rattle.suite.proofs.Short.{open_where_short}
use Rattle.suite.proofs.deciding.decide.Goals as goal

open_at : (x : Goal) (budget : ℕ) (d : Decided) → IsDecidedAt x budget d → IsOpenAt x budget d
open_at x budget d h = λ form is.
    let g = x.given.now in
    let e = g.planned.entry in
    open_where_short e.graph.now e.function.now g.planned.predicates g.planned.plan g.bounds g.ends form budget d (h form is)

pub returns-in-Some-2-clause-enough : goal.returns-in-Some-2-clause-enough
returns-in-Some-2-clause-enough c =
    let Says : Seeking → Decided → Type 0 = λ s d. IsDecidedAt s.goal c.args.budget d in
    let decided = subst (λ (o : Option Decided). IfSome o (Says c.fill_first.new.sought)) c.in-Some-2.is c.in_ok-decided.ensures.decided in
    open_at c.args.sought.now.goal c.args.budget c.in-Some-2.decided (subst (λ (s : Seeking). Says s c.in-Some-2.decided) c.in_ok-fill_first.ensures decided)

pub returns-clause-enough : goal.returns-clause-enough
returns-clause-enough c =
    let x = c.args.sought.now.goal in
    let decided = subst (λ (s : Seeking). IfOk c.decide_beside.result (IsDecidedAt s.goal c.args.budget)) (c.in_ok-decided.ensures.same ∙ c.in_ok-fill_first.ensures) c.decide_beside.ensures.decided in
    IfOk-weaker c.decide_beside.result (IsDecidedAt x c.args.budget) (IsOpenAt x c.args.budget) (open_at x c.args.budget) decided
