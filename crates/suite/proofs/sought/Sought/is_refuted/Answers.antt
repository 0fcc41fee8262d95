use Rattle.std.proofs.Common.{subst}
use Rattle.suite.specs.Seeking.{IsNoneFrom, Seeking}
use Rattle.suite.proofs.sought.Sought.is_refuted.Goals as goal

pub returns : goal.returns
returns c = λ yes.
    let g = c.self.inside.goal.given.now in
    let e = g.planned.entry in
    subst (λ (s : Seeking). IsNoneFrom s.goal) c.self.view_is
    (λ form at. c.is_refuted.ensures yes e.graph.now e.function.now g.planned.predicates g.planned.plan g.bounds g.ends form c.self.invariant.pool_is at)
