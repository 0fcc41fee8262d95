use Rattle.std.proofs.Common.{subst, sym}
use Rattle.suite.specs.Seeking.{IsNoneFrom, Seeking}
use Rattle.suite.proofs.sought.Sought.refute.Goals as goal

pub invariant_of-self : goal.invariant_of-self
invariant_of-self c =
    let g = c.self.inside.goal.given.now in
    let e = g.planned.entry in
    let none : IsNoneFrom c.self.inside.goal = subst (λ (s : Seeking). IsNoneFrom s.goal) (sym c.self.view_is) c.requires in
    record {
      unwound = c.self.invariant.unwound;
      small = c.self.invariant.small;
      pool_is = c.refute.ensures e.graph.now e.function.now g.planned.predicates g.planned.plan g.bounds g.ends c.self.invariant.pool_is none;
      lessons_hold = c.self.invariant.lessons_hold;
    }
