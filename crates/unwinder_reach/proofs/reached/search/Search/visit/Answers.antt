use Rattle.std.proofs.Common.{refl, sym, subst, arith}
use Rattle.unwinder_reach.specs.reached.Searching.{AreWays}
use Rattle.unwinder_reach.proofs.reached.Visits.{stays, refused, grows}
use Rattle.unwinder_reach.proofs.reached.search.Search.visit.Goals as goal

pub returns-then-not-branch-clause-ok : goal.returns-then-not-branch-clause-ok
returns-then-not-branch-clause-ok c bounds k f next =
    let was = rw c.if-not-branch.true at c.in_ok-add.ensures in
    stays c.args.graph.now bounds k f c.args.pair c.args.frames c.args.self.now next c.in_ok-key.key.items c.in_ok-key.ensures c.add.new.self was

pub returns-then-len-gt-MOST_PAIRS-clause-err : goal.returns-then-len-gt-MOST_PAIRS-clause-err
returns-then-len-gt-MOST_PAIRS-clause-err c bounds k f next =
    let is = rw c.if-not-branch.false at c.in_ok-add.ensures in
    (refl, refused c.args.graph.now bounds k f c.args.pair c.args.frames c.args.self.now next c.in_ok-key.key.items c.in_ok-key.ensures c.add.new.self is (omega arith))

pub returns-clause-ok : goal.returns-clause-ok
returns-clause-ok c bounds k f next =
    let is = rw c.if-not-branch.false at c.in_ok-add.ensures in
    grows c.args.graph.now bounds k f c.args.pair c.args.frames c.args.self.now next c.in_ok-key.key.items c.in_ok-key.ensures c.add.new.self is c.from_vec-ways.result c.push.new.self (omega arith) c.in_ok-push.ensures.ok
    (subst (AreWays c.args.graph.now c.args.pair) (sym c.from_vec-ways.ensures) c.in_ok-ways.ensures.all) (omega arith)
