use Rattle.std.proofs.Common.{None}
use Rattle.unwinder_reach.proofs.reached.Visits.{finishes, follows, comes, top_number, on_ok, if_err}
use Rattle.unwinder_reach.proofs.reached.search.Search.advance.Goals as goal

pub returns-in_ok-push-in-None-2-clause-ok : goal.returns-in_ok-push-in-None-2-clause-ok
returns-in_ok-push-in-None-2-clause-ok c k f h =
    finishes c.args.graph.now c.args.bounds.now k f c.args.self.now h c.pop.new.self c.in-Some.top c.in-Some.ensures c.push.new.self c.push-in-None.new.self c.in-None.ensures.0 c.in_ok-push-in-None.ensures.ok c.in_ok-push-in-None-2.ensures.ok

pub returns-in-None-next-clause-ok : goal.returns-in-None-next-clause-ok
returns-in-None-next-clause-ok c k f h =
    let is = rw c.in-None-next.is at c.in_ok-next-in-Some-pop.ensures.next in
    follows c.args.graph.now c.args.bounds.now k f c.args.self.now h c.pop.new.self c.in-Some.top c.in-Some.ensures c.pop-2.new.self c.in-Some-pop.at c.push-in-Some-pop.new.self c.in-Some-pop.ensures c.in_ok-push-in-Some-pop.ensures.ok None
    c.numbered_along.new.table is c.in_ok-next-in-Some-pop.ensures.extends

pub returns-in-Some-next-clause-ok : goal.returns-in-Some-next-clause-ok
returns-in-Some-next-clause-ok c =
    let is = rw c.in-Some-next.is at c.in_ok-next-in-Some-pop.ensures.next in
    let numbers = rw c.in-Some-next.is at c.in_ok-next-in-Some-pop.ensures.number in
    on_ok c.visit.result
    (λ visits k f h. visits c.args.bounds.now k f
    (comes c.args.graph.now c.args.bounds.now k f c.args.self.now h c.pop.new.self c.in-Some.top c.in-Some.ensures c.pop-2.new.self c.in-Some-pop.at c.push-in-Some-pop.new.self c.in-Some-pop.ensures c.in_ok-push-in-Some-pop.ensures.ok c.in-Some-next.next
    c.in-Some-next.number c.numbered_along.new.table is c.in_ok-next-in-Some-pop.ensures.extends (numbers (top_number c.args.graph.now c.args.bounds.now k f c.args.self.now h c.pop.new.self c.in-Some.top c.in-Some.ensures))))
    c.visit.ensures.ok

pub returns-in-Some-next-clause-err : goal.returns-in-Some-next-clause-err
returns-in-Some-next-clause-err c =
    let is = rw c.in-Some-next.is at c.in_ok-next-in-Some-pop.ensures.next in
    let numbers = rw c.in-Some-next.is at c.in_ok-next-in-Some-pop.ensures.number in
    if_err c.visit.result
    (λ fault visits k f h. visits c.args.bounds.now k f
    (comes c.args.graph.now c.args.bounds.now k f c.args.self.now h c.pop.new.self c.in-Some.top c.in-Some.ensures c.pop-2.new.self c.in-Some-pop.at c.push-in-Some-pop.new.self c.in-Some-pop.ensures c.in_ok-push-in-Some-pop.ensures.ok c.in-Some-next.next
    c.in-Some-next.number c.numbered_along.new.table is c.in_ok-next-in-Some-pop.ensures.extends (numbers (top_number c.args.graph.now c.args.bounds.now k f c.args.self.now h c.pop.new.self c.in-Some.top c.in-Some.ensures))))
    c.visit.ensures.err
