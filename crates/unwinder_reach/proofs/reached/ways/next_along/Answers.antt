use Rattle.std.proofs.Common.{sym, ◌∙◌, arith}
use Rattle.std.proofs.lemmas.Bool.{false≢true}
use Rattle.cfa.proofs.Eaches.{read_at}
use Rattle.unwinder_reach.proofs.reached.Next.{is_past, follows, outside}
use Rattle.unwinder_reach.proofs.reached.ways.next_along.Goals as goal

pub returns-in-None : goal.returns-in-None
returns-in-None c =
    let there = read_at c.args.graph.now.edges c.edges.result.now c.edges.ensures c.args.at c.in-Some.edge.now c.in-Some.ensures.lookup.3.0 (c.in-Some.ensures.lookup.3.1 c.in-Some.edge.now) in
    let past = rw c.in-None.is at c.in_ok-pair_along.ensures in
    is_past c.args.graph.now c.args.bounds.now c.args.at c.args.pair.now c.in-Some.edge.now there (omega arith) (omega arith) past

pub returns-then-is_within : goal.returns-then-is_within
returns-then-is_within c =
    let there = read_at c.args.graph.now.edges c.edges.result.now c.edges.ensures c.args.at c.in-Some.edge.now c.in-Some.ensures.lookup.3.0 (c.in-Some.ensures.lookup.3.1 c.in-Some.edge.now) in
    let is = rw c.in-Some-2.is at c.in_ok-pair_along.ensures in
    follows c.args.graph.now c.args.bounds.now c.args.at c.args.pair.now c.in-Some.edge.now there c.in-Some-2.next (c.leaves.ensures.0 c.if-not-leaves.false) is (c.is_within.ensures.0 c.if-is_within.true)

pub returns-else-is_within : goal.returns-else-is_within
returns-else-is_within c =
    let there = read_at c.args.graph.now.edges c.edges.result.now c.edges.ensures c.args.at c.in-Some.edge.now c.in-Some.ensures.lookup.3.0 (c.in-Some.ensures.lookup.3.1 c.in-Some.edge.now) in
    let is = rw c.in-Some-2.is at c.in_ok-pair_along.ensures in
    outside c.args.graph.now c.args.bounds.now c.args.at c.args.pair.now c.in-Some.edge.now there c.in-Some-2.next is (λ w. false≢true (sym c.if-is_within.false ∙ c.is_within.ensures.1 w))
