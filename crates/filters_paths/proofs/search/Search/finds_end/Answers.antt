use Rattle.std.proofs.Common.{◌++◌, ◌∷◌, [], sym, ◌∙◌, ap, arith}
use Rattle.std.proofs.lemmas.List.{nil_from_length}
use Rattle.filters_paths.proofs.SearchLaws.{followed, keeps_search, no_way, past_dead, sealed, waiting_within}
use Rattle.filters_paths.proofs.search.Search.finds_end.Goals as goal

pub returns-in-None-clause-search : goal.returns-in-None-clause-search
returns-in-None-clause-search c = sealed c.args.graph.now c.args.ends.now c.args.left.now c.loop.self c.seal.new.self c.loop.invariant.state (nil_from_length c.loop.self.waiting.items (omega (arith, c.in-None.ensures.cases.0, c.loop.self.waiting.ok.0))) c.in_ok-seal-in-None.ensures

pub returns-in-None-clause-none : goal.returns-in-None-clause-none
returns-in-None-clause-none c = λ never.
    let none = nil_from_length c.loop.self.waiting.items (omega (arith, c.in-None.ensures.cases.0, c.loop.self.waiting.ok.0)) in
    no_way c.args.graph.now c.args.ends.now c.args.left.now c.seal.new.self (sealed c.args.graph.now c.args.ends.now c.args.left.now c.loop.self c.seal.new.self c.loop.invariant.state none c.in_ok-seal-in-None.ensures) c.args.from
    (past_dead c.args.graph.now c.args.ends.now c.args.left.now c.loop.self c.seal.new.self c.loop.invariant.state none c.in_ok-seal-in-None.ensures c.args.from c.loop.invariant.from)

pub target_of-node-requires : goal.target_of-node-requires
target_of-node-requires c = waiting_within c.args.graph.now c.args.ends.now c.args.left.now c.loop.self c.pop.new.self.items c.in-Some.edge c.loop.invariant.state c.in-Some.ensures.items

pub arrive-requires-in-Some-clause-open : goal.arrive-requires-in-Some-clause-open
arrive-requires-in-Some-clause-open c = followed c.args.graph.now c.args.ends.now c.args.left.now c.loop.self c.come_by.new.self c.in-Some.edge c.target_of-node.result c.loop.invariant.state
    (c.in-Some.ensures.items ∙ ap (λ v. v.items ++ c.in-Some.edge ∷ []) (sym c.come_by.ensures.waiting)) c.come_by.ensures.marks c.target_of-node.ensures.target

pub returns-then-branch-2-clause-search : goal.returns-then-branch-2-clause-search
returns-then-branch-2-clause-search c = keeps_search c.args.graph.now c.args.ends.now c.args.left.now c.arrive-in-Some.new.self c.keep_route.new.self c.in_ok-arrive-in-Some.ensures.search c.in_ok-keep_route-in-Some.ensures
