use Rattle.std.proofs.lemmas.Bool.{false≢true}
use Rattle.std.proofs.lemmas.Bool.Decides.{Decides-eqb}
use Rattle.cfa.proofs.Eaches.{read_at}
use Rattle.cfa.proofs.Exits.{exit_no_node, exit_no_function, exit_tells}
use Rattle.unwinder_reach.proofs.reached.Lookups.{past_none}
use Rattle.unwinder_reach.proofs.reached.ways.is_exit.Goals as goal

pub returns-in-None : goal.returns-in-None
returns-in-None c =
    let none = past_none c.args.graph.now.nodes c.nodes.result.now c.nodes.ensures c.args.node c.in-None.ensures.lookup.3 in
    (λ t. absurd (false≢true t), λ ex. absurd (exit_no_node _ _ c.well_formed-2.ensures.rest.functions none ex))

pub returns-in-None-get : goal.returns-in-None-get
returns-in-None-get c =
    let there = read_at c.args.graph.now.nodes c.nodes.result.now c.nodes.ensures c.args.node c.in-Some.n.now c.in-Some.ensures.lookup.3.0 (c.in-Some.ensures.lookup.3.1 c.in-Some.n.now) in
    let none = past_none c.args.graph.now.functions c.functions.result.now c.functions.ensures c.in-Some.n.now.function c.in-None-get.ensures.lookup.3 in
    (λ t. absurd (false≢true t), λ ex. absurd (exit_no_function _ _ c.in-Some.n.now c.well_formed-2.ensures.rest.functions there none ex))

pub returns-in-Some-get : goal.returns-in-Some-get
returns-in-Some-get c =
    let there = read_at c.args.graph.now.nodes c.nodes.result.now c.nodes.ensures c.args.node c.in-Some.n.now c.in-Some.ensures.lookup.3.0 (c.in-Some.ensures.lookup.3.1 c.in-Some.n.now) in
    let owner = read_at c.args.graph.now.functions c.functions.result.now c.functions.ensures c.in-Some.n.now.function c.in-Some-get.function.now c.in-Some-get.ensures.lookup.3.0 (c.in-Some-get.ensures.lookup.3.1 c.in-Some-get.function.now) in
    let tells = exit_tells _ _ c.in-Some.n.now c.in-Some-get.function.now c.well_formed-2.ensures.rest.functions there owner in
    let test = Decides-eqb c.in-Some-get.function.now.exit c.args.node in
    (λ t. tells.0 (test.0 t), λ ex. test.1 (tells.1 ex))
