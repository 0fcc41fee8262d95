use Rattle.std.proofs.Common.{get_or, ap, ◌∙◌}
use Rattle.unwinder_reach.specs.unwinding_size.Capped.{capped}
use Rattle.unwinder_reach.specs.unwinding_size.Sizes.{merges_weight, predicates_weight, steps_into}
use Rattle.sym_expr.specs.Weights.{operations_weight}
use Rattle.unwinder_reach.proofs.unwinding_size.CappedLaws.{capped-sums}
use Rattle.unwinder_reach.proofs.unwinding_size.pairs.pair_weight.Goals as goal

pub returns : goal.returns
returns c predicates pairs steps t inside =
    let operations = c.number_at-operations.ensures ∙ ap (λ l. get_or l c.node.result 0) c.deref.ensures.value ∙ ap (λ n. get_or c.args.tables.now.operations.items n 0) c.node.ensures ∙ t.operations c.args.pair.now.node in
    let scopes = c.predicates_at-predicates.ensures predicates (λ scope within. ap (λ l. get_or l scope 0) c.deref-2.ensures.value ∙ t.scopes scope within) ∙ ap (λ n. capped (predicates_weight c.args.graph.now predicates n)) c.node-2.ensures in
    let arrivals = c.number_at.ensures ∙ ap (λ l. get_or l c.args.at 0) c.deref-3.ensures.value ∙ t.arrivals c.args.at inside in
    let merges = c.merges_weight-merges.ensures (steps_into steps c.args.at) arrivals in
    capped-sums (operations_weight c.args.graph.now c.args.pair.now.node) (predicates_weight c.args.graph.now predicates c.args.pair.now.node) (merges_weight c.args.graph.now c.args.first.now steps c.args.at c.args.pair.now)
    c.number_at-operations.result c.predicates_at-predicates.result c.merges_weight-merges.result c.sum.result c.sum-2.result operations scopes merges c.sum.ensures c.sum-2.ensures
