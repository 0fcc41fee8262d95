use Rattle.std.proofs.Common.{◌≡◌, true, false, ap, ◌∙◌, rules, arith}
use Rattle.predicates.specs.Typing.{is_met, meanings_in}
use Rattle.predicates.proofs.Rows.{rows_more, typable_more, untypable}
use Rattle.predicates.proofs.typing.meanings_of.Goals as goal

pub returns-then-not-is_met : goal.returns-then-not-is_met
returns-then-not-is_met c =
    let none : is_met c.in_ok-row.row c.in_ok-table.table.items ≡ false = first_of (cc, search rules, grind arith) in
    untypable c.args.graph.now c.args.trees.now c.in_ok-table.table.items c.in_ok-table.ensures c.loop-tree.tree-index c.tree-item.result
    c.loop-tree-test.true c.tree-item.is c.in_ok-row.row (c.in_ok-row.ensures ∙ ap (λ scopes. meanings_in scopes c.tree-item.result) c.scopes.ensures) none

pub loop-tree-preserved : goal.loop-tree-preserved
loop-tree-preserved c =
    let met : is_met c.in_ok-row.row c.in_ok-table.table.items ≡ true = first_of (cc, search rules, grind arith) in
    record {
      typable =
          typable_more c.args.graph.now c.args.trees.now c.in_ok-table.table.items c.in_ok-table.ensures c.loop-tree.tree-index c.tree-item.result
          c.loop-tree-test.true c.tree-item.is c.in_ok-row.row (c.in_ok-row.ensures ∙ ap (λ scopes. meanings_in scopes c.tree-item.result) c.scopes.ensures) met c.loop-tree.invariant.typable;
      rows =
          rows_more c.args.graph.now c.args.trees.now c.in_ok-table.table.items c.in_ok-table.ensures c.loop-tree.tree-index c.tree-item.result
          c.loop-tree-test.true c.tree-item.is c.in_ok-row.row (c.in_ok-row.ensures ∙ ap (λ scopes. meanings_in scopes c.tree-item.result) c.scopes.ensures) c.loop-tree.rows c.push.new.self c.in_ok-push.ensures.ok c.loop-tree.invariant.rows;
    }
