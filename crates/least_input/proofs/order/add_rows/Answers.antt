use Rattle.std.proofs.Common.{◌++◌, ◌∙◌, reverse}
use Rattle.std.specs.List.{filter_map}
use Rattle.least_input.proofs.Rows.{rows_more}
use Rattle.least_input.proofs.order.add_rows.Goals as goal

pub loop-row-preserved : goal.loop-row-preserved
loop-row-preserved c =
    c.in_ok-add_row.ensures ∙ (λ i. c.loop-row.invariant i ++ filter_map (λ v. v) (reverse (c.deref.ensures i)))
    ∙ rows_more c.args.variables.now.items c.args.rows.now c.loop-row.row-index c.row-item.result c.loop-row-test.true c.row-item.is
