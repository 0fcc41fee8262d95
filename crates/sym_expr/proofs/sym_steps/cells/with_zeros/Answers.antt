use Rattle.sym_expr.proofs.sym_steps.CellLemmas.{cells_cleared, all_cleared}
use Rattle.sym_expr.proofs.sym_steps.cells.with_zeros.Goals as goal

pub returns-clause-cells : goal.returns-clause-cells
returns-clause-cells c = λ gates w. rw c.in_ok-all.ensures (cells_cleared gates w c.constant-zero.result (c.constant-zero.ensures.value gates w) c.args.store.cells c.args.first c.args.count)

pub returns-clause-wires : goal.returns-clause-wires
returns-clause-wires c = λ gates h. rw c.in_ok-all.ensures (all_cleared gates c.constant-zero.result (c.constant-zero.ensures.wires gates) c.args.store.cells c.args.first c.args.count h)
