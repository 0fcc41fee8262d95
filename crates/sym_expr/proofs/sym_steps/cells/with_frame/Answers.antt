use Rattle.sym_expr.proofs.sym_steps.CellLemmas.{cells_pushed, all_pushed}
use Rattle.sym_expr.proofs.sym_steps.cells.with_frame.Goals as goal

pub returns-clause-cells : goal.returns-clause-cells
returns-clause-cells c = λ gates w. rw c.in_ok-cells.ensures (cells_pushed gates w c.constant.result (c.constant.ensures.value gates w) c.args.store.cells c.args.words.now c.args.count)

pub returns-clause-wires : goal.returns-clause-wires
returns-clause-wires c = λ gates h k. rw c.in_ok-cells.ensures (all_pushed gates c.constant.result (c.constant.ensures.wires gates) c.args.store.cells c.args.words.now _ h k)
