use Rattle.cfa.proofs.ExprRules.{global_cell, local_cell}
use Rattle.c_meaning.proofs.evaluate.direct_cell.Goals as goal

pub returns-in-Global : goal.returns-in-Global
returns-in-Global c =
    let s = c.args.store.now in rw c.in-Global.is (global_cell s.room s.cells s.frame c.in-Global.cell)

pub returns-in-Local : goal.returns-in-Local
returns-in-Local c =
    let s = c.args.store.now in
    rw (c.in-Local.is, c.base.ensures.place) (local_cell s.room s.cells s.frame c.in-Local.cell)
