use Rattle.std.proofs.Common.{◌+◌, set, ap, ◌∙◌, arith}
use Rattle.sym_expr.proofs.sym_steps.CellLemmas.{set_next}
use Rattle.sym_expr.proofs.sym_steps.cells.with_all.Goals as goal

pub loop-k-preserved : goal.loop-k-preserved
loop-k-preserved c =
    c.in_ok-set.ensures ∙ ap (λ xs. set xs (c.args.first + c.loop-k.k) c.args.word.now) c.loop-k.invariant
    ∙ set_next c.args.store.cells c.args.first c.loop-k.k c.args.word.now (omega arith)
