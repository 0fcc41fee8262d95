use Rattle.sym_expr.specs.Weights.{weight_of}
use Rattle.unwinder_reach.proofs.unwinding_size.SumLaws.{sum_more}
use Rattle.unwinder_reach.proofs.unwinding_size.expressions.weights.Goals as goal

pub loop-expr-preserved : goal.loop-expr-preserved
loop-expr-preserved c =
    sum_more weight_of c.args.exprs.now c.loop-expr.expr-index c.expr-item.result c.loop-expr.total c.weight.result c.sum-total.result c.loop-expr-test.true c.expr-item.is c.loop-expr.invariant c.weight.ensures c.sum-total.ensures
