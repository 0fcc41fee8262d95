use Rattle.std.proofs.Common.{◌||◌, ◌∙◌, sym}
use Rattle.c_lower.proofs.ScopeLaws.{seen_more, any_more}
use Rattle.c_lower.proofs.scopes.declare_all.Goals as goal

pub loop-statement-preserved : goal.loop-statement-preserved
loop-statement-preserved c = record {
  sees = seen_more c.args.list.now c.loop-statement.statement-index c.statement-item.result c.in_ok-more.more.variables c.loop-statement.sees.variables c.args.around.now.sees.variables
      c.loop-statement-test.true c.statement-item.is c.in_ok-more.ensures.sees c.loop-statement.invariant.sees;
  fresh = c.any-fresh.ensures ∙ (λ i. c.loop-statement.invariant.fresh i || c.in_ok-more.ensures.fresh i) ∙ sym (any_more c.args.list.now c.loop-statement.statement-index c.statement-item.result c.loop-statement-test.true c.statement-item.is);
}
