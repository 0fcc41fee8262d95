use Rattle.std.proofs.Common.{length, sym, ◌∙◌, arith}
use Rattle.c_types.proofs.ScopedLaws.{names_end, names_turn}
use Rattle.c_types.proofs.scoped.names_in.Goals as goal

pub loop-left-init : goal.loop-left-init
loop-left-init c = record {
  within = omega arith;
  same = c.new-names.ensures ∙ sym (names_end c.args.variables.now (length c.args.variables.now) (omega arith));
}

pub loop-left-preserved : goal.loop-left-preserved
loop-left-preserved c = record {
  within = omega (arith, c.loop-left.invariant.within);
  same =
      names_turn c.args.variables.now c.loop-left.left c.index-variables-left.result c.loop-left.names c.push.new.self c.in_ok-try_clone.field-0 c.in_ok-try_clone-2.field-0
      c.loop-left-test.true c.loop-left.invariant.within c.index-variables-left.is c.in_ok-try_clone.ensures c.in_ok-try_clone-2.ensures c.in_ok-push.ensures c.loop-left.invariant.same;
}
