use Rattle.std.proofs.Common.{sym, subst, arith}
use Rattle.std.specs.Prelude.{All}
use Rattle.std.proofs.lemmas.List.Elements.{All-push}
use Rattle.circuit.specs.Wires.{IsWire}
use Rattle.sym_expr_tests.proofs.sym_steps_tests.tests.fitted.Goals as goal

pub loop-at-preserved : goal.loop-at-preserved
loop-at-preserved c =
    let word = c.extended.ensures.word c.args.circuit.now (c.requires c.loop-at.at _ (omega arith)) in
    subst (All (All (IsWire c.args.circuit.now))) (sym c.in_ok-push.ensures.items) (All-push (All (IsWire c.args.circuit.now)) c.loop-at.fitted.items c.extended.result c.loop-at.invariant word.wires)
