use Rattle.circuit.specs.Wires.{lit_holds}
use Rattle.sym_expr.proofs.sym_steps.EffectLemmas.{and_no, and_yes}
use Rattle.sym_expr.proofs.sym_steps.effects.both_hold.Goals as goal

pub returns-then-negated-clause-value : goal.returns-then-negated-clause-value
returns-then-negated-clause-value c = λ w. and_no c.args.circuit.now c.args.b (lit_holds c.args.circuit.now c.args.a w) w (rw c.wire.ensures at c.if-wire-ne0.false) (rw c.negated.ensures at c.if-negated.true)

pub returns-else-negated-clause-value : goal.returns-else-negated-clause-value
returns-else-negated-clause-value c = λ w. and_yes c.args.circuit.now c.args.b (lit_holds c.args.circuit.now c.args.a w) w (rw c.wire.ensures at c.if-wire-ne0.false) (rw c.negated.ensures at c.if-negated.false)
