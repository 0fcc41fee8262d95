use Rattle.sym_expr.specs.sym_steps.Steps.{state_in}
use Rattle.unwinder.proofs.Truths.{no_meaning, no_scope}
use Rattle.unwinder.proofs.telling.truth.Goals as goal

pub returns-in-Some-None-clause-value : goal.returns-in-Some-None-clause-value
returns-in-Some-None-clause-value c = λ w.
    let read = c.in-Some-None.ensures.lookup in
    no_meaning c.args.circuit.now c.args.scope (state_in c.args.circuit.now c.args.state.now w) c.args.row.now c.in-Some-None.field-0.now w read.3.0 read.1 c.in-Some-None.field-0-is

pub returns-in-None-clause-value : goal.returns-in-None-clause-value
returns-in-None-clause-value c = λ w.
    let read = c.in-None.ensures.lookup in
    no_scope c.args.circuit.now c.args.scope (state_in c.args.circuit.now c.args.state.now w) c.args.row.now w read.3
