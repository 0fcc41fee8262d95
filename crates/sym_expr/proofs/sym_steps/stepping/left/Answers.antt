use Rattle.std.proofs.Common.{[], sym, subst, arith}
use Rattle.c_meaning.specs.Steps.{next}
use Rattle.c_meaning.specs.declared.input.Input.{Input}
use Rattle.cfa.specs.declared.state.State.{State}
use Rattle.sym_expr.specs.declared.sym_steps.state.SymStep.{SymStep}
use Rattle.sym_expr.specs.sym_steps.Steps.{IsStep, state_in}
use Rattle.sym_expr.proofs.sym_steps.ReturnLemmas.{last_step, many_called}
use Rattle.sym_expr.proofs.sym_steps.StepLemmas.{some_frames}
use Rattle.sym_expr.proofs.sym_steps.stepping.left.Goals as goal

pub running-requires : goal.running-requires
running-requires c = rw c.deref.ensures (some_frames c.args.graph.now c.args.circuit.now c.args.state c.well_formed-2.ensures c.requires.states)

pub returns-then-len-eq1-clause-step : goal.returns-then-len-eq1-clause-step
returns-then-len-eq1-clause-step c =
    let g = c.args.circuit.now in
    let P : SymStep → Type 0 = λ t. IsStep c.args.graph.now g g c.args.answers.now c.args.state (λ (input : Input) (x : State). next c.args.graph.now input x) t in
    subst P (sym c.no_way.ensures) (last_step c.args.graph.now g c.args.answers.now c.args.state c.args.function.now c.requires.own c.requires.exit (omega arith) c.requires.cells)

pub returns-in-None-clause-step : goal.returns-in-None-clause-step
returns-in-None-clause-step c =
    let none = rw (c.running.ensures, c.deref.ensures) at c.in-None.is in
    absurd (many_called c.args.graph.now (state_in c.args.circuit.now c.args.state []) c.well_formed-2.ensures (c.requires.states []) (λ one. absurd (omega arith)) none)
