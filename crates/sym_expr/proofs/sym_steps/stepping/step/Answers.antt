use Rattle.std.proofs.Common.{[], sym}
use Rattle.std.proofs.lemmas.Result.{IfOk-weaker}
use Rattle.c_meaning.proofs.Next.{next_onward, owner_inner}
use Rattle.sym_expr.specs.sym_steps.Steps.{state_in}
use Rattle.sym_expr.proofs.sym_steps.NodeLemmas.{node_there}
use Rattle.sym_expr.proofs.sym_steps.StepLemmas.{same_step}
use Rattle.sym_expr.proofs.sym_steps.stepping.step.Goals as goal

pub owner_of-function-requires : goal.owner_of-function-requires
owner_of-function-requires c = node_there c.args.graph.now (state_in c.args.circuit.now c.args.state []) c.well_formed-2.ensures (c.requires.states [])

pub onward-requires-clause-inner : goal.onward-requires-clause-inner
onward-requires-clause-inner c = owner_inner c.args.graph.now (state_in c.args.circuit.now c.args.state []) c.owner_of-function.result.now c.well_formed-2.ensures (c.requires.states []) c.owner_of-function.ensures c.if-state-function.false

pub returns-clause-step : goal.returns-clause-step
returns-clause-step c =
    IfOk-weaker c.onward.result _ _ (λ t is. same_step c.args.graph.now c.args.circuit.now c.onward.new.circuit c.args.answers.now c.args.state _ _ t
    (λ w input. sym (next_onward c.args.graph.now input (state_in c.args.circuit.now c.args.state w) c.owner_of-function.result.now c.owner_of-function.ensures c.if-state-function.false)) is) c.onward.ensures.step
