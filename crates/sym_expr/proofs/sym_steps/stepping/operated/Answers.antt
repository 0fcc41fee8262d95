use Rattle.std.proofs.Common.{[]}
use Rattle.c_meaning.proofs.Operands.{numbers_of}
use Rattle.sym_expr.specs.sym_steps.Steps.{state_in}
use Rattle.sym_expr.proofs.sym_steps.stepping.operated.Goals as goal

pub function_of-function-requires : goal.function_of-function-requires
function_of-function-requires c = numbers_of c.args.graph.now (state_in c.args.circuit.now c.args.state []) c.args.at c.args.edge.now _ c.well_formed-2.ensures c.requires.leaves c.in-Call.is

pub input_function_of-function-requires : goal.input_function_of-function-requires
input_function_of-function-requires c = numbers_of c.args.graph.now (state_in c.args.circuit.now c.args.state []) c.args.at c.args.edge.now _ c.well_formed-2.ensures c.requires.leaves c.in-Answer.is
