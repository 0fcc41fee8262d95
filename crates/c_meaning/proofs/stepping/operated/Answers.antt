use Rattle.c_values.proofs.Fitting.{and_left, and_right}
use Rattle.std.proofs.Common.{subst}
use Rattle.std.specs.Prelude.{IsTrue}
use Rattle.cfa.specs.Graph.{call_fits}
use Rattle.cfa.specs.Rules.{place_fits}
use Rattle.c_meaning.specs.Places.{storage_of}
use Rattle.c_meaning.proofs.Operands.{operands_of, numbers_of}
use Rattle.c_meaning.proofs.stepping.operated.Goals as goal

pub assigned-requires-clause-place : goal.assigned-requires-clause-place
assigned-requires-clause-place c =
    and_left _ _ (operands_of c.args.graph.now c.args.state.now c.args.at c.args.edge.now _ c.well_formed-2.ensures c.requires.state c.requires.leaves c.in-Assign.is)

pub assigned-requires-clause-value : goal.assigned-requires-clause-value
assigned-requires-clause-value c =
    and_right (place_fits (storage_of c.args.graph.now c.args.state.now).room c.in-Assign.place) _ (operands_of c.args.graph.now c.args.state.now c.args.at c.args.edge.now _ c.well_formed-2.ensures c.requires.state c.requires.leaves c.in-Assign.is)

pub array_cleared-requires-clause-array : goal.array_cleared-requires-clause-array
array_cleared-requires-clause-array c =
    operands_of c.args.graph.now c.args.state.now c.args.at c.args.edge.now _ c.well_formed-2.ensures c.requires.state c.requires.leaves c.in-Clear.is

pub function_of-function-requires : goal.function_of-function-requires
function_of-function-requires c =
    numbers_of c.args.graph.now c.args.state.now c.args.at c.args.edge.now _ c.well_formed-2.ensures c.requires.leaves c.in-Call.is

pub call-requires-clause-call : goal.call-requires-clause-call
call-requires-clause-call c =
    let room = (storage_of c.args.graph.now c.args.state.now).room in
    let fits = operands_of c.args.graph.now c.args.state.now c.args.at c.args.edge.now _ c.well_formed-2.ensures c.requires.state c.requires.leaves c.in-Call.is in
    rw (c.deref.ensures, c.deref-in-Call.ensures) (subst (λ f. IsTrue (call_fits room f c.in-Call.words c.in-Call.arrays)) c.function_of-function.ensures fits)

pub input_function_of-function-requires : goal.input_function_of-function-requires
input_function_of-function-requires c =
    numbers_of c.args.graph.now c.args.state.now c.args.at c.args.edge.now _ c.well_formed-2.ensures c.requires.leaves c.in-Answer.is

pub answered-requires-clause-dest : goal.answered-requires-clause-dest
answered-requires-clause-dest c =
    operands_of c.args.graph.now c.args.state.now c.args.at c.args.edge.now _ c.well_formed-2.ensures c.requires.state c.requires.leaves c.in-Answer.is

pub tested-requires-clause-test : goal.tested-requires-clause-test
tested-requires-clause-test c =
    operands_of c.args.graph.now c.args.state.now c.args.at c.args.edge.now _ c.well_formed-2.ensures c.requires.state c.requires.leaves c.in-Assert.is

pub tested-requires-in-Assume-clause-test : goal.tested-requires-in-Assume-clause-test
tested-requires-in-Assume-clause-test c =
    operands_of c.args.graph.now c.args.state.now c.args.at c.args.edge.now _ c.well_formed-2.ensures c.requires.state c.requires.leaves c.in-Assume.is
