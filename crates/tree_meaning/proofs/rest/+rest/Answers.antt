use Rattle.std.proofs.Common.{rules}
use Rattle.std.proofs.lemmas.Result.{err_from_is_err_and}
use Rattle.c_typed_trees.specs.declared.expression.TypedExprForm.{the_lemmas}
use Rattle.tree_meaning.proofs.Fits.{load_fit, convert_fit, unary_fit, left_fit, right_fit, operands_fit, index_fit}
use Rattle.tree_meaning.proofs.Forms.{value_kind}
use Rattle.tree_meaning.proofs.Rests.{load_left, convert_left, unary_left, binary_left, binary_rest, left_trap, right_trap, element_left, element_cell}
use Rattle.tree_meaning.proofs.rest.+rest.Goals as goal

pub cell_of-value_of-requires : goal.cell_of-value_of-requires
cell_of-value_of-requires t c = (search (rules, the_lemmas), index_fit c.args.place.now c.in-Some.index c.in-Some.is c.requires)

pub cell_of-returns-in_err-cell-in-Some-clause-err : goal.cell_of-returns-in_err-cell-in-Some-clause-err
cell_of-returns-in_err-cell-in-Some-clause-err t c =
    let p = err_from_is_err_and c.from_residual-in_err-cell-in-Some.result c.from_residual-in_err-cell-in-Some.ensures.1 in
    rw (p.1, p.2)
    (element_cell c.args.scene.now c.args.place.now c.args.vs.now c.args.store.now.cells c.in-Some.index c.in-Some.index.kind c.in_ok-v-in-Some.v c.element_at.result _ c.in-Some.is (index_fit c.args.place.now c.in-Some.index c.in-Some.is c.requires) c.in_ok-v-in-Some.ensures.value (λ i. c.in-Some.index.kind)
    (rw c.activation-in-Some.ensures at c.element_at.ensures) (c.in_err-cell-in-Some.was))

pub cell_of-returns-in_ok-cell-in-Some-clause-cell : goal.cell_of-returns-in_ok-cell-in-Some-clause-cell
cell_of-returns-in_ok-cell-in-Some-clause-cell t c =
    element_cell c.args.scene.now c.args.place.now c.args.vs.now c.args.store.now.cells c.in-Some.index c.in-Some.index.kind c.in_ok-v-in-Some.v c.element_at.result _ c.in-Some.is (index_fit c.args.place.now c.in-Some.index c.in-Some.is c.requires) c.in_ok-v-in-Some.ensures.value (λ i. c.in-Some.index.kind)
    (rw c.activation-in-Some.ensures at c.element_at.ensures) (c.in_ok-cell-in-Some.was)

pub cell_of-returns-in_ok-cell-in-Some-clause-left : goal.cell_of-returns-in_ok-cell-in-Some-clause-left
cell_of-returns-in_ok-cell-in-Some-clause-left t c = element_left c.args.scene.now c.args.place.now c.args.vs.now c.in-Some.index c.in_ok-v-in-Some.left.now c.in-Some.is c.in_ok-v-in-Some.ensures.left

pub value_of-cell_of-requires : goal.value_of-cell_of-requires
value_of-cell_of-requires t c = (search (rules, the_lemmas), rw c.deref.ensures (load_fit c.args.tree.now c.in-Load.place c.in-Load.is c.requires))

pub value_of-value_of-requires : goal.value_of-value_of-requires
value_of-value_of-requires t c = (search (rules, the_lemmas), rw c.deref-in-Convert.ensures (convert_fit c.args.tree.now c.in-Convert.inner c.in-Convert.is c.requires))

pub value_of-value_of-requires-in-Unary : goal.value_of-value_of-requires-in-Unary
value_of-value_of-requires-in-Unary t c = (search (rules, the_lemmas), rw c.deref-in-Unary.ensures (unary_fit c.args.tree.now c.in-Unary.inner c.in-Unary.op c.in-Unary.is c.requires))

pub value_of-value_of-requires-in-Binary : goal.value_of-value_of-requires-in-Binary
value_of-value_of-requires-in-Binary t c = (search (rules, the_lemmas), rw c.deref-in-Binary.ensures (left_fit c.args.tree.now c.in-Binary.first c.in-Binary.second c.in-Binary.op c.in-Binary.is c.requires))

pub value_of-returns-in_err-v-in-Binary-clause-err : goal.value_of-returns-in_err-v-in-Binary-clause-err
value_of-returns-in_err-v-in-Binary-clause-err t c =
    let p = err_from_is_err_and c.from_residual-in_err-v-in-Binary.result c.from_residual-in_err-v-in-Binary.ensures.1 in
    rw (p.1, p.2)
    (left_trap c.args.scene.now c.args.tree.now c.args.vs.now c.args.store.now.cells c.in-Binary.op c.in-Binary.first c.in-Binary.second _ c.in-Binary.is (rw c.deref-in-Binary.ensures at c.in_err-v-in-Binary.ensures.err))

pub value_of-value_of-requires-in-Binary-2 : goal.value_of-value_of-requires-in-Binary-2
value_of-value_of-requires-in-Binary-2 t c = (search (rules, the_lemmas), rw c.deref-in-Binary-2.ensures (right_fit c.args.tree.now c.in-Binary.first c.in-Binary.second c.in-Binary.op c.in-Binary.is c.requires))

pub value_of-returns-in_err-w-in-Binary-clause-err : goal.value_of-returns-in_err-w-in-Binary-clause-err
value_of-returns-in_err-w-in-Binary-clause-err t c =
    let p = err_from_is_err_and c.from_residual-in_err-w-in-Binary.result c.from_residual-in_err-w-in-Binary.ensures.1 in
    rw (p.1, p.2)
    (right_trap c.args.scene.now c.args.tree.now c.args.vs.now c.args.store.now.cells c.in-Binary.op c.in-Binary.first c.in-Binary.second c.in_ok-v-in-Binary.v c.in_ok-v-in-Binary.middle.now _ c.in-Binary.is
    (rw c.deref-in-Binary.ensures at c.in_ok-v-in-Binary.ensures.value) (rw c.deref-in-Binary.ensures at c.in_ok-v-in-Binary.ensures.left) (rw c.deref-in-Binary-2.ensures at c.in_err-w-in-Binary.ensures.err))

pub value_of-operated-requires-clause-left : goal.value_of-operated-requires-clause-left
value_of-operated-requires-clause-left t c =
    rw c.deref-in-Binary-3.ensures (value_kind c.args.scene.now c.in-Binary.first c.args.vs.now c.args.store.now.cells c.in_ok-v-in-Binary.v (left_fit c.args.tree.now c.in-Binary.first c.in-Binary.second c.in-Binary.op c.in-Binary.is c.requires) (rw c.deref-in-Binary.ensures at c.in_ok-v-in-Binary.ensures.value))

pub value_of-operated-requires-clause-right : goal.value_of-operated-requires-clause-right
value_of-operated-requires-clause-right t c =
    rw c.deref-in-Binary-4.ensures (value_kind c.args.scene.now c.in-Binary.second c.in_ok-v-in-Binary.middle.now c.args.store.now.cells c.in_ok-w-in-Binary.w (right_fit c.args.tree.now c.in-Binary.first c.in-Binary.second c.in-Binary.op c.in-Binary.is c.requires) (rw c.deref-in-Binary-2.ensures at c.in_ok-w-in-Binary.ensures.value))

pub value_of-operated-requires-clause-same : goal.value_of-operated-requires-clause-same
value_of-operated-requires-clause-same t c = λ s. rw (c.deref-in-Binary-3.ensures, c.deref-in-Binary-4.ensures) (operands_fit c.args.tree.now c.in-Binary.first c.in-Binary.second c.in-Binary.op c.in-Binary.is c.requires s)

pub value_of-returns-in_err-value-in-Binary-clause-err : goal.value_of-returns-in_err-value-in-Binary-clause-err
value_of-returns-in_err-value-in-Binary-clause-err t c =
    let p = err_from_is_err_and c.from_residual-in_err-value-in-Binary.result c.from_residual-in_err-value-in-Binary.ensures.1 in
    rw (p.1, p.2)
    (binary_rest c.args.scene.now c.args.tree.now c.args.vs.now c.args.store.now.cells c.in-Binary.op c.in-Binary.first c.in-Binary.second c.deref-in-Binary-3.result.now.kind c.deref-in-Binary-4.result.now.kind c.in_ok-v-in-Binary.v c.in_ok-w-in-Binary.w c.in_ok-v-in-Binary.middle.now c.operated.result _
    c.in-Binary.is c.requires (rw c.deref-in-Binary.ensures at c.in_ok-v-in-Binary.ensures.value) (rw c.deref-in-Binary.ensures at c.in_ok-v-in-Binary.ensures.left) (rw c.deref-in-Binary-2.ensures at c.in_ok-w-in-Binary.ensures.value) (cc) (cc) c.operated.ensures.value c.in_err-value-in-Binary.was)

pub value_of-returns-in_ok-cell-in-Load-clause-left : goal.value_of-returns-in_ok-cell-in-Load-clause-left
value_of-returns-in_ok-cell-in-Load-clause-left t c = load_left c.args.scene.now c.args.tree.now c.args.vs.now c.in-Load.place c.in_ok-cell-in-Load.left.now c.in-Load.is (rw c.deref.ensures at c.in_ok-cell-in-Load.ensures.left)

pub value_of-returns-in_ok-v-in-Convert-clause-left : goal.value_of-returns-in_ok-v-in-Convert-clause-left
value_of-returns-in_ok-v-in-Convert-clause-left t c = convert_left c.args.scene.now c.args.tree.now c.args.vs.now c.in-Convert.inner c.in_ok-v-in-Convert.left.now c.in-Convert.is (rw c.deref-in-Convert.ensures at c.in_ok-v-in-Convert.ensures.left)

pub value_of-returns-in_ok-v-in-Unary-clause-left : goal.value_of-returns-in_ok-v-in-Unary-clause-left
value_of-returns-in_ok-v-in-Unary-clause-left t c = unary_left c.args.scene.now c.args.tree.now c.args.vs.now c.in-Unary.op c.in-Unary.inner c.in_ok-v-in-Unary.left.now c.in-Unary.is (rw c.deref-in-Unary.ensures at c.in_ok-v-in-Unary.ensures.left)

pub value_of-returns-in_ok-value-in-Binary-clause-value : goal.value_of-returns-in_ok-value-in-Binary-clause-value
value_of-returns-in_ok-value-in-Binary-clause-value t c =
    binary_rest c.args.scene.now c.args.tree.now c.args.vs.now c.args.store.now.cells c.in-Binary.op c.in-Binary.first c.in-Binary.second c.deref-in-Binary-3.result.now.kind c.deref-in-Binary-4.result.now.kind c.in_ok-v-in-Binary.v c.in_ok-w-in-Binary.w c.in_ok-v-in-Binary.middle.now c.operated.result _
    c.in-Binary.is c.requires (rw c.deref-in-Binary.ensures at c.in_ok-v-in-Binary.ensures.value) (rw c.deref-in-Binary.ensures at c.in_ok-v-in-Binary.ensures.left) (rw c.deref-in-Binary-2.ensures at c.in_ok-w-in-Binary.ensures.value) (cc) (cc) c.operated.ensures.value c.in_ok-value-in-Binary.was

pub value_of-returns-in_ok-value-in-Binary-clause-left : goal.value_of-returns-in_ok-value-in-Binary-clause-left
value_of-returns-in_ok-value-in-Binary-clause-left t c =
    binary_left c.args.scene.now c.args.tree.now c.args.vs.now c.in-Binary.op c.in-Binary.first c.in-Binary.second c.in_ok-v-in-Binary.middle.now c.in_ok-w-in-Binary.left.now c.in-Binary.is (rw c.deref-in-Binary.ensures at c.in_ok-v-in-Binary.ensures.left) (rw c.deref-in-Binary-2.ensures at c.in_ok-w-in-Binary.ensures.left)
