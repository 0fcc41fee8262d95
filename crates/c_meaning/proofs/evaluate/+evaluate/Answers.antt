use Rattle.std.proofs.Common.{rules, sym}
use Rattle.cfa.specs.declared.expr.CellPlace.{the_lemmas}
use Rattle.cfa.proofs.ExprRules.{comes_to, constant_value, load_place, load_kind, convert_operand, convert_kind, unary_operand, unary_of_kind, binary_left, binary_left_of_kind, binary_right, binary_same, element_index, element_array, global_cell, local_cell}
use Rattle.c_meaning.proofs.Values.{load_made, convert_made, unary_made, binary_made, element_made}
use Rattle.c_meaning.proofs.evaluate.+evaluate.Goals as goal

pub indexed_cell-operand_value-requires : goal.indexed_cell-operand_value-requires
indexed_cell-operand_value-requires t c =
    let s = c.args.store.now in
    let e = c.in-Element in
    (search (rules, the_lemmas), (c.requires.room, rw c.deref.ensures (element_index s.room e.array e.index e.length (rw e.is at c.requires.fits))))

pub indexed_cell-element_at-requires-clause-array : goal.indexed_cell-element_at-requires-clause-array
indexed_cell-element_at-requires-clause-array t c =
    let s = c.args.store.now in
    let e = c.in-Element in
    element_array s.room e.array e.index e.length (rw e.is at c.requires.fits)

pub indexed_cell-element_at-requires-clause-index : goal.indexed_cell-element_at-requires-clause-index
indexed_cell-element_at-requires-clause-index t c =
    let s = c.args.store.now in
    let e = c.in-Element in
    let fits = element_index s.room e.array e.index e.length (rw e.is at c.requires.fits) in
    rw (c.kind.ensures, c.deref-in-Element.ensures) (comes_to s.room s.cells s.frame e.index c.operand_value.result fits (rw c.deref.ensures at c.operand_value.ensures))

pub indexed_cell-returns-in-Global : goal.indexed_cell-returns-in-Global
indexed_cell-returns-in-Global t c =
    let s = c.args.store.now in rw c.in-Global.is (sym (global_cell s.room s.cells s.frame c.in-Global.cell))

pub indexed_cell-returns-in-Local : goal.indexed_cell-returns-in-Local
indexed_cell-returns-in-Local t c =
    let s = c.args.store.now in
    rw (c.in-Local.is, c.base.ensures.place) (sym (local_cell s.room s.cells s.frame c.in-Local.cell))

pub indexed_cell-returns-in-Element : goal.indexed_cell-returns-in-Element
indexed_cell-returns-in-Element t c =
    let s = c.args.store.now in
    let e = c.in-Element in
    rw e.is (element_made s.room s.cells s.frame e.array e.index e.length c.kind.result c.operand_value.result c.element_at.result (rw e.is at c.requires.fits) (rw c.deref.ensures at c.operand_value.ensures) (rw c.deref-in-Element.ensures at c.kind.ensures) c.element_at.ensures)

pub value_of-cell_of-requires : goal.value_of-cell_of-requires
value_of-cell_of-requires t c =
    let s = c.args.store.now in
    let e = c.in-Load in
    (search (rules, the_lemmas), (c.requires.room, load_place s.room e.place e.kind (rw e.is at c.requires.fits)))

pub value_of-loaded-requires : goal.value_of-loaded-requires
value_of-loaded-requires t c =
    let s = c.args.store.now in
    let e = c.in-Load in
    load_kind s.room e.place e.kind (rw e.is at c.requires.fits)

pub value_of-operand_value-requires : goal.value_of-operand_value-requires
value_of-operand_value-requires t c =
    let s = c.args.store.now in
    let e = c.in-Convert in
    (search (rules, the_lemmas), (c.requires.room, rw c.deref.ensures (convert_operand s.room e.operand e.kind (rw e.is at c.requires.fits))))

pub value_of-converted-requires-clause-operand : goal.value_of-converted-requires-clause-operand
value_of-converted-requires-clause-operand t c =
    let s = c.args.store.now in
    let e = c.in-Convert in
    let fits = convert_operand s.room e.operand e.kind (rw e.is at c.requires.fits) in
    rw (c.kind.ensures, c.deref-in-Convert.ensures) (comes_to s.room s.cells s.frame e.operand c.operand_value.result fits (rw c.deref.ensures at c.operand_value.ensures))

pub value_of-converted-requires-clause-target : goal.value_of-converted-requires-clause-target
value_of-converted-requires-clause-target t c =
    let e = c.in-Convert in convert_kind c.args.store.now.room e.operand e.kind (rw e.is at c.requires.fits)

pub value_of-operand_value-requires-in-Unary : goal.value_of-operand_value-requires-in-Unary
value_of-operand_value-requires-in-Unary t c =
    let s = c.args.store.now in
    let e = c.in-Unary in
    (search (rules, the_lemmas), (c.requires.room, rw c.deref-in-Unary.ensures (unary_operand s.room e.op e.operand e.kind (rw e.is at c.requires.fits))))

pub value_of-unary_outcome-requires : goal.value_of-unary_outcome-requires
value_of-unary_outcome-requires t c =
    let s = c.args.store.now in
    let e = c.in-Unary in
    unary_of_kind s.room s.cells s.frame e.op e.operand e.kind c.operand_value-in-Unary.result (rw e.is at c.requires.fits) (rw c.deref-in-Unary.ensures at c.operand_value-in-Unary.ensures)

pub value_of-operand_value-requires-in-Binary : goal.value_of-operand_value-requires-in-Binary
value_of-operand_value-requires-in-Binary t c =
    let s = c.args.store.now in
    let e = c.in-Binary in
    (search (rules, the_lemmas), (c.requires.room, rw c.deref-in-Binary.ensures (binary_left s.room e.op e.left e.right e.kind (rw e.is at c.requires.fits))))

pub value_of-operand_value-requires-in-Binary-2 : goal.value_of-operand_value-requires-in-Binary-2
value_of-operand_value-requires-in-Binary-2 t c =
    let s = c.args.store.now in
    let e = c.in-Binary in
    (search (rules, the_lemmas), (c.requires.room, rw c.deref-in-Binary-2.ensures (binary_right s.room e.op e.left e.right e.kind (rw e.is at c.requires.fits))))

pub value_of-binary_outcome-requires-clause-left : goal.value_of-binary_outcome-requires-clause-left
value_of-binary_outcome-requires-clause-left t c =
    let s = c.args.store.now in
    let e = c.in-Binary in
    binary_left_of_kind s.room s.cells s.frame e.op e.left e.right e.kind c.operand_value-in-Binary.result (rw e.is at c.requires.fits) (rw c.deref-in-Binary.ensures at c.operand_value-in-Binary.ensures)

pub value_of-binary_outcome-requires-clause-right : goal.value_of-binary_outcome-requires-clause-right
value_of-binary_outcome-requires-clause-right t c =
    let s = c.args.store.now in
    let e = c.in-Binary in
    let fits = binary_right s.room e.op e.left e.right e.kind (rw e.is at c.requires.fits) in
    rw (c.kind-in-Binary.ensures, c.deref-in-Binary-3.ensures) (comes_to s.room s.cells s.frame e.right c.operand_value-in-Binary-2.result fits (rw c.deref-in-Binary-2.ensures at c.operand_value-in-Binary-2.ensures))

pub value_of-binary_outcome-requires-clause-same : goal.value_of-binary_outcome-requires-clause-same
value_of-binary_outcome-requires-clause-same t c =
    let s = c.args.store.now in
    let e = c.in-Binary in
    λ shifts. rw (c.kind-in-Binary.ensures, c.deref-in-Binary-3.ensures) (binary_same s.room s.cells s.frame e.op e.left e.right e.kind (rw e.is at c.requires.fits) shifts)

pub value_of-returns-in-Constant : goal.value_of-returns-in-Constant
value_of-returns-in-Constant t c =
    let s = c.args.store.now in
    let e = c.in-Constant in rw e.is (sym (constant_value s.room s.cells s.frame e.value e._kind))

pub value_of-returns-in-Load : goal.value_of-returns-in-Load
value_of-returns-in-Load t c =
    let s = c.args.store.now in
    let e = c.in-Load in
    rw e.is (load_made s.room s.cells s.frame e.place e.kind c.cell_of.result c.loaded.result c.cell_of.ensures c.loaded.ensures)

pub value_of-returns-in-Convert : goal.value_of-returns-in-Convert
value_of-returns-in-Convert t c =
    let s = c.args.store.now in
    let e = c.in-Convert in
    rw e.is (convert_made s.room s.cells s.frame e.operand e.kind c.kind.result c.operand_value.result c.converted.result (rw e.is at c.requires.fits) (rw c.deref.ensures at c.operand_value.ensures) (rw c.deref-in-Convert.ensures at c.kind.ensures) c.converted.ensures)

pub value_of-returns-in-Unary : goal.value_of-returns-in-Unary
value_of-returns-in-Unary t c =
    let s = c.args.store.now in
    let e = c.in-Unary in
    rw e.is (unary_made s.room s.cells s.frame e.op e.operand e.kind c.operand_value-in-Unary.result c.unary_outcome.result (rw c.deref-in-Unary.ensures at c.operand_value-in-Unary.ensures) c.unary_outcome.ensures)

pub value_of-returns-in-Binary : goal.value_of-returns-in-Binary
value_of-returns-in-Binary t c =
    let s = c.args.store.now in
    let e = c.in-Binary in
    rw e.is (binary_made s.room s.cells s.frame e.op e.left e.right e.kind c.kind-in-Binary.result c.operand_value-in-Binary.result c.operand_value-in-Binary-2.result c.binary_outcome.result (rw e.is at c.requires.fits) (rw c.deref-in-Binary.ensures at c.operand_value-in-Binary.ensures) (rw c.deref-in-Binary-2.ensures at c.operand_value-in-Binary-2.ensures) (rw c.deref-in-Binary-3.ensures at c.kind-in-Binary.ensures) c.binary_outcome.ensures)
