use Rattle.std.proofs.Common.{◌+◌, length, ap, ◌∙◌, [], arith}
use Rattle.std.proofs.lemmas.Result.{IfOk-weaker}
use Rattle.cfa.specs.Values.{cell_of}
use Rattle.cfa.proofs.ExprRules.{global_cell, local_cell}
use Rattle.bit_words.proofs.Steps.{grows_then, grows_within}
use Rattle.bit_words.proofs.Digits.{all_still}
use Rattle.sym_expr.specs.Stores.{cells_in}
use Rattle.sym_expr.proofs.ElementLemmas.{cells_still}
use Rattle.sym_expr.proofs.ExprRules.{weight_element, fits_index, fits_array, fits_global, fits_local}
use Rattle.sym_expr.proofs.WriteLemmas.{place_inside, place_put, sure_inside, sure_put, write_room}
use Rattle.sym_expr.proofs.writes.put.Goals as goal

pub translate-requires-clause-fits : goal.translate-requires-clause-fits
translate-requires-clause-fits c =
    let e = c.in-Element in
    rw c.deref.ensures (fits_index (length c.args.store.now.cells) c.args.frame.now e.array e.index e.length (rw e.is at c.requires.fits))

pub translate-requires-clause-room : goal.translate-requires-clause-room
translate-requires-clause-room c =
    let e = c.in-Element in
    let room = rw (e.is, weight_element e.array e.index e.length c.args.kind.width) at c.requires.room in
    rw c.deref.ensures (omega arith)

pub returns-in_err-named-in-Element-clause-grows : goal.returns-in_err-named-in-Element-clause-grows
returns-in_err-named-in-Element-clause-grows c =
    let e = c.in-Element in
    rw (e.is, weight_element e.array e.index e.length c.args.kind.width) (grows_within _ (rw c.deref.ensures at c.translate.ensures.grows) (omega arith))

pub put_element-requires-clause-cells : goal.put_element-requires-clause-cells
put_element-requires-clause-cells c = cells_still c.translate.ensures.grows c.args.store.now.cells c.requires.cells

pub put_element-requires-clause-word : goal.put_element-requires-clause-word
put_element-requires-clause-word c = all_still c.translate.ensures.grows c.args.word.now c.requires.word

pub put_element-requires-clause-within : goal.put_element-requires-clause-within
put_element-requires-clause-within c =
    let e = c.in-Element in
    let within = fits_array (length c.args.store.now.cells) c.args.frame.now [] e.array e.index e.length (rw e.is at c.requires.fits) in
    let from = c.array_start-start.ensures.place [] in
    omega arith

pub put_element-requires-clause-room : goal.put_element-requires-clause-room
put_element-requires-clause-room c =
    let e = c.in-Element in
    let room = rw (e.is, weight_element e.array e.index e.length c.args.kind.width) at c.requires.room in
    let grown = rw c.deref.ensures at c.translate.ensures.grows in
    let most = write_room c.args.kind e.length c.requires.kind in
    omega (arith, grown.used)

pub returns-in_ok-named-in-Element-clause-grows : goal.returns-in_ok-named-in-Element-clause-grows
returns-in_ok-named-in-Element-clause-grows c =
    let e = c.in-Element in
    let index = rw c.deref.ensures at c.translate.ensures.grows in
    let most = write_room c.args.kind e.length c.requires.kind in
    rw (e.is, weight_element e.array e.index e.length c.args.kind.width) (grows_within _ (grows_then index c.put_element.ensures.grows) (omega arith))

pub returns-in_ok-named-in-Element-clause-inside : goal.returns-in_ok-named-in-Element-clause-inside
returns-in_ok-named-in-Element-clause-inside c =
    let e = c.in-Element in
    let cells = c.args.store.now.cells in
    let index = rw c.deref.ensures at c.in_ok-named-in-Element.ensures.value in
    rw e.is (IfOk-weaker c.put_element.result _ _ (λ inside is w.
    place_inside c.put_element.new.circuit c.args.frame.now cells e.array e.index e.length c.array_start-start.result w c.in_ok-named-in-Element.named c.translate.ensures.grows c.requires.cells
    (omega arith) (rw e.is at c.requires.fits) (c.array_start-start.ensures.place (cells_in c.args.circuit.now cells w)) (index w) inside (is w)) c.put_element.ensures.inside)

pub returns-in_ok-named-in-Element-clause-value : goal.returns-in_ok-named-in-Element-clause-value
returns-in_ok-named-in-Element-clause-value c =
    let e = c.in-Element in
    let cells = c.args.store.now.cells in
    let index = rw c.deref.ensures at c.in_ok-named-in-Element.ensures.value in
    rw e.is (IfOk-weaker c.put_element.result _ _ (λ inside is w cell at.
    place_put c.put_element.new.circuit c.args.frame.now cells e.array e.index e.length c.array_start-start.result w c.in_ok-named-in-Element.named c.translate.ensures.grows c.requires.cells
    (omega arith) (rw e.is at c.requires.fits) (c.array_start-start.ensures.place (cells_in c.args.circuit.now cells w)) (index w)
    c.put_element.new.store.cells c.args.word.now cell c.requires.word (is w) at) c.put_element.ensures.value)

pub set-requires : goal.set-requires
set-requires c = let e = c.in-Global in fits_global (length c.args.store.now.cells) c.args.frame.now e.cell (rw e.is at c.requires.fits)

pub set-requires-in-Local : goal.set-requires-in-Local
set-requires-in-Local c = let e = c.in-Local in fits_local (length c.args.store.now.cells) c.args.frame.now e.cell (rw e.is at c.requires.fits)

pub returns-in_ok-set-in-Global-clause-inside : goal.returns-in_ok-set-in-Global-clause-inside
returns-in_ok-set-in-Global-clause-inside c = λ w.
    let e = c.in-Global in
    let cells = cells_in c.args.circuit.now c.args.store.now.cells w in
    sure_inside c.args.circuit.now w e.cell _ (ap (cell_of cells c.args.frame.now) e.is ∙ global_cell c.requires.fits.room cells c.args.frame.now e.cell)

pub returns-in_ok-set-in-Global-clause-value : goal.returns-in_ok-set-in-Global-clause-value
returns-in_ok-set-in-Global-clause-value c = λ w cell at.
    let e = c.in-Global in
    let cells = cells_in c.args.circuit.now c.args.store.now.cells w in
    sure_put c.args.circuit.now c.args.store.now.cells c.set.new.self.cells c.args.word.now e.cell cell _ w c.in_ok-set-in-Global.ensures
    (ap (cell_of cells c.args.frame.now) e.is ∙ global_cell c.requires.fits.room cells c.args.frame.now e.cell) at

pub returns-in_ok-set-in-Local-clause-inside : goal.returns-in_ok-set-in-Local-clause-inside
returns-in_ok-set-in-Local-clause-inside c = λ w.
    let e = c.in-Local in
    let cells = cells_in c.args.circuit.now c.args.store.now.cells w in
    sure_inside c.args.circuit.now w (c.args.frame.now.base + e.cell) _ (ap (cell_of cells c.args.frame.now) e.is ∙ local_cell c.requires.fits.room cells c.args.frame.now e.cell)

pub returns-in_ok-set-in-Local-clause-value : goal.returns-in_ok-set-in-Local-clause-value
returns-in_ok-set-in-Local-clause-value c = λ w cell at.
    let e = c.in-Local in
    let cells = cells_in c.args.circuit.now c.args.store.now.cells w in
    sure_put c.args.circuit.now c.args.store.now.cells c.set-in-Local.new.self.cells c.args.word.now (c.args.frame.now.base + e.cell) cell _ w c.in_ok-set-in-Local.ensures
    (ap (cell_of cells c.args.frame.now) e.is ∙ local_cell c.requires.fits.room cells c.args.frame.now e.cell) at
