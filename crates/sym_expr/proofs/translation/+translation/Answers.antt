use Rattle.std.proofs.Common.{rules, cond, Some, None, [], length, subst, sym, ap, ◌∙◌, arith}
use Rattle.std.specs.Prelude.{All}
use Rattle.std.specs.Result.{result_ok}
use Rattle.std.proofs.lemmas.Result.{IfOk-weaker}
use Rattle.circuit.specs.Wires.{IsWire, lit_holds}
use Rattle.cfa.specs.Values.{value_of}
use Rattle.cfa.specs.declared.expr.CellPlace.{the_lemmas}
use Rattle.bit_words.specs.Words.{IsWord, word_value}
use Rattle.bit_words.proofs.Steps.{grows_none, grows_then, grows_within, same, still}
use Rattle.bit_words.proofs.Values.{least_width, word_later}
use Rattle.sym_expr.specs.Stores.{cells_in}
use Rattle.sym_expr.proofs.WordLemmas.{sure_outcome}
use Rattle.sym_expr.proofs.ElementLemmas.{cells_still, elements_among, count_among}
use Rattle.sym_expr.proofs.ExprRules.{unary_weighs, binary_weighs, no_elements, kind_width, weight_load, weight_convert, weight_unary, weight_binary, weight_element, kind_constant, kind_load, kind_convert, kind_unary, kind_binary, fits_constant, fits_place, fits_load, fits_converted, fits_convert, fits_operand, operand_kind, fits_left, fits_right, left_kind, right_kind, fits_index, fits_array, fits_global, fits_local, constant_outcome, convert_outcome, unary_outcome, global_outcome, local_outcome}
use Rattle.sym_expr.proofs.TranslationLemmas.{value_is_word, element_loaded, operator_translated}
use Rattle.sym_expr.proofs.translation.+translation.Goals as goal

pub translate-returns-in-Constant-clause-word : goal.translate-returns-in-Constant-clause-word
translate-returns-in-Constant-clause-word t c =
    let e = c.in-Constant in
    let g = c.args.circuit.now in
    let fits = fits_constant (length c.args.store.now.cells) c.args.frame.now e.value e._kind (rw e.is at c.requires.fits) in
    rw (e.is, kind_constant e.value e._kind) (value_is_word g c.constant.result e._kind e.value (c.constant.ensures.wires g) (c.constant.ensures.value g) fits)

pub translate-returns-in-Constant-clause-grows : goal.translate-returns-in-Constant-clause-grows
translate-returns-in-Constant-clause-grows t c = grows_none c.args.circuit.now _

pub translate-returns-in-Constant-clause-value : goal.translate-returns-in-Constant-clause-value
translate-returns-in-Constant-clause-value t c = λ w.
    let e = c.in-Constant in
    let g = c.args.circuit.now in
    let cells = cells_in g c.args.store.now.cells w in
    sure_outcome g c.constant.result w ∙ ap Some (c.constant.ensures.value g w)
    ∙ sym (constant_outcome (length c.args.store.now.cells) c.args.frame.now cells e.value e._kind (rw e.is at c.requires.fits))
    ∙ ap (λ x. result_ok (value_of cells c.args.frame.now x)) (sym e.is)

-- ---- loads

pub translate-loaded-requires : goal.translate-loaded-requires
translate-loaded-requires t c =
    let e = c.in-Load in
    let count = length c.args.store.now.cells in
    let fits = rw e.is at c.requires.fits in
    (search (rules, the_lemmas), (c.requires.cells, (fits_place count c.args.frame.now e.place e.kind fits, (fits_load count c.args.frame.now e.place e.kind fits, rw (e.is, weight_load e.place e.kind) at c.requires.room))))

pub translate-returns-in-Load-clause-grows : goal.translate-returns-in-Load-clause-grows
translate-returns-in-Load-clause-grows t c = let e = c.in-Load in rw (e.is, weight_load e.place e.kind) c.loaded.ensures.grows

pub translate-returns-in-Load-clause-word : goal.translate-returns-in-Load-clause-word
translate-returns-in-Load-clause-word t c = let e = c.in-Load in rw (e.is, kind_load e.place e.kind) c.loaded.ensures.word

pub translate-returns-in-Load-clause-value : goal.translate-returns-in-Load-clause-value
translate-returns-in-Load-clause-value t c = let e = c.in-Load in rw e.is c.loaded.ensures.value

-- ---- conversions

pub translate-translate-requires : goal.translate-translate-requires
translate-translate-requires t c =
    let e = c.in-Convert in
    let count = length c.args.store.now.cells in
    let fits = fits_converted count c.args.frame.now e.operand e.kind (rw e.is at c.requires.fits) in
    (search (rules, the_lemmas), (c.requires.cells, (rw c.deref.ensures fits, rw c.deref.ensures (rw (e.is, weight_convert e.operand e.kind) at c.requires.room))))

pub translate-convert-requires : goal.translate-convert-requires
translate-convert-requires t c = let e = c.in-Convert in fits_convert (length c.args.store.now.cells) c.args.frame.now e.operand e.kind (rw e.is at c.requires.fits)

pub translate-returns-in_err-number-in-Convert-clause-grows : goal.translate-returns-in_err-number-in-Convert-clause-grows
translate-returns-in_err-number-in-Convert-clause-grows t c = let e = c.in-Convert in rw (e.is, weight_convert e.operand e.kind) (rw c.deref.ensures at c.translate.ensures.grows)

pub translate-returns-in_ok-number-in-Convert-clause-grows : goal.translate-returns-in_ok-number-in-Convert-clause-grows
translate-returns-in_ok-number-in-Convert-clause-grows t c = let e = c.in-Convert in rw (e.is, weight_convert e.operand e.kind) (rw c.deref.ensures at c.translate.ensures.grows)

pub translate-returns-in_ok-number-in-Convert-clause-word : goal.translate-returns-in_ok-number-in-Convert-clause-word
translate-returns-in_ok-number-in-Convert-clause-word t c =
    let e = c.in-Convert in
    let own = rw c.deref.ensures at c.in_ok-number-in-Convert.ensures.word in
    let word : IsWord c.translate.new.circuit c.kind.result c.in_ok-number-in-Convert.number = rw (c.kind.ensures, c.deref-in-Convert.ensures) own in
    rw (e.is, kind_convert e.operand e.kind) (c.convert.ensures.word c.translate.new.circuit word)

pub translate-returns-in_ok-number-in-Convert-clause-value : goal.translate-returns-in_ok-number-in-Convert-clause-value
translate-returns-in_ok-number-in-Convert-clause-value t c = λ w.
    let e = c.in-Convert in
    let g = c.translate.new.circuit in
    let cells = cells_in c.args.circuit.now c.args.store.now.cells w in
    let own = rw c.deref.ensures at c.in_ok-number-in-Convert.ensures.word in
    let word : IsWord g c.kind.result c.in_ok-number-in-Convert.number = rw (c.kind.ensures, c.deref-in-Convert.ensures) own in
    let made = rw (c.kind.ensures, c.deref-in-Convert.ensures) at (c.convert.ensures.value g word w) in
    rw e.is (convert_outcome (length c.args.store.now.cells) c.args.frame.now cells e.operand e.kind (lit_holds g c.in_ok-number-in-Convert.fine w) (word_value g c.in_ok-number-in-Convert.number w) (word_value g c.convert.result w)
    (rw e.is at c.requires.fits) (rw c.deref.ensures at (c.in_ok-number-in-Convert.ensures.value w)) made)

-- ---- operators with one operand

pub translate-translate-requires-in-Unary : goal.translate-translate-requires-in-Unary
translate-translate-requires-in-Unary t c =
    let e = c.in-Unary in
    let count = length c.args.store.now.cells in
    let fits = fits_operand count c.args.frame.now e.op e.operand e.kind (rw e.is at c.requires.fits) in
    let room = rw (e.is, weight_unary e.op e.operand e.kind) at c.requires.room in
    (search (rules, the_lemmas), (c.requires.cells, (rw c.deref-in-Unary.ensures fits, rw c.deref-in-Unary.ensures (omega arith))))

pub translate-unary-requires-clause-operand : goal.translate-unary-requires-clause-operand
translate-unary-requires-clause-operand t c =
    let e = c.in-Unary in
    let same_kind = operand_kind (length c.args.store.now.cells) c.args.frame.now e.op e.operand e.kind (rw e.is at c.requires.fits) in
    subst (λ k. IsWord c.translate-in-Unary.new.circuit k c.in_ok-argument-in-Unary.argument) same_kind (rw c.deref-in-Unary.ensures at c.in_ok-argument-in-Unary.ensures.word)

pub translate-unary-requires-clause-room : goal.translate-unary-requires-clause-room
translate-unary-requires-clause-room t c =
    let e = c.in-Unary in
    let room = rw (e.is, weight_unary e.op e.operand e.kind) at c.requires.room in
    let grown = rw c.deref-in-Unary.ensures at c.translate-in-Unary.ensures.grows in
    omega arith

pub translate-returns-in_err-argument-in-Unary-clause-grows : goal.translate-returns-in_err-argument-in-Unary-clause-grows
translate-returns-in_err-argument-in-Unary-clause-grows t c =
    let e = c.in-Unary in
    rw (e.is, weight_unary e.op e.operand e.kind) (grows_within _ (rw c.deref-in-Unary.ensures at c.translate-in-Unary.ensures.grows) (omega arith))

pub translate-returns-in_err-value-in-Unary-clause-grows : goal.translate-returns-in_err-value-in-Unary-clause-grows
translate-returns-in_err-value-in-Unary-clause-grows t c =
    let e = c.in-Unary in
    rw (e.is, weight_unary e.op e.operand e.kind) (grows_within _ (grows_then (rw c.deref-in-Unary.ensures at c.translate-in-Unary.ensures.grows) c.unary.ensures.grows) (omega arith))

pub translate-returns-in_ok-value-in-Unary-clause-grows : goal.translate-returns-in_ok-value-in-Unary-clause-grows
translate-returns-in_ok-value-in-Unary-clause-grows t c =
    let e = c.in-Unary in
    rw (e.is, weight_unary e.op e.operand e.kind) (grows_within _ (grows_then (rw c.deref-in-Unary.ensures at c.translate-in-Unary.ensures.grows) c.unary.ensures.grows) (omega arith))

pub translate-returns-in_ok-value-in-Unary-clause-word : goal.translate-returns-in_ok-value-in-Unary-clause-word
translate-returns-in_ok-value-in-Unary-clause-word t c = let e = c.in-Unary in rw (e.is, kind_unary e.op e.operand e.kind) c.in_ok-value-in-Unary.ensures.word

pub translate-returns-in_ok-value-in-Unary-clause-wire : goal.translate-returns-in_ok-value-in-Unary-clause-wire
translate-returns-in_ok-value-in-Unary-clause-wire t c = still c.unary.ensures.grows c.in_ok-argument-in-Unary.fine c.in_ok-argument-in-Unary.ensures.wire

pub translate-returns-in_ok-value-in-Unary-clause-value : goal.translate-returns-in_ok-value-in-Unary-clause-value
translate-returns-in_ok-value-in-Unary-clause-value t c = λ w.
    let e = c.in-Unary in
    let g = c.translate-in-Unary.new.circuit in
    let cells = cells_in c.args.circuit.now c.args.store.now.cells w in
    rw e.is (unary_outcome (length c.args.store.now.cells) c.args.frame.now cells e.op e.operand e.kind (lit_holds c.unary.new.circuit c.in_ok-argument-in-Unary.fine w) (word_value g c.in_ok-argument-in-Unary.argument w) (word_value c.unary.new.circuit c.in_ok-value-in-Unary.value w)
    (rw e.is at c.requires.fits)
    (ap (λ b. cond b (Some (word_value g c.in_ok-argument-in-Unary.argument w)) None) (same c.unary.ensures.grows c.in_ok-argument-in-Unary.fine c.in_ok-argument-in-Unary.ensures.wire w) ∙ rw c.deref-in-Unary.ensures at (c.in_ok-argument-in-Unary.ensures.value w))
    (c.in_ok-value-in-Unary.ensures.value w))

-- ---- operators with two operands

pub translate-translate-requires-in-Binary : goal.translate-translate-requires-in-Binary
translate-translate-requires-in-Binary t c =
    let e = c.in-Binary in
    let count = length c.args.store.now.cells in
    let fits = fits_left count c.args.frame.now e.op e.left e.right e.kind (rw e.is at c.requires.fits) in
    let room = rw (e.is, weight_binary e.op e.left e.right e.kind) at c.requires.room in
    (search (rules, the_lemmas), (c.requires.cells, (rw c.deref-in-Binary.ensures fits, rw c.deref-in-Binary.ensures (omega arith))))

pub translate-translate-requires-in-Binary-2 : goal.translate-translate-requires-in-Binary-2
translate-translate-requires-in-Binary-2 t c =
    let e = c.in-Binary in
    let count = length c.args.store.now.cells in
    let fits = fits_right count c.args.frame.now e.op e.left e.right e.kind (rw e.is at c.requires.fits) in
    let room = rw (e.is, weight_binary e.op e.left e.right e.kind) at c.requires.room in
    let grown = rw c.deref-in-Binary.ensures at c.translate-in-Binary.ensures.grows in
    (search (rules, the_lemmas), (cells_still c.translate-in-Binary.ensures.grows c.args.store.now.cells c.requires.cells, (rw c.deref-in-Binary-2.ensures fits, rw c.deref-in-Binary-2.ensures (omega arith))))

pub translate-operated-requires-clause-left : goal.translate-operated-requires-clause-left
translate-operated-requires-clause-left t c =
    let e = c.in-Binary in
    let own = left_kind (length c.args.store.now.cells) c.args.frame.now e.op e.left e.right e.kind (rw e.is at c.requires.fits) in
    let word = rw c.deref-in-Binary.ensures at c.in_ok-first-in-Binary.ensures.word in
    word_later c.translate-in-Binary-2.ensures.grows e.kind c.in_ok-first-in-Binary.first.0 (subst (λ k. IsWord c.translate-in-Binary.new.circuit k c.in_ok-first-in-Binary.first.0) own word)

pub translate-operated-requires-clause-left_wire : goal.translate-operated-requires-clause-left_wire
translate-operated-requires-clause-left_wire t c = still c.translate-in-Binary-2.ensures.grows c.in_ok-first-in-Binary.first.1 c.in_ok-first-in-Binary.ensures.wire

pub translate-operated-requires-clause-right : goal.translate-operated-requires-clause-right
translate-operated-requires-clause-right t c = rw (c.kind-in-Binary.ensures, c.deref-in-Binary-3.ensures) (rw c.deref-in-Binary-2.ensures at c.in_ok-second-in-Binary.ensures.word)

pub translate-operated-requires-clause-same : goal.translate-operated-requires-clause-same
translate-operated-requires-clause-same t c =
    let e = c.in-Binary in
    λ shifts. rw (c.kind-in-Binary.ensures, c.deref-in-Binary-3.ensures) (right_kind (length c.args.store.now.cells) c.args.frame.now e.op e.left e.right e.kind (rw e.is at c.requires.fits) shifts)

pub translate-operated-requires-clause-room : goal.translate-operated-requires-clause-room
translate-operated-requires-clause-room t c =
    let e = c.in-Binary in
    let room = rw (e.is, weight_binary e.op e.left e.right e.kind) at c.requires.room in
    let first = rw c.deref-in-Binary.ensures at c.translate-in-Binary.ensures.grows in
    let second = rw c.deref-in-Binary-2.ensures at c.translate-in-Binary-2.ensures.grows in
    omega arith

pub translate-returns-in_err-first-in-Binary-clause-grows : goal.translate-returns-in_err-first-in-Binary-clause-grows
translate-returns-in_err-first-in-Binary-clause-grows t c =
    let e = c.in-Binary in
    rw (e.is, weight_binary e.op e.left e.right e.kind) (grows_within _ (rw c.deref-in-Binary.ensures at c.translate-in-Binary.ensures.grows) (omega arith))

pub translate-returns-in_err-second-in-Binary-clause-grows : goal.translate-returns-in_err-second-in-Binary-clause-grows
translate-returns-in_err-second-in-Binary-clause-grows t c =
    let e = c.in-Binary in
    rw (e.is, weight_binary e.op e.left e.right e.kind) (grows_within _ (grows_then (rw c.deref-in-Binary.ensures at c.translate-in-Binary.ensures.grows) (rw c.deref-in-Binary-2.ensures at c.translate-in-Binary-2.ensures.grows)) (omega arith))

pub translate-returns-in_ok-second-in-Binary-clause-grows : goal.translate-returns-in_ok-second-in-Binary-clause-grows
translate-returns-in_ok-second-in-Binary-clause-grows t c =
    let e = c.in-Binary in
    rw (e.is, weight_binary e.op e.left e.right e.kind) (grows_within _ (grows_then (grows_then (rw c.deref-in-Binary.ensures at c.translate-in-Binary.ensures.grows) (rw c.deref-in-Binary-2.ensures at c.translate-in-Binary-2.ensures.grows)) c.operated.ensures.grows) (omega arith))

pub translate-returns-in_ok-second-in-Binary-clause-word : goal.translate-returns-in_ok-second-in-Binary-clause-word
translate-returns-in_ok-second-in-Binary-clause-word t c = let e = c.in-Binary in rw (e.is, kind_binary e.op e.left e.right e.kind) c.operated.ensures.word

pub translate-returns-in_ok-second-in-Binary-clause-value : goal.translate-returns-in_ok-second-in-Binary-clause-value
translate-returns-in_ok-second-in-Binary-clause-value t c =
    let e = c.in-Binary in
    let made = rw (c.kind-in-Binary.ensures, c.deref-in-Binary-3.ensures) at c.operated.ensures.value in
    let left = rw c.deref-in-Binary.ensures at c.in_ok-first-in-Binary.ensures.value in
    let right = rw c.deref-in-Binary-2.ensures at c.in_ok-second-in-Binary.ensures.value in
    rw e.is (IfOk-weaker c.operated.result _ _ (λ r is w.
    operator_translated c.operated.new.circuit c.args.frame.now c.args.store.now.cells e.op e.left e.right e.kind c.in_ok-first-in-Binary.first c.in_ok-second-in-Binary.second r w c.translate-in-Binary.ensures.grows c.translate-in-Binary-2.ensures.grows
    c.requires.cells (rw e.is at c.requires.fits) c.in_ok-first-in-Binary.ensures.word.wires c.in_ok-first-in-Binary.ensures.wire (left w) (right w) (is w)) made)

-- ---- what a place holds

pub loaded-translate-requires : goal.loaded-translate-requires
loaded-translate-requires t c =
    let e = c.in-Element in
    let fits = fits_index (length c.args.store.now.cells) c.args.frame.now e.array e.index e.length (rw e.is at c.requires.fits) in
    let room = rw (e.is, weight_element e.array e.index e.length c.args.kind.width) at c.requires.room in
    (search (rules, the_lemmas), (c.requires.cells, (rw c.deref.ensures fits, rw c.deref.ensures (omega arith))))

pub loaded-held-requires-clause-cell : goal.loaded-held-requires-clause-cell
loaded-held-requires-clause-cell t c =
    let e = c.in-Global in
    fits_global (length c.args.store.now.cells) c.args.frame.now e.cell (rw e.is at c.requires.fits)

pub loaded-held-requires-in-Local-clause-cell : goal.loaded-held-requires-in-Local-clause-cell
loaded-held-requires-in-Local-clause-cell t c =
    let e = c.in-Local in
    fits_local (length c.args.store.now.cells) c.args.frame.now e.cell (rw e.is at c.requires.fits)

pub loaded-returns-in-Global-clause-grows : goal.loaded-returns-in-Global-clause-grows
loaded-returns-in-Global-clause-grows t c = grows_none c.args.circuit.now _

pub loaded-returns-in-Local-clause-grows : goal.loaded-returns-in-Local-clause-grows
loaded-returns-in-Local-clause-grows t c = grows_none c.args.circuit.now _

pub loaded-returns-in-Global-clause-word : goal.loaded-returns-in-Global-clause-word
loaded-returns-in-Global-clause-word t c = c.held.ensures.word c.args.circuit.now c.requires.cells

pub loaded-returns-in-Local-clause-word : goal.loaded-returns-in-Local-clause-word
loaded-returns-in-Local-clause-word t c = c.held-in-Local.ensures.word c.args.circuit.now c.requires.cells

pub loaded-returns-in-Global-clause-value : goal.loaded-returns-in-Global-clause-value
loaded-returns-in-Global-clause-value t c = λ w.
    let e = c.in-Global in
    let g = c.args.circuit.now in
    let made = c.held.ensures.value g c.requires.cells w in
    rw e.is (made ∙ sym (global_outcome c.requires.fits.room (cells_in g c.args.store.now.cells w) c.args.frame.now e.cell c.args.kind))

pub loaded-returns-in-Local-clause-value : goal.loaded-returns-in-Local-clause-value
loaded-returns-in-Local-clause-value t c = λ w.
    let e = c.in-Local in
    let g = c.args.circuit.now in
    let made = c.held-in-Local.ensures.value g c.requires.cells w in
    rw e.is (made ∙ sym (local_outcome c.requires.fits.room (cells_in g c.args.store.now.cells w) c.args.frame.now e.cell c.args.kind))

pub loaded-returns-in_err-named-in-Element-clause-grows : goal.loaded-returns-in_err-named-in-Element-clause-grows
loaded-returns-in_err-named-in-Element-clause-grows t c =
    let e = c.in-Element in
    rw (e.is, weight_element e.array e.index e.length c.args.kind.width) (grows_within _ (rw c.deref.ensures at c.translate.ensures.grows) (omega arith))

pub translate-returns-in-Load-clause-sure : goal.translate-returns-in-Load-clause-sure
translate-returns-in-Load-clause-sure t c = let e = c.in-Load in rw (e.is, weight_load e.place e.kind) c.loaded.ensures.sure

pub translate-returns-in_ok-number-in-Convert-clause-sure : goal.translate-returns-in_ok-number-in-Convert-clause-sure
translate-returns-in_ok-number-in-Convert-clause-sure t c = let e = c.in-Convert in rw (e.is, weight_convert e.operand e.kind) (rw c.deref.ensures at c.in_ok-number-in-Convert.ensures.sure)

pub translate-returns-in_ok-value-in-Unary-clause-sure : goal.translate-returns-in_ok-value-in-Unary-clause-sure
translate-returns-in_ok-value-in-Unary-clause-sure t c = λ none.
    let e = c.in-Unary in
    let same_kind = operand_kind (length c.args.store.now.cells) c.args.frame.now e.op e.operand e.kind (rw e.is at c.requires.fits) in
    let word = subst (λ k. IsWord c.translate-in-Unary.new.circuit k c.in_ok-argument-in-Unary.argument) same_kind (rw c.deref-in-Unary.ensures at c.in_ok-argument-in-Unary.ensures.word) in
    let more = unary_weighs e.op e.kind.width (least_width word) in
    absurd (omega (arith, rw (e.is, weight_unary e.op e.operand e.kind) at none))

pub translate-returns-in_ok-second-in-Binary-clause-sure : goal.translate-returns-in_ok-second-in-Binary-clause-sure
translate-returns-in_ok-second-in-Binary-clause-sure t c = λ none.
    let e = c.in-Binary in
    let own = left_kind (length c.args.store.now.cells) c.args.frame.now e.op e.left e.right e.kind (rw e.is at c.requires.fits) in
    let word = subst (λ k. IsWord c.translate-in-Binary.new.circuit k c.in_ok-first-in-Binary.first.0) own (rw c.deref-in-Binary.ensures at c.in_ok-first-in-Binary.ensures.word) in
    let more = binary_weighs e.op e.kind.width (least_width word) in
    absurd (omega (arith, rw (e.is, weight_binary e.op e.left e.right e.kind) at none))

pub loaded-overflow_add-end : goal.loaded-overflow_add-end
loaded-overflow_add-end t c =
    let e = c.in-Element in
    let within = fits_array (length c.args.store.now.cells) c.args.frame.now [] e.array e.index e.length (rw e.is at c.requires.fits) in
    let from = c.array_start-start.ensures.place [] in
    omega arith

pub loaded-range-requires-clause-within : goal.loaded-range-requires-clause-within
loaded-range-requires-clause-within t c =
    let e = c.in-Element in
    let within = fits_array (length c.args.store.now.cells) c.args.frame.now [] e.array e.index e.length (rw e.is at c.requires.fits) in
    let from = c.array_start-start.ensures.place [] in
    omega arith

pub loaded-returns-in_err-elements-in-Element-clause-grows : goal.loaded-returns-in_err-elements-in-Element-clause-grows
loaded-returns-in_err-elements-in-Element-clause-grows t c =
    let e = c.in-Element in
    rw (e.is, weight_element e.array e.index e.length c.args.kind.width) (grows_within _ (rw c.deref.ensures at c.translate.ensures.grows) (omega arith))

pub loaded-element-requires-clause-room : goal.loaded-element-requires-clause-room
loaded-element-requires-clause-room t c =
    let e = c.in-Element in
    let cells = c.args.store.now.cells in
    let within = fits_array (length cells) c.args.frame.now [] e.array e.index e.length (rw e.is at c.requires.fits) in
    let from = c.array_start-start.ensures.place [] in
    let whole = count_among cells c.array_start-start.result e.length (omega arith) in
    let room = rw (e.is, weight_element e.array e.index e.length c.args.kind.width) at c.requires.room in
    let grown = rw c.deref.ensures at c.translate.ensures.grows in
    rw (c.as_slice.ensures.value, c.in_ok-elements-in-Element.ensures, whole) (omega arith)

pub loaded-returns-in_ok-elements-in-Element-clause-grows : goal.loaded-returns-in_ok-elements-in-Element-clause-grows
loaded-returns-in_ok-elements-in-Element-clause-grows t c =
    let e = c.in-Element in
    let cells = c.args.store.now.cells in
    let within = fits_array (length cells) c.args.frame.now [] e.array e.index e.length (rw e.is at c.requires.fits) in
    let from = c.array_start-start.ensures.place [] in
    let whole = count_among cells c.array_start-start.result e.length (omega arith) in
    let index = rw c.deref.ensures at c.translate.ensures.grows in
    let grown = rw (c.as_slice.ensures.value, c.in_ok-elements-in-Element.ensures, whole) at c.element.ensures.grows in
    rw (e.is, weight_element e.array e.index e.length c.args.kind.width) (grows_within _ (grows_then index grown) (omega arith))

pub loaded-returns-in_ok-elements-in-Element-clause-value : goal.loaded-returns-in_ok-elements-in-Element-clause-value
loaded-returns-in_ok-elements-in-Element-clause-value t c =
    let e = c.in-Element in
    let g = c.args.circuit.now in
    let cells = c.args.store.now.cells in
    let index = rw c.deref.ensures at c.in_ok-named-in-Element.ensures.value in
    let made = rw (c.as_slice.ensures.value, c.in_ok-elements-in-Element.ensures) at c.element.ensures.value in
    rw e.is (IfOk-weaker c.element.result _ _ (λ r is w.
    element_loaded c.element.new.circuit c.args.frame.now cells e.array e.index e.length c.array_start-start.result c.args.kind w c.in_ok-named-in-Element.named r c.translate.ensures.grows
    c.requires.cells (omega arith) (rw e.is at c.requires.fits) (c.array_start-start.ensures.place (cells_in g cells w)) (index w) (is w)) made)

-- ---- literals of what weighs nothing

pub loaded-returns-in_ok-elements-in-Element-clause-sure : goal.loaded-returns-in_ok-elements-in-Element-clause-sure
loaded-returns-in_ok-elements-in-Element-clause-sure t c = λ none.
    let e = c.in-Element in
    let cells = c.args.store.now.cells in
    let within = fits_array (length cells) c.args.frame.now [] e.array e.index e.length (rw e.is at c.requires.fits) in
    let from = c.array_start-start.ensures.place [] in
    let whole = count_among cells c.array_start-start.result e.length (omega arith) in
    let weight = rw (e.is, weight_element e.array e.index e.length c.args.kind.width) at none in
    let no_length = no_elements e.length c.args.kind.width (kind_width c.args.kind c.requires.kind) (omega arith) in
    c.element.ensures.sure (rw (c.as_slice.ensures.value, c.in_ok-elements-in-Element.ensures, whole) no_length)
