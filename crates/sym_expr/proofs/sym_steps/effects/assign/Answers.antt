use Rattle.std.proofs.Common.{set, ap, ◌∙◌, ◌&&◌, arith}
use Rattle.std.specs.Result.{is_ok}
use Rattle.circuit.specs.Wires.{lit_holds}
use Rattle.cfa.specs.Values.{cell_of, value_of}
use Rattle.bit_words.specs.Words.{word_value}
use Rattle.bit_words.proofs.Steps.{grows_then, grows_within, same}
use Rattle.bit_words.proofs.Values.{kind_of_word}
use Rattle.sym_expr.specs.Stores.{cells_in}
use Rattle.sym_expr.proofs.ElementLemmas.{cells_later}
use Rattle.sym_expr.proofs.sym_steps.EffectLemmas.{words_later, assigned_stored}
use Rattle.sym_expr.proofs.sym_steps.effects.assign.Goals as goal

pub put-requires-clause-kind : goal.put-requires-clause-kind
put-requires-clause-kind c = rw c.kind.ensures (kind_of_word c.in_ok-word.ensures.word)

pub returns-in_err-inside-clause-grows : goal.returns-in_err-inside-clause-grows
returns-in_err-inside-clause-grows c = grows_within _ (grows_then c.translate.ensures.grows (rw c.kind.ensures at c.put.ensures.grows)) (omega arith)

pub returns-in_err-done-clause-grows : goal.returns-in_err-done-clause-grows
returns-in_err-done-clause-grows c = grows_within _ (grows_then (grows_then c.translate.ensures.grows (rw c.kind.ensures at c.put.ensures.grows)) c.both.ensures.grows) (omega arith)

pub returns-clause-grows : goal.returns-clause-grows
returns-clause-grows c = grows_within _ (grows_then (grows_then c.translate.ensures.grows (rw c.kind.ensures at c.put.ensures.grows)) c.both.ensures.grows) (omega arith)

pub returns-clause-value : goal.returns-clause-value
returns-clause-value c = λ w.
    let g0 = c.args.circuit.now in
    let g1 = c.translate.new.circuit in
    let g2 = c.put.new.circuit in
    let frame = c.args.frame.now in
    let before = c.args.store.now.cells in
    let after = c.put.new.store.cells in
    let fine = c.in_ok-word.fine in
    let inside = c.in_ok-inside.inside in
    let cells = cells_in g0 before w in
    let still = cells_later c.translate.ensures.grows before c.requires.cells w in
    words_later c.both.ensures.grows after c.in_ok-done.done (lit_holds g1 fine w && lit_holds g2 inside w) w c.in_ok-inside.ensures.cells
    (c.in_ok-done.ensures.value w ∙ ap (λ t. t && lit_holds g2 inside w) (same c.put.ensures.grows fine c.in_ok-word.ensures.wire w))
    ∙ assigned_stored (lit_holds g1 fine w) (lit_holds g2 inside w) (cell_of cells frame c.args.place.now) (value_of cells frame c.args.value.now) (word_value g1 c.in_ok-word.word w) (cells_in g2 after w) cells
    (c.in_ok-word.ensures.value w)
    (c.in_ok-inside.ensures.inside w ∙ ap (λ xs. is_ok (cell_of xs frame c.args.place.now)) still)
    (λ cell at. c.in_ok-inside.ensures.value w cell (ap (λ xs. cell_of xs frame c.args.place.now) still ∙ at) ∙ ap (λ xs. set xs cell (word_value g1 c.in_ok-word.word w)) still)
