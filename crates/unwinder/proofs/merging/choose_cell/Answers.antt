use Rattle.std.proofs.Common.{length, length-set, ap, ◌∙◌}
use Rattle.std.specs.Prelude.{All}
use Rattle.std.proofs.lemmas.List.Elements.{All-set}
use Rattle.std.proofs.lemmas.Option.{get_or_from_slice_get}
use Rattle.circuit.specs.Wires.{IsWire}
use Rattle.bit_words.proofs.Steps.{grows_none}
use Rattle.sym_expr.proofs.ElementLemmas.{cells_still}
use Rattle.unwinder.proofs.Merges.{cell_same, cell_chosen}
use Rattle.unwinder.proofs.merging.choose_cell.Goals as goal

pub returns-then-is_same_word-clause-value : goal.returns-then-is_same_word-clause-value
returns-then-is_same_word-clause-value c = λ w.
    let cells = c.args.store.now.cells in
    let those = c.at.result.now in
    cell_same cells c.args.test c.args.yes.now c.args.cell (grows_none c.args.circuit.now 0) c.requires.cells c.requires.cell those w
    (get_or_from_slice_get cells c.args.cell those those c.at.ensures) (c.is_same_word.ensures c.if-is_same_word.true)

pub returns-clause-wires : goal.returns-clause-wires
returns-clause-wires c =
    let cells = c.args.store.now.cells in
    rw c.in_ok-set.ensures.ok (All-set (All (IsWire c.choose.new.circuit)) cells c.args.cell c.in_ok-word.word c.in_ok-word.ensures.wires (cells_still c.choose.ensures.grows cells c.requires.cells))

pub returns-clause-count : goal.returns-clause-count
returns-clause-count c = ap length c.in_ok-set.ensures.ok ∙ length-set c.args.store.now.cells c.args.cell c.in_ok-word.word

pub returns-clause-value : goal.returns-clause-value
returns-clause-value c = λ w.
    let cells = c.args.store.now.cells in
    let those = c.at.result.now in
    rw c.in_ok-set.ensures.ok (cell_chosen cells c.args.test c.args.yes.now c.args.cell c.choose.ensures.grows c.requires.cells c.requires.cell those c.in_ok-word.word w
    (get_or_from_slice_get cells c.args.cell those those c.at.ensures) (c.in_ok-word.ensures.value w))
