use Rattle.std.proofs.Common.{◌≡◌, List, get_or, subst, arith}
use Rattle.std.specs.Prelude.{All}
use Rattle.std.proofs.lemmas.Option.{get_or_from_slice_get}
use Rattle.circuit.specs.Wires.{IsWire}
use Rattle.circuit.specs.declared.lit.Lit.{Lit}
use Rattle.bit_words.proofs.Steps.{grows_then, grows_within}
use Rattle.sym_expr.proofs.ElementLemmas.{cells_still}
use Rattle.unwinder.proofs.Merges.{chosen_all, chosen_more, chosen_none}
use Rattle.unwinder.proofs.merging.chosen.Goals as goal

pub loop-i-init : goal.loop-i-init
loop-i-init c = chosen_none c.args.circuit.now c.args.test c.args.yes.now.cells c.args.no.cells c.requires.right

pub choose_cell-requires-clause-word : goal.choose_cell-requires-clause-word
choose_cell-requires-clause-word c =
    let x = c.at.result.now in
    let here : get_or c.args.yes.now.cells c.loop-i.i x ≡ x = get_or_from_slice_get c.args.yes.now.cells c.loop-i.i x x c.at.ensures in
    let P : List Lit → Type 0 = All (IsWire c.loop-i.circuit) in
    subst P here (cells_still c.loop-i.invariant.grows c.args.yes.now.cells c.requires.left c.loop-i.i x (omega arith))

pub loop-i-preserved : goal.loop-i-preserved
loop-i-preserved c =
    let x = c.at.result.now in
    let made = c.in_ok-choose_cell.ensures in
    chosen_more c.choose_cell.new.store.cells x c.loop-i.invariant c.requires.same (omega arith) (get_or_from_slice_get c.args.yes.now.cells c.loop-i.i x x c.at.ensures)
    c.requires.test c.requires.left c.choose_cell.ensures.grows made.wires made.count made.value

pub returns-in_err-choose_cell-clause-grows : goal.returns-in_err-choose_cell-clause-grows
returns-in_err-choose_cell-clause-grows c = grows_within _ (grows_then c.loop-i.invariant.grows c.choose_cell.ensures.grows) (omega arith)

pub returns-clause-grows : goal.returns-clause-grows
returns-clause-grows c = grows_within _ c.loop-i.invariant.grows (omega arith)

pub returns-clause-value : goal.returns-clause-value
returns-clause-value c = chosen_all c.loop-i.i c.loop-i.invariant c.requires.same (omega arith)
