use Rattle.std.proofs.Common.{◌≡◌, ◌+◌, List, get_or, sym, subst, arith}
use Rattle.std.specs.Prelude.{All}
use Rattle.circuit.specs.Wires.{IsWire}
use Rattle.circuit.specs.declared.lit.Lit.{Lit}
use Rattle.std.proofs.lemmas.Option.{get_or_from_slice_get}
use Rattle.bit_words.proofs.Steps.{grows_then, grows_within}
use Rattle.sym_expr.proofs.WriteLemmas.{written_none, written_more}
use Rattle.sym_expr.proofs.writes.put_among.Goals as goal

pub loop-k-init : goal.loop-k-init
loop-k-init c = written_none c.args.circuit.now c.args.store.now.cells c.args.start c.args.index.now c.args.word.now c.requires.cells

pub with_element-requires-clause-before : goal.with_element-requires-clause-before
with_element-requires-clause-before c =
    let x = c.at.result.now in
    let here : get_or c.loop-k.store.cells (c.args.start + c.loop-k.k) x ≡ x = get_or_from_slice_get c.loop-k.store.cells (c.args.start + c.loop-k.k) x x c.at.ensures in
    let P : List Lit → Type 0 = All (IsWire c.loop-k.circuit) in
    subst P here (c.loop-k.invariant.wires (c.args.start + c.loop-k.k) x (omega arith))

pub loop-k-preserved : goal.loop-k-preserved
loop-k-preserved c =
    let x = c.at.result.now in
    let here : x ≡ get_or c.loop-k.store.cells (c.args.start + c.loop-k.k) x = sym (get_or_from_slice_get c.loop-k.store.cells (c.args.start + c.loop-k.k) x x c.at.ensures) in
    rw c.in_ok-set.ensures (written_more c.in_ok-chosen.chosen c.in_ok-chosen.named x c.loop-k.invariant c.with_element.ensures.grows (omega arith) c.requires.index c.requires.word here
    c.in_ok-chosen.ensures.wires.0 c.in_ok-chosen.ensures.wires.1 c.in_ok-chosen.ensures.chosen c.in_ok-chosen.ensures.named)

pub returns-in_err-chosen-clause-grows : goal.returns-in_err-chosen-clause-grows
returns-in_err-chosen-clause-grows c = grows_within _ (grows_then c.loop-k.invariant.grows c.with_element.ensures.grows) (omega arith)

pub returns-in_err-set-clause-grows : goal.returns-in_err-set-clause-grows
returns-in_err-set-clause-grows c = grows_within _ (grows_then c.loop-k.invariant.grows c.with_element.ensures.grows) (omega arith)
