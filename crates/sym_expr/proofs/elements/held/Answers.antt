use Rattle.std.proofs.Common.{◌≡◌, List, length, get_or, sym, subst, ap, ◌∙◌}
use Rattle.std.specs.Prelude.{All, pos}
use Rattle.std.proofs.lemmas.Option.{get_or_from_slice_get}
use Rattle.circuit.specs.Wires.{IsWire}
use Rattle.circuit.specs.declared.lit.Lit.{Lit}
use Rattle.c_values.specs.Kind.{wrapped}
use Rattle.bit_words.specs.Words.{word_value}
use Rattle.sym_expr.proofs.TranslationLemmas.{cell_outcome}
use Rattle.sym_expr.proofs.elements.held.Goals as goal

pub returns-clause-word : goal.returns-clause-word
returns-clause-word c = λ gates wires.
    let x = c.at.result.now in
    let here : get_or c.args.store.now.cells c.args.cell x ≡ x = get_or_from_slice_get c.args.store.now.cells c.args.cell x x c.at.ensures in
    let P : List Lit → Type 0 = All (IsWire gates) in
    c.extended.ensures.word gates (subst P here (wires c.args.cell x c.requires.cell))

pub returns-clause-value : goal.returns-clause-value
returns-clause-value c = λ gates wires w.
    let x = c.at.result.now in
    let here : get_or c.args.store.now.cells c.args.cell x ≡ x = get_or_from_slice_get c.args.store.now.cells c.args.cell x x c.at.ensures in
    cell_outcome gates c.args.store.now.cells w c.args.cell x c.extended.result c.args.kind c.requires.cell
    (c.extended.ensures.value gates w ∙ ap (λ word. wrapped c.args.kind (pos (word_value gates word w))) (sym here))
