use Rattle.std.proofs.Common.{arith, ap, ◌∙◌}
use Rattle.std.proofs.lemmas.Result.{IfOk-weaker}
use Rattle.circuit.specs.Wires.{lit_holds}
use Rattle.bit_words.proofs.Steps.{grows_then, grows_within}
use Rattle.cfa.specs.Values.{value_of}
use Rattle.path_runner.specs.Masks.{is_nonzero}
use Rattle.sym_expr.specs.Stores.{cells_in}
use Rattle.unwinder.proofs.Truths.{runs_last, told_nonzero}
use Rattle.unwinder.proofs.telling.held_condition.Goals as goal

pub returns-clause-grows : goal.returns-clause-grows
returns-clause-grows c = grows_within _ (grows_then c.condition.ensures.grows c.both.ensures.grows) (omega arith)

pub returns-clause-value : goal.returns-clause-value
returns-clause-value c =
    let frame = runs_last c.args.state.now.frames c.deref.result.now c.len.result c.index-deref-len.result c.deref.ensures c.len.ensures c.requires.frames c.index-deref-len.is in
    IfOk-weaker c.both.result _ _ (λ l is w.
    let cells = cells_in c.args.circuit.now c.args.state.now.store.cells w in
    is w ∙ told_nonzero (lit_holds c.condition.new.circuit c.in_ok-nonzero.nonzero w) (lit_holds c.condition.new.circuit c.in_ok-nonzero.fine w) (value_of cells c.index-deref-len.result c.args.test.now) (c.in_ok-nonzero.ensures.value w)
    ∙ ap (λ f. is_nonzero (value_of cells f c.args.test.now)) frame) c.both.ensures.value
