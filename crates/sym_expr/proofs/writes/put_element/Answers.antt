use Rattle.std.proofs.Common.{◌∙◌, arith}
use Rattle.circuit.specs.Wires.{lit_holds}
use Rattle.bit_words.specs.Words.{word_value}
use Rattle.bit_words.proofs.Steps.{grows_then, grows_within}
use Rattle.sym_expr.proofs.ElementLemmas.{cells_later}
use Rattle.sym_expr.proofs.WriteLemmas.{none_named, on_ok}
use Rattle.sym_expr.proofs.writes.put_element.Goals as goal

pub returns-then-count-eq0-clause-inside : goal.returns-then-count-eq0-clause-inside
returns-then-count-eq0-clause-inside c = λ w.
    none_named c.args.circuit.now w (lit_holds c.args.circuit.now c.args.index.now.1 w) (word_value c.args.circuit.now c.args.index.now.0 w) c.args.count (omega arith)

pub returns-clause-grows : goal.returns-clause-grows
returns-clause-grows c = grows_within _ (grows_then c.put_among.ensures.grows c.both.ensures.grows) (omega arith)

pub returns-clause-value : goal.returns-clause-value
returns-clause-value c = on_ok c.both.result (λ w. cells_later c.both.ensures.grows c.put_among.new.store.cells c.in_ok-inside.ensures.cells w ∙ c.in_ok-inside.ensures.value w)
