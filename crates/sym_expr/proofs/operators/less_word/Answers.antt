use Rattle.circuit.specs.Wires.{lit_holds}
use Rattle.bit_words.proofs.Steps.{grows_then}
use Rattle.sym_expr.proofs.WordLemmas.{test_is_word}
use Rattle.sym_expr.proofs.operators.less_word.Goals as goal

pub returns-clause-grows : goal.returns-clause-grows
returns-clause-grows c = grows_then c.less.ensures.grows c.matched.ensures.grows

pub returns-in_err-same-clause-grows : goal.returns-in_err-same-clause-grows
returns-in_err-same-clause-grows c = grows_then c.less.ensures.grows c.matched.ensures.grows

pub returns-clause-word : goal.returns-clause-word
returns-clause-word c = test_is_word c.matched.new.circuit c.test_word.result (λ w. lit_holds c.matched.new.circuit c.in_ok-same.same w) (c.test_word.ensures.wires c.matched.new.circuit c.in_ok-same.ensures.wire) (c.test_word.ensures.value c.matched.new.circuit)
