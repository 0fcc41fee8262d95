use Rattle.std.proofs.Common.{◌∙◌, ap}
use Rattle.circuit.specs.Wires.{lit_holds}
use Rattle.c_values.specs.Operations.{truth_of}
use Rattle.sym_expr.proofs.WordLemmas.{test_is_word, zero_test}
use Rattle.sym_expr.proofs.operators.zero_word.Goals as goal

pub returns-clause-word : goal.returns-clause-word
returns-clause-word c = test_is_word c.is_pattern.new.circuit c.test_word.result (λ w. lit_holds c.is_pattern.new.circuit c.in_ok-zero.zero w) (c.test_word.ensures.wires c.is_pattern.new.circuit c.in_ok-zero.ensures.wire) (c.test_word.ensures.value c.is_pattern.new.circuit)

pub returns-clause-value : goal.returns-clause-value
returns-clause-value c = λ w.
    c.test_word.ensures.value c.is_pattern.new.circuit w
    ∙ ap truth_of (zero_test c.args.circuit.now c.args.a.now c.args.kind w (lit_holds c.is_pattern.new.circuit c.in_ok-zero.zero w) (c.in_ok-zero.ensures.value w))
