use Rattle.std.proofs.Common.{◌∙◌, arith}
use Rattle.circuit.specs.Wires.{lit_holds}
use Rattle.bit_words.specs.Words.{word_value}
use Rattle.bit_words.proofs.Digits.{low_value-none}
use Rattle.bit_words.proofs.Compare.{nonzero_is}
use Rattle.bit_words.proofs.comparisons.nonzero.Goals as goal

pub returns-clause-value : goal.returns-clause-value
unfolding word_value
returns-clause-value c = λ w.
    nonzero_is (lit_holds c.some_bit.new.circuit c.in_ok-some.some w) (word_value c.args.circuit.now c.args.a.now w)
    (λ e. c.in_ok-some.ensures.none w e ∙ low_value-none c.args.circuit.now c.args.a.now w)
    (λ e. let zero = low_value-none c.args.circuit.now c.args.a.now w in let more = c.in_ok-some.ensures.some w e in omega arith)
