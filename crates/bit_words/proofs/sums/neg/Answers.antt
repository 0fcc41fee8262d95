use Rattle.std.proofs.Common.{◌∙◌, arith}
use Rattle.circuit.specs.Wires.{lit_holds}
use Rattle.bit_words.proofs.Digits.{low_value-clear}
use Rattle.bit_words.proofs.Steps.{grows_within}
use Rattle.bit_words.proofs.Values.{kind_of_word, width_of_word}
use Rattle.bit_words.proofs.Results.{negated}
use Rattle.bit_words.proofs.sums.neg.Goals as goal

pub returns-in_err-bits-clause-grows : goal.returns-in_err-bits-clause-grows
returns-in_err-bits-clause-grows c = grows_within _ c.difference.ensures.grows (omega arith)

pub returns-clause-grows : goal.returns-clause-grows
returns-clause-grows c = grows_within _ c.difference.ensures.grows (omega arith)

pub returns-clause-word : goal.returns-clause-word
returns-clause-word c = c.extended.ensures.word _ c.in_ok-bits.ensures.wires.0

pub returns-clause-value : goal.returns-clause-value
returns-clause-value c = λ w. c.extended.ensures.value _ w ∙ negated c.difference.new.circuit c.args.circuit.now c.args.kind c.in_ok-bits.bits c.args.a.now (lit_holds c.difference.new.circuit c.in_ok-bits.field-0-1 w) w c.requires.operand (let zero = low_value-clear c.args.kind.width c.args.circuit.now c.blank.result w (λ k lt. c.blank.ensures.bits c.args.circuit.now w k) in let e = c.in_ok-bits.ensures.value w in omega arith)

pub difference-requires-clause-width : goal.difference-requires-clause-width
difference-requires-clause-width c = width_of_word c.requires.operand

pub extended-requires : goal.extended-requires
extended-requires c = kind_of_word c.requires.operand
