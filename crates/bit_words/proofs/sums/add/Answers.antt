use Rattle.std.proofs.Common.{◌∙◌, ap, arith}
use Rattle.circuit.specs.Wires.{lit_holds}
use Rattle.bit_words.specs.Words.{place_value}
use Rattle.bit_words.proofs.Steps.{grows_within}
use Rattle.bit_words.proofs.Values.{no_holds, kind_of_word, width_of_word}
use Rattle.bit_words.proofs.Results.{summed}
use Rattle.bit_words.proofs.sums.add.Goals as goal

pub returns-in_err-bits-clause-grows : goal.returns-in_err-bits-clause-grows
returns-in_err-bits-clause-grows c = grows_within _ c.sum.ensures.grows (omega arith)

pub returns-clause-grows : goal.returns-clause-grows
returns-clause-grows c = grows_within _ c.sum.ensures.grows (omega arith)

pub returns-clause-word : goal.returns-clause-word
returns-clause-word c = c.extended.ensures.word _ c.in_ok-bits.ensures.wires.0

pub returns-clause-value : goal.returns-clause-value
returns-clause-value c = λ w. c.extended.ensures.value _ w ∙ summed c.sum.new.circuit c.args.circuit.now c.args.kind c.in_ok-bits.bits c.args.a.now c.args.b.now (lit_holds c.sum.new.circuit c.in_ok-bits.field-0-1 w) w c.requires.left c.requires.right (let zero = ap (place_value 0) (no_holds c.args.circuit.now w) in let e = c.in_ok-bits.ensures.value w in omega arith)

pub sum-requires-clause-width : goal.sum-requires-clause-width
sum-requires-clause-width c = width_of_word c.requires.left

pub extended-requires : goal.extended-requires
extended-requires c = kind_of_word c.requires.left
