use Rattle.std.proofs.Common.{◌∙◌, arith}
use Rattle.bit_words.proofs.Steps.{grows_within}
use Rattle.bit_words.proofs.Values.{kind_of_word, width_of_word}
use Rattle.bit_words.proofs.ProductLemmas.{multiplied}
use Rattle.bit_words.proofs.products.mul.Goals as goal

pub product-requires-clause-width : goal.product-requires-clause-width
product-requires-clause-width c = width_of_word c.requires.left

pub extended-requires : goal.extended-requires
extended-requires c = kind_of_word c.requires.left

pub returns-in_err-bits-clause-grows : goal.returns-in_err-bits-clause-grows
returns-in_err-bits-clause-grows c = grows_within _ c.product.ensures.grows (omega arith)

pub returns-clause-grows : goal.returns-clause-grows
returns-clause-grows c = grows_within _ c.product.ensures.grows (omega arith)

pub returns-clause-word : goal.returns-clause-word
returns-clause-word c = c.extended.ensures.word _ c.in_ok-bits.ensures.wires

pub returns-clause-value : goal.returns-clause-value
returns-clause-value c = λ w. c.extended.ensures.value _ w ∙ multiplied c.product.new.circuit c.args.circuit.now c.args.kind c.in_ok-bits.bits c.args.a.now c.args.b.now w c.requires.left c.requires.right (c.in_ok-bits.ensures.value w)
