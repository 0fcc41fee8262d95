use Rattle.std.proofs.Common.{◌∙◌}
use Rattle.bit_words.proofs.Values.{kind_of_word}
use Rattle.bit_words.proofs.BitLemmas.{xor-bits}
use Rattle.bit_words.proofs.bitwise.xor.Goals as goal

pub bitwise-requires-clause-kind : goal.bitwise-requires-clause-kind
bitwise-requires-clause-kind c = kind_of_word c.requires.left

pub returns-clause-value : goal.returns-clause-value
returns-clause-value c = λ w. c.in_ok-word.ensures.value w ∙ xor-bits c.args.circuit.now c.args.kind c.args.a.now c.args.b.now w c.requires.left c.requires.right
