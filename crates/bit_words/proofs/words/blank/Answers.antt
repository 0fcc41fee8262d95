use Rattle.bit_words.proofs.Digits.{all_blank, bit_of-blank}
use Rattle.bit_words.proofs.words.blank.Goals as goal

pub returns-clause-wires : goal.returns-clause-wires
returns-clause-wires c = λ gates. all_blank gates 64

pub returns-clause-bits : goal.returns-clause-bits
returns-clause-bits c = λ gates w k. bit_of-blank gates 64 w k
