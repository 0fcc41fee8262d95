use Rattle.circuit.specs.Wires.{lit_holds}
use Rattle.bit_words.proofs.BitLemmas.{chosen_value, chosen_word}
use Rattle.bit_words.proofs.bitwise.choose.Goals as goal

pub returns-clause-word : goal.returns-clause-word
returns-clause-word c = λ kind left right. chosen_word c.row.new.circuit c.args.circuit.now kind c.args.test c.in_ok-bits.bits c.args.yes.now c.args.no.now left right c.in_ok-bits.ensures.wires c.in_ok-bits.ensures.bits

pub returns-clause-value : goal.returns-clause-value
returns-clause-value c = λ w. chosen_value c.row.new.circuit c.args.circuit.now (lit_holds c.args.circuit.now c.args.test w) c.in_ok-bits.bits c.args.yes.now c.args.no.now w (c.in_ok-bits.ensures.bits w)
