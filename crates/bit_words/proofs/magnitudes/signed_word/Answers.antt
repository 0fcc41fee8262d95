use Rattle.std.proofs.Common.{sym, ◌∙◌}
use Rattle.c_values.proofs.Bits.{width_below}
use Rattle.circuit.specs.Wires.{lit_holds}
use Rattle.bit_words.specs.Signs.{signed_number}
use Rattle.bit_words.specs.Words.{word_value, low_value}
use Rattle.bit_words.proofs.Digits.{low_value-mod}
use Rattle.bit_words.proofs.SignLemmas.{wrapped-residue}
use Rattle.bit_words.proofs.magnitudes.signed_word.Goals as goal

pub returns-clause-word : goal.returns-clause-word
returns-clause-word c = c.extended.ensures.word _ c.in_ok-bits.ensures.wires

pub returns-clause-value : goal.returns-clause-value
returns-clause-value c = λ w.
    let kind = c.args.kind in
    let new = c.with_sign.new.circuit in
    let bits = c.in_ok-bits.bits in
    c.extended.ensures.value new w
    ∙ wrapped-residue kind (word_value new bits w) (signed_number (lit_holds c.args.circuit.now c.args.negative w) (low_value kind.width c.args.circuit.now c.args.word.now w))
    (sym (low_value-mod kind.width new bits w (width_below kind c.requires.kind)) ∙ c.in_ok-bits.ensures.value w)
