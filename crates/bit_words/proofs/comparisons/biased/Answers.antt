use Rattle.std.proofs.Common.{◌≡◌, ◌+◌, ◌-◌, not, set, sym, ap, ◌∙◌, arith}
use Rattle.bit_words.specs.Words.{word_value, low_value, place_value, bit_of}
use Rattle.bit_words.proofs.Digits.{all_still, low_value-later, low_value-mod, low_value-lt, low_value-more, low_value-set, bit_of-set_same, lit_at}
use Rattle.bit_words.proofs.Values.{width_of_word, least_width}
use Rattle.bit_words.proofs.Compare.{biased_unsigned, biased_signed, is_unsigned, is_signed}
use Rattle.std.proofs.lemmas.List.Elements.{All-set}
use Rattle.circuit.specs.Wires.{IsWire}
use Rattle.bit_words.proofs.comparisons.biased.Goals as goal

pub returns-then-not-kind-clause-value : goal.returns-then-not-kind-clause-value
returns-then-not-kind-clause-value c = λ w.
    biased_unsigned c.args.kind (word_value c.args.circuit.now c.args.word.now w) (low_value c.args.kind.width c.args.circuit.now c.args.word.now w) (c.requires.operand.values w) (is_unsigned c.args.kind.signed c.if-not-kind.true)
    (low_value-mod c.args.kind.width c.args.circuit.now c.args.word.now w (width_of_word c.requires.operand))

pub overflow_sub-place : goal.overflow_sub-place
overflow_sub-place c = omega (arith, least_width c.requires.operand)

pub bounds-word-place : goal.bounds-word-place
bounds-word-place c = omega (arith, least_width c.requires.operand, width_of_word c.requires.operand)

pub bounds-bits-place : goal.bounds-bits-place
bounds-bits-place c = omega (arith, least_width c.requires.operand, width_of_word c.requires.operand)

pub returns-clause-wires : goal.returns-clause-wires
returns-clause-wires c = All-set (IsWire c.inverse.new.circuit) c.args.word.now (c.args.kind.width - 1) c.in_ok-turned.turned c.in_ok-turned.ensures.wire (all_still c.inverse.ensures.grows c.args.word.now c.requires.operand.wires)

pub returns-clause-value : goal.returns-clause-value
returns-clause-value c = λ w.
    let kind = c.args.kind in
    let wide = width_of_word c.requires.operand in
    let some = least_width c.requires.operand in
    let old = c.args.circuit.now in
    let new = c.inverse.new.circuit in
    let word = c.args.word.now in
    let place = kind.width - 1 in
    let top = bit_of old word w place in
    let bits = set word place c.in_ok-turned.turned in
    let more : kind.width - 1 + 1 ≡ kind.width = omega arith in
    let high : low_value kind.width old word w ≡ low_value place old word w + place_value place top = ap (λ n. low_value n old word w) (sym more) ∙ low_value-more place old word w in
    let turned : bit_of new bits w place ≡ not top =
    bit_of-set_same new word w place c.in_ok-turned.turned (omega arith) ∙ c.in_ok-turned.ensures.value w ∙ ap not (lit_at old word w place _ (omega arith)) in
    let low : low_value place new bits w ≡ low_value place old word w =
    low_value-set place new word w c.in_ok-turned.turned (omega arith) ∙ low_value-later c.inverse.ensures.grows place word c.requires.operand.wires w in
    let new_high : low_value kind.width new bits w ≡ low_value place new bits w + place_value place (not top) =
    ap (λ n. low_value n new bits w) (sym more) ∙ low_value-more place new bits w ∙ ap (λ t. low_value place new bits w + place_value place t) turned in
    biased_signed kind (word_value old word w) (low_value place old word w) (low_value kind.width new bits w) top (c.requires.operand.values w) (is_signed c.args.kind.signed c.if-not-kind.false)
    (low_value-lt place old word w) (sym (low_value-mod kind.width old word w wide) ∙ high) (new_high ∙ ap (λ n. n + place_value place (not top)) low)
