use Rattle.std.proofs.Common.{◌∙◌, sym, arith}
use Rattle.circuit.specs.Wires.{lit_holds}
use Rattle.bit_words.specs.Words.{word_value}
use Rattle.bit_words.proofs.Steps.{grows_then, grows_within}
use Rattle.bit_words.proofs.Digits.{low_value-mod}
use Rattle.bit_words.proofs.Values.{width_of_word, least_width}
use Rattle.bit_words.proofs.ShiftLemmas.{amount_is}
use Rattle.bit_words.proofs.shifts.is_amount.Goals as goal

pub some_bit-requires-clause-places : goal.some_bit-requires-clause-places
some_bit-requires-clause-places c = omega (arith, least_width c.requires.amount)

pub some_bit-requires-clause-within : goal.some_bit-requires-clause-within
some_bit-requires-clause-within c = width_of_word c.requires.amount

pub some_bit-requires-clause-room : goal.some_bit-requires-clause-room
some_bit-requires-clause-room c = omega (arith, width_of_word c.requires.amount)

pub inverse-requires-clause-room : goal.inverse-requires-clause-room
inverse-requires-clause-room c = omega (arith, width_of_word c.requires.amount)

pub returns-in_err-some-clause-grows : goal.returns-in_err-some-clause-grows
returns-in_err-some-clause-grows c = grows_within 65 c.some_bit.ensures.grows (omega (arith, width_of_word c.requires.amount))

pub returns-in_err-valid-clause-grows : goal.returns-in_err-valid-clause-grows
returns-in_err-valid-clause-grows c = grows_within 65 (grows_then c.some_bit.ensures.grows c.inverse.ensures.grows) (omega (arith, width_of_word c.requires.amount))

pub returns-clause-grows : goal.returns-clause-grows
returns-clause-grows c = grows_within 65 (grows_then c.some_bit.ensures.grows c.inverse.ensures.grows) (omega (arith, width_of_word c.requires.amount))

pub returns-clause-value : goal.returns-clause-value
returns-clause-value c = λ w.
    let old = c.args.circuit.now in
    let word = c.args.amount.now in
    let wide = width_of_word c.requires.amount in
    let low = low_value-mod c.args.count old word w (omega arith) in
    let all = low_value-mod c.args.amount_kind.width old word w wide in
    c.in_ok-valid.ensures.value w
    ∙ amount_is c.args.kind c.args.amount_kind (word_value old word w) c.args.count (lit_holds c.some_bit.new.circuit c.in_ok-some.some w) c.requires.shifted (c.requires.amount.values w) c.requires.few c.requires.power
    (λ e. sym all ∙ c.in_ok-some.ensures.none w e ∙ low)
    (λ e. (let more = c.in_ok-some.ensures.some w e in omega arith))
