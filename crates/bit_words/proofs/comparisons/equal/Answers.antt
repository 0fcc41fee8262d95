use Rattle.std.proofs.Common.{◌∙◌, arith}
use Rattle.circuit.specs.Wires.{lit_holds}
use Rattle.bit_words.proofs.Steps.{grows_then, grows_within}
use Rattle.bit_words.proofs.Digits.{low_value-none}
use Rattle.bit_words.proofs.Values.{width_of_word, least_width}
use Rattle.bit_words.proofs.Compare.{equal_is}
use Rattle.bit_words.proofs.comparisons.equal.Goals as goal

pub returns-in_err-differing-clause-grows : goal.returns-in_err-differing-clause-grows
returns-in_err-differing-clause-grows c = grows_within _ c.row.ensures.grows (omega (arith, least_width c.requires.left))

pub returns-in_err-some-clause-grows : goal.returns-in_err-some-clause-grows
returns-in_err-some-clause-grows c = grows_within _ (grows_then c.row.ensures.grows c.some_bit.ensures.grows) (omega (arith, least_width c.requires.left))

pub returns-in_err-none-clause-grows : goal.returns-in_err-none-clause-grows
returns-in_err-none-clause-grows c = grows_within _ (grows_then (grows_then c.row.ensures.grows c.some_bit.ensures.grows) c.inverse.ensures.grows) (omega (arith, least_width c.requires.left))

pub returns-clause-grows : goal.returns-clause-grows
returns-clause-grows c = grows_within _ (grows_then (grows_then c.row.ensures.grows c.some_bit.ensures.grows) c.inverse.ensures.grows) (omega (arith, least_width c.requires.left))

pub row-requires-clause-width : goal.row-requires-clause-width
row-requires-clause-width c = width_of_word c.requires.left

pub some_bit-requires-clause-within : goal.some_bit-requires-clause-within
some_bit-requires-clause-within c = width_of_word c.requires.left

pub inverse-requires-clause-room : goal.inverse-requires-clause-room
inverse-requires-clause-room c = omega (arith, least_width c.requires.left)

pub returns-clause-value : goal.returns-clause-value
returns-clause-value c = λ w.
    c.in_ok-none.ensures.value w
    ∙ equal_is c.row.new.circuit c.args.circuit.now c.args.kind c.in_ok-differing.differing c.args.a.now c.args.b.now (lit_holds c.some_bit.new.circuit c.in_ok-some.some w) w c.requires.left c.requires.right
    (c.in_ok-differing.ensures.bits w)
    (λ e. c.in_ok-some.ensures.none w e ∙ low_value-none c.row.new.circuit c.in_ok-differing.differing w)
    (λ e. (let zero = low_value-none c.row.new.circuit c.in_ok-differing.differing w in let more = c.in_ok-some.ensures.some w e in omega arith))
