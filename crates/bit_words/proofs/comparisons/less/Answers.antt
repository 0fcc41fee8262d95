use Rattle.c_values.specs.Kind.{number_of}
use Rattle.bit_words.specs.Biases.{bias_of}
use Rattle.std.proofs.Common.{pos, ◌+ℤ◌, ap, ◌∙◌, arith}
use Rattle.circuit.specs.Wires.{lit_holds}
use Rattle.bit_words.specs.Words.{word_value, low_value}
use Rattle.bit_words.proofs.Steps.{grows_then, grows_within}
use Rattle.bit_words.proofs.Digits.{low_value-later, low_value-lt}
use Rattle.bit_words.proofs.Values.{width_of_word, least_width, word_later, word_value-later}
use Rattle.bit_words.proofs.Compare.{less_is}
use Rattle.bit_words.proofs.comparisons.less.Goals as goal

pub returns-in_err-left-clause-grows : goal.returns-in_err-left-clause-grows
returns-in_err-left-clause-grows c = grows_within _ c.biased.ensures.grows (omega (arith, least_width c.requires.left))

pub returns-in_err-right-clause-grows : goal.returns-in_err-right-clause-grows
returns-in_err-right-clause-grows c = grows_within _ (grows_then c.biased.ensures.grows c.biased-2.ensures.grows) (omega (arith, least_width c.requires.left))

pub returns-in_err-not_less-clause-grows : goal.returns-in_err-not_less-clause-grows
returns-in_err-not_less-clause-grows c = grows_within _ (grows_then (grows_then c.biased.ensures.grows c.biased-2.ensures.grows) c.difference.ensures.grows) (omega (arith, least_width c.requires.left))

pub returns-in_err-less-clause-grows : goal.returns-in_err-less-clause-grows
returns-in_err-less-clause-grows c = grows_within _ (grows_then (grows_then (grows_then c.biased.ensures.grows c.biased-2.ensures.grows) c.difference.ensures.grows) c.inverse.ensures.grows) (omega (arith, least_width c.requires.left))

pub returns-clause-grows : goal.returns-clause-grows
returns-clause-grows c = grows_within _ (grows_then (grows_then (grows_then c.biased.ensures.grows c.biased-2.ensures.grows) c.difference.ensures.grows) c.inverse.ensures.grows) (omega (arith, least_width c.requires.left))

pub difference-requires-clause-width : goal.difference-requires-clause-width
difference-requires-clause-width c = width_of_word c.requires.left

pub returns-clause-value : goal.returns-clause-value
returns-clause-value c = λ w.
    let kind = c.args.kind in
    let left_later = low_value-later (grows_then c.biased-2.ensures.grows c.difference.ensures.grows) kind.width c.in_ok-left.left c.in_ok-left.ensures.wires w in
    let left = low_value-later c.biased-2.ensures.grows kind.width c.in_ok-left.left c.in_ok-left.ensures.wires w in
    let right_value = word_value-later c.biased.ensures.grows c.args.b.now c.requires.right.wires w in
    c.in_ok-less.ensures.value w
    ∙ less_is kind (word_value c.args.circuit.now c.args.a.now w) (word_value c.args.circuit.now c.args.b.now w) (low_value kind.width c.biased.new.circuit c.in_ok-left.left w)
    (low_value kind.width c.biased-2.new.circuit c.in_ok-right.right w) (low_value kind.width c.difference.new.circuit c.in_ok-not_less.field-0-0 w) (lit_holds c.difference.new.circuit c.in_ok-not_less.not_less w)
    (c.in_ok-left.ensures.value w) (c.in_ok-right.ensures.value w ∙ ap (λ v. number_of kind v +ℤ pos (bias_of kind)) right_value)
    (low_value-lt kind.width c.difference.new.circuit c.in_ok-not_less.field-0-0 w) (low_value-lt kind.width c.biased.new.circuit c.in_ok-left.left w) (low_value-lt kind.width c.biased-2.new.circuit c.in_ok-right.right w)
    (let e = c.in_ok-not_less.ensures.value w in omega arith)

pub biased-requires-clause-room : goal.biased-requires-clause-room
biased-requires-clause-room c = omega (arith, least_width c.requires.left)

pub biased-requires-2-clause-room : goal.biased-requires-2-clause-room
biased-requires-2-clause-room c = omega (arith, least_width c.requires.left)

pub difference-requires-clause-room : goal.difference-requires-clause-room
difference-requires-clause-room c = omega (arith, least_width c.requires.left)

pub inverse-requires-clause-room : goal.inverse-requires-clause-room
inverse-requires-clause-room c = omega (arith, least_width c.requires.left)

pub biased-requires-2-clause-operand : goal.biased-requires-2-clause-operand
biased-requires-2-clause-operand c = word_later c.biased.ensures.grows c.args.kind c.args.b.now c.requires.right
