use Rattle.std.proofs.Common.{◌∙◌, arith}
use Rattle.circuit.specs.Wires.{lit_holds}
use Rattle.c_values.specs.Kind.{number_of}
use Rattle.bit_words.specs.Words.{word_value, low_value}
use Rattle.bit_words.proofs.Steps.{grows_then, grows_within, same, still}
use Rattle.bit_words.proofs.Values.{kind_of_word, least_width}
use Rattle.bit_words.proofs.QuotientLemmas.{quotient_room, sign_later, remainder_answer, remainder_wrapped}
use Rattle.bit_words.proofs.division.rem.Goals as goal

pub checked_division-requires-clause-room : goal.checked_division-requires-clause-room
checked_division-requires-clause-room c = omega (arith, least_width c.requires.left, quotient_room c.args.kind.width (least_width c.requires.left))

pub signed_word-requires-clause-room : goal.signed_word-requires-clause-room
signed_word-requires-clause-room c = omega (arith, least_width c.requires.left, quotient_room c.args.kind.width (least_width c.requires.left))

pub extension-negative-requires : goal.extension-negative-requires
extension-negative-requires c = kind_of_word c.requires.left

pub signed_word-requires-clause-kind : goal.signed_word-requires-clause-kind
signed_word-requires-clause-kind c = kind_of_word c.requires.left

pub returns-in_err-remainder-clause-grows : goal.returns-in_err-remainder-clause-grows
returns-in_err-remainder-clause-grows c = grows_within _ c.checked_division.ensures.grows (omega (arith, least_width c.requires.left, quotient_room c.args.kind.width (least_width c.requires.left)))

pub returns-in_err-word-clause-grows : goal.returns-in_err-word-clause-grows
returns-in_err-word-clause-grows c = grows_within _ (grows_then c.checked_division.ensures.grows c.signed_word.ensures.grows) (omega (arith, least_width c.requires.left, quotient_room c.args.kind.width (least_width c.requires.left)))

pub returns-clause-grows : goal.returns-clause-grows
returns-clause-grows c = grows_within _ (grows_then c.checked_division.ensures.grows c.signed_word.ensures.grows) (omega (arith, least_width c.requires.left, quotient_room c.args.kind.width (least_width c.requires.left)))

pub returns-clause-wire : goal.returns-clause-wire
returns-clause-wire c = still c.signed_word.ensures.grows c.in_ok-remainder.exists c.in_ok-remainder.ensures.wires.2

pub returns-clause-value : goal.returns-clause-value
returns-clause-value c = λ w.
    let kind = c.args.kind in
    let old = c.args.circuit.now in
    let first = c.checked_division.new.circuit in
    let last = c.signed_word.new.circuit in
    let x = word_value old c.args.a.now w in
    let y = word_value old c.args.b.now w in
    let exists = c.in_ok-remainder.exists in
    let sign = lit_holds first c.extension-negative.result w in
    let negative = sign_later c.checked_division.ensures.grows kind c.args.a.now w sign c.requires.left (c.extension-negative.ensures.value first w) in
    remainder_answer kind x y (word_value last c.in_ok-word.word w) (lit_holds last exists w) (c.requires.left.values w) (c.requires.right.values w)
    (same c.signed_word.ensures.grows exists c.in_ok-remainder.ensures.wires.2 w ∙ c.in_ok-remainder.ensures.exists w)
    (λ e. c.in_ok-word.ensures.value w
    ∙ remainder_wrapped kind (number_of kind x) (number_of kind y) (low_value kind.width first c.in_ok-remainder.remainder w) sign negative (c.in_ok-remainder.ensures.remainder w e))
