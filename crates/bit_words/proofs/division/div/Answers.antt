use Rattle.std.proofs.Common.{◌≡◌, ap, ◌∙◌, arith}
use Rattle.circuit.specs.Wires.{lit_holds}
use Rattle.c_values.specs.Kind.{number_of}
use Rattle.bit_words.specs.Rows.{xor}
use Rattle.bit_words.specs.Words.{word_value, low_value}
use Rattle.bit_words.proofs.Steps.{grows_then, grows_within, same, still}
use Rattle.bit_words.proofs.Digits.{all_still, low_value-later}
use Rattle.bit_words.proofs.Values.{kind_of_word, least_width}
use Rattle.bit_words.proofs.QuotientLemmas.{quotient_room, sign_later, quotient_answer, quotient_wrapped}
use Rattle.bit_words.proofs.SignLemmas.{is_negative}
use Rattle.bit_words.proofs.division.div.Goals as goal

pub checked_division-requires-clause-room : goal.checked_division-requires-clause-room
checked_division-requires-clause-room c = omega (arith, least_width c.requires.left, quotient_room c.args.kind.width (least_width c.requires.left))

pub half_sum-requires-clause-room : goal.half_sum-requires-clause-room
half_sum-requires-clause-room c = omega (arith, least_width c.requires.left, quotient_room c.args.kind.width (least_width c.requires.left))

pub signed_word-requires-clause-room : goal.signed_word-requires-clause-room
signed_word-requires-clause-room c = omega (arith, least_width c.requires.left, quotient_room c.args.kind.width (least_width c.requires.left))

pub extension-first-requires : goal.extension-first-requires
extension-first-requires c = kind_of_word c.requires.left

pub extension-second-requires : goal.extension-second-requires
extension-second-requires c = kind_of_word c.requires.left

pub signed_word-requires-clause-kind : goal.signed_word-requires-clause-kind
signed_word-requires-clause-kind c = kind_of_word c.requires.left

pub signed_word-requires-clause-word : goal.signed_word-requires-clause-word
signed_word-requires-clause-word c = all_still c.half_sum.ensures.grows c.in_ok-quotient.quotient c.in_ok-quotient.ensures.wires.0

pub returns-in_err-quotient-clause-grows : goal.returns-in_err-quotient-clause-grows
returns-in_err-quotient-clause-grows c = grows_within _ c.checked_division.ensures.grows (omega (arith, least_width c.requires.left, quotient_room c.args.kind.width (least_width c.requires.left)))

pub returns-in_err-negative-clause-grows : goal.returns-in_err-negative-clause-grows
returns-in_err-negative-clause-grows c = grows_within _ (grows_then c.checked_division.ensures.grows c.half_sum.ensures.grows) (omega (arith, least_width c.requires.left, quotient_room c.args.kind.width (least_width c.requires.left)))

pub returns-in_err-word-clause-grows : goal.returns-in_err-word-clause-grows
returns-in_err-word-clause-grows c = grows_within _ (grows_then (grows_then c.checked_division.ensures.grows c.half_sum.ensures.grows) c.signed_word.ensures.grows) (omega (arith, least_width c.requires.left, quotient_room c.args.kind.width (least_width c.requires.left)))

pub returns-clause-grows : goal.returns-clause-grows
returns-clause-grows c = grows_within _ (grows_then (grows_then c.checked_division.ensures.grows c.half_sum.ensures.grows) c.signed_word.ensures.grows) (omega (arith, least_width c.requires.left, quotient_room c.args.kind.width (least_width c.requires.left)))

pub returns-clause-wire : goal.returns-clause-wire
returns-clause-wire c = still (grows_then c.half_sum.ensures.grows c.signed_word.ensures.grows) c.in_ok-quotient.exists c.in_ok-quotient.ensures.wires.2

pub returns-clause-value : goal.returns-clause-value
returns-clause-value c = λ w.
    let kind = c.args.kind in
    let old = c.args.circuit.now in
    let first = c.checked_division.new.circuit in
    let second = c.half_sum.new.circuit in
    let last = c.signed_word.new.circuit in
    let x = word_value old c.args.a.now w in
    let y = word_value old c.args.b.now w in
    let quotient = c.in_ok-quotient.quotient in
    let exists = c.in_ok-quotient.exists in
    let sign = lit_holds second c.in_ok-negative.negative w in
    let sign_a = sign_later c.checked_division.ensures.grows kind c.args.a.now w (lit_holds first c.extension-first.result w) c.requires.left (c.extension-first.ensures.value first w) in
    let sign_b = sign_later c.checked_division.ensures.grows kind c.args.b.now w (lit_holds first c.extension-second.result w) c.requires.right (c.extension-second.ensures.value first w) in
    let negative : sign ≡ xor (is_negative (number_of kind x)) (is_negative (number_of kind y)) =
    c.in_ok-negative.ensures.sum w ∙ ap (λ t. xor t (lit_holds first c.extension-second.result w)) sign_a ∙ ap (xor (is_negative (number_of kind x))) sign_b in
    quotient_answer kind x y (word_value last c.in_ok-word.word w) (lit_holds last exists w) (c.requires.left.values w) (c.requires.right.values w)
    (same (grows_then c.half_sum.ensures.grows c.signed_word.ensures.grows) exists c.in_ok-quotient.ensures.wires.2 w ∙ c.in_ok-quotient.ensures.exists w)
    (λ e. c.in_ok-word.ensures.value w
    ∙ quotient_wrapped kind (number_of kind x) (number_of kind y) (low_value kind.width second quotient w) sign negative
    (low_value-later c.half_sum.ensures.grows kind.width quotient c.in_ok-quotient.ensures.wires.0 w ∙ c.in_ok-quotient.ensures.quotient w e))
