use Rattle.std.proofs.Common.{◌*◌, ◌%◌, ◌^◌, ◌∙◌, sym, ap, arith}
use Rattle.circuit.specs.Wires.{lit_holds}
use Rattle.bit_words.specs.Words.{word_value, low_value}
use Rattle.bit_words.proofs.Steps.{grows_then, grows_within, same}
use Rattle.bit_words.proofs.Digits.{low_value-later, low_value-mod}
use Rattle.bit_words.proofs.Values.{kind_of_word, width_of_word, least_width}
use Rattle.bit_words.proofs.StageLemmas.{left_value, left_answer, low_amount}
use Rattle.bit_words.proofs.shifts.shl.Goals as goal

pub stages-count-requires : goal.stages-count-requires
stages-count-requires c = kind_of_word c.requires.left

pub is_amount-requires-clause-shifted : goal.is_amount-requires-clause-shifted
is_amount-requires-clause-shifted c = kind_of_word c.requires.left

pub shifted_up-requires-clause-kind : goal.shifted_up-requires-clause-kind
shifted_up-requires-clause-kind c = kind_of_word c.requires.left

pub extended-requires : goal.extended-requires
extended-requires c = kind_of_word c.requires.left

pub returns-in_err-valid-clause-grows : goal.returns-in_err-valid-clause-grows
returns-in_err-valid-clause-grows c = grows_within _ c.is_amount.ensures.grows (omega (arith, least_width c.requires.left))

pub returns-in_err-bits-clause-grows : goal.returns-in_err-bits-clause-grows
returns-in_err-bits-clause-grows c = grows_within _ (grows_then c.is_amount.ensures.grows c.shifted_up.ensures.grows) (omega (arith, least_width c.requires.left))

pub returns-clause-grows : goal.returns-clause-grows
returns-clause-grows c = grows_within _ (grows_then c.is_amount.ensures.grows c.shifted_up.ensures.grows) (omega (arith, least_width c.requires.left))

pub returns-clause-word : goal.returns-clause-word
returns-clause-word c = c.extended.ensures.word _ c.in_ok-bits.ensures.wires

pub returns-clause-value : goal.returns-clause-value
returns-clause-value c = λ w.
    let old = c.args.circuit.now in
    let mid = c.is_amount.new.circuit in
    let new = c.shifted_up.new.circuit in
    let kind = c.args.kind in
    let k = kind_of_word c.requires.left in
    let wide = width_of_word c.requires.left in
    let n = c.stages-count.result in
    let a = low_value-later c.is_amount.ensures.grows kind.width c.args.a.now c.requires.left.wires w ∙ low_value-mod kind.width old c.args.a.now w wide in
    let l = low_value-later c.is_amount.ensures.grows n c.args.amount.now c.requires.right.wires w in
    let m = 2 ^ kind.width in
    left_answer kind c.args.amount_kind (word_value old c.args.a.now w) (word_value old c.args.amount.now w) (word_value new c.extended.result w) (lit_holds new c.in_ok-valid.valid w)
    (same c.shifted_up.ensures.grows c.in_ok-valid.valid c.in_ok-valid.ensures.wire w ∙ c.in_ok-valid.ensures.value w)
    (λ e. c.extended.ensures.value new w
    ∙ left_value kind (word_value old c.args.a.now w) (word_value old c.args.amount.now w) (low_value n mid c.args.amount.now w) (word_value new c.in_ok-bits.bits w) (c.requires.left.values w)
    (l ∙ low_amount kind c.args.amount_kind old c.args.amount.now w n k c.stages-count.ensures.few c.stages-count.ensures.power e)
    (sym (low_value-mod kind.width new c.in_ok-bits.bits w wide) ∙ c.in_ok-bits.ensures.value w ∙ ap (λ x. x * 2 ^ low_value n mid c.args.amount.now w % m) a))
