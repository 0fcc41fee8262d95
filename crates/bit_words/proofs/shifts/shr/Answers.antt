use Rattle.std.proofs.Common.{◌∙◌, ap, arith}
use Rattle.std.specs.Int.{int_shr}
use Rattle.circuit.specs.Wires.{lit_holds}
use Rattle.c_values.specs.Kind.{number_of, wrapped}
use Rattle.bit_words.specs.Words.{word_value, low_value}
use Rattle.bit_words.proofs.Steps.{grows_then, grows_within, same}
use Rattle.bit_words.proofs.Digits.{low_value-later}
use Rattle.bit_words.proofs.Values.{kind_of_word, least_width, word_later, word_value-later}
use Rattle.bit_words.proofs.StageLemmas.{right_answer, low_amount}
use Rattle.bit_words.proofs.shifts.shr.Goals as goal

pub stages-count-requires : goal.stages-count-requires
stages-count-requires c = kind_of_word c.requires.left

pub is_amount-requires-clause-shifted : goal.is_amount-requires-clause-shifted
is_amount-requires-clause-shifted c = kind_of_word c.requires.left

pub returns-in_err-valid-clause-grows : goal.returns-in_err-valid-clause-grows
returns-in_err-valid-clause-grows c = grows_within _ c.is_amount.ensures.grows (omega (arith, least_width c.requires.left))

pub returns-in_err-word-clause-grows : goal.returns-in_err-word-clause-grows
returns-in_err-word-clause-grows c = grows_within _ (grows_then c.is_amount.ensures.grows c.shifted_down.ensures.grows) (omega (arith, least_width c.requires.left))

pub returns-clause-grows : goal.returns-clause-grows
returns-clause-grows c = grows_within _ (grows_then c.is_amount.ensures.grows c.shifted_down.ensures.grows) (omega (arith, least_width c.requires.left))

pub shifted_down-requires-clause-left : goal.shifted_down-requires-clause-left
shifted_down-requires-clause-left c = word_later c.is_amount.ensures.grows c.args.kind c.args.a.now c.requires.left

pub returns-clause-value : goal.returns-clause-value
returns-clause-value c = λ w.
    let old = c.args.circuit.now in
    let mid = c.is_amount.new.circuit in
    let new = c.shifted_down.new.circuit in
    let kind = c.args.kind in
    let k = kind_of_word c.requires.left in
    let n = c.stages-count.result in
    let a = word_value-later c.is_amount.ensures.grows c.args.a.now c.requires.left.wires w in
    let l = low_value-later c.is_amount.ensures.grows n c.args.amount.now c.requires.right.wires w in
    right_answer kind c.args.amount_kind (word_value old c.args.a.now w) (word_value old c.args.amount.now w) (word_value new c.in_ok-word.word w) (lit_holds new c.in_ok-valid.valid w)
    (same c.shifted_down.ensures.grows c.in_ok-valid.valid c.in_ok-valid.ensures.wire w ∙ c.in_ok-valid.ensures.value w)
    (λ e. c.in_ok-word.ensures.value w
    ∙ ap (λ v. wrapped kind (int_shr (number_of kind v) (low_value n mid c.args.amount.now w))) a
    ∙ ap (λ x. wrapped kind (int_shr (number_of kind (word_value old c.args.a.now w)) x)) (l ∙ low_amount kind c.args.amount_kind old c.args.amount.now w n k c.stages-count.ensures.few c.stages-count.ensures.power e))
