use Rattle.std.proofs.Common.{◌≡◌, ◌+◌, ◌^◌, cond, ap, ◌∙◌, arith}
use Rattle.circuit.specs.Wires.{lit_holds}
use Rattle.bit_words.specs.Words.{low_value, place_value}
use Rattle.bit_words.proofs.Steps.{grows_none, grows_then, grows_within, same}
use Rattle.bit_words.proofs.Digits.{low_value-later, low_value-lt, low_value-clear}
use Rattle.bit_words.proofs.Moved.{low_value-chosen}
use Rattle.bit_words.proofs.Compare.{is_unsigned}
use Rattle.bit_words.proofs.SignLemmas.{sign_unsigned, sign_chosen}
use Rattle.bit_words.proofs.magnitudes.with_sign.Goals as goal

pub returns-then-not-kind-clause-grows : goal.returns-then-not-kind-clause-grows
returns-then-not-kind-clause-grows c = grows_none _ _

pub returns-then-not-kind-clause-value : goal.returns-then-not-kind-clause-value
returns-then-not-kind-clause-value c = λ w.
    sign_unsigned (low_value c.args.kind.width c.args.circuit.now c.args.word.now w) (2 ^ c.args.kind.width) (lit_holds c.args.circuit.now c.args.negative w) (c.requires.unsigned (is_unsigned c.args.kind.signed c.if-not-kind.true) w)
    (low_value-lt c.args.kind.width c.args.circuit.now c.args.word.now w)

pub returns-in_err-opposite-clause-grows : goal.returns-in_err-opposite-clause-grows
returns-in_err-opposite-clause-grows c = grows_within _ c.difference.ensures.grows (omega arith)

pub returns-in_err-bits-clause-grows : goal.returns-in_err-bits-clause-grows
returns-in_err-bits-clause-grows c = grows_within _ (grows_then c.difference.ensures.grows c.row.ensures.grows) (omega arith)

pub returns-clause-grows : goal.returns-clause-grows
returns-clause-grows c = grows_within _ (grows_then c.difference.ensures.grows c.row.ensures.grows) (omega arith)

pub returns-clause-value : goal.returns-clause-value
returns-clause-value c = λ w.
    let kind = c.args.kind in
    let old = c.args.circuit.now in
    let mid = c.difference.new.circuit in
    let new = c.row.new.circuit in
    let word = c.args.word.now in
    let n = low_value kind.width old word w in
    let o = low_value kind.width mid c.in_ok-opposite.opposite w in
    let negative = lit_holds old c.args.negative w in
    let test = same c.difference.ensures.grows c.args.negative c.requires.sign w in
    let kept = low_value-later c.difference.ensures.grows kind.width word c.requires.word w in
    let zero = low_value-clear kind.width old c.blank.result w (λ k lt. c.blank.ensures.bits old w k) in
    let opposite = (let e = c.in_ok-opposite.ensures.value w in let f : o + place_value kind.width (lit_holds mid c.in_ok-opposite.field-0-1 w) + n ≡ 2 ^ kind.width = omega arith in f) in
    let chosen : low_value kind.width new c.in_ok-bits.bits w ≡ cond negative o n =
    low_value-chosen kind.width new mid _ c.in_ok-bits.bits c.in_ok-opposite.opposite word w (c.in_ok-bits.ensures.bits w)
    ∙ ap (λ t. cond t o (low_value kind.width mid word w)) test ∙ ap (λ x. cond negative o x) kept in
    let lt = low_value-lt kind.width old word w in
    sign_chosen n (2 ^ kind.width) o (low_value kind.width new c.in_ok-bits.bits w) (lit_holds mid c.in_ok-opposite.field-0-1 w) negative (omega arith) lt (low_value-lt kind.width mid c.in_ok-opposite.opposite w) opposite chosen
