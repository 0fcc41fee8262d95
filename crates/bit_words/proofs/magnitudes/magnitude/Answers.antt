use Rattle.circuit.specs.declared.lit.Lit.{Lit}
use Rattle.std.proofs.Common.{◌≡◌, ◌+◌, ◌-◌, ◌^◌, false, cond, get_or, ◌%◌, sym, ap, ◌∙◌, arith}
use Rattle.circuit.specs.Wires.{lit_holds}
use Rattle.bit_words.specs.Words.{word_value, low_value, place_value, bit_of}
use Rattle.bit_words.proofs.Steps.{grows_none, grows_then, grows_within, still}
use Rattle.bit_words.proofs.Digits.{low_value-later, low_value-mod, low_value-lt, low_value-clear, low_value-more, lit_at, bit_of-later}
use Rattle.bit_words.proofs.Moved.{low_value-chosen}
use Rattle.bit_words.proofs.Values.{width_of_word, least_width}
use Rattle.bit_words.proofs.Compare.{is_unsigned, is_signed}
use Rattle.bit_words.proofs.SignLemmas.{magnitude_unsigned, magnitude_signed}
use Rattle.bit_words.proofs.magnitudes.magnitude.Goals as goal

pub returns-then-not-kind-clause-grows : goal.returns-then-not-kind-clause-grows
returns-then-not-kind-clause-grows c = grows_none _ _

pub returns-then-not-kind-clause-value : goal.returns-then-not-kind-clause-value
returns-then-not-kind-clause-value c = λ w.
    magnitude_unsigned c.args.kind (word_value c.args.circuit.now c.args.word.now w) (low_value c.args.kind.width c.args.circuit.now c.args.word.now w) (c.requires.operand.values w) (is_unsigned c.args.kind.signed c.if-not-kind.true)
    (low_value-mod c.args.kind.width c.args.circuit.now c.args.word.now w (width_of_word c.requires.operand))

pub returns-in_err-opposite-clause-grows : goal.returns-in_err-opposite-clause-grows
returns-in_err-opposite-clause-grows c = grows_within _ c.difference.ensures.grows (omega arith)

pub returns-in_err-bits-clause-grows : goal.returns-in_err-bits-clause-grows
returns-in_err-bits-clause-grows c = grows_within _ (grows_then c.difference.ensures.grows c.row.ensures.grows) (omega arith)

pub returns-clause-grows : goal.returns-clause-grows
returns-clause-grows c = grows_within _ (grows_then c.difference.ensures.grows c.row.ensures.grows) (omega arith)

pub returns-clause-value : goal.returns-clause-value
returns-clause-value c = λ w.
    let kind = c.args.kind in
    let wide = width_of_word c.requires.operand in
    let some = least_width c.requires.operand in
    let old = c.args.circuit.now in
    let mid = c.difference.new.circuit in
    let new = c.row.new.circuit in
    let word = c.args.word.now in
    let v = word_value old word w in
    let place = kind.width - 1 in
    let top = bit_of old word w place in
    let o = low_value kind.width mid c.in_ok-opposite.opposite w in
    let more : kind.width - 1 + 1 ≡ kind.width = omega arith in
    let whole = low_value-mod kind.width old word w wide in
    let high : v % 2 ^ kind.width ≡ low_value place old word w + place_value place top = sym whole ∙ ap (λ n. low_value n old word w) (sym more) ∙ low_value-more place old word w in
    let test = lit_at mid word w place _ (omega arith) ∙ bit_of-later c.difference.ensures.grows word c.requires.operand.wires w place in
    let kept = low_value-later c.difference.ensures.grows kind.width word c.requires.operand.wires w in
    let zero = low_value-clear kind.width old c.blank.result w (λ k lt. c.blank.ensures.bits old w k) in
    let opposite : o + place_value kind.width (lit_holds mid c.in_ok-opposite.field-0-1 w) + v % 2 ^ kind.width ≡ 2 ^ kind.width = (let e = c.in_ok-opposite.ensures.value w in omega arith) in
    let chosen : low_value kind.width new c.in_ok-bits.bits w ≡ cond top o (v % 2 ^ kind.width) =
    low_value-chosen kind.width new mid _ c.in_ok-bits.bits c.in_ok-opposite.opposite word w (c.in_ok-bits.ensures.bits w)
    ∙ ap (λ t. cond t o (low_value kind.width mid word w)) test ∙ ap (λ n. cond top o n) (kept ∙ whole) in
    magnitude_signed kind v (low_value place old word w) (low_value kind.width new c.in_ok-bits.bits w) top (lit_holds mid c.in_ok-opposite.field-0-1 w) o (c.requires.operand.values w) (is_signed kind.signed c.if-not-kind.false)
    (low_value-lt place old word w) high (low_value-lt kind.width mid c.in_ok-opposite.opposite w) opposite chosen

pub overflow_sub-test : goal.overflow_sub-test
overflow_sub-test c = omega (arith, least_width c.requires.operand)

pub bounds-word-width : goal.bounds-word-width
bounds-word-width c = omega (arith, least_width c.requires.operand, width_of_word c.requires.operand)

pub difference-requires-clause-width : goal.difference-requires-clause-width
difference-requires-clause-width c = width_of_word c.requires.operand

pub row-requires-clause-width : goal.row-requires-clause-width
row-requires-clause-width c = width_of_word c.requires.operand

pub row-requires-clause-operation : goal.row-requires-clause-operation
row-requires-clause-operation c =
    let d : Lit = record { wire = 0; negated = false } in
    still c.difference.ensures.grows (get_or c.args.word.now (c.args.kind.width - 1) d) (c.requires.operand.wires (c.args.kind.width - 1) d (omega (arith, least_width c.requires.operand, width_of_word c.requires.operand)))
