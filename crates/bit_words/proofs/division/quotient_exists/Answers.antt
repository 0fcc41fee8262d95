use Rattle.std.proofs.Common.{◌≡◌, not, ap, ◌∙◌, arith}
use Rattle.circuit.specs.Wires.{lit_holds}
use Rattle.c_values.specs.Operations.{is_equal, is_overflow_divisor}
use Rattle.bit_words.specs.Words.{word_value}
use Rattle.bit_words.proofs.Steps.{grows_then, grows_within, same}
use Rattle.bit_words.proofs.Values.{kind_of_word, word_later, word_value-later}
use Rattle.bit_words.proofs.QuotientLemmas.{constant_word, zero_value, exists_is}
use Rattle.bit_words.proofs.division.quotient_exists.Goals as goal

pub equal-requires-clause-right : goal.equal-requires-clause-right
equal-requires-clause-right c = constant_word c.args.circuit.now c.args.kind 0 c.constant-nil.result (c.constant-nil.ensures.wires c.args.circuit.now) (c.constant-nil.ensures.value c.args.circuit.now) (zero_value c.args.kind (kind_of_word c.requires.left))

pub is_overflow-requires-clause-left : goal.is_overflow-requires-clause-left
is_overflow-requires-clause-left c = word_later c.equal.ensures.grows c.args.kind c.args.a.now c.requires.left

pub is_overflow-requires-clause-right : goal.is_overflow-requires-clause-right
is_overflow-requires-clause-right c = word_later c.equal.ensures.grows c.args.kind c.args.b.now c.requires.right

pub returns-in_err-zero-clause-grows : goal.returns-in_err-zero-clause-grows
returns-in_err-zero-clause-grows c = grows_within _ c.equal.ensures.grows (omega arith)

pub returns-in_err-overflow-clause-grows : goal.returns-in_err-overflow-clause-grows
returns-in_err-overflow-clause-grows c = grows_within _ (grows_then c.equal.ensures.grows c.is_overflow.ensures.grows) (omega arith)

pub returns-in_err-none-clause-grows : goal.returns-in_err-none-clause-grows
returns-in_err-none-clause-grows c = grows_within _ (grows_then (grows_then c.equal.ensures.grows c.is_overflow.ensures.grows) c.either.ensures.grows) (omega arith)

pub returns-in_err-exists-clause-grows : goal.returns-in_err-exists-clause-grows
returns-in_err-exists-clause-grows c = grows_within _ (grows_then (grows_then (grows_then c.equal.ensures.grows c.is_overflow.ensures.grows) c.either.ensures.grows) c.inverse.ensures.grows) (omega arith)

pub returns-clause-grows : goal.returns-clause-grows
returns-clause-grows c = grows_within _ (grows_then (grows_then (grows_then c.equal.ensures.grows c.is_overflow.ensures.grows) c.either.ensures.grows) c.inverse.ensures.grows) (omega arith)

pub returns-clause-value : goal.returns-clause-value
returns-clause-value c = λ w.
    let old = c.args.circuit.now in
    let first = c.equal.new.circuit in
    let second = c.is_overflow.new.circuit in
    let kind = c.args.kind in
    let x = word_value old c.args.a.now w in
    let y = word_value old c.args.b.now w in
    let a = word_value-later c.equal.ensures.grows c.args.a.now c.requires.left.wires w in
    let b = word_value-later c.equal.ensures.grows c.args.b.now c.requires.right.wires w in
    let zero : lit_holds second c.in_ok-zero.zero w ≡ is_equal kind y 0 = same c.is_overflow.ensures.grows c.in_ok-zero.zero c.in_ok-zero.ensures.wire w ∙ c.in_ok-zero.ensures.value w ∙ ap (is_equal kind y) (c.constant-nil.ensures.value old w) in
    c.in_ok-exists.ensures.value w ∙ ap not (c.in_ok-none.ensures.value w)
    ∙ exists_is kind x y (lit_holds second c.in_ok-zero.zero w) (lit_holds second c.in_ok-overflow.overflow w) zero
    (c.in_ok-overflow.ensures.value w ∙ ap (λ v. is_overflow_divisor kind v (word_value first c.args.b.now w)) a ∙ ap (is_overflow_divisor kind x) b)
