use Rattle.std.proofs.Common.{ap, ◌∙◌, arith}
use Rattle.circuit.specs.Wires.{lit_holds}
use Rattle.c_values.specs.Operations.{is_equal}
use Rattle.bit_words.specs.Words.{word_value}
use Rattle.bit_words.proofs.Steps.{grows_none, grows_then, grows_within, same}
use Rattle.bit_words.proofs.Values.{kind_of_word, width_of_word, least_width, word_later, word_value-later, no_holds}
use Rattle.bit_words.proofs.Compare.{is_unsigned, is_signed}
use Rattle.bit_words.proofs.QuotientLemmas.{constant_word, least_value, minus_one_value, no_overflow, overflow_is}
use Rattle.bit_words.proofs.division.is_overflow.Goals as goal

pub returns-then-not-kind-clause-grows : goal.returns-then-not-kind-clause-grows
returns-then-not-kind-clause-grows c = grows_none _ _

pub returns-then-not-kind-clause-value : goal.returns-then-not-kind-clause-value
returns-then-not-kind-clause-value c = λ w.
    no_holds c.args.circuit.now w ∙ no_overflow c.args.kind (word_value c.args.circuit.now c.args.a.now w) (word_value c.args.circuit.now c.args.b.now w) (is_unsigned c.args.kind.signed c.if-not-kind.true)

pub equal-requires-clause-right : goal.equal-requires-clause-right
equal-requires-clause-right c =
    constant_word c.args.circuit.now c.args.kind _ c.constant-least.result (c.constant-least.ensures.wires c.args.circuit.now) (c.constant-least.ensures.value c.args.circuit.now) (least_value c.args.kind (kind_of_word c.requires.left) (is_signed c.args.kind.signed c.if-not-kind.false))

pub equal-requires-2-clause-left : goal.equal-requires-2-clause-left
equal-requires-2-clause-left c = word_later c.equal.ensures.grows c.args.kind c.args.b.now c.requires.right

pub equal-requires-2-clause-right : goal.equal-requires-2-clause-right
equal-requires-2-clause-right c =
    constant_word c.equal.new.circuit c.args.kind _ c.constant-minus_one.result (c.constant-minus_one.ensures.wires c.equal.new.circuit) (c.constant-minus_one.ensures.value c.equal.new.circuit) (minus_one_value c.args.kind (kind_of_word c.requires.left) (is_signed c.args.kind.signed c.if-not-kind.false))

pub returns-in_err-is_least-clause-grows : goal.returns-in_err-is_least-clause-grows
returns-in_err-is_least-clause-grows c = grows_within _ c.equal.ensures.grows (omega arith)

pub returns-in_err-is_minus_one-clause-grows : goal.returns-in_err-is_minus_one-clause-grows
returns-in_err-is_minus_one-clause-grows c = grows_within _ (grows_then c.equal.ensures.grows c.equal-2.ensures.grows) (omega arith)

pub returns-in_err-overflow-clause-grows : goal.returns-in_err-overflow-clause-grows
returns-in_err-overflow-clause-grows c = grows_within _ (grows_then (grows_then c.equal.ensures.grows c.equal-2.ensures.grows) c.both.ensures.grows) (omega arith)

pub returns-clause-grows : goal.returns-clause-grows
returns-clause-grows c = grows_within _ (grows_then (grows_then c.equal.ensures.grows c.equal-2.ensures.grows) c.both.ensures.grows) (omega arith)

pub returns-clause-value : goal.returns-clause-value
returns-clause-value c = λ w.
    let old = c.args.circuit.now in
    let first = c.equal.new.circuit in
    let second = c.equal-2.new.circuit in
    let kind = c.args.kind in
    let x = word_value old c.args.a.now w in
    let y = word_value old c.args.b.now w in
    let b = word_value-later c.equal.ensures.grows c.args.b.now c.requires.right.wires w in
    c.in_ok-overflow.ensures.value w
    ∙ overflow_is kind x y (lit_holds second c.in_ok-is_least.is_least w) (lit_holds second c.in_ok-is_minus_one.is_minus_one w) (c.requires.left.values w) (c.requires.right.values w) (is_signed kind.signed c.if-not-kind.false)
    (same c.equal-2.ensures.grows c.in_ok-is_least.is_least c.in_ok-is_least.ensures.wire w ∙ c.in_ok-is_least.ensures.value w ∙ ap (is_equal kind x) (c.constant-least.ensures.value old w))
    (c.in_ok-is_minus_one.ensures.value w ∙ ap (λ v. is_equal kind v (word_value first c.constant-minus_one.result w)) b ∙ ap (is_equal kind y) (c.constant-minus_one.ensures.value first w))

pub overflow_sub-kind : goal.overflow_sub-kind
overflow_sub-kind c = omega (arith, least_width c.requires.left)

pub overflow_shl-kind : goal.overflow_shl-kind
overflow_shl-kind c = omega (arith, least_width c.requires.left, width_of_word c.requires.left)
