use Rattle.std.proofs.Common.{◌∙◌, arith}
use Rattle.circuit.specs.Wires.{lit_holds}
use Rattle.bit_words.proofs.Steps.{grows_then, grows_within, same}
use Rattle.bit_words.proofs.Truths.{sum_of_gates}
use Rattle.bit_words.proofs.gates.half_sum.Goals as goal

pub returns-in_err-carry-clause-grows : goal.returns-in_err-carry-clause-grows
returns-in_err-carry-clause-grows c = grows_within 4 c.both.ensures.grows (omega arith)

pub returns-in_err-some-clause-grows : goal.returns-in_err-some-clause-grows
returns-in_err-some-clause-grows c = grows_within 4 (grows_then c.both.ensures.grows c.either.ensures.grows) (omega arith)

pub returns-in_err-no_carry-clause-grows : goal.returns-in_err-no_carry-clause-grows
returns-in_err-no_carry-clause-grows c = grows_within 4 (grows_then (grows_then c.both.ensures.grows c.either.ensures.grows) c.inverse.ensures.grows) (omega arith)

pub returns-in_err-sum-clause-grows : goal.returns-in_err-sum-clause-grows
returns-in_err-sum-clause-grows c = grows_within 4 (grows_then (grows_then (grows_then c.both.ensures.grows c.either.ensures.grows) c.inverse.ensures.grows) c.both-2.ensures.grows) (omega arith)

pub returns-clause-grows : goal.returns-clause-grows
returns-clause-grows c = grows_within 4 (grows_then (grows_then (grows_then c.both.ensures.grows c.either.ensures.grows) c.inverse.ensures.grows) c.both-2.ensures.grows) (omega arith)

pub returns-clause-carry : goal.returns-clause-carry
returns-clause-carry c = λ w.
    let carry = same (grows_then (grows_then c.either.ensures.grows c.inverse.ensures.grows) c.both-2.ensures.grows) c.in_ok-carry.carry c.in_ok-carry.ensures.wire w in
    carry ∙ c.in_ok-carry.ensures.value w

pub returns-clause-sum : goal.returns-clause-sum
returns-clause-sum c = λ w.
    let carry = same c.either.ensures.grows c.in_ok-carry.carry c.in_ok-carry.ensures.wire w in
    let some = same c.inverse.ensures.grows c.in_ok-some.some c.in_ok-some.ensures.wire w in
    let a = same c.both.ensures.grows c.args.a c.requires.left w in
    let b = same c.both.ensures.grows c.args.b c.requires.right w in
    let is_carry = c.in_ok-carry.ensures.value w in
    let is_some = c.in_ok-some.ensures.value w in
    let is_no_carry = c.in_ok-no_carry.ensures.value w in
    let is_sum = c.in_ok-sum.ensures.value w in
    let lemma = sum_of_gates (lit_holds c.args.circuit.now c.args.a w) (lit_holds c.args.circuit.now c.args.b w) in
    cc
