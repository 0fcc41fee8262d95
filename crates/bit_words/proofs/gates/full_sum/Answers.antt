use Rattle.std.proofs.Common.{arith}
use Rattle.bit_words.proofs.Steps.{grows_then, grows_within, same}
use Rattle.bit_words.proofs.gates.full_sum.Goals as goal

pub returns-in_err-half-clause-grows : goal.returns-in_err-half-clause-grows
returns-in_err-half-clause-grows c = grows_within 9 c.half_sum.ensures.grows (omega arith)

pub returns-in_err-sum-clause-grows : goal.returns-in_err-sum-clause-grows
returns-in_err-sum-clause-grows c = grows_within 9 (grows_then c.half_sum.ensures.grows c.half_sum-2.ensures.grows) (omega arith)

pub returns-in_err-next-clause-grows : goal.returns-in_err-next-clause-grows
returns-in_err-next-clause-grows c = grows_within 9 (grows_then (grows_then c.half_sum.ensures.grows c.half_sum-2.ensures.grows) c.either.ensures.grows) (omega arith)

pub returns-clause-grows : goal.returns-clause-grows
returns-clause-grows c = grows_within 9 (grows_then (grows_then c.half_sum.ensures.grows c.half_sum-2.ensures.grows) c.either.ensures.grows) (omega arith)

pub returns-clause-sum : goal.returns-clause-sum
returns-clause-sum c = λ w.
    let sum = same c.either.ensures.grows c.in_ok-sum.sum c.in_ok-sum.ensures.wires.0 w in
    let carry = same c.half_sum.ensures.grows c.args.carry c.requires.carry w in
    let is_half = c.in_ok-half.ensures.sum w in
    let is_sum = c.in_ok-sum.ensures.sum w in
    cc

pub returns-clause-next : goal.returns-clause-next
returns-clause-next c = λ w.
    let first = same c.half_sum-2.ensures.grows c.in_ok-half.first c.in_ok-half.ensures.wires.1 w in
    let carry = same c.half_sum.ensures.grows c.args.carry c.requires.carry w in
    let is_half = c.in_ok-half.ensures.sum w in
    let is_first = c.in_ok-half.ensures.carry w in
    let is_second = c.in_ok-sum.ensures.carry w in
    let is_next = c.in_ok-next.ensures.value w in
    cc
