use Rattle.std.proofs.Common.{◌*◌, ap, arith}
use Rattle.bit_words.specs.Words.{place_value}
use Rattle.bit_words.proofs.Steps.{grows_then, grows_within}
use Rattle.bit_words.proofs.Digits.{low_value-later, low_value-not}
use Rattle.bit_words.proofs.Values.{yes_holds}
use Rattle.bit_words.proofs.sums.difference.Goals as goal

pub returns-in_err-complement-clause-grows : goal.returns-in_err-complement-clause-grows
returns-in_err-complement-clause-grows c = grows_within (13 * c.args.width) c.row.ensures.grows (omega arith)

pub returns-in_err-bits-clause-grows : goal.returns-in_err-bits-clause-grows
returns-in_err-bits-clause-grows c = grows_within (13 * c.args.width) (grows_then c.row.ensures.grows c.sum.ensures.grows) (omega arith)

pub returns-clause-grows : goal.returns-clause-grows
returns-clause-grows c = grows_within (13 * c.args.width) (grows_then c.row.ensures.grows c.sum.ensures.grows) (omega arith)

pub returns-clause-value : goal.returns-clause-value
returns-clause-value c = λ w.
    let sum = c.in_ok-bits.ensures.value w in
    let left = low_value-later c.row.ensures.grows c.args.width c.args.a.now c.requires.left w in
    let right = low_value-not c.args.width c.row.new.circuit c.args.circuit.now c.in_ok-complement.complement c.args.b.now w (c.in_ok-complement.ensures.bits w) in
    let one = ap (place_value 0) (yes_holds c.row.new.circuit w) in
    omega arith
