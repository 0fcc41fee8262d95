use Rattle.std.proofs.Common.{◌∙◌, arith}
use Rattle.c_values.proofs.Bits.{width_below}
use Rattle.bit_words.specs.Rows.{operation_bit}
use Rattle.bit_words.specs.Words.{bit_of}
use Rattle.bit_words.proofs.BitLemmas.{wrapped-number}
use Rattle.bit_words.proofs.Steps.{grows_within}
use Rattle.bit_words.proofs.bitwise.bitwise.Goals as goal

pub row-requires-clause-width : goal.row-requires-clause-width
row-requires-clause-width c = width_below c.args.kind c.requires.kind

pub returns-in_err-bits-clause-grows : goal.returns-in_err-bits-clause-grows
returns-in_err-bits-clause-grows c = grows_within _ c.row.ensures.grows (omega arith)

pub returns-clause-grows : goal.returns-clause-grows
returns-clause-grows c = grows_within _ c.row.ensures.grows (omega arith)

pub returns-clause-word : goal.returns-clause-word
returns-clause-word c = c.extended.ensures.word _ c.in_ok-bits.ensures.wires

pub returns-clause-value : goal.returns-clause-value
returns-clause-value c = λ w.
    let old = c.args.circuit.now in
    c.extended.ensures.value _ w
    ∙ wrapped-number c.args.kind c.row.new.circuit c.in_ok-bits.bits w (λ k. operation_bit old c.args.operation w (bit_of old c.args.a.now w k) (bit_of old c.args.b.now w k)) c.requires.kind (c.in_ok-bits.ensures.bits w)
