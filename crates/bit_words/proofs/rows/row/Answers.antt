use Rattle.std.proofs.Common.{◌*◌, arith}
use Rattle.bit_words.proofs.Steps.{grows_then, grows_within}
use Rattle.bit_words.proofs.RowLemmas.{operation_still, row_none, row_more}
use Rattle.bit_words.proofs.rows.row.Goals as goal

pub loop-i-init : goal.loop-i-init
loop-i-init c = row_none c.args.circuit.now c.args.operation c.args.a.now c.args.b.now c.blank-bits.result (omega arith) (c.blank-bits.ensures.wires c.args.circuit.now)

pub gate-requires-clause-operation : goal.gate-requires-clause-operation
gate-requires-clause-operation c = operation_still c.loop-i.invariant.grows c.args.operation c.requires.operation

pub returns-in_err-bits-clause-grows : goal.returns-in_err-bits-clause-grows
returns-in_err-bits-clause-grows c = grows_within (4 * c.args.width) (grows_then c.loop-i.invariant.grows c.gate.ensures.grows) (omega arith)

pub loop-i-preserved : goal.loop-i-preserved
loop-i-preserved c =
    row_more c.in_ok-bits.field-0 _ _ c.loop-i.invariant c.gate.ensures.grows (omega arith) (omega arith) (omega arith) c.requires.operation c.requires.left c.requires.right c.in_ok-bits.ensures.wire c.in_ok-bits.ensures.value
