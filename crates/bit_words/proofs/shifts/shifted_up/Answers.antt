use Rattle.std.proofs.Common.{◌+◌, ◌*◌, arith}
use Rattle.bit_words.proofs.Steps.{grows_then, grows_within}
use Rattle.bit_words.proofs.StageLemmas.{stage_room, stage_by, up_none, up_more}
use Rattle.bit_words.proofs.shifts.shifted_up.Goals as goal

pub loop-i-init : goal.loop-i-init
loop-i-init c = up_none c.args.circuit.now c.args.a.now c.args.amount.now c.args.kind.width (omega arith) c.requires.left

pub raised-moved-requires : goal.raised-moved-requires
raised-moved-requires c = let s = stage_by c.loop-i.i c.args.count c.args.kind.width c.loop-i-test.true c.requires.few c.requires.power in omega (arith, s.0, s.1, s.2)

pub returns-in_err-bits-clause-grows : goal.returns-in_err-bits-clause-grows
returns-in_err-bits-clause-grows c = grows_within (24 * c.args.kind.width) (grows_then c.loop-i.invariant.grows c.row.ensures.grows) (omega (arith, stage_room (c.loop-i.i + 1) c.args.kind.width (omega arith)))

pub loop-i-preserved : goal.loop-i-preserved
loop-i-preserved c =
    let s = stage_by c.loop-i.i c.args.count c.args.kind.width c.loop-i-test.true c.requires.few c.requires.power in
    up_more c.raised-moved.result c.in_ok-bits.bits _ _ c.loop-i.invariant c.row.ensures.grows (omega arith) s.2 s.0 (omega (arith, s.0, s.1)) (omega arith) c.requires.right (omega arith) c.in_ok-bits.ensures.wires
    (c.raised-moved.ensures.low c.loop-i.circuit) (c.raised-moved.ensures.high c.loop-i.circuit) c.in_ok-bits.ensures.bits
