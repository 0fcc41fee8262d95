use Rattle.std.proofs.Common.{◌+◌, ◌*◌, arith}
use Rattle.bit_words.proofs.Steps.{grows_then, grows_within}
use Rattle.bit_words.proofs.Values.{kind_of_word, width_of_word}
use Rattle.bit_words.proofs.StageLemmas.{stage_room, stage_by, down_none, down_more, down_all}
use Rattle.bit_words.proofs.shifts.shifted_down.Goals as goal

pub loop-i-init : goal.loop-i-init
loop-i-init c = down_none c.args.circuit.now c.args.kind c.args.a.now c.args.amount.now (omega arith) c.requires.left

pub lowered-moved-requires : goal.lowered-moved-requires
lowered-moved-requires c = let s = stage_by c.loop-i.i c.args.count c.args.kind.width c.loop-i-test.true c.requires.few c.requires.power in omega (arith, s.0, s.1, s.2)

pub row-requires-clause-width : goal.row-requires-clause-width
row-requires-clause-width c = width_of_word c.requires.left

pub extended-word-requires : goal.extended-word-requires
extended-word-requires c = kind_of_word c.requires.left

pub returns-in_err-bits-clause-grows : goal.returns-in_err-bits-clause-grows
returns-in_err-bits-clause-grows c = grows_within (24 * c.args.kind.width) (grows_then c.loop-i.invariant.grows c.row.ensures.grows) (omega (arith, stage_room (c.loop-i.i + 1) c.args.kind.width (omega arith)))

pub returns-clause-word : goal.returns-clause-word
returns-clause-word c = down_all (kind_of_word c.requires.left) c.loop-i.invariant

pub loop-i-preserved : goal.loop-i-preserved
loop-i-preserved c =
    let s = stage_by c.loop-i.i c.args.count c.args.kind.width c.loop-i-test.true c.requires.few c.requires.power in
    down_more c.lowered-moved.result c.in_ok-bits.bits c.extended-word.result _ _ c.loop-i.invariant c.row.ensures.grows c.requires.left s.0 (omega arith) (omega arith) c.requires.right (omega arith) c.in_ok-bits.ensures.wires
    (λ h. (c.extended-word.ensures.word c.row.new.circuit h).wires) (c.lowered-moved.ensures.low c.loop-i.circuit) (c.lowered-moved.ensures.high c.loop-i.circuit) c.in_ok-bits.ensures.bits (c.extended-word.ensures.value c.row.new.circuit)
