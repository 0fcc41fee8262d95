use Rattle.std.proofs.Common.{◌*◌, arith}
use Rattle.bit_words.proofs.Steps.{grows_then, grows_within}
use Rattle.bit_words.proofs.DivisionLemmas.{division_room, division_none, division_more, division_all, division_whole}
use Rattle.bit_words.proofs.long_division.long_division.Goals as goal

pub loop-j-init : goal.loop-j-init
loop-j-init c = division_none c.args.circuit.now c.args.a.now c.args.b.now c.args.width c.blank-quotient.result c.blank-rest.result (omega arith) (omega arith) (c.blank-quotient.ensures.wires c.args.circuit.now) (c.blank-rest.ensures.wires c.args.circuit.now)
    (c.blank-quotient.ensures.bits c.args.circuit.now) (c.blank-rest.ensures.bits c.args.circuit.now)

pub loop-j-preserved : goal.loop-j-preserved
loop-j-preserved c =
    division_more c.in_ok-less.less c.in_ok-less.bit _ c.loop-j.invariant c.division_step.ensures.grows (omega arith) c.requires.width (omega arith) (omega arith) c.requires.left c.requires.right
    c.in_ok-less.ensures.wires.0 c.in_ok-less.ensures.wires.1 c.in_ok-less.ensures.value c.in_ok-less.ensures.smaller

pub returns-clause-value : goal.returns-clause-value
returns-clause-value c = λ w h. division_all c.loop-j.invariant (omega arith) w h

pub returns-clause-smaller : goal.returns-clause-smaller
returns-clause-smaller c = λ w h. c.loop-j.invariant.smaller w h

pub returns-clause-grows : goal.returns-clause-grows
returns-clause-grows c = grows_within (18 * (c.args.width * c.args.width)) c.loop-j.invariant.grows (omega (arith, division_whole c.loop-j.j c.args.width (omega arith) c.requires.some))

pub returns-in_err-less-clause-grows : goal.returns-in_err-less-clause-grows
returns-in_err-less-clause-grows c = grows_within (18 * (c.args.width * c.args.width)) (grows_then c.loop-j.invariant.grows c.division_step.ensures.grows) (omega (arith, division_room c.loop-j.j c.args.width (omega arith) c.requires.some))

pub division_step-requires-clause-room : goal.division_step-requires-clause-room
division_step-requires-clause-room c = omega (arith, division_room c.loop-j.j c.args.width (omega arith) c.requires.some)
