use Rattle.std.proofs.Common.{sym, subst}
use Rattle.circuit.specs.Truth.{extends_again}
use Rattle.automata.specs.Passing.{Silent}
use Rattle.automata.specs.Still.{silent_still}
use Rattle.automata.specs.Views.{view}
use Rattle.automata.proofs.Passes.{bits_stay}
use Rattle.automata.proofs.StepLaws.{marks_stand, hit_stands}
use Rattle.automata.proofs.step.take_step.Goals as goal

pub live_leaf-live-requires-clause-bits : goal.live_leaf-live-requires-clause-bits
live_leaf-live-requires-clause-bits g c = bits_stay c.pass_unless.new.marks c.in_ok-hit.ensures.older c.in_ok-end.ensures.passed.mark_bits

pub live_leaf-live-requires-clause-rests : goal.live_leaf-live-requires-clause-rests
live_leaf-live-requires-clause-rests g c = λ rests.
    subst (Silent g.T.Truth.holds c.next_hit.new.truth) (sym (c.pass_unless.ensures.kept rests))
    (silent_still (extends_again c.in_ok-end.ensures.older c.in_ok-hit.ensures.older) c.args.marks.now c.requires.mark_bits (c.requires.rests rests))

pub returns-clause-marked : goal.returns-clause-marked
returns-clause-marked g c =
    marks_stand c.in_ok-end.ensures.older c.in_ok-hit.ensures.older _ (view c.args.node.now) c.args.guard.taken c.args.begin c.in_ok-end.end c.args.marks.now c.pass_unless.new.marks c.in_ok-end.ensures.passed

pub returns-clause-found : goal.returns-clause-found
returns-clause-found g c =
    hit_stands c.in_ok-end.ensures.older c.in_ok-hit.ensures.older _ (view c.args.node.now) c.args.guard.taken c.args.begin c.in_ok-end.end c.args.marks.now c.pass_unless.new.marks c.in_ok-end.ensures.passed
    c.args.last c.args.hit c.in_ok-hit.hit c.requires.guard.taken c.requires.hit c.in_ok-hit.ensures.value
