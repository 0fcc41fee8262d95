use Rattle.std.proofs.Common.{refl, subst}
use Rattle.std.proofs.lemmas.List.{take_all}
use Rattle.automata.specs.Passing.{Silent}
use Rattle.automata.proofs.Parts.{silent_more}
use Rattle.automata.proofs.idle.is_idle.Goals as goal

pub loop-mark-preserved : goal.loop-mark-preserved
loop-mark-preserved g c = silent_more g.T.Truth.holds c.args.truth.now c.args.marks.now c.loop-mark.mark-index c.mark-item.result c.loop-mark-test.true c.mark-item.is c.loop-mark.invariant (c.if-not-is_known_no.ensures refl)

pub returns : goal.returns
returns g c = λ known. subst (Silent g.T.Truth.holds c.args.truth.now) (take_all c.loop-mark.mark-index c.args.marks.now c.loop-mark-test.false) c.loop-mark.invariant
