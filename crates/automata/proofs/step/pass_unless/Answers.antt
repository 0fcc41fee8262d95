use Rattle.automata.specs.Views.{view}
use Rattle.automata.proofs.Parts.{passed_idle}
use Rattle.automata.proofs.step.pass_unless.Goals as goal

pub returns-then-rests-clause-passed : goal.returns-then-rests-clause-passed
returns-then-rests-clause-passed g c =
    passed_idle c.args.truth.now _ (view c.args.node.now) c.args.guard.taken c.args.begin c.args.marks.now c.requires.sized c.requires.marks c.requires.mark_bits c.requires.begin (c.requires.never c.if-rests.true) (c.requires.rests c.if-rests.true)
