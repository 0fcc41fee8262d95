use Rattle.command.proofs.Ended.{Keeps-refl}
use Rattle.command.proofs.command.write_reply.Goals as goal

pub returns-in-Answer : goal.returns-in-Answer
returns-in-Answer g c = rw c.in-Answer.is (rw c.deref.ensures.value at c.conclude.ensures, Keeps-refl (g.E.Sink.taken c.args.err.now))

pub returns-in-OtherFormula : goal.returns-in-OtherFormula
returns-in-OtherFormula g c = rw c.in-OtherFormula.is (rw c.deref-in-OtherFormula.ensures.value at c.reject.ensures, Keeps-refl (g.O.Sink.taken c.args.out.now))
