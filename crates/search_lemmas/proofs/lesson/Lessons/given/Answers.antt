use Rattle.std.proofs.Common.{sym, subst}
use Rattle.search_lemmas.specs.Store.{AllHold}
use Rattle.search_lemmas.proofs.lesson.Lessons.given.Goals as goal

pub invariant_of-held : goal.invariant_of-held
invariant_of-held c = record { hold = subst (AllHold c.args.circuit.now) (sym c.deref.ensures.value) c.requires.lessons }
