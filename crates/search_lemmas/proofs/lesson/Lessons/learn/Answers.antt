use Rattle.std.proofs.Common.{sym, subst, ◌∙◌}
use Rattle.search_lemmas.specs.Holding.{HoldsAlways}
use Rattle.search_lemmas.specs.Store.{AllHold}
use Rattle.search_lemmas.proofs.Names.{some_is}
use Rattle.search_lemmas.proofs.lesson.Lessons.learn.Goals as goal

pub invariant_of-held : goal.invariant_of-held
invariant_of-held c =
    record { hold = subst (AllHold c.args.circuit.now) (sym (c.deref.ensures.value ∙ (λ i. (c.note_lines.ensures i).items))) c.requires.lessons }

pub returns-in_err-made : goal.returns-in_err-made
returns-in_err-made c = subst (AllHold c.args.circuit.now) (sym (λ i. (c.note_lines.ensures i).items)) c.requires.lessons

pub returns-in-None : goal.returns-in-None
returns-in-None c = subst (AllHold c.args.circuit.now) (sym (λ i. (c.note_lines.ensures i).items)) c.requires.lessons

pub returns-in-Some : goal.returns-in-Some
returns-in-Some c =
    let gates = c.args.circuit.now in
    let own = some_is (HoldsAlways gates) c.in_ok-made.made c.in-Some.clause c.in-Some.is c.in_ok-made.ensures in
    c.keep.ensures gates (subst (AllHold gates) (sym (λ i. (c.note_lines.ensures i).items)) c.requires.lessons) own
