use Rattle.std.proofs.Common.{sym, subst, arith}
use Rattle.search_lemmas.specs.Holding.{HoldsAlways}
use Rattle.search_lemmas.specs.Naming.{AreNamed}
use Rattle.search_lemmas.proofs.Names.{always_known}
use Rattle.search_lemmas.proofs.known.is_lesson.Goals as goal

pub returns : goal.returns
returns c = λ yes gates all.
    let item = c.index-lessons-lesson.result in
    let holds = subst (HoldsAlways gates) (sym c.index-lessons-lesson.is) (all c.args.lesson item (omega arith)) in
    let named = subst (AreNamed c.args.wires.now c.args.literals.now) c.literals.ensures.value (c.are_named.ensures yes) in
    always_known gates c.args.wires.now c.args.literals.now item named holds
