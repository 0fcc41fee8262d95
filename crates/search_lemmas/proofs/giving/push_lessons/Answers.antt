use Rattle.std.proofs.Common.{◌≤◌, ◌<◌, length, take, sym, subst, arith}
use Rattle.search_lemmas.specs.Holding.{HoldsAlways}
use Rattle.search_lemmas.specs.Naming.{AreNamed}
use Rattle.search_lemmas.proofs.Gifts.{lesson_follows}
use Rattle.search_lemmas.proofs.giving.push_lessons.Goals as goal

pub loop-place-preserved : goal.loop-place-preserved
loop-place-preserved c =
    let gates = c.args.held.now.circuit.now in
    let g = c.args.formula.now in
    let count = c.min-count.result in
    let place = c.loop-place.place in
    let lesson = c.lesson-item.result in
    let least = c.min-count.ensures in
    let wires = c.wires.ensures in
    let le : count ≤ length gates = omega (arith, least, wires) in
    let lt : place < length c.args.held.now.lessons.now = omega arith in
    let holds = subst (HoldsAlways gates) (sym c.lesson-item.is) (c.args.held.now.hold place lesson lt) in
    c.in_ok-push_lesson.ensures g.formula c.loop-place.invariant
    (λ clause named. lesson_follows gates g count lesson clause c.requires.worlds le holds (subst (λ vs. AreNamed (take count vs) lesson clause) c.deref.ensures named))
