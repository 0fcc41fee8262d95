use Rattle.std.proofs.Common.{◌≡◌, ◌∙◌, ◌++◌, length, take, drop, refl, ap, arith}
use Rattle.std.specs.Vec.{with_items}
use Rattle.cnf.specs.literal_marks.Marks.{IsClear, marked}
use Rattle.cnf.specs.declared.literal_marks.places.Places.TheVariants.{ByKey}
use Rattle.search.specs.declared.machine.Machine.{Machine}
use Rattle.search.proofs.CutLaws.{take_whole}
use Rattle.search.proofs.TurnLaws.{at_ordered}
use Rattle.search.proofs.machine.Machine.analyze.Goals as goal

pub returns-clause-at : goal.returns-clause-at
returns-clause-at c =
    let m : Machine = c.args.self.now in
    let before : length c.deref_mut.result.now ≡ length m.marks.items = ap length c.deref_mut.ensures.value in
    let kept : length c.lesson_of.new.marks ≡ length c.deref_mut.result.now = c.in_ok-lesson.ensures.size in
    let size : length c.lesson_of.new.marks ≡ length m.marks.items = kept ∙ before in
    let clear : IsClear ByKey c.lesson_of.new.marks = c.in_ok-lesson.ensures.clear in
    let ws = c.lesson_of.new.marks in
    let counted = c.deref_mut.ensures.len in
    let whole : take m.marks.len (ws ++ drop (length ws) m.marks.items) ≡ ws = take_whole ws _ m.marks.len (omega (arith, counted, kept)) in
    let n : Machine = record { trail = m.trail; values = m.values; learned = m.learned; moves = m.moves; places = m.places; order = c.bump_all.new.self; marks = with_items m.marks c.lesson_of.new.marks } in
    at_ordered c.args.formula.now m n c.requires.at refl refl refl refl refl (ap length whole ∙ size) (λ x. ap (λ xs. marked ByKey xs x) whole ∙ clear x) (λ x over free. c.bump_all.ensures _ ∙ c.requires.at.held.listed x over free)
