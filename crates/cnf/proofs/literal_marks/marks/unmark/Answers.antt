use Rattle.std.proofs.Common.{sym, ◌≡◌, Some}
use Rattle.std.proofs.lemmas.Int.{to_z-of_z}
use Rattle.cnf.specs.literal_marks.Places.{place_of}
use Rattle.cnf.proofs.literal_marks.MarksLaws.{marked-unmark}
use Rattle.cnf.proofs.literal_marks.marks.unmark.Goals as goal

pub returns-then-place-marks : goal.returns-then-place-marks
returns-then-place-marks c =
    let fits = c.ranges.literal in
    let at : place_of c.args.places.now c.args.literal ≡ Some c.in-Some.place = sym (simp to_z-of_z at c.in-Some.ensures) in
    λ x. marked-unmark _ _ _ x _ at c.if-place-marks.true
