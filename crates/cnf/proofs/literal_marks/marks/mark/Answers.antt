use Rattle.std.proofs.Common.{sym, ◌≡◌, Some}
use Rattle.std.proofs.lemmas.Int.{to_z-of_z}
use Rattle.cnf.specs.literal_marks.Places.{place_of}
use Rattle.cnf.proofs.literal_marks.MarksLaws.{marked-mark, place_fits}
use Rattle.cnf.proofs.literal_marks.marks.mark.Goals as goal

pub bounds-marks-place : goal.bounds-marks-place
bounds-marks-place c =
    let fits = c.ranges.literal in
    place_fits c.args.places.now _ c.args.literal _ (sym (simp to_z-of_z at c.in-Some.ensures)) c.requires

pub returns-in-Some : goal.returns-in-Some
returns-in-Some c =
    let fits = c.ranges.literal in
    let at : place_of c.args.places.now c.args.literal ≡ Some c.in-Some.place = sym (simp to_z-of_z at c.in-Some.ensures) in
    λ x. marked-mark _ _ _ x _ at (place_fits c.args.places.now _ c.args.literal _ at c.requires)
