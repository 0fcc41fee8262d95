use Rattle.std.proofs.Common.{◌≡◌, sym, arith, length, None, Some}
use Rattle.std.specs.Prelude.{slice_get}
use Rattle.cnf.specs.Checks.{clauses_before}
use Rattle.cnf.specs.literal_marks.Marks.{marked}
use Rattle.cnf.specs.declared.literal_marks.places.Places.TheVariants.{ByKey}
use Rattle.std.proofs.lemmas.Int.{to_z-of_z}
use Rattle.cnf.proofs.literal_marks.PlacesLaws.{literal_fits}
use Rattle.search.proofs.ScanLaws.{clauses_count, none_past, numbered_next, scan_all, scan_more, scan_unit}
use Rattle.search.proofs.scan.look_through.Goals as goal
use Rattle.search.proofs.scan.look_through.Goals.{in-Some+in-Unit, in-Some+in-Neither, in_default}

pub loop-place-preserved : goal.loop-place-preserved
loop-place-preserved c =
    let is = c.loop-place.invariant in
    let clauses = clauses_before c.args.formula.now c.args.learned.now (length c.args.learned.now.lines) in
    let next = numbered_next clauses c.loop-place.place in
    record {
      lines = is.lines;
      count = is.count;
      small = is.small;
      found = elim c.match-clause_before.branch [
        | in-Some+in-Unit w ↦
            let at : slice_get clauses c.loop-place.place ≡ Some w.in-Some.clause.now = sym (rw (is.lines, next) at w.in-Some.ensures) in
            let fits = literal_fits w.in-Unit.literal w.in-Unit.ensures.2.1 in
            rw (w.found-is, to_z-of_z _ _ fits) (scan_unit (marked ByKey c.args.values.now) clauses c.loop-place.place _ _ c.loop-place.found at w.in-Unit.ensures is.found)
        | in-Some+in-Neither w ↦
            let at : slice_get clauses c.loop-place.place ≡ Some w.in-Some.clause.now = sym (rw (is.lines, next) at w.in-Some.ensures) in
            rw w.found-is (scan_more (marked ByKey c.args.values.now) clauses c.loop-place.place _ _ at w.in-Neither.ensures is.found)
        | in_default w ↦
            let at : slice_get clauses c.loop-place.place ≡ None = sym (rw (is.lines, next) at w.in_default.ensures) in
            let past = none_past clauses c.loop-place.place at in
            let count = clauses_count c.args.formula.now c.args.learned.now in
            absurd (omega (arith, c.loop-place-test.true))
      ];
    }

pub returns : goal.returns
returns c =
    let is = c.loop-place.invariant in
    let count = clauses_count c.args.formula.now c.args.learned.now in
    scan_all (marked ByKey c.args.values.now) (clauses_before c.args.formula.now c.args.learned.now (length c.args.learned.now.lines)) c.loop-place.place _ (omega (arith, c.loop-place-test.false)) is.found
