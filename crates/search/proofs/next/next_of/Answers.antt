use Rattle.std.proofs.Common.{◌≡◌, ℤ, true, false}
use mathlib.Core.Path.{subst}
use Rattle.std.proofs.lemmas.Int.{to_z-of_z}
use Rattle.cnf.proofs.literal_marks.PlacesLaws.{literal_fits}
use Rattle.cnf.specs.literal_marks.Marks.{marked}
use Rattle.cnf.specs.declared.literal_marks.places.Places.TheVariants.{ByKey}
use Rattle.search.specs.declared.scan.Scan.TheVariants as scan
use Rattle.search.specs.Machine.{IsOver, is_open, is_true}
use Rattle.search.specs.Sound.{all_clauses}
use Rattle.search.specs.Statuses.{IsScan}
use Rattle.search.proofs.BackLaws.{literal-over}
use Rattle.search.proofs.NextLaws.{landing_over, next_decide, next_jump, next_model, next_unit}
use Rattle.search.proofs.next.next_of.Goals as goal

pub lesson_of-requires-clause-conflict : goal.lesson_of-requires-clause-conflict
lesson_of-requires-clause-conflict c =
    let same : marked ByKey c.args.values.now ≡ is_true c.args.trail.now = λ i x. c.requires.values x i in
    subst (λ set. IsScan set (all_clauses c.args.formula.now c.args.learned.now) (scan.Conflict c.in-Conflict.number)) same c.in-Conflict.ensures

pub returns-in-Some : goal.returns-in-Some
returns-in-Some c =
    let same : marked ByKey c.args.values.now ≡ is_true c.args.trail.now = λ i x. c.requires.values x i in
    let conflict = subst (λ set. IsScan set (all_clauses c.args.formula.now c.args.learned.now) (scan.Conflict c.in-Conflict.number)) same c.in-Conflict.ensures in
    let over = landing_over c.args.formula.now c.args.learned.now c.args.trail.now c.in-Conflict.number c.in_ok-lesson-in-Conflict.lesson.line c.in_ok-lesson-in-Conflict.lesson.landing c.in-Some.landing c.requires.sound c.in_ok-lesson-in-Conflict.ensures.lesson c.in-Some.is in
    let fits = literal_fits c.in-Some.landing.literal (literal-over c.args.formula.now.variables c.in-Some.landing.literal c.requires.small over).1 in
    rw (to_z-of_z _ _ fits)
    (next_jump c.args.formula.now c.args.learned.now c.args.trail.now c.in-Conflict.number c.in_ok-lesson-in-Conflict.lesson.line c.in_ok-lesson-in-Conflict.lesson.landing c.in-Some.landing conflict c.in_ok-lesson-in-Conflict.ensures.lesson c.in-Some.is)

pub returns-in-Unit : goal.returns-in-Unit
returns-in-Unit c =
    let same : marked ByKey c.args.values.now ≡ is_true c.args.trail.now = λ i x. c.requires.values x i in
    let unit = subst (λ set. IsScan set (all_clauses c.args.formula.now c.args.learned.now) (scan.Unit c.in-Unit.clause c.in-Unit.literal)) same c.in-Unit.ensures in
    let fits = literal_fits c.in-Unit.literal unit.2.1 in
    rw (to_z-of_z _ _ fits) (next_unit c.args.formula.now c.args.learned.now c.args.trail.now c.in-Unit.clause c.in-Unit.literal c.requires.sound unit)

pub returns-in-None-lowest_open : goal.returns-in-None-lowest_open
returns-in-None-lowest_open c =
    let same : marked ByKey c.args.values.now ≡ is_true c.args.trail.now = λ i x. c.requires.values x i in
    let neither = subst (λ set. IsScan set (all_clauses c.args.formula.now c.args.learned.now) scan.Neither) same c.in-Neither.ensures in
    let all = subst (λ set. (x : ℤ) → IsOver c.args.formula.now.variables x → is_open set x ≡ false) same c.in-None-lowest_open.ensures.none in
    next_model c.args.formula.now c.args.learned.now c.args.trail.now neither all

pub returns-in-Some-lowest_open : goal.returns-in-Some-lowest_open
returns-in-Some-lowest_open c =
    let same : marked ByKey c.args.values.now ≡ is_true c.args.trail.now = λ i x. c.requires.values x i in
    let neither = subst (λ set. IsScan set (all_clauses c.args.formula.now c.args.learned.now) scan.Neither) same c.in-Neither.ensures in
    let is = subst (λ set. IsOver c.args.formula.now.variables c.in-Some-lowest_open.literal × (is_open set c.in-Some-lowest_open.literal ≡ true)) same c.in-Some-lowest_open.ensures.some in
    let fits = literal_fits c.in-Some-lowest_open.literal (literal-over c.args.formula.now.variables c.in-Some-lowest_open.literal c.requires.small is.0).1 in
    rw (to_z-of_z _ _ fits) (next_decide c.args.formula.now c.args.learned.now c.args.trail.now c.in-Some-lowest_open.literal neither is.0 is.1)
