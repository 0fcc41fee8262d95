use Rattle.std.proofs.Common.{◌≡◌, ◌+◌, ◌∙◌, length, refl, arith}
use Rattle.std.proofs.lemmas.Int.{to_z-of_z}
use Rattle.cnf.proofs.literal_marks.MarksLaws.{int_eq-sym}
use Rattle.cnf.proofs.literal_marks.PlacesLaws.{literal_fits}
use Rattle.search.specs.declared.watching.Watching.{Watching}
use Rattle.search.proofs.BackLaws.{literal-over}
use Rattle.search.proofs.RoundLaws.{clause_over, jump_allowed, literal_over, searching_alone, searching_beside}
use Rattle.search.proofs.ScanLaws.{clauses_count}
use Rattle.search.proofs.rounds.jump_back.Goals as goal

pub jump-requires-clause-over : goal.jump-requires-clause-over
jump-requires-clause-over c =
    let f = c.args.formula.now in
    let x = c.args.landing.literal in
    let own = literal_over f c.args.budget c.args.machine.now c.args.watching.now c.args.line c.args.landing c.requires.searching c.requires.lesson in
    let own_fits = to_z-of_z _ _ (literal_fits x (literal-over f.variables x c.requires.small own).1) in
    rw own_fits own

pub jump-requires-clause-allowed : goal.jump-requires-clause-allowed
jump-requires-clause-allowed c =
    let f = c.args.formula.now in
    let x = c.args.landing.literal in
    let own = literal_over f c.args.budget c.args.machine.now c.args.watching.now c.args.line c.args.landing c.requires.searching c.requires.lesson in
    let own_fits = to_z-of_z _ _ (literal_fits x (literal-over f.variables x c.requires.small own).1) in
    rw own_fits (jump_allowed f c.args.budget c.args.machine.now c.args.watching.now c.args.line c.args.landing c.requires.searching c.requires.lesson c.requires.conflict)

pub watch_pair-requires-clause-left : goal.watch_pair-requires-clause-left
watch_pair-requires-clause-left c =
    let f = c.args.formula.now in
    let x = c.args.landing.literal in
    let own = literal_over f c.args.budget c.args.machine.now c.args.watching.now c.args.line c.args.landing c.requires.searching c.requires.lesson in
    let own_fits = to_z-of_z _ _ (literal_fits x (literal-over f.variables x c.requires.small own).1) in
    let high = own.1 in
    let lists = c.requires.searching.watching.lists in
    rw own_fits (omega (arith, high, lists))

pub watch_pair-requires-clause-right : goal.watch_pair-requires-clause-right
watch_pair-requires-clause-right c =
    let f = c.args.formula.now in
    let y = c.in-Some.other in
    let latest = rw c.in-Some.is at c.requires.lesson.landing.latest in
    let other = clause_over f c.args.budget c.args.machine.now c.args.watching.now c.args.line c.args.landing c.requires.searching c.requires.lesson y latest.0 in
    let other_fits = to_z-of_z _ _ (literal_fits y (literal-over f.variables y c.requires.small other).1) in
    let high = other.1 in
    let lists = c.requires.searching.watching.lists in
    rw other_fits (omega (arith, high, lists))

pub watch_pair-requires-clause-differ : goal.watch_pair-requires-clause-differ
watch_pair-requires-clause-differ c =
    let f = c.args.formula.now in
    let x = c.args.landing.literal in
    let y = c.in-Some.other in
    let own = literal_over f c.args.budget c.args.machine.now c.args.watching.now c.args.line c.args.landing c.requires.searching c.requires.lesson in
    let own_fits = to_z-of_z _ _ (literal_fits x (literal-over f.variables x c.requires.small own).1) in
    let latest = rw c.in-Some.is at c.requires.lesson.landing.latest in
    let other = clause_over f c.args.budget c.args.machine.now c.args.watching.now c.args.line c.args.landing c.requires.searching c.requires.lesson y latest.0 in
    let other_fits = to_z-of_z _ _ (literal_fits y (literal-over f.variables y c.requires.small other).1) in
    rw (own_fits, other_fits) (int_eq-sym x y ∙ latest.1)

pub returns-in_ok-watch_pair-in-Some-clause-searching : goal.returns-in_ok-watch_pair-in-Some-clause-searching
returns-in_ok-watch_pair-in-Some-clause-searching c =
    let m = c.args.machine.now in
    let w = c.args.watching.now in
    let f = c.args.formula.now in
    let is = c.requires.searching in
    let x = c.args.landing.literal in
    let y = c.in-Some.other in
    let own = literal_over f c.args.budget m w c.args.line c.args.landing is c.requires.lesson in
    let own_fits = to_z-of_z _ _ (literal_fits x (literal-over f.variables x c.requires.small own).1) in
    let latest = rw c.in-Some.is at c.requires.lesson.landing.latest in
    let other = clause_over f c.args.budget m w c.args.line c.args.landing is c.requires.lesson y latest.0 in
    let other_fits = to_z-of_z _ _ (literal_fits y (literal-over f.variables y c.requires.small other).1) in
    let jump = rw own_fits at c.in_ok-jump.ensures in
    let u : Watching = record { watchers = w.watchers; pairs = w.pairs; head = c.args.landing.cut } in
    let clauses = c.len.ensures in
    let lines = c.len-2.ensures in
    let full = is.full in
    let counted = clauses_count f m.learned in
    let at : c.len.result + c.len-2.result ≡ length w.pairs.items = omega (arith, clauses, lines, full, counted) in
    let gives = rw (own_fits, other_fits, at) at c.in_ok-watch_pair-in-Some.ensures in
    searching_beside f c.args.budget m w c.args.line c.args.landing is c.requires.lesson c.jump.new.self u _ jump.trail jump.learned refl refl refl c.watch_pair.new.watching jump.at jump.moves c.requires.paid y c.in-Some.is gives

pub returns-in_ok-push-in-None-clause-searching : goal.returns-in_ok-push-in-None-clause-searching
returns-in_ok-push-in-None-clause-searching c =
    let m = c.args.machine.now in
    let w = c.args.watching.now in
    let f = c.args.formula.now in
    let is = c.requires.searching in
    let x = c.args.landing.literal in
    let own = literal_over f c.args.budget m w c.args.line c.args.landing is c.requires.lesson in
    let own_fits = to_z-of_z _ _ (literal_fits x (literal-over f.variables x c.requires.small own).1) in
    let jump = rw own_fits at c.in_ok-jump.ensures in
    let u : Watching = record { watchers = w.watchers; pairs = w.pairs; head = c.args.landing.cut } in
    let pushed = rw own_fits at c.in_ok-push-in-None.ensures.items in
    searching_alone f c.args.budget m w c.args.line c.args.landing is c.requires.lesson c.jump.new.self u _ jump.trail jump.learned refl refl refl _ jump.at jump.moves c.requires.paid c.in-None.is refl pushed refl
