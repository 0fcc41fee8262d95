use Rattle.std.proofs.Common.{◌≡◌, ◌∙◌, refl, sym, arith, false, true, neg_ℤ, Some}
use Rattle.std.specs.Prelude.{slice_get}
use Rattle.std.specs.List.{list_any}
use Rattle.std.proofs.lemmas.Int.{to_z-of_z}
use Rattle.std.proofs.lemmas.Option.{slice_get_within}
use Rattle.cnf.specs.literal_marks.Marks.{marked}
use Rattle.cnf.specs.declared.literal_marks.places.Places.TheVariants.{ByKey}
use Rattle.cnf.proofs.literal_marks.PlacesLaws.{literal_fits}
use Rattle.search.specs.Machine.{IsOver, is_conflict, is_true, unit_of}
use Rattle.search.specs.Watching.{is_satisfied, list_of, watchers_of}
use Rattle.search.proofs.BackLaws.{literal-over}
use Rattle.search.proofs.ListsLaws.{place_at}
use Rattle.search.proofs.ScanLaws.{clauses_count}
use Rattle.search.proofs.VisitLaws.{apart_from_read, literal_over, shown, visit_implied, visited_at, visiting_blocked, visiting_conflict, visiting_moved, visiting_satisfied, watched_at}
use Rattle.search.proofs.reading.visit_at.Goals as goal

pub index-requires : goal.index-requires
index-requires c =
    let m = c.args.machine.now in
    let w = c.args.watching.now in
    let x = c.args.falsified in
    let place = c.watcher_at-watcher.result.place in
    let is = c.requires.visiting in
    let here : slice_get (list_of w.watchers.items x) c.args.at ≡ Some place = place_at (watchers_of w.watchers.items x) c.args.at c.watcher_at-watcher.result (rw (c.deref.ensures.value, to_z-of_z _ _ c.ranges.falsified) at c.watcher_at-watcher.ensures) in
    let found = watched_at c.args.formula.now m.learned m.trail.items w x c.args.at place is.reading.watching here in
    let within = slice_get_within w.pairs.items place found.pair found.paired in
    let ok = w.pairs.ok.0 in
    omega (arith, within, ok)

pub look_for-requires-clause-clause : goal.look_for-requires-clause-clause
look_for-requires-clause-clause c =
    let m = c.args.machine.now in
    let w = c.args.watching.now in
    let x = c.args.falsified in
    let place = c.watcher_at-watcher.result.place in
    let is = c.requires.visiting in
    let here : slice_get (list_of w.watchers.items x) c.args.at ≡ Some place = place_at (watchers_of w.watchers.items x) c.args.at c.watcher_at-watcher.result (rw (c.deref.ensures.value, to_z-of_z _ _ c.ranges.falsified) at c.watcher_at-watcher.ensures) in
    let gives = rw (to_z-of_z _ _ c.ranges.falsified) at c.partner-other.ensures in
    let v = visited_at c.args.formula.now m.learned m.trail.items w x c.args.at place c.partner-other.result c.index.result.now is.reading.watching here c.index.ensures gives in
    let over = literal_over c.args.formula.now m.learned place v.clause c.partner-other.result is.searching.at.held.sound.clauses v.named v.has in
    let fits = literal_fits c.partner-other.result (literal-over c.args.formula.now.variables _ c.requires.small over).1 in
    rw (to_z-of_z _ _ fits, v.named) v.has

pub overflow_add-result : goal.overflow_add-result
overflow_add-result c =
    let m = c.args.machine.now in
    let w = c.args.watching.now in
    let x = c.args.falsified in
    let place = c.watcher_at-watcher.result.place in
    let is = c.requires.visiting in
    let here : slice_get (list_of w.watchers.items x) c.args.at ≡ Some place = place_at (watchers_of w.watchers.items x) c.args.at c.watcher_at-watcher.result (rw (c.deref.ensures.value, to_z-of_z _ _ c.ranges.falsified) at c.watcher_at-watcher.ensures) in
    let gives = rw (to_z-of_z _ _ c.ranges.falsified) at c.partner-other.ensures in
    let v = visited_at c.args.formula.now m.learned m.trail.items w x c.args.at place c.partner-other.result c.index.result.now is.reading.watching here c.index.ensures gives in
    let over = literal_over c.args.formula.now m.learned place v.clause c.partner-other.result is.searching.at.held.sound.clauses v.named v.has in
    let fits = literal_fits c.partner-other.result (literal-over c.args.formula.now.variables _ c.requires.small over).1 in
    let within = slice_get_within w.pairs.items place v.pair v.paired in
    let few = is.reading.watching.pairs in
    let count = clauses_count c.args.formula.now m.learned in
    let small = is.searching.at.held.few in
    record { fits = omega (arith, within, few, count, small) }

pub imply-requires-clause-unit : goal.imply-requires-clause-unit
imply-requires-clause-unit c =
    let m = c.args.machine.now in
    let w = c.args.watching.now in
    let x = c.args.falsified in
    let place = c.watcher_at-watcher.result.place in
    let is = c.requires.visiting in
    let here : slice_get (list_of w.watchers.items x) c.args.at ≡ Some place = place_at (watchers_of w.watchers.items x) c.args.at c.watcher_at-watcher.result (rw (c.deref.ensures.value, to_z-of_z _ _ c.ranges.falsified) at c.watcher_at-watcher.ensures) in
    let gives = rw (to_z-of_z _ _ c.ranges.falsified) at c.partner-other.ensures in
    let v = visited_at c.args.formula.now m.learned m.trail.items w x c.args.at place c.partner-other.result c.index.result.now is.reading.watching here c.index.ensures gives in
    let over = literal_over c.args.formula.now m.learned place v.clause c.partner-other.result is.searching.at.held.sound.clauses v.named v.has in
    let fits = literal_fits c.partner-other.result (literal-over c.args.formula.now.variables _ c.requires.small over).1 in
    let told = rw (v.named, to_z-of_z _ _ fits) at c.in-Unit.ensures in
    let unit : unit_of (is_true m.trail.items) v.clause ≡ Some c.in-Unit.literal = shown c.args.formula.now m (λ set. unit_of set v.clause ≡ Some c.in-Unit.literal) is.searching.at.held told.1 in
    let own = to_z-of_z _ _ (literal_fits c.in-Unit.literal told.2.1) in
    rw (v.named, own) unit

pub rewatch-requires-clause-room : goal.rewatch-requires-clause-room
rewatch-requires-clause-room c =
    let m = c.args.machine.now in
    let w = c.args.watching.now in
    let x = c.args.falsified in
    let place = c.watcher_at-watcher.result.place in
    let is = c.requires.visiting in
    let here : slice_get (list_of w.watchers.items x) c.args.at ≡ Some place = place_at (watchers_of w.watchers.items x) c.args.at c.watcher_at-watcher.result (rw (c.deref.ensures.value, to_z-of_z _ _ c.ranges.falsified) at c.watcher_at-watcher.ensures) in
    let gives = rw (to_z-of_z _ _ c.ranges.falsified) at c.partner-other.ensures in
    let v = visited_at c.args.formula.now m.learned m.trail.items w x c.args.at place c.partner-other.result c.index.result.now is.reading.watching here c.index.ensures gives in
    let over = literal_over c.args.formula.now m.learned place v.clause c.partner-other.result is.searching.at.held.sound.clauses v.named v.has in
    let fits = literal_fits c.partner-other.result (literal-over c.args.formula.now.variables _ c.requires.small over).1 in
    let told = rw (v.named, to_z-of_z _ _ fits) at c.in-Other.ensures in
    let y = c.in-Other.literal in
    let free : is_true m.trail.items (neg_ℤ y) ≡ false = shown c.args.formula.now m (λ set. set (neg_ℤ y) ≡ false) is.searching.at.held told.1 in
    let own = to_z-of_z _ _ (literal_fits y told.3.1) in
    let inside : IsOver c.args.formula.now.variables y = literal_over c.args.formula.now m.learned place v.clause y is.searching.at.held.sound.clauses v.named told.0 in
    let lists = is.reading.watching.lists in
    let high = inside.1 in
    rw own (omega (arith, high, lists))

pub rewatch-requires-clause-place : goal.rewatch-requires-clause-place
rewatch-requires-clause-place c =
    let m = c.args.machine.now in
    let w = c.args.watching.now in
    let x = c.args.falsified in
    let place = c.watcher_at-watcher.result.place in
    let is = c.requires.visiting in
    let here : slice_get (list_of w.watchers.items x) c.args.at ≡ Some place = place_at (watchers_of w.watchers.items x) c.args.at c.watcher_at-watcher.result (rw (c.deref.ensures.value, to_z-of_z _ _ c.ranges.falsified) at c.watcher_at-watcher.ensures) in
    let gives = rw (to_z-of_z _ _ c.ranges.falsified) at c.partner-other.ensures in
    let v = visited_at c.args.formula.now m.learned m.trail.items w x c.args.at place c.partner-other.result c.index.result.now is.reading.watching here c.index.ensures gives in
    let over = literal_over c.args.formula.now m.learned place v.clause c.partner-other.result is.searching.at.held.sound.clauses v.named v.has in
    let fits = literal_fits c.partner-other.result (literal-over c.args.formula.now.variables _ c.requires.small over).1 in
    slice_get_within w.pairs.items place v.pair v.paired

pub rewatch-requires-clause-apart : goal.rewatch-requires-clause-apart
rewatch-requires-clause-apart c =
    let m = c.args.machine.now in
    let w = c.args.watching.now in
    let x = c.args.falsified in
    let place = c.watcher_at-watcher.result.place in
    let is = c.requires.visiting in
    let here : slice_get (list_of w.watchers.items x) c.args.at ≡ Some place = place_at (watchers_of w.watchers.items x) c.args.at c.watcher_at-watcher.result (rw (c.deref.ensures.value, to_z-of_z _ _ c.ranges.falsified) at c.watcher_at-watcher.ensures) in
    let gives = rw (to_z-of_z _ _ c.ranges.falsified) at c.partner-other.ensures in
    let v = visited_at c.args.formula.now m.learned m.trail.items w x c.args.at place c.partner-other.result c.index.result.now is.reading.watching here c.index.ensures gives in
    let over = literal_over c.args.formula.now m.learned place v.clause c.partner-other.result is.searching.at.held.sound.clauses v.named v.has in
    let fits = literal_fits c.partner-other.result (literal-over c.args.formula.now.variables _ c.requires.small over).1 in
    let told = rw (v.named, to_z-of_z _ _ fits) at c.in-Other.ensures in
    let y = c.in-Other.literal in
    let free : is_true m.trail.items (neg_ℤ y) ≡ false = shown c.args.formula.now m (λ set. set (neg_ℤ y) ≡ false) is.searching.at.held told.1 in
    let own = to_z-of_z _ _ (literal_fits y told.3.1) in
    rw (own, to_z-of_z _ _ c.ranges.falsified) (apart_from_read m.trail.items w.head x y is.reading.literal free)

pub returns-in-Conflict-clause-visit : goal.returns-in-Conflict-clause-visit
returns-in-Conflict-clause-visit c =
    let m = c.args.machine.now in
    let w = c.args.watching.now in
    let x = c.args.falsified in
    let place = c.watcher_at-watcher.result.place in
    let is = c.requires.visiting in
    let here : slice_get (list_of w.watchers.items x) c.args.at ≡ Some place = place_at (watchers_of w.watchers.items x) c.args.at c.watcher_at-watcher.result (rw (c.deref.ensures.value, to_z-of_z _ _ c.ranges.falsified) at c.watcher_at-watcher.ensures) in
    let gives = rw (to_z-of_z _ _ c.ranges.falsified) at c.partner-other.ensures in
    let v = visited_at c.args.formula.now m.learned m.trail.items w x c.args.at place c.partner-other.result c.index.result.now is.reading.watching here c.index.ensures gives in
    let over = literal_over c.args.formula.now m.learned place v.clause c.partner-other.result is.searching.at.held.sound.clauses v.named v.has in
    let fits = literal_fits c.partner-other.result (literal-over c.args.formula.now.variables _ c.requires.small over).1 in
    let told = rw v.named at c.in-Conflict.ensures in
    let own : is_conflict (is_true m.trail.items) v.clause ≡ true = shown c.args.formula.now m (λ set. is_conflict set v.clause ≡ true) is.searching.at.held told in
    (is.searching, visiting_conflict c.args.formula.now m place v.clause v.named own)

pub returns-in-Unit-clause-visit : goal.returns-in-Unit-clause-visit
returns-in-Unit-clause-visit c =
    let m = c.args.machine.now in
    let w = c.args.watching.now in
    let x = c.args.falsified in
    let place = c.watcher_at-watcher.result.place in
    let is = c.requires.visiting in
    let here : slice_get (list_of w.watchers.items x) c.args.at ≡ Some place = place_at (watchers_of w.watchers.items x) c.args.at c.watcher_at-watcher.result (rw (c.deref.ensures.value, to_z-of_z _ _ c.ranges.falsified) at c.watcher_at-watcher.ensures) in
    let gives = rw (to_z-of_z _ _ c.ranges.falsified) at c.partner-other.ensures in
    let v = visited_at c.args.formula.now m.learned m.trail.items w x c.args.at place c.partner-other.result c.index.result.now is.reading.watching here c.index.ensures gives in
    let over = literal_over c.args.formula.now m.learned place v.clause c.partner-other.result is.searching.at.held.sound.clauses v.named v.has in
    let fits = literal_fits c.partner-other.result (literal-over c.args.formula.now.variables _ c.requires.small over).1 in
    let told = rw (v.named, to_z-of_z _ _ fits) at c.in-Unit.ensures in
    let unit : unit_of (is_true m.trail.items) v.clause ≡ Some c.in-Unit.literal = shown c.args.formula.now m (λ set. unit_of set v.clause ≡ Some c.in-Unit.literal) is.searching.at.held told.1 in
    let own = to_z-of_z _ _ (literal_fits c.in-Unit.literal told.2.1) in
    let implied = rw own at c.imply.ensures in
    visit_implied c.args.formula.now c.args.budget m c.imply.new.machine w x c.args.at place v.clause c.in-Unit.literal is here v.named unit c.imply.result implied

pub returns-in_ok-rewatch-in-Other-clause-visit : goal.returns-in_ok-rewatch-in-Other-clause-visit
returns-in_ok-rewatch-in-Other-clause-visit c =
    let m = c.args.machine.now in
    let w = c.args.watching.now in
    let x = c.args.falsified in
    let place = c.watcher_at-watcher.result.place in
    let is = c.requires.visiting in
    let here : slice_get (list_of w.watchers.items x) c.args.at ≡ Some place = place_at (watchers_of w.watchers.items x) c.args.at c.watcher_at-watcher.result (rw (c.deref.ensures.value, to_z-of_z _ _ c.ranges.falsified) at c.watcher_at-watcher.ensures) in
    let gives = rw (to_z-of_z _ _ c.ranges.falsified) at c.partner-other.ensures in
    let v = visited_at c.args.formula.now m.learned m.trail.items w x c.args.at place c.partner-other.result c.index.result.now is.reading.watching here c.index.ensures gives in
    let over = literal_over c.args.formula.now m.learned place v.clause c.partner-other.result is.searching.at.held.sound.clauses v.named v.has in
    let fits = literal_fits c.partner-other.result (literal-over c.args.formula.now.variables _ c.requires.small over).1 in
    let told = rw (v.named, to_z-of_z _ _ fits) at c.in-Other.ensures in
    let y = c.in-Other.literal in
    let free : is_true m.trail.items (neg_ℤ y) ≡ false = shown c.args.formula.now m (λ set. set (neg_ℤ y) ≡ false) is.searching.at.held told.1 in
    let own = to_z-of_z _ _ (literal_fits y told.3.1) in
    let rewatched = rw (to_z-of_z _ _ c.ranges.falsified, own, to_z-of_z _ _ fits, v.is) at c.in_ok-rewatch-in-Other.ensures in
    let apart = rw v.is at told.2 in
    (visiting_moved c.args.formula.now c.args.budget m w c.rewatch.new.watching x c.args.at place v.clause v.pair y is here v.named v.paired told.0 free apart rewatched, rewatched.shorter)

pub returns-then-is_marked-clause-visit : goal.returns-then-is_marked-clause-visit
returns-then-is_marked-clause-visit c =
    let m = c.args.machine.now in
    let w = c.args.watching.now in
    let watcher = c.watcher_at-watcher.result in
    let is = c.requires.visiting in
    let at = rw (c.deref.ensures.value, to_z-of_z _ _ c.ranges.falsified) at c.watcher_at-watcher.ensures in
    let told = visiting_blocked c.args.formula.now c.args.budget m w c.args.falsified c.args.at watcher is at in
    let fits = literal_fits watcher.blocker (literal-over c.args.formula.now.variables watcher.blocker c.requires.small told.0).1 in
    let shows : marked ByKey m.values.items watcher.blocker ≡ true = rw (c.deref-2.ensures.value, to_z-of_z _ _ fits) at (sym c.if-is_marked.ensures) in
    (told.1 (sym (is.searching.at.held.values watcher.blocker) ∙ shows), refl)

pub rewatch-requires-clause-here : goal.rewatch-requires-clause-here
rewatch-requires-clause-here c =
    let w = c.args.watching.now in
    let here : slice_get (list_of w.watchers.items c.args.falsified) c.args.at ≡ Some c.watcher_at-watcher.result.place =
    place_at (watchers_of w.watchers.items c.args.falsified) c.args.at c.watcher_at-watcher.result (rw (c.deref.ensures.value, to_z-of_z _ _ c.ranges.falsified) at c.watcher_at-watcher.ensures) in
    rw (to_z-of_z _ _ c.ranges.falsified) here

pub returns-in-Satisfied-clause-visit : goal.returns-in-Satisfied-clause-visit
returns-in-Satisfied-clause-visit c =
    let m = c.args.machine.now in
    let w = c.args.watching.now in
    let x = c.args.falsified in
    let place = c.watcher_at-watcher.result.place in
    let is = c.requires.visiting in
    let here : slice_get (list_of w.watchers.items x) c.args.at ≡ Some place = place_at (watchers_of w.watchers.items x) c.args.at c.watcher_at-watcher.result (rw (c.deref.ensures.value, to_z-of_z _ _ c.ranges.falsified) at c.watcher_at-watcher.ensures) in
    let gives = rw (to_z-of_z _ _ c.ranges.falsified) at c.partner-other.ensures in
    let v = visited_at c.args.formula.now m.learned m.trail.items w x c.args.at place c.partner-other.result c.index.result.now is.reading.watching here c.index.ensures gives in
    let told = rw v.named at c.in-Satisfied.ensures in
    let own : is_satisfied m.trail.items v.clause ≡ true = shown c.args.formula.now m (λ set. list_any set v.clause ≡ true) is.searching.at.held told in
    (visiting_satisfied c.args.formula.now c.args.budget m w x c.args.at place v.clause is here v.named own, refl)
