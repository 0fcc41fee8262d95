use Rattle.std.proofs.Common.{◌≡◌, ◌≤◌, ◌∷◌, ◌∙◌, [], length, get_or, pos, Some, ap, arith}
use Rattle.std.specs.Prelude.{slice_get}
use Rattle.std.proofs.lemmas.Int.{to_z-of_z}
use Rattle.cnf.proofs.literal_marks.PlacesLaws.{literal_fits}
use Rattle.search.proofs.BackLaws.{literal-over}
use Rattle.search.proofs.InstallLaws.{empty_list, front_clause, installed_pair, lone_list, own_literal, read_clause, refuted_empty, two_apart}
use Rattle.search.proofs.LookLaws.{has_at}
use Rattle.search.proofs.VisitLaws.{literal_over}
use Rattle.search.proofs.installing.install.Goals as goal

pub install_one-requires-clause-clause : goal.install_one-requires-clause-clause
install_one-requires-clause-clause c =
    let f = c.args.formula.now in
    let m = c.args.machine.now in
    let is = c.requires.installing in
    let xs = c.literals.result.now in
    let named = read_clause f c.args.place _ _ xs c.deref.ensures c.requires.place c.index-deref-place.is c.literals.ensures.value in
    let lone = lone_list xs (let low = c.in-len1.len_at_least in omega (arith, low)) (let high = c.in-len1.len_below in omega (arith, high)) in
    let x = get_or xs 0 (pos 0) in
    let one : slice_get f.clauses c.args.place ≡ Some (x ∷ []) = named ∙ ap Some lone in
    let over = literal_over f m.learned c.args.place (x ∷ []) x is.at.held.sound.clauses (front_clause f m.learned c.args.place (x ∷ []) one) (own_literal x) in
    rw (to_z-of_z _ _ (literal_fits x (literal-over f.variables x c.requires.small over).1)) one

pub watch_pair-requires-clause-left : goal.watch_pair-requires-clause-left
watch_pair-requires-clause-left c =
    let f = c.args.formula.now in
    let m = c.args.machine.now in
    let is = c.requires.installing in
    let xs = c.literals.result.now in
    let named = read_clause f c.args.place _ _ xs c.deref.ensures c.requires.place c.index-deref-place.is c.literals.ensures.value in
    let length_low : 2 ≤ length xs = let low = c.in-len2-up.len_at_least in omega (arith, low) in
    let x = get_or xs 0 (pos 0) in
    let y = get_or xs 1 (pos 0) in
    let left = has_at xs 0 (omega (arith, length_low)) in
    let right = has_at xs 1 (omega (arith, length_low)) in
    let x_over = literal_over f m.learned c.args.place xs x is.at.held.sound.clauses (front_clause f m.learned c.args.place xs named) left in
    let y_over = literal_over f m.learned c.args.place xs y is.at.held.sound.clauses (front_clause f m.learned c.args.place xs named) right in
    let x_fits = to_z-of_z _ _ (literal_fits x (literal-over f.variables x c.requires.small x_over).1) in
    let y_fits = to_z-of_z _ _ (literal_fits y (literal-over f.variables y c.requires.small y_over).1) in
    let high = x_over.1 in
    let lists = is.watching.lists in
    rw x_fits (omega (arith, high, lists))

pub watch_pair-requires-clause-right : goal.watch_pair-requires-clause-right
watch_pair-requires-clause-right c =
    let f = c.args.formula.now in
    let m = c.args.machine.now in
    let is = c.requires.installing in
    let xs = c.literals.result.now in
    let named = read_clause f c.args.place _ _ xs c.deref.ensures c.requires.place c.index-deref-place.is c.literals.ensures.value in
    let length_low : 2 ≤ length xs = let low = c.in-len2-up.len_at_least in omega (arith, low) in
    let x = get_or xs 0 (pos 0) in
    let y = get_or xs 1 (pos 0) in
    let left = has_at xs 0 (omega (arith, length_low)) in
    let right = has_at xs 1 (omega (arith, length_low)) in
    let x_over = literal_over f m.learned c.args.place xs x is.at.held.sound.clauses (front_clause f m.learned c.args.place xs named) left in
    let y_over = literal_over f m.learned c.args.place xs y is.at.held.sound.clauses (front_clause f m.learned c.args.place xs named) right in
    let x_fits = to_z-of_z _ _ (literal_fits x (literal-over f.variables x c.requires.small x_over).1) in
    let y_fits = to_z-of_z _ _ (literal_fits y (literal-over f.variables y c.requires.small y_over).1) in
    let high = y_over.1 in
    let lists = is.watching.lists in
    rw y_fits (omega (arith, high, lists))

pub watch_pair-requires-clause-differ : goal.watch_pair-requires-clause-differ
watch_pair-requires-clause-differ c =
    let f = c.args.formula.now in
    let m = c.args.machine.now in
    let is = c.requires.installing in
    let xs = c.literals.result.now in
    let named = read_clause f c.args.place _ _ xs c.deref.ensures c.requires.place c.index-deref-place.is c.literals.ensures.value in
    let length_low : 2 ≤ length xs = let low = c.in-len2-up.len_at_least in omega (arith, low) in
    let x = get_or xs 0 (pos 0) in
    let y = get_or xs 1 (pos 0) in
    let left = has_at xs 0 (omega (arith, length_low)) in
    let right = has_at xs 1 (omega (arith, length_low)) in
    let x_over = literal_over f m.learned c.args.place xs x is.at.held.sound.clauses (front_clause f m.learned c.args.place xs named) left in
    let y_over = literal_over f m.learned c.args.place xs y is.at.held.sound.clauses (front_clause f m.learned c.args.place xs named) right in
    let x_fits = to_z-of_z _ _ (literal_fits x (literal-over f.variables x c.requires.small x_over).1) in
    let y_fits = to_z-of_z _ _ (literal_fits y (literal-over f.variables y c.requires.small y_over).1) in
    rw (x_fits, y_fits) (two_apart xs c.literals.ensures.clause length_low)

pub returns-in-empty : goal.returns-in-empty
returns-in-empty c =
    let f = c.args.formula.now in
    let m = c.args.machine.now in
    let is = c.requires.installing in
    let xs = c.literals.result.now in
    let named = read_clause f c.args.place _ _ xs c.deref.ensures c.requires.place c.index-deref-place.is c.literals.ensures.value in
    let none : xs ≡ [] = empty_list xs (let high = c.in-empty.len_below in omega (arith, high)) in
    refuted_empty f c.args.budget m c.args.watching.now c.args.place is (named ∙ ap Some none)

pub returns-in_ok-watch_pair-in-len2-up : goal.returns-in_ok-watch_pair-in-len2-up
returns-in_ok-watch_pair-in-len2-up c =
    let f = c.args.formula.now in
    let m = c.args.machine.now in
    let is = c.requires.installing in
    let xs = c.literals.result.now in
    let named = read_clause f c.args.place _ _ xs c.deref.ensures c.requires.place c.index-deref-place.is c.literals.ensures.value in
    let length_low : 2 ≤ length xs = let low = c.in-len2-up.len_at_least in omega (arith, low) in
    let x = get_or xs 0 (pos 0) in
    let y = get_or xs 1 (pos 0) in
    let left = has_at xs 0 (omega (arith, length_low)) in
    let right = has_at xs 1 (omega (arith, length_low)) in
    let x_over = literal_over f m.learned c.args.place xs x is.at.held.sound.clauses (front_clause f m.learned c.args.place xs named) left in
    let y_over = literal_over f m.learned c.args.place xs y is.at.held.sound.clauses (front_clause f m.learned c.args.place xs named) right in
    let x_fits = to_z-of_z _ _ (literal_fits x (literal-over f.variables x c.requires.small x_over).1) in
    let y_fits = to_z-of_z _ _ (literal_fits y (literal-over f.variables y c.requires.small y_over).1) in
    let gives = rw (x_fits, y_fits) at c.in_ok-watch_pair-in-len2-up.ensures in
    installed_pair f c.args.budget m c.args.watching.now c.watch_pair.new.watching xs x y c.args.place is named left right (two_apart xs c.literals.ensures.clause length_low) gives
