use Rattle.std.proofs.Common.{◌≡◌, ◌∙◌, ◌+◌, length, refl, ap, arith}
use Rattle.std.proofs.lemmas.Int.{to_z-of_z}
use Rattle.std.proofs.lemmas.List.{length-take-le}
use Rattle.search.proofs.BackLaws.{at_entry, literal-over, some_entry}
use Rattle.search.proofs.KeptLaws.{trail_short}
use Rattle.search.proofs.LessonLaws.{literals_of_trail}
use Rattle.search.proofs.MachineLaws.{has_place-over}
use Rattle.search.proofs.OrderLaws.{listed_behind}
use Rattle.search.proofs.TurnLaws.{jump_steps}
use Rattle.search.proofs.machine.Machine.jump.Goals as goal

pub overflow_cast-made : goal.overflow_cast-made
overflow_cast-made c =
    let n = c.args.formula.now.variables in
    let m = c.args.self.now in
    let found = some_entry m.trail.items c.args.cut _ c.requires.allowed.decided in
    let below = (at_entry m.trail.items c.args.cut found.0 found.1).0 in
    let short = trail_short n m.trail.items c.requires.at.held.sound.kept in
    let small = c.requires.small in
    record { fits = omega (arith, below, short, small) }

pub cut_before-requires-clause-inside : goal.cut_before-requires-clause-inside
cut_before-requires-clause-inside c =
    let m = c.args.self.now in
    let found = some_entry m.trail.items c.args.cut _ c.requires.allowed.decided in
    let below = (at_entry m.trail.items c.args.cut found.0 found.1).0 in
    omega (arith, below)

pub cut_before-requires-clause-literals : goal.cut_before-requires-clause-literals
cut_before-requires-clause-literals c =
    literals_of_trail c.args.formula.now.variables c.args.self.now.trail.items (λ x over. literal-over c.args.formula.now.variables x c.requires.small over) c.requires.at.held.sound.kept.over

pub put-requires-clause-value : goal.put-requires-clause-value
put-requires-clause-value c =
    let n = c.args.formula.now.variables in
    rw (to_z-of_z _ _ c.ranges.literal) (has_place-over n _ c.args.literal (c.cut_before.ensures.same.places ∙ c.requires.at.held.places) c.requires.over)

pub put-requires-clause-place : goal.put-requires-clause-place
put-requires-clause-place c =
    let room = c.cut_before.ensures.same.room ∙ c.requires.at.held.room in
    let over = c.requires.over.1 in
    rw (to_z-of_z _ _ c.ranges.literal) (omega (arith, room, over))

pub put-requires-clause-short : goal.put-requires-clause-short
put-requires-clause-short c =
    let n = c.args.formula.now.variables in
    let m = c.args.self.now in
    let found = some_entry m.trail.items c.args.cut _ c.requires.allowed.decided in
    let below = (at_entry m.trail.items c.args.cut found.0 found.1).0 in
    let short = trail_short n m.trail.items c.requires.at.held.sound.kept in
    let small = c.requires.small in
    let taken = length-take-le c.args.cut m.trail.items (omega (arith, below)) in
    let count = ap length c.cut_before.ensures.trail ∙ taken in
    omega (arith, count, below, short, small)

pub returns-clause-at : goal.returns-clause-at
returns-clause-at c =
    let n = c.args.formula.now.variables in
    let m = c.args.self.now in
    let is = rw (to_z-of_z _ _ c.ranges.literal) at c.in_ok-put.ensures in
    let clauses : c.len.result ≡ length c.args.formula.now.clauses = c.len.ensures in
    let lines : c.len-2.result ≡ length m.learned.lines = c.len-2.ensures in
    let counted : c.len.result + c.len-2.result + 1 ≡ length c.args.formula.now.clauses + length m.learned.lines + 1 = omega (arith, clauses, lines) in
    let keeps = c.in_ok-list_entries.ensures.keeps in
    let again = rw c.deref.ensures.value at c.in_ok-list_entries.ensures.listed in
    let listed = listed_behind n m.trail.items c.args.cut m.order.heap.items c.list_entries.new.order.heap.items c.requires.at.held.sound.kept.distinct keeps again c.requires.at.held.listed in
    jump_steps c.args.formula.now m c.cut_before.new.self c.put.new.self _ c.list_entries.new.order c.push.new.self c.args.line c.args.cut _ c.args.literal c.requires.at c.requires.over c.requires.allowed counted (omega (arith, c.if-number-ge4294967296.false))
    c.in_ok-push.ensures.ok c.cut_before.ensures.trail c.cut_before.ensures.values c.cut_before.ensures.places c.cut_before.ensures.order (λ x over free. keeps _ (c.requires.at.held.listed x over free)) listed c.cut_before.ensures.same is.trail is.values is.places is.order is.same refl refl refl refl refl refl c.in_ok-push-2.ensures.items
