use Rattle.std.proofs.Common.{◌+◌, ◌≤◌, length, refl, ap, arith}
use Rattle.std.proofs.lemmas.Int.{to_z-of_z}
use Rattle.std.proofs.lemmas.List.{length-map}
use Rattle.search.specs.Watching.{list_of}
use Rattle.search.proofs.VisitLaws.{literal_read, read_room}
use Rattle.search.proofs.reading.read_literal.Goals as goal

pub watcher_count-requires : goal.watcher_count-requires
watcher_count-requires c =
    rw (c.deref.ensures.value, to_z-of_z _ _ c.ranges.falsified)
    (read_room c.args.formula.now c.args.budget c.loop-at.machine c.loop-at.watching c.args.falsified c.loop-at.at (rw (to_z-of_z _ _ c.ranges.falsified) at c.loop-at.invariant.visiting))

pub returns-clause-queue : goal.returns-clause-queue
returns-clause-queue c =
    let counted = rw (c.deref.ensures.value, to_z-of_z _ _ c.ranges.falsified) at c.watcher_count.ensures in
    let ended = c.loop-at-test.false in
    let all : length (list_of c.loop-at.watching.watchers.items c.args.falsified) ≤ c.loop-at.at = rw length-map (omega (arith, counted, ended)) in
    (literal_read c.args.formula.now c.args.budget c.loop-at.machine c.loop-at.watching _ c.args.falsified c.loop-at.at all (rw (to_z-of_z _ _ c.ranges.falsified) at c.loop-at.invariant.visiting) refl refl refl, ap (λ k. k + 1) c.loop-at.invariant.head)
