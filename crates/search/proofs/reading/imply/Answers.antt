use Rattle.std.proofs.Common.{◌+◌}
use Rattle.std.proofs.lemmas.Int.{to_z-of_z}
use Rattle.search.proofs.TurnLaws.{propagation_implies, propagation_over}
use Rattle.search.proofs.VisitLaws.{opened, unit_moves}
use Rattle.search.proofs.reading.imply.Goals as goal

pub step-requires-clause-over : goal.step-requires-clause-over
step-requires-clause-over c =
    let m = c.args.machine.now in
    let found = opened _ _ c.requires.unit in
    let moved = unit_moves c.args.formula.now m.learned m.trail.items c.args.place found.0 c.args.literal found.1 found.2 in
    rw (to_z-of_z _ _ c.ranges.literal) (propagation_over c.args.formula.now m (c.args.place + 1) c.args.literal c.requires.at.held moved)

pub step-requires-clause-implied : goal.step-requires-clause-implied
step-requires-clause-implied c =
    let m = c.args.machine.now in
    let found = opened _ _ c.requires.unit in
    let moved = unit_moves c.args.formula.now m.learned m.trail.items c.args.place found.0 c.args.literal found.1 found.2 in
    rw (to_z-of_z _ _ c.ranges.literal) (propagation_implies c.args.formula.now m (c.args.place + 1) c.args.literal c.requires.at.held moved).1
