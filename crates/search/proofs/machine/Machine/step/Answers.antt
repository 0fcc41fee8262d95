use Rattle.std.proofs.Common.{refl, arith}
use Rattle.std.proofs.lemmas.Int.{to_z-of_z}
use Rattle.search.proofs.KeptLaws.{trail_short}
use Rattle.search.proofs.TurnLaws.{at_more, held_more}
use Rattle.search.proofs.machine.Machine.step.Goals as goal

pub put-requires-clause-short : goal.put-requires-clause-short
put-requires-clause-short c =
    let short = trail_short c.args.formula.now.variables c.args.self.now.trail.items c.requires.at.held.sound.kept in
    let small = c.requires.small in
    omega (arith, short, small)

pub returns-clause-at : goal.returns-clause-at
returns-clause-at c =
    let m = c.args.self.now in
    let n = c.put.new.self in
    let is = rw (to_z-of_z _ _ c.ranges.literal) at c.in_ok-put.ensures in
    let held = held_more c.args.formula.now m n c.args.literal c.args.reason c.requires.at.held c.requires.over c.requires.free c.requires.implied is.trail is.values is.places is.order is.same in
    at_more c.args.formula.now m n _ c.args.literal c.args.reason c.args.made c.requires.at held is.trail is.same c.requires.allowed refl refl refl refl refl refl c.in_ok-push.ensures.items
