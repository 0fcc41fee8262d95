use Rattle.std.proofs.Common.{◌<◌, length, arith}
use Rattle.search.proofs.KeptLaws.{trail_short}
use Rattle.search.proofs.reading.propagate.Goals as goal

pub loop-watching-smaller : goal.loop-watching-smaller
loop-watching-smaller c =
    let short = trail_short c.args.formula.now.variables c.loop-watching.machine.trail.items c.loop-watching.invariant.searching.at.held.sound.kept in
    let told = rw c.in-Read.is at c.in_ok-queue.ensures.queue in
    let further = told.1 in
    let inside : c.loop-watching.watching.head < length c.loop-watching.machine.trail.items = let count = c.len.ensures in let more = c.loop-watching-test.true in omega (arith, count, more) in
    omega (arith, short, further, inside)
