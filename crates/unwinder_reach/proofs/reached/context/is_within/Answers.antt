use Rattle.std.proofs.Common.{arith}
use Rattle.unwinder_reach.proofs.reached.Withins.{within_tells}
use Rattle.unwinder_reach.proofs.reached.context.is_within.Goals as goal

pub returns : goal.returns
returns c =
    within_tells c.args.bounds.now.turns c.args.bounds.now.frames c.args.bounds.now.answers c.taken.result c.frames-frames.result.now c.args.pair.now.context c.keep_turns.result c.frames-frames.ensures c.taken.ensures (c.fit.ensures.0 c.if-not-fit.false)
    (omega arith) c.keep_turns.ensures
