use Rattle.std.proofs.Common.{List, subst}
use Rattle.cfa.specs.Contexts.{FrameContext}
use Rattle.unwinder_reach.specs.reached.Searching.{ArePastBounds, frames_along}
use Rattle.unwinder_reach.proofs.reached.Withins.{frames_past}
use Rattle.unwinder_reach.proofs.reached.context.pair_along.Goals as goal

pub returns-in-None : goal.returns-in-None
returns-in-None c =
    let past = rw c.in-None.is at c.in_ok-frames_along.ensures in
    let Past : List FrameContext → Type 0 = λ fs. ArePastBounds (frames_along c.args.graph.now c.args.at c.args.edge.now fs) in
    frames_past c.args.graph.now c.args.at c.args.edge.now c.args.pair.now.context (subst Past c.frames.ensures past)
