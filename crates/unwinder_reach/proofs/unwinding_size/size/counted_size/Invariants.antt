use Rattle.std.proofs.Common.{◌≡◌, take}
use Rattle.unwinder_reach.specs.unwinding_size.Capped.{capped}
use Rattle.unwinder_reach.specs.unwinding_size.Sizes.{pairs_weight}
use Rattle.unwinder_reach.proofs.unwinding_size.size.counted_size.Given as goal

abbrev pub invariant-loop-at : goal.invariant-loop-at
invariant-loop-at l = l.total ≡ capped (pairs_weight l.graph l.predicates l.first l.reached.steps 0 (take l.at l.pair-items))
