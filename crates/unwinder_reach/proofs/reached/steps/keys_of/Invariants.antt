use Rattle.std.proofs.Common.{take}
use Rattle.unwinder_reach.specs.reached.Searching.{AreKeys}
use Rattle.unwinder_reach.proofs.reached.steps.keys_of.Given as goal

abbrev pub invariant-loop-at : goal.invariant-loop-at
invariant-loop-at l = AreKeys l.table l.keys (take l.at l.pairs)
