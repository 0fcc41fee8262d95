use Rattle.std.proofs.Common.{length}
use Rattle.search.specs.At.{IsAt, IsSameButOrder}
use Rattle.search.proofs.machine.Machine.next_open.Given as goal

abbrev pub invariant-loop-variable : goal.invariant-loop-variable
invariant-loop-variable l = record {
  at : IsAt l.formula l.self;
  same : IsSameButOrder l.initial.self l.self;
}

abbrev pub decreases-loop-variable : goal.decreases-loop-variable
decreases-loop-variable l = length l.self.order.heap.items
