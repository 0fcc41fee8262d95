use Rattle.std.proofs.Common.{◌≡◌, ◌+◌, ◌≤◌, length}
use Rattle.unwinder_reach.proofs.reached.context.fit.Given as goal

abbrev pub invariant-loop-frame : goal.invariant-loop-frame
invariant-loop-frame l = (l.count + length l._frame-iterator ≡ length l.frames) × (l.count ≤ l.most)
