use Rattle.std.proofs.Common.{◌≡◌, ◌≤◌, ◌++◌, length, drop}
use Rattle.c_lower.proofs.units.before_all.Given as goal

abbrev pub invariant-loop-i : goal.invariant-loop-i
invariant-loop-i l = record { within : l.i ≤ length l.variables; chain : l.chain ≡ drop l.i l.variables ++ l.fn.outer }

abbrev pub decreases-loop-i : goal.decreases-loop-i
decreases-loop-i l = l.i
