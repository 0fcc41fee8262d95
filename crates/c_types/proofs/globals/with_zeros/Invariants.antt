use Rattle.std.proofs.Common.{◌≡◌, ◌++◌, ◌-◌, length}
use Rattle.std.proofs.Math.ListN.{replicate}
use Rattle.c_types.proofs.globals.with_zeros.Given as goal

abbrev pub invariant-pad : goal.invariant-pad
invariant-pad l = l.list ++ replicate (l.length - length l.list) 0 ≡ l.initial.list ++ replicate (l.length - length l.initial.list) 0

abbrev pub decreases-pad : goal.decreases-pad
decreases-pad l = l.length - length l.list
