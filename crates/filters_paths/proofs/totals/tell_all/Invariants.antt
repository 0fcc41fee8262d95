use Rattle.std.proofs.Common.{◌≡◌, length}
use Rattle.filters_paths.specs.Ground.{parts_of}
use Rattle.filters_paths.proofs.totals.tell_all.Given as goal

abbrev pub invariant-loop-node : goal.invariant-loop-node
invariant-loop-node l = length l.totals.items ≡ length (parts_of l.ground).nodes
