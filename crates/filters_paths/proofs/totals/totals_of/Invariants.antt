use Rattle.std.proofs.Common.{◌≡◌, length}
use Rattle.filters_paths.specs.Ground.{parts_of}
use Rattle.filters_paths.proofs.totals.totals_of.Given as goal

abbrev pub invariant-loop : goal.invariant-loop
invariant-loop l = length l.totals.items ≡ length (parts_of l.ground).nodes
