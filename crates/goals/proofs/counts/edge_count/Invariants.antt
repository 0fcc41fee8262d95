use Rattle.std.proofs.Common.{◌≡◌, ◌-◌, ◌^◌, min, take}
use Rattle.filters_paths.specs.Outcome.{edge_count}
use Rattle.goals.proofs.counts.edge_count.Given as goal

abbrev pub invariant-loop-path : goal.invariant-loop-path
invariant-loop-path l = l.count ≡ min (edge_count (take l.path-index l.paths)) (2 ^ 64 - 1)
