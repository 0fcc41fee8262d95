use Rattle.std.proofs.Common.{◌≡◌, ◌-◌, ◌^◌, min, take}
use Rattle.std.specs.List.{sum_by}
use Rattle.filters_paths.specs.Ground.{parts_of}
use Rattle.filters_paths.specs.Totals.{by_edge}
use Rattle.filters_paths.proofs.totals.total_of_firsts.Given as goal

abbrev pub invariant-loop-edge : goal.invariant-loop-edge
invariant-loop-edge l = l.total ≡ min (sum_by (by_edge (parts_of l.ground) l.ground.uses.items l.totals) (take l.edge-index l.ground.firsts.items)) (2 ^ 64 - 1)
