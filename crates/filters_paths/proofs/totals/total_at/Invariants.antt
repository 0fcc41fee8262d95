use Rattle.std.proofs.Common.{◌≡◌, ◌+◌, ◌-◌, ◌^◌, min, take}
use Rattle.std.specs.Prelude.{if◌then◌else◌}
use Rattle.std.specs.List.{sum_by}
use Rattle.filters.specs.Parts.{is_marked}
use Rattle.filters_paths.specs.Ground.{parts_of}
use Rattle.filters_paths.specs.Totals.{by_edge}
use Rattle.filters_paths.proofs.totals.total_at.Given as goal

abbrev pub invariant-loop-edge : goal.invariant-loop-edge
invariant-loop-edge l = l.total ≡ min ((if is_marked l.ground.ends.items l.node then 1 else 0) + sum_by (by_edge (parts_of l.ground) l.ground.uses.items l.totals) (take l.edge-index l.edge-items)) (2 ^ 64 - 1)
