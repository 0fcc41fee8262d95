use Rattle.std.proofs.Common.{◌≡◌}
use Rattle.std.specs.List.{filter, range_with_len}
use Rattle.filters.specs.Parts.{part_of}
use Rattle.filters_paths.specs.Ground.{is_first}
use Rattle.filters_paths.proofs.ground.first_edges.Given as goal

abbrev pub invariant-loop-edge : goal.invariant-loop-edge
invariant-loop-edge l = l.firsts.items ≡ filter (is_first l.graph (part_of l.target)) (range_with_len 0 l.edge)
