use Rattle.std.proofs.Common.{◌≡◌, ◌++◌, take, reverse}
use Rattle.std.specs.List.{filter_map, flat_map}
use Rattle.least_input.proofs.order.add_rows.Given as goal

abbrev pub invariant-loop-row : goal.invariant-loop-row
invariant-loop-row l = l.variables.items ≡ l.fn.variables.items ++ filter_map (λ v. v) (flat_map reverse (take l.row-index l.rows))
