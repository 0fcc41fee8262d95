use Rattle.std.proofs.Common.{◌≡◌, ◌++◌, drop, reverse}
use Rattle.std.specs.List.{filter_map}
use Rattle.least_input.proofs.order.add_row.Given as goal

abbrev pub invariant-loop-place : goal.invariant-loop-place
invariant-loop-place l = l.variables.items ≡ l.fn.variables.items ++ filter_map (λ v. v) (reverse (drop l.place l.row))
