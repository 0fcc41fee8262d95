use Rattle.std.proofs.Common.{ℕ, ◌^◌, ◌<◌, ◌≤◌}
use Rattle.std.specs.Prelude.{slice_index}
use Rattle.filters_paths.specs.Ground.{parts_of}
use Rattle.filters_paths.specs.Totals.{total_at}
use Rattle.filters_paths.proofs.totals.are_totals.Given as goal

abbrev pub invariant-loop-node : goal.invariant-loop-node
invariant-loop-node l = (n : ℕ) → n < l.node → slice_index l.totals n < 2 ^ 32 → total_at (parts_of l.ground) l.ground.ends.items l.ground.uses.items l.totals n ≤ slice_index l.totals n
