use Rattle.std.proofs.Common.{◌≡◌, ◌≤◌, length, map, drop}
use Rattle.path_runner.specs.Masks.{number_of_bits, holds}
use Rattle.path_runner.proofs.masks.mask_in.Given as goal

-- the bits of the rows from there on
abbrev pub invariant-loop-at : goal.invariant-loop-at
invariant-loop-at l = record {
  within : l.at ≤ length l.rows;
  so_far : l.mask ≡ number_of_bits (map (holds l.scope l.state) (drop l.at l.rows));
}

abbrev pub decreases-loop-at : goal.decreases-loop-at
decreases-loop-at l = l.at
