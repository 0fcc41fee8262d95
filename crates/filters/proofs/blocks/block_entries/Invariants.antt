use Rattle.std.proofs.Common.{◌≡◌, ◌<◌, length, get_or, ℕ, false}
use Rattle.filters.specs.Properties.{begins_block}
use Rattle.filters.proofs.blocks.block_entries.Given as goal

abbrev pub invariant-loop-number : goal.invariant-loop-number
invariant-loop-number l = record {
  size : length l.begins.items ≡ l.number;
  each : (k : ℕ) → k < l.number → get_or l.begins.items k false ≡ begins_block l.graph k;
}
