use Rattle.std.proofs.Common.{◌≡◌, take}
use Rattle.containers.proofs.shared_tables.table.Table.share.Given as goal

abbrev pub invariant-loop-chunk : goal.invariant-loop-chunk
invariant-loop-chunk g l = l.chunks.items ≡ take l.chunk-index l.chunk-items
