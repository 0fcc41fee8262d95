use Rattle.std.proofs.Common.{◌≡◌, take, drop}
use Rattle.containers.proofs.shared_tables.table.Table.range.Given as goal

abbrev pub invariant-loop-k : goal.invariant-loop-k
invariant-loop-k g l = l.items.items ≡ take l.k (drop l.first l.self)
