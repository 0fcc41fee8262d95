use Rattle.std.proofs.Common.{◌≡◌, ◌++◌, take}
use Rattle.containers.proofs.shared_tables.table.Table.extend_from_slice.Given as goal

abbrev pub invariant-loop-k : goal.invariant-loop-k
invariant-loop-k g l = l.self ≡ l.initial.self ++ take l.k l.items
