use Rattle.std.proofs.Common.{sym, ap, length, ◌∙◌}
use Rattle.containers.proofs.shared_tables.ChunkLaws.{count_is}
use Rattle.containers.proofs.shared_tables.table.Table.len.Goals as goal

pub returns : goal.returns
returns g c = sym (count_is c.self.inside.chunks.items c.self.inside.count c.self.invariant) ∙ ap length c.self.view_is
