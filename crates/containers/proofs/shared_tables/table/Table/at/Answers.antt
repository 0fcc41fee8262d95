use Rattle.std.proofs.Common.{◌<◌, ◌%◌, get_or, length, ap, ◌∙◌, arith}
use Rattle.containers.proofs.shared_tables.ChunkLaws.{count_is, item_at}
use Rattle.containers.proofs.shared_tables.table.Table.at.Goals as goal

pub returns : goal.returns
returns g c =
    let chunks = c.self.inside.chunks.items in
    let count = c.self.inside.count in
    let x = c.index-as_slice-place.result in
    let within : c.args.place < count = omega (arith, count_is chunks count c.self.invariant, ap length c.self.view_is, c.requires) in
    rw (← c.self.view_is) (item_at chunks count c.self.invariant c.args.place c.index.result.now x within c.index.ensures
    (c.index-as_slice-place.is ∙ ap (λ cs. get_or cs (c.args.place % 16) x) c.as_slice.ensures))
