use Rattle.std.proofs.Common.{◌<◌, ◌/◌, length, set, ap, ◌∙◌, arith}
use Rattle.containers.specs.shared_tables.Chunks.{items_of}
use Rattle.containers.proofs.shared_tables.ChunkLaws.{count_is, changed}
use Rattle.containers.proofs.shared_tables.table.Table.set.Goals as goal

pub returns-clause-ok : goal.returns-clause-ok
returns-clause-ok g c =
    let chunks = c.self.inside.chunks.items in
    let count = c.self.inside.count in
    let place = c.args.place in
    let within : place < count = omega (arith, count_is chunks count c.self.invariant, ap length c.self.view_is, c.requires) in
    ap (λ d. items_of (set chunks (place / 16) d) count) c.in_ok-set.ensures.ok
    ∙ changed chunks count c.self.invariant place c.index_mut-chunk.result.now c.args.item within c.index_mut-chunk.ensures.value
    ∙ ap (λ xs. set xs place c.args.item) c.self.view_is
