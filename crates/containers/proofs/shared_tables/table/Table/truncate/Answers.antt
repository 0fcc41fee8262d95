use Rattle.std.proofs.Common.{◌≤◌, ◌*◌, ◌/◌, ◌+◌, ap, ◌∙◌, take, arith}
use Rattle.containers.specs.shared_tables.Chunks.{items_of}
use Rattle.containers.proofs.shared_tables.ChunkLaws.{first_items}
use Rattle.containers.proofs.shared_tables.table.Table.truncate.Goals as goal

pub returns-then-count-self : goal.returns-then-count-self
returns-then-count-self g c =
    let chunks = c.self.inside.chunks.items in
    let all = c.self.inside.count in
    ap (λ cs. items_of cs c.args.count) c.truncate.ensures.items
    ∙ first_items chunks all c.self.invariant c.args.count (c.args.count / 16 + 1) (omega arith) (omega arith)
    ∙ ap (take c.args.count) c.self.view_is
