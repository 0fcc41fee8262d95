use Rattle.std.proofs.Common.{◌≡◌, ◌+◌, ◌<◌, ◌/◌, ◌++◌, ◌∷◌, [], length, set, ap, ◌∙◌, arith}
use Rattle.containers.specs.shared_tables.Chunks.{items_of}
use Rattle.containers.proofs.shared_tables.ChunkLaws.{pushed_behind, pushed_within}
use Rattle.containers.proofs.shared_tables.table.Table.push.Goals as goal

pub returns-then-last-len-clause-ok : goal.returns-then-last-len-clause-ok
returns-then-last-len-clause-ok g c =
    let chunks = c.self.inside.chunks.items in
    let count = c.self.inside.count in
    let none : count / 16 ≡ length chunks = omega arith in
    ap (λ cs. items_of cs (count + 1)) (c.in_ok-push.ensures.items ∙ ap (λ d. chunks ++ d ∷ []) c.in_ok-chunk.ensures)
    ∙ pushed_behind chunks count c.self.invariant none c.args.item
    ∙ ap (λ xs. xs ++ c.args.item ∷ []) c.self.view_is

pub returns-clause-ok : goal.returns-clause-ok
returns-clause-ok g c =
    let chunks = c.self.inside.chunks.items in
    let count = c.self.inside.count in
    let most = c.self.invariant.enough in
    let room : count / 16 < length chunks = omega arith in
    ap (λ d. items_of (set chunks (count / 16) d) (count + 1)) c.in_ok-set.ensures.ok
    ∙ pushed_within chunks count c.self.invariant room c.index_mut-chunk.result.now c.args.item c.index_mut-chunk.ensures.value
    ∙ ap (λ xs. xs ++ c.args.item ∷ []) c.self.view_is
