use Rattle.std.proofs.Common.{◌≡◌, ◌<◌, [], ℕ, List, length, ◌∙◌, subst, arith}
use Rattle.std.proofs.lemmas.List.{get_or_read}
use Rattle.filters.specs.Parts.{part_of}
use Rattle.filters_paths.specs.Spreading.{AreSpread, row_at}
use Rattle.filters_paths.proofs.SpreadLaws.{spreading_more, row_edges, last_waiting}
use Rattle.filters_paths.proofs.living.living_nodes.Goals as goal

pub mark_sources-requires-clause-row : goal.mark_sources-requires-clause-row
mark_sources-requires-clause-row c =
    let rows = c.in_ok-rows.rows.items in
    let low = last_waiting c.args.graph.now c.loop.waiting.items c.pop.new.self.items c.in-Some.node c.loop.invariant.within c.in-Some.ensures.items in
    let lt : c.in-Some.node < length rows = omega (arith, low, c.in_ok-rows.ensures.size) in
    row_edges c.args.graph.now (part_of c.args.target.now) rows c.in-Some.node c.deref.result.now c.in_ok-rows.ensures (c.deref.ensures ∙ get_or_read rows c.in-Some.node c.index.result.now lt c.index.ensures [])

pub loop-preserved : goal.loop-preserved
loop-preserved c =
    let rows = c.in_ok-rows.rows.items in
    let low = last_waiting c.args.graph.now c.loop.waiting.items c.pop.new.self.items c.in-Some.node c.loop.invariant.within c.in-Some.ensures.items in
    let lt : c.in-Some.node < length rows = omega (arith, low, c.in_ok-rows.ensures.size) in
    let row : c.deref.result.now ≡ row_at rows c.in-Some.node = c.deref.ensures ∙ get_or_read rows c.in-Some.node c.index.result.now lt c.index.ensures [] in
    let S : List ℕ → Type 0 = λ xs. AreSpread c.args.graph.now xs c.loop.marks.items c.pop.new.self.items c.mark_sources.new.marks.items c.mark_sources.new.waiting.items in
    spreading_more c.args.graph.now (part_of c.args.target.now) c.args.ends.now c.loop.marks.items c.mark_sources.new.marks.items c.loop.waiting.items c.pop.new.self.items c.mark_sources.new.waiting.items rows c.in-Some.node
    c.in_ok-rows.ensures c.loop.invariant c.in-Some.ensures.items (subst S row c.in_ok-mark_sources-in-Some.ensures)
