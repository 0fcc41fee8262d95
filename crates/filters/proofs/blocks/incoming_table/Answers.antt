use Rattle.std.proofs.Common.{arith, ap, ◌∙◌, ◌≡◌, get_or, length, ◌<◌}
use Rattle.std.proofs.Math.ListN.{length-set}
use Rattle.std.proofs.lemmas.List.{get_or_default}
use Rattle.filters.specs.declared.blocks.Incoming.TheVariants.{Nothing}
use Rattle.filters.proofs.BlocksLaws.{table_more, below_more}
use Rattle.filters.proofs.blocks.incoming_table.Goals as goal

pub loop-edge-preserved : goal.loop-edge-preserved
loop-edge-preserved c =
    let within : c.ends_at-source.result.1 < length c.loop-edge.table.items = omega (arith, c.ends_at-source.ensures.target, c.loop-edge.invariant.size) in
    let lt : c.loop-edge.edge < length c.args.graph.now.edges = omega (arith, ap length c.edges-edge-end.ensures) in
    let slot : c.index.result.now ≡ get_or c.loop-edge.table.items c.ends_at-source.result.1 Nothing = c.index.ensures ∙ get_or_default c.loop-edge.table.items c.ends_at-source.result.1 _ Nothing within in
    record {
      size = length-set c.loop-edge.table.items _ _ ∙ c.loop-edge.invariant.size;
      below = below_more _ c.loop-edge.table.items c.ends_at-source.result.1 c.ends_at-source.result.0 c.index.result.now c.with_source.result c.ends_at-source.ensures.source within c.with_source.ensures c.loop-edge.invariant.below;
      each = table_more c.args.graph.now.edges c.loop-edge.table.items c.loop-edge.edge c.ends_at-source.result.1 c.ends_at-source.result.0 c.index.result.now c.with_source.result lt within c.ends_at-source.ensures.ends slot c.with_source.ensures _ c.loop-edge.invariant.each;
    }
