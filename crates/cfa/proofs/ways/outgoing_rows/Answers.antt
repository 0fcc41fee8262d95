use Rattle.std.proofs.Common.{◌∙◌, arith}
use Rattle.std.proofs.Math.ListN.{length-set}
use Rattle.cfa.specs.declared.parts.Edge.{Edge}
use Rattle.cfa.proofs.Eaches.{read_at}
use Rattle.cfa.proofs.Rows.{rows_more}
use Rattle.cfa.proofs.ways.outgoing_rows.Goals as goal

pub index_mut-row-requires : goal.index_mut-row-requires
index_mut-row-requires c =
    let fits = c.requires.edges c.loop-i.i c.edge-item.result (read_at _ _ c.deref-edge-items.ensures c.loop-i.i c.edge-item.result c.loop-i-test.true c.edge-item.is) in
    omega (arith, fits.source, c.loop-i.invariant.long, c.loop-i.rows.ok)

pub loop-i-preserved : goal.loop-i-preserved
loop-i-preserved c =
    let fits = c.requires.edges c.loop-i.i c.edge-item.result (read_at _ _ c.deref-edge-items.ensures c.loop-i.i c.edge-item.result c.loop-i-test.true c.edge-item.is) in
    record {
      long = length-set c.loop-i.rows.items _ _ ∙ c.loop-i.invariant.long;
      each = rows_more (λ (e : Edge). e.source) _ _ c.deref-edge-items.ensures c.loop-i.i c.edge-item.result c.loop-i.rows.items c.index_mut-row.result.now c.push-in-loop-i.new.self
          c.loop-i-test.true c.edge-item.is (omega (arith, fits.source, c.loop-i.invariant.long)) c.index_mut-row.ensures.value c.in_ok-push-2.ensures.ok c.loop-i.invariant.each;
    }
