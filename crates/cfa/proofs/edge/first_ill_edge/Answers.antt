use Rattle.std.proofs.Common.{length, ap, sym, ◌∙◌, arith}
use Rattle.std.proofs.lemmas.Bool.{false≢true}
use Rattle.cfa.specs.Graph.{EdgeFits}
use Rattle.cfa.proofs.Eaches.{each_none, each_more, each_all, each_ill}
use Rattle.cfa.proofs.edge.first_ill_edge.Goals as goal

pub loop-i-init : goal.loop-i-init
loop-i-init c = each_none _ _ c.deref-edge-items.ensures (EdgeFits c.args.parts.now)

pub returns-then-not-edge_fits : goal.returns-then-not-edge_fits
returns-then-not-edge_fits c =
    let here = c.edge-item.result in
    let within = c.loop-i-test.true in
    let same = c.deref-edge-items.ensures in
    record {
      within = omega (arith, ap length same);
      ill = each_ill _ _ same (EdgeFits c.args.parts.now) c.loop-i.i here within c.edge-item.is (λ fits. false≢true (sym c.if-not-edge_fits.true ∙ c.edge_fits.ensures.1 fits));
      before = λ i e below there. c.loop-i.invariant i e below there;
    }

pub loop-i-preserved : goal.loop-i-preserved
loop-i-preserved c =
    each_more _ _ c.deref-edge-items.ensures (EdgeFits c.args.parts.now) c.loop-i.i c.edge-item.result c.loop-i-test.true c.edge-item.is (c.edge_fits.ensures.0 c.if-not-edge_fits.false)
    c.loop-i.invariant

pub returns : goal.returns
returns c = each_all _ _ c.deref-edge-items.ensures (EdgeFits c.args.parts.now) c.loop-i.i c.loop-i-test.false c.loop-i.invariant
