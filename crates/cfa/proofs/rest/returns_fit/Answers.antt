use Rattle.std.proofs.Common.{sym, ◌∙◌, refl}
use Rattle.std.proofs.lemmas.Bool.{false≢true}
use Rattle.std.specs.Prelude.{IsTrue}
use Rattle.cfa.specs.Graph.{IsExit, is_return}
use Rattle.cfa.proofs.Eaches.{each_none, each_more, each_all, each_fails}
use Rattle.cfa.proofs.rest.returns_fit.Goals as goal

pub loop-edge-init : goal.loop-edge-init
loop-edge-init c = each_none c.args.parts.now.edges _ c.deref-edge-items.ensures (λ i e. IsExit c.args.parts.now e.source → IsTrue (is_return e.operation))

pub returns-then-not-leaves_well : goal.returns-then-not-leaves_well
returns-then-not-leaves_well c = (
  λ t. absurd (false≢true t),
  λ each. absurd (each_fails c.args.parts.now.edges _ c.deref-edge-items.ensures (λ i e. IsExit c.args.parts.now e.source → IsTrue (is_return e.operation)) c.loop-edge.edge-index c.edge-item.result c.loop-edge-test.true c.edge-item.is (λ fits. false≢true (sym c.if-not-leaves_well.true ∙ c.leaves_well.ensures.1 fits)) each),
)

pub loop-edge-preserved : goal.loop-edge-preserved
loop-edge-preserved c =
    each_more c.args.parts.now.edges _ c.deref-edge-items.ensures (λ i e. IsExit c.args.parts.now e.source → IsTrue (is_return e.operation)) c.loop-edge.edge-index c.edge-item.result c.loop-edge-test.true c.edge-item.is (c.leaves_well.ensures.0 c.if-not-leaves_well.false)
    c.loop-edge.invariant

pub returns : goal.returns
returns c = (λ _. each_all c.args.parts.now.edges _ c.deref-edge-items.ensures (λ i e. IsExit c.args.parts.now e.source → IsTrue (is_return e.operation)) c.loop-edge.edge-index c.loop-edge-test.false c.loop-edge.invariant, λ _. refl)
