use Rattle.std.proofs.Common.{sym, ◌∙◌, refl}
use Rattle.std.proofs.lemmas.Bool.{false≢true}
use Rattle.std.proofs.lemmas.List.{get_or_default}
use Rattle.cfa.specs.Graph.{NodeFits}
use Rattle.cfa.proofs.Eaches.{each_none, each_more, each_all, each_fails}
use Rattle.cfa.proofs.rest.nodes_fit.Goals as goal

pub loop-node-init : goal.loop-node-init
loop-node-init c = each_none c.args.parts.now.nodes _ c.deref-node-items.ensures (λ i n. NodeFits c.args.parts.now n)

pub returns-then-not-node_fits : goal.returns-then-not-node_fits
returns-then-not-node_fits c = (
  λ t. absurd (false≢true t),
  λ each. absurd (each_fails c.args.parts.now.nodes _ c.deref-node-items.ensures (λ i n. NodeFits c.args.parts.now n) c.loop-node.node-index _ c.loop-node-test.true (get_or_default _ _ _ _ c.loop-node-test.true) (λ fits. false≢true (sym c.if-not-node_fits.true ∙ c.node_fits.ensures.1 fits)) each),
)

pub loop-node-preserved : goal.loop-node-preserved
loop-node-preserved c =
    each_more c.args.parts.now.nodes _ c.deref-node-items.ensures (λ i n. NodeFits c.args.parts.now n) c.loop-node.node-index _ c.loop-node-test.true (get_or_default _ _ _ _ c.loop-node-test.true) (c.node_fits.ensures.0 c.if-not-node_fits.false)
    c.loop-node.invariant

pub returns : goal.returns
returns c = (λ _. each_all c.args.parts.now.nodes _ c.deref-node-items.ensures (λ i n. NodeFits c.args.parts.now n) c.loop-node.node-index c.loop-node-test.false c.loop-node.invariant, λ _. refl)
