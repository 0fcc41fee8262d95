use Rattle.std.proofs.Common.{sym, ◌∙◌, refl}
use Rattle.std.proofs.lemmas.Bool.{false≢true}
use Rattle.std.proofs.lemmas.List.{get_or_default}
use Rattle.std.proofs.Common.{get_or}
use Rattle.cfa.specs.Graph.{IsExit, Continues, edges_from}
use Rattle.cfa.proofs.Eaches.{each_none, each_more, each_all, each_fails}
use Rattle.cfa.proofs.ways.ways_fit.Goals as goal

pub loop-i-init : goal.loop-i-init
loop-i-init c = each_none c.args.parts.now.nodes _ c.deref-node-items.ensures (λ i n. ¬ IsExit c.args.parts.now i → Continues (edges_from c.args.parts.now i))

pub returns-then-not-goes_on : goal.returns-then-not-goes_on
returns-then-not-goes_on c = (
  λ t. absurd (false≢true t),
  λ each. absurd (each_fails c.args.parts.now.nodes _ c.deref-node-items.ensures (λ i n. ¬ IsExit c.args.parts.now i → Continues (edges_from c.args.parts.now i)) c.loop-i.i (get_or c.deref-node-items.result.now c.loop-i.i (record { function = 0; file = 0; line = 0; scope = 0; depth = 0 })) c.loop-i-test.true (get_or_default _ _ _ _ c.loop-i-test.true) (λ fits. false≢true (sym c.if-not-goes_on.true ∙ c.goes_on.ensures.1 fits)) each),
)

pub loop-i-preserved : goal.loop-i-preserved
loop-i-preserved c =
    each_more c.args.parts.now.nodes _ c.deref-node-items.ensures (λ i n. ¬ IsExit c.args.parts.now i → Continues (edges_from c.args.parts.now i)) c.loop-i.i (get_or c.deref-node-items.result.now c.loop-i.i (record { function = 0; file = 0; line = 0; scope = 0; depth = 0 })) c.loop-i-test.true (get_or_default _ _ _ _ c.loop-i-test.true) (c.goes_on.ensures.0 c.if-not-goes_on.false)
    c.loop-i.invariant

pub returns : goal.returns
returns c = (λ _. each_all c.args.parts.now.nodes _ c.deref-node-items.ensures (λ i n. ¬ IsExit c.args.parts.now i → Continues (edges_from c.args.parts.now i)) c.loop-i.i c.loop-i-test.false c.loop-i.invariant, λ _. refl)
