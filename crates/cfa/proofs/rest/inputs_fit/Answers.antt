use Rattle.std.proofs.Common.{sym, ◌∙◌, refl}
use Rattle.std.proofs.lemmas.Bool.{false≢true}
use Rattle.std.specs.Prelude.{IsTrue}
use Rattle.c_values.specs.Kind.{is_kind}
use Rattle.cfa.specs.declared.parts.InputFunction.{InputFunction}
use Rattle.cfa.proofs.Eaches.{each_none, each_more, each_all, each_fails}
use Rattle.cfa.proofs.rest.inputs_fit.Goals as goal

pub loop-input-init : goal.loop-input-init
loop-input-init c = each_none c.args.parts.now.inputs _ c.deref-input-items.ensures (λ i (input : InputFunction). IsTrue (is_kind input.result))

pub returns-then-not-is_kind : goal.returns-then-not-is_kind
returns-then-not-is_kind c = (
  λ t. absurd (false≢true t),
  λ each. absurd (each_fails c.args.parts.now.inputs _ c.deref-input-items.ensures (λ i (input : InputFunction). IsTrue (is_kind input.result)) c.loop-input.input-index c.input-item.result c.loop-input-test.true c.input-item.is (λ fits. false≢true (sym c.if-not-is_kind.true ∙ c.is_kind.ensures ∙ fits)) each),
)

pub loop-input-preserved : goal.loop-input-preserved
loop-input-preserved c =
    each_more c.args.parts.now.inputs _ c.deref-input-items.ensures (λ i (input : InputFunction). IsTrue (is_kind input.result)) c.loop-input.input-index c.input-item.result c.loop-input-test.true c.input-item.is (sym c.is_kind.ensures ∙ c.if-not-is_kind.false)
    c.loop-input.invariant

pub returns : goal.returns
returns c = (λ _. each_all c.args.parts.now.inputs _ c.deref-input-items.ensures (λ i (input : InputFunction). IsTrue (is_kind input.result)) c.loop-input.input-index c.loop-input-test.false c.loop-input.invariant, λ _. refl)
