use Rattle.std.proofs.Common.{sym, ◌∙◌, refl}
use Rattle.std.proofs.lemmas.Bool.{false≢true}
use Rattle.std.proofs.lemmas.List.{get_or_default}
use Rattle.std.specs.Prelude.{ℕ, IsTrue}
use Rattle.c_values.specs.declared.kinds.Kind.{Kind}
use Rattle.c_values.specs.Kind.{is_kind}
use Rattle.cfa.proofs.Eaches.{each_none, each_more, each_all, each_fails}
use Rattle.cfa.proofs.rest.global_kinds_fit.Goals as goal

pub loop-global-init : goal.loop-global-init
loop-global-init c = each_none c.args.parts.now.globals _ c.deref-global-items.ensures (λ i (global : Kind × ℕ). IsTrue (is_kind global.0))

pub returns-then-not-is_kind : goal.returns-then-not-is_kind
returns-then-not-is_kind c = (
  λ t. absurd (false≢true t),
  λ each. absurd (each_fails c.args.parts.now.globals _ c.deref-global-items.ensures (λ i (global : Kind × ℕ). IsTrue (is_kind global.0)) c.loop-global.global-index _ c.loop-global-test.true (get_or_default _ _ _ _ c.loop-global-test.true) (λ fits. false≢true (sym c.if-not-is_kind.true ∙ c.is_kind.ensures ∙ fits)) each),
)

pub loop-global-preserved : goal.loop-global-preserved
loop-global-preserved c =
    each_more c.args.parts.now.globals _ c.deref-global-items.ensures (λ i (global : Kind × ℕ). IsTrue (is_kind global.0)) c.loop-global.global-index _ c.loop-global-test.true (get_or_default _ _ _ _ c.loop-global-test.true) (sym c.is_kind.ensures ∙ c.if-not-is_kind.false)
    c.loop-global.invariant

pub returns : goal.returns
returns c = (λ _. each_all c.args.parts.now.globals _ c.deref-global-items.ensures (λ i (global : Kind × ℕ). IsTrue (is_kind global.0)) c.loop-global.global-index c.loop-global-test.false c.loop-global.invariant, λ _. refl)
