use Rattle.std.proofs.Common.{sym, ◌∙◌, refl}
use Rattle.std.proofs.lemmas.Bool.{false≢true}
use Rattle.std.specs.Prelude.{length, IsTrue}
use Rattle.cfa.specs.declared.parts.Scope.{Scope}
use Rattle.cfa.specs.Graph.{scope_fits}
use Rattle.cfa.proofs.Eaches.{each_none, each_more, each_all, each_fails}
use Rattle.cfa.proofs.rest.scopes_fit.Goals as goal

pub loop-scope-init : goal.loop-scope-init
loop-scope-init c = each_none c.args.parts.now.scopes _ c.deref-scope-items.ensures (λ i (s : Scope). IsTrue (scope_fits (length c.args.parts.now.globals) s))

pub returns-then-not-scope_fits : goal.returns-then-not-scope_fits
returns-then-not-scope_fits c = (
  λ t. absurd (false≢true t),
  λ each. absurd (each_fails c.args.parts.now.scopes _ c.deref-scope-items.ensures (λ i (s : Scope). IsTrue (scope_fits (length c.args.parts.now.globals) s)) c.loop-scope.scope-index c.scope-item.result c.loop-scope-test.true c.scope-item.is (λ fits. false≢true (sym c.if-not-scope_fits.true ∙ c.scope_fits.ensures ∙ fits)) each),
)

pub loop-scope-preserved : goal.loop-scope-preserved
loop-scope-preserved c =
    each_more c.args.parts.now.scopes _ c.deref-scope-items.ensures (λ i (s : Scope). IsTrue (scope_fits (length c.args.parts.now.globals) s)) c.loop-scope.scope-index c.scope-item.result c.loop-scope-test.true c.scope-item.is (sym c.scope_fits.ensures ∙ c.if-not-scope_fits.false)
    c.loop-scope.invariant

pub returns : goal.returns
returns c = (λ _. each_all c.args.parts.now.scopes _ c.deref-scope-items.ensures (λ i (s : Scope). IsTrue (scope_fits (length c.args.parts.now.globals) s)) c.loop-scope.scope-index c.loop-scope-test.false c.loop-scope.invariant, λ _. refl)
