use Rattle.std.proofs.Common.{sym, ◌∙◌, refl}
use Rattle.std.proofs.lemmas.Bool.{false≢true}
use Rattle.cfa.specs.Graph.{FunctionFits}
use Rattle.cfa.proofs.Eaches.{each_none, each_more, each_all, each_fails}
use Rattle.cfa.proofs.rest.functions_fit.Goals as goal

pub loop-i-init : goal.loop-i-init
loop-i-init c = each_none c.args.parts.now.functions _ c.deref-function-items.ensures (FunctionFits c.args.parts.now)

pub returns-then-not-function_fits : goal.returns-then-not-function_fits
returns-then-not-function_fits c = (
  λ t. absurd (false≢true t),
  λ each. absurd (each_fails c.args.parts.now.functions _ c.deref-function-items.ensures (FunctionFits c.args.parts.now) c.loop-i.i c.function-item.result c.loop-i-test.true c.function-item.is (λ fits. false≢true (sym c.if-not-function_fits.true ∙ c.function_fits.ensures.1 fits)) each),
)

pub loop-i-preserved : goal.loop-i-preserved
loop-i-preserved c =
    each_more c.args.parts.now.functions _ c.deref-function-items.ensures (FunctionFits c.args.parts.now) c.loop-i.i c.function-item.result c.loop-i-test.true c.function-item.is (c.function_fits.ensures.0 c.if-not-function_fits.false)
    c.loop-i.invariant

pub returns : goal.returns
returns c = (λ _. each_all c.args.parts.now.functions _ c.deref-function-items.ensures (FunctionFits c.args.parts.now) c.loop-i.i c.loop-i-test.false c.loop-i.invariant, λ _. refl)
