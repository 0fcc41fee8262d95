use Rattle.std.proofs.Common.{◌≡◌, Some, None, option_copied, refl, sym, ap, subst, ◌∙◌, slice_get}
use Rattle.c_typed_trees.specs.declared.unit.Typed.{Typed}
use Rattle.tree_meaning.specs.declared.machine.Machine.{Machine}
use Rattle.tree_meaning.specs.declared.task.ValueTask.TheVariants as value
use Rattle.tree_meaning.specs.declared.way.Way.TheVariants.{GoesOn}
use Rattle.tree_meaning.specs.Running.{FitStatements, FitUnit}
use Rattle.tree_meaning.specs.Tasks.{behind, value_does, with_way}
use Rattle.tree_meaning.proofs.CallSteps.{begin_none, begin_some}
use Rattle.tree_meaning.proofs.StatementFits.{body_fit}
use Rattle.tree_meaning.proofs.calls.begin.Goals as goal

pub push-requires-in-Some : goal.push-requires-in-Some
push-requires-in-Some c =
    let found : slice_get c.unit.result.now.functions c.args.callee ≡ Some c.in-Some.function.now = sym c.get.ensures ∙ ap option_copied c.in-Some.is in
    subst FitStatements (sym c.deref-in-Some-2.ensures) (body_fit c.unit.result.now c.args.callee c.in-Some.function.now found (subst FitUnit (sym c.unit.ensures.unit) c.unit.ensures.fits))

pub returns-in-None-clause-err : goal.returns-in-None-clause-err
returns-in-None-clause-err c =
    let none : slice_get c.unit.result.now.functions c.args.callee ≡ None = sym c.get.ensures ∙ ap option_copied c.in-None.is in
    begin_none c.args.tasks.now c.args.tasks.now c.args.machine.now c.args.tree c.args.callee c.args.outer c.in_ok-activation.activation c.in_ok-activation.words c.begun.new.store
    (rw (c.deref.ensures, c.deref-2.ensures, c.deref-3.ensures) at c.in_ok-activation.ensures.made)
    _ (subst (λ (u : Typed). slice_get u.functions c.args.callee ≡ None) c.unit.ensures.unit none) refl

pub returns-in_ok-push-in-Some-2-clause-made : goal.returns-in_ok-push-in-Some-2-clause-made
returns-in_ok-push-in-Some-2-clause-made c =
    let found : slice_get c.unit.result.now.functions c.args.callee ≡ Some c.in-Some.function.now = sym c.get.ensures ∙ ap option_copied c.in-Some.is in
    begin_some c.args.tasks.now c.push-in-Some.new.self c.args.machine.now c.args.tree c.args.callee c.args.outer c.in_ok-activation.activation c.in_ok-activation.words c.begun.new.store
    (rw (c.deref.ensures, c.deref-2.ensures, c.deref-3.ensures) at c.in_ok-activation.ensures.made)
    c.in-Some.function.now c.deref-in-Some-2.result c.enter.new.self c.push.new.self c.leave_off.new.self
    (subst (λ (u : Typed). slice_get u.functions c.args.callee ≡ Some c.in-Some.function.now) c.unit.ensures.unit found)
    c.deref-in-Some-2.ensures
    (rw c.deref-in-Some.ensures at c.in_ok-enter-in-Some.ensures)
    c.in_ok-push-in-Some-2.ensures
    (c.in_ok-push-in-Some.ensures ∙ (λ j. value_does (value.Leave (c.enter-caller.ensures.caller j) c.args.outer (c.enter-caller.ensures.rest j).way) (behind c.args.tasks.now)))
    (c.leave_off.ensures ∙ ap (λ (q : Machine). with_way q GoesOn q.store) c.enter-caller.ensures.rest)
