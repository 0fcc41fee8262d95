use Rattle.std.proofs.Common.{◌+◌, Some, refl, sym, ap, ◌∙◌, subst}
use Rattle.cfa.specs.Contexts.{callers_of}
use Rattle.unwinder_reach.specs.reached.Searching.{AreNumbered}
use Rattle.unwinder_reach.proofs.reached.KeyLaws.{frame_numbered}
use Rattle.unwinder_reach.proofs.reached.frames.number_of.Goals as goal

pub returns-else-place-clause-number : goal.returns-else-place-clause-number
returns-else-place-clause-number c h =
    subst (λ fs. AreNumbered c.place.new.self fs (c.in_ok-place-in-Some.place + 1)) (sym c.in-Some.ensures)
    (frame_numbered c.args.table.now c.place.new.self c.in-Some.frame.now c.in-Some.field-0-1.now c.args.callers c.in_ok-place-in-Some.place (c.in_ok-place-in-Some.place + 1) c.in_ok-place-in-Some.ensures.extends
    (subst (λ fs. AreNumbered c.args.table.now (callers_of fs) c.args.callers) c.in-Some.ensures h) (c.in_ok-place-in-Some.ensures.place ∙ ap Some c.in_ok-entry-in-Some.ensures) refl)
