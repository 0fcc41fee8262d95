use Rattle.std.proofs.Common.{◌∙◌, ◌++◌, ◌∷◌, [], ap}
use Rattle.search.proofs.StepLaws.{plain_some, popped_jump, popped_none, popped_step}
use Rattle.search.specs.declared.moves.Step.{Step}
use Rattle.search.proofs.history.last_move.Goals as goal

pub unreachable-requires : goal.unreachable-requires
unreachable-requires c =
    let is = c.in-Some.ensures.items ∙ ap (λ (s : Step). c.pop.new.self.items ++ s ∷ []) c.in-Jump.is in
    popped_none c.args.steps.now.items c.pop.new.self.items c.args.lines.now c.in-Jump.cut is c.in-None.ensures.0 c.requires

pub returns-in_ok-line-in-Some-pop-clause-some : goal.returns-in_ok-line-in-Some-pop-clause-some
returns-in_ok-line-in-Some-pop-clause-some c =
    let is = c.in-Some.ensures.items ∙ ap (λ (s : Step). c.pop.new.self.items ++ s ∷ []) c.in-Jump.is in
    rw c.in_ok-line-in-Some-pop.ensures
    (popped_jump c.args.steps.now.items c.pop.new.self.items c.args.lines.now c.pop-in-Jump.new.self c.in-Jump.cut c.in-Some-pop.line is c.in-Some-pop.ensures c.requires)

pub returns-in_default-step : goal.returns-in_default-step
returns-in_default-step c =
    let found = plain_some c.in-Some.step c.in_default-step.not-Jump in
    let made = c.plain_move.ensures ∙ found.1 in
    rw made record { none = tt; some = popped_step c.args.steps.now.items c.pop.new.self.items c.args.lines.now c.in-Some.step found.0 c.in-Some.ensures.items found.1 c.requires }
