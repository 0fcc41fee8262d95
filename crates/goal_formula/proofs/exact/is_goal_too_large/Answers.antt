use Rattle.std.proofs.Common.{◌≡◌, ◌<◌, ◌↔◌, ap, subst, ◌∙◌}
use Rattle.std.specs.Prelude.{IsTrue}
use Rattle.goals.specs.GoalForm.{GoalForm}
use Rattle.patterns.specs.Letters.{form}
use Rattle.goal_formula.specs.Sizes.{size_of}
use Rattle.goal_formula.proofs.Reading.{read_goal}
use Rattle.goal_formula.proofs.exact.is_goal_too_large.Goals as goal

pub returns : goal.returns
returns c = λ g at.
    let read = read_goal c.args.plan.now.goals c.deref.result.now c.args.goal c.index-deref-place.result g c.deref.ensures c.requires.some c.requires.there c.index-deref-place.is at in
    let pattern : form c.in_ok-pattern.pattern ≡ form g.pattern = ap form (c.in_ok-pattern.ensures ∙ ap (λ (q : GoalForm). q.pattern) read) in
    subst (λ p. IsTrue c.is_too_large.result ↔ (8388608 < size_of c.args.plan.now p c.args.pairs)) pattern c.is_too_large.ensures
