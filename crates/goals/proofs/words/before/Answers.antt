use Rattle.std.proofs.Common.{◌∙◌, ◌++◌, map}
use Rattle.goals.proofs.words.before.Goals as goal

pub returns : goal.returns
returns c =
    c.in_ok-all.ensures ∙ (λ i. c.new-none.ensures i ++ map (λ w. (c.deref.ensures ∙ c.in_ok-first.ensures) i ++ w) c.args.words.now)
