use Rattle.std.proofs.Common.{◌≡◌, length, ◌∙◌}
use Rattle.suite_reduction.proofs.reducing.reduce.Goals as goal

pub kept_with-requires-clause-goals : goal.kept_with-requires-clause-goals
kept_with-requires-clause-goals c =
    let long : length c.deref.result.now ≡ c.goal_count.result = c.deref.ensures.len ∙ c.in_ok-firsts.ensures.many in
    rw long c.goal_count.ensures

pub kept_with-requires-clause-firsts : goal.kept_with-requires-clause-firsts
kept_with-requires-clause-firsts c =
    let long : length c.deref.result.now ≡ c.goal_count.result = c.deref.ensures.len ∙ c.in_ok-firsts.ensures.many in
    rw long (c.deref.ensures.value ∙ c.in_ok-firsts.ensures.firsts)
