use Rattle.std.proofs.Common.{◌∙◌}
use Rattle.filters_paths.proofs.Walks.{unbegun}
use Rattle.filters_paths.proofs.walk.Walk.new.Goals as goal

pub returns-clause-walk : goal.returns-clause-walk
returns-clause-walk c = unbegun c.args.ground.now c.requires _ c.new-2.ensures.items (c.in_ok-left.ensures.items ∙ c.deref.ensures.value) (c.in_ok-search.ensures c.args.ground.now.ends.items c.in_ok-left.left.items)
