use Rattle.std.proofs.lemmas.Int.{to_z-of_z}
use Rattle.search.proofs.ListsLaws.{removed, watchers_of-other}
use Rattle.search.proofs.watching.remove_watcher.Goals as goal

pub returns-clause-rest : goal.returns-clause-rest
returns-clause-rest c =
    let key = rw (to_z-of_z _ _ c.ranges.literal) at c.literal_key.ensures.value in
    let value = rw key at c.index_mut-list.ensures.value in
    λ test. rw key (removed c.args.watchers.now.items c.args.literal c.index_mut-list.result.now c.swap_remove.new.self c.args.at test c.swap_remove.result c.requires.at value c.swap_remove.ensures.value c.swap_remove.ensures.items)

pub returns-clause-others : goal.returns-clause-others
returns-clause-others c =
    let key = rw (to_z-of_z _ _ c.ranges.literal) at c.literal_key.ensures.value in
    λ x h. rw key (watchers_of-other c.args.watchers.now.items c.args.literal x c.swap_remove.new.self h)
