use Rattle.std.proofs.Common.{◌∙◌, refl}
use Rattle.std.proofs.lemmas.Int.{to_z-of_z}
use Rattle.search.proofs.ReadLaws.{paired}
use Rattle.search.proofs.watching.watch_pair.Goals as goal

pub returns : goal.returns
returns c =
    let first = rw (to_z-of_z _ _ c.ranges.left, to_z-of_z _ _ c.ranges.right) at c.in_ok-add_watcher.ensures in
    let second = rw (to_z-of_z _ _ c.ranges.right, to_z-of_z _ _ c.ranges.left) at c.in_ok-add_watcher-2.ensures in
    let pushed = rw (to_z-of_z _ _ c.ranges.left, to_z-of_z _ _ c.ranges.right) at c.in_ok-push.ensures.items in
    paired c.args.watching.now _ c.add_watcher.new.watchers.items c.args.place record { left = c.args.left; right = c.args.right } first.own first.others second.own second.others
    pushed refl (second.length ∙ first.length)
