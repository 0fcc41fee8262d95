use Rattle.std.proofs.Common.{◌≡◌, ◌∙◌, ◌<◌, refl, length}
use Rattle.std.proofs.lemmas.Int.{to_z-of_z}
use Rattle.std.proofs.lemmas.List.{length-map}
use Rattle.std.proofs.lemmas.Option.{slice_get_within}
use Rattle.cnf.proofs.literal_marks.MarksLaws.{int_eq-sym}
use Rattle.search.specs.Watching.{list_of, watchers_of}
use Rattle.search.proofs.ReadLaws.{rewatched}
use Rattle.search.proofs.reading.rewatch.Goals as goal

pub remove_watcher-requires : goal.remove_watcher-requires
remove_watcher-requires c =
    let others = rw (to_z-of_z _ _ c.ranges.left) at c.in_ok-add_watcher.ensures.others in
    let same : watchers_of c.add_watcher.new.watchers.items c.args.falsified ≡ watchers_of c.args.watching.now.watchers.items c.args.falsified =
    others c.args.falsified (int_eq-sym c.args.falsified c.args.left ∙ c.requires.apart) in
    let listed : c.args.at < length (list_of c.args.watching.now.watchers.items c.args.falsified) = slice_get_within _ c.args.at c.args.place c.requires.here in
    let within : c.args.at < length (watchers_of c.args.watching.now.watchers.items c.args.falsified) = rw length-map at listed in
    rw (to_z-of_z _ _ c.ranges.falsified) record { at = rw same within }

pub returns : goal.returns
returns c =
    let own = rw (to_z-of_z _ _ c.ranges.left, to_z-of_z _ _ c.ranges.right) at c.in_ok-add_watcher.ensures.own in
    let others = rw (to_z-of_z _ _ c.ranges.left) at c.in_ok-add_watcher.ensures.others in
    let taken = rw (to_z-of_z _ _ c.ranges.falsified) at c.remove_watcher.ensures in
    rw (to_z-of_z _ _ c.ranges.left, to_z-of_z _ _ c.ranges.right)
    (rewatched c.args.watching.now _ c.add_watcher.new.watchers.items c.args.falsified c.args.at c.args.place c.remove_watcher.result record { left = c.args.left; right = c.args.right }
    own others c.requires.here c.requires.apart taken.result taken.length taken.front taken.rest taken.others refl refl (taken.lists ∙ c.in_ok-add_watcher.ensures.length))
