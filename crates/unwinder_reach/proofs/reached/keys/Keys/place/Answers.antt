use Rattle.std.proofs.Common.{ℕ, List, map, subst}
use Rattle.unwinder_reach.specs.reached.Searching.{Extends}
use Rattle.unwinder_reach.proofs.reached.KeySets.{grown, key_added, placed, words}
use Rattle.unwinder_reach.proofs.reached.keys.Keys.place.Goals as goal

pub returns-clause-place : goal.returns-clause-place
returns-clause-place c =
    let stored = c.in_ok-number.ensures.stored in placed c.args.key c.insert_full.new.self.keys c.in_ok-number.number stored.0 stored.1 stored.2

pub returns-clause-extends : goal.returns-clause-extends
returns-clause-extends c =
    let After : List (List ℕ) → Type 0 = λ old. Extends old (map words c.insert_full.new.self.keys) in
    subst After c.self.view_is
    (grown (map words c.self.inside.set.keys) (map words c.insert_full.new.self.keys) c.args.key.items c.in_ok-number._added
    (key_added c.self.inside.set.keys c.insert_full.new.self.keys c.args.key c.in_ok-number._added c.in_ok-number.ensures.added c.in_ok-number.ensures.keys))
