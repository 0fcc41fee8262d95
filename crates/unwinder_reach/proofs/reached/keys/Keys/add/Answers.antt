use Rattle.std.proofs.Common.{ℕ, List, map, subst}
use Rattle.unwinder_reach.specs.reached.Searching.{IsAdded}
use Rattle.unwinder_reach.proofs.reached.KeySets.{key_added, words}
use Rattle.unwinder_reach.proofs.reached.keys.Keys.add.Goals as goal

pub returns : goal.returns
returns c =
    let Added : List (List ℕ) → Type 0 = λ old. IsAdded c.in_ok-added.added old c.args.key.items (map words c.insert_full.new.self.keys) in
    subst Added c.self.view_is (key_added c.self.inside.set.keys c.insert_full.new.self.keys c.args.key c.in_ok-added.added c.in_ok-added.ensures.added c.in_ok-added.ensures.keys)
