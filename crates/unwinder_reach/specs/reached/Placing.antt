-- Where the steps of pairs are looked up.
use Rattle.std.specs.Prelude.{◌≤◌, List, ℕ, length}
use Rattle.cfa.specs.declared.parts.GraphParts.{GraphParts}
use Rattle.cfa.specs.Contexts.{Pair}
use Rattle.unwinder_reach.specs.declared.reached.bounds.Bounds.{Bounds}
use Rattle.unwinder_reach.specs.declared.reached.steps.Places.{Places}
use Rattle.unwinder_reach.specs.reached.Searching.{AreKeys, HaveNumbers, IsIn, StaysAmong}

-- Pairs with their keys and numbers, by a table of frames: there are few, and each step from one leads to one of them.
pub record ArePlaces (parts : GraphParts) (bounds : Bounds) (table : List (List ℕ)) (places : Places) : Type 0 where
  pub few : length places.keys ≤ 50000
  pub keys : AreKeys table places.keys places.pairs.items
  pub numbers : HaveNumbers table places.pairs.items places.numbers.items
  pub closed : (p : Pair) → IsIn places.pairs.items p → StaysAmong parts bounds places.pairs.items p
