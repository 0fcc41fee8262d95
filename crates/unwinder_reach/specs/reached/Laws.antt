-- What follows from the definitions, for those who rest on them.
use Rattle.std.specs.Prelude.{◌≡◌, ℕ, List, Some, slice_get}
use Rattle.cfa.specs.declared.parts.Function.{Function}
use Rattle.cfa.specs.declared.parts.GraphParts.{GraphParts}
use Rattle.cfa.specs.Contexts.{Pair}
use Rattle.unwinder_reach.specs.declared.reached.bounds.Bounds.{Bounds}
use Rattle.unwinder_reach.specs.declared.reached.step.Step.{Step}
use Rattle.unwinder_reach.specs.reached.Reaching.{AreReached, IsReachedWithin}

-- each pair that is reached within the bounds is in the list
abbrev pub EachIsListed : Type 0
EachIsListed =
    (parts : GraphParts) (bounds : Bounds) (f : Function) (pairs : List Pair) (steps : List (List Step)) → AreReached parts bounds f pairs steps → (p : Pair) → IsReachedWithin parts bounds f p → (i : ℕ) × (slice_get pairs i ≡ Some p)
