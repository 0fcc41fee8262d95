-- What follows from the definitions of reached pairs and of the size sum.
use Rattle.std.specs.Prelude.{◌≡◌, ◌≤◌, List, length}
use Rattle.cfa.specs.declared.parts.Function.{Function}
use Rattle.cfa.specs.declared.parts.GraphParts.{GraphParts}
use Rattle.cfa.specs.declared.state.Predicates.{Predicates}
use Rattle.cfa.specs.Contexts.{Pair}
use Rattle.unwinder_reach.specs.declared.reached.bounds.Bounds.{Bounds}
use Rattle.unwinder_reach.specs.declared.reached.step.Step.{Step}
use Rattle.unwinder_reach.specs.reached.Reaching.{AreReached, AreTooMany}
use Rattle.unwinder_reach.specs.unwinding_size.Sizes.{size_sum}

-- any two lists of the pairs that are reached are as long
abbrev pub OneCount : Type 0
OneCount =
    (parts : GraphParts) (bounds : Bounds) (f : Function) (pairs others : List Pair) (steps rows : List (List Step))
    → AreReached parts bounds f pairs steps → AreReached parts bounds f others rows
    → length pairs ≡ length others

-- any two lists of the pairs that are reached, with their steps, have the same size sum
abbrev pub OneSize : Type 0
OneSize =
    (parts : GraphParts) (predicates : Predicates) (bounds : Bounds) (f : Function) (pairs others : List Pair) (steps rows : List (List Step))
    → AreReached parts bounds f pairs steps → AreReached parts bounds f others rows
    → size_sum parts predicates f pairs steps ≡ size_sum parts predicates f others rows

-- the pairs that are reached are too many only where any list of them has more than 50,000
abbrev pub NotTooMany : Type 0
NotTooMany =
    (parts : GraphParts) (bounds : Bounds) (f : Function) (pairs : List Pair) (steps : List (List Step))
    → AreReached parts bounds f pairs steps → length pairs ≤ 50000 → ¬ AreTooMany parts bounds f
