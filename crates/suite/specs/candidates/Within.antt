-- Which edges stay within bounds.
use Rattle.std.specs.Prelude.{ℕ, List, ◌∷◌}
use Rattle.cfa.specs.Contexts.{Pair, first_pair}
use Rattle.cfa.specs.Each.{Each}
use Rattle.cfa.specs.declared.parts.Function.{Function}
use Rattle.cfa.specs.declared.parts.GraphParts.{GraphParts}
use Rattle.c_meaning.specs.Pairs.{pairs_along}
use Rattle.unwinder_reach.specs.reached.Reaching.{IsWithinBounds}
use Rattle.unwinder_reach.specs.declared.reached.bounds.Bounds.{Bounds}

-- a pair, and each after one of these edges, is within the bounds
abbrev pub AreWithinFrom : GraphParts → Bounds → Pair → List ℕ → Type 0
AreWithinFrom parts bounds p edges = Each (p ∷ pairs_along parts p edges) (λ n q. IsWithinBounds bounds q.context)

-- the pairs of node and context along these edges, from the entry of a function, are within the bounds
abbrev pub AreEdgesWithin : GraphParts → Bounds → Function → List ℕ → Type 0
AreEdgesWithin parts bounds f edges = AreWithinFrom parts bounds (first_pair f) edges
