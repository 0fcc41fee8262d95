-- What follows from the definition, for those who rest on it.
use Rattle.std.specs.Prelude.{ℕ, List}
use Rattle.cfa.specs.Contexts.{IsOnce}
use Rattle.cfa.specs.Graph.{IsGraph}
use Rattle.c_typed_trees.specs.declared.unit.Typed.{Typed}
use Rattle.c_lower_rules.specs.graph_of.GraphOf.{graph_of}

-- no walk over the graph of a unit comes to one pair of node and context twice, and each back edge has a counter to raise
abbrev pub GraphsAreOnce : Type 0
GraphsAreOnce = (t : Typed) (files : List (List ℕ)) → IsGraph (graph_of t files) → IsOnce (graph_of t files)
