-- What follows from the definitions, for those who rest on them.
use Rattle.std.specs.Prelude.{ℕ, List, length}
use Rattle.cfa.specs.Graph.{IsGraph}
use Rattle.c_typed_trees.specs.declared.unit.Typed.{Typed}
use Rattle.c_typed_trees.specs.Fitting.{IsFitting}
use Rattle.c_lower_rules.specs.graph_of.GraphOf.{graph_of}

-- the table makes an automaton of each unit that fits
abbrev pub GraphsFit : Type 0
GraphsFit = (t : Typed) (files : List (List ℕ)) → IsFitting t (length files) → IsGraph (graph_of t files)
