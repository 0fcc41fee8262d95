-- Where what is made sits in a graph.
use Rattle.std.specs.Prelude.{◌≡◌, ℕ, ◌+◌, List, [], ◌∷◌, Some, slice_get}
use Rattle.cfa.specs.declared.parts.GraphParts.{GraphParts}
use Rattle.c_lower_rules.specs.declared.graph_of.parts.Parts.{Parts}

-- from a place on a list goes on with another
abbrev pub Holds : {A : Type 0} → List A → ℕ → List A → Type 0
Holds xs n [] = Unit {0}
Holds xs n (y ∷ ys) = (slice_get xs n ≡ Some y) × Holds xs (n + 1) ys

-- what is made sits in a graph at these numbers
pub record Sits (graph : GraphParts) (m : Parts) (n e k : ℕ) : Type 0 where
  pub nodes : Holds graph.nodes n m.nodes
  pub edges : Holds graph.edges e m.edges
  pub scopes : Holds graph.scopes k m.scopes
