-- Tables of numbers by a key, and the ways on from a node by the numbers of its edges.
use Rattle.std.specs.Prelude.{◌≡◌, ℕ, ◌+◌, Bool, true, false, not, ◌==◌, if◌then◌else◌, List, [], ◌∷◌, length, slice_get, IsTrue}
use Rattle.std.specs.Option.{IsSomeAnd}
use Rattle.cfa.specs.declared.expr.Expr.{Expr}
use Rattle.cfa.specs.declared.parts.Edge.{Edge}
use Rattle.cfa.specs.declared.parts.GraphParts.{GraphParts}
use Rattle.cfa.specs.declared.parts.Operation.{Operation}
use Rattle.cfa.specs.declared.parts.Operation.TheVariants.{Guard}
use Rattle.cfa.specs.Each.{Each}
use Rattle.cfa.specs.Graph.{is_guard}

-- the places of the elements that pass a test, counted from a number on
abbrev pub places_from : {X : Type 0} → (X → Bool) → ℕ → List X → List ℕ
places_from test first [] = []
places_from test first (x ∷ xs) = if test x then first ∷ places_from test (first + 1) xs else places_from test (first + 1) xs

-- the numbers of the edges that leave a node, rising
abbrev pub outgoing_of : GraphParts → ℕ → List ℕ
outgoing_of parts node = places_from (λ (e : Edge). e.source == node) 0 parts.edges

-- a row for each node, with the numbers of the edges that leave it
pub record IsOutgoing (parts : GraphParts) (rows : List (List ℕ)) : Type 0 where
  pub long : length rows ≡ length parts.nodes
  pub each : Each rows (λ node row. row ≡ outgoing_of parts node)

-- the operations of two edges are guards of one test, that of truth first
abbrev pub AreGuards : Operation → Operation → Type 0
AreGuards yes_op no_op = (test : Expr) × (yes_op ≡ Guard test true) × (no_op ≡ Guard test false)

-- by the numbers of edges: one that is no guard, or two guards of one test, that of truth first
abbrev pub ContinuesAt : GraphParts → List ℕ → Type 0
ContinuesAt parts [] = ⊥
ContinuesAt parts (a ∷ []) = IsSomeAnd (slice_get parts.edges a) (λ e. IsTrue (not (is_guard e.operation)))
ContinuesAt parts (a ∷ b ∷ []) = IsSomeAnd (slice_get parts.edges a) (λ e. IsSomeAnd (slice_get parts.edges b) (λ f. AreGuards e.operation f.operation))
ContinuesAt parts (a ∷ b ∷ c ∷ rest) = ⊥
