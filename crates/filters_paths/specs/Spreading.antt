-- Marks that spread against the direction of edges.
use Rattle.std.specs.Prelude.{◌≡◌, ◌⊎◌, ℕ, ◌<◌, Bool, true, List, [], Some, All, Contains, length, slice_get, slice_index_or}
use Rattle.cfa.specs.declared.parts.Edge.{Edge}
use Rattle.cfa.specs.declared.parts.GraphParts.{GraphParts}
use Rattle.filters.specs.Parts.{Part, is_marked}

-- the row of a node
abbrev pub row_at : List (List ℕ) → ℕ → List ℕ
row_at rows n = slice_index_or rows n []

-- by node, the edges of the part that lead to it, and no number that isn't an edge's
pub record AreIncoming (parts : GraphParts) (a : Part) (rows : List (List ℕ)) : Type 0 where
  pub size : length rows ≡ length parts.nodes
  pub within : (n k : ℕ) → Contains (row_at rows n) k → k < length parts.edges
  pub each : (k : ℕ) (e : Edge) → slice_get parts.edges k ≡ Some e → a.edge k ≡ true → Contains (row_at rows e.target) k

-- the marks and the nodes that wait, before and after the sources of a row's edges are marked
pub record AreSpread (parts : GraphParts) (row : List ℕ) (marks : List Bool) (waiting : List ℕ) (marks' : List Bool) (waiting' : List ℕ) : Type 0 where
  pub size : length marks' ≡ length parts.nodes
  pub within : All (λ n. n < length parts.nodes) waiting'
  pub kept : (n : ℕ) → is_marked marks n ≡ true → is_marked marks' n ≡ true
  pub waits : (n : ℕ) → Contains waiting n → Contains waiting' n
  pub fresh : (n : ℕ) → is_marked marks' n ≡ true → (is_marked marks n ≡ true) ⊎ Contains waiting' n
  pub sources : (k : ℕ) (e : Edge) → Contains row k → slice_get parts.edges k ≡ Some e → is_marked marks' e.source ≡ true

-- each end is marked, and what leads to a marked node is marked or that node waits
pub record AreSpreading (parts : GraphParts) (a : Part) (ends marks : List Bool) (waiting : List ℕ) : Type 0 where
  pub size : length marks ≡ length parts.nodes
  pub within : All (λ n. n < length parts.nodes) waiting
  pub at_end : (n : ℕ) → is_marked ends n ≡ true → is_marked marks n ≡ true
  pub back : (k : ℕ) (e : Edge) → slice_get parts.edges k ≡ Some e → a.edge k ≡ true → is_marked marks e.target ≡ true → (is_marked marks e.source ≡ true) ⊎ Contains waiting e.target
