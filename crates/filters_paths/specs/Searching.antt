-- Searches for a way to the end of a path.
use Rattle.std.specs.Prelude.{◌≡◌, ℕ, ◌<◌, ◌≤◌, ◌⊎◌, Bool, true, false, ◌&&◌, ◌||◌, ◌==◌, nat_lt, List, [], ◌∷◌, ◌++◌, Some, length, take, All, Contains, slice_get, slice_index}
use Rattle.cfa.specs.declared.parts.Edge.{Edge}
use Rattle.cfa.specs.declared.parts.GraphParts.{GraphParts}
use Rattle.filters.specs.Parts.{edge_has, is_marked}
use Rattle.filters_paths.specs.declared.search.Search.{Search}

-- a way from a node, by edges with uses left, to an end
abbrev pub is_way : GraphParts → List Bool → List ℕ → ℕ → List ℕ → Bool
is_way parts ends left n [] = is_marked ends n
is_way parts ends left n (k ∷ rest) = nat_lt 0 (slice_index left k) && edge_has parts (λ (e : Edge). (e.source == n) && is_way parts ends left e.target rest) k

-- a search that found no end met the node, and its layer is still there
abbrev pub is_dead : Search → ℕ → Bool
is_dead s n = nat_lt (slice_index s.levels.items n) (length s.layers.items) && (slice_index s.layers.items (slice_index s.levels.items n) == slice_index s.met.items n)

-- a node is dead, in the layer of another one or in an earlier one
abbrev pub IsBelow : Search → ℕ → ℕ → Type 0
IsBelow s n m = (is_dead s m ≡ true) × (slice_index s.levels.items m ≤ slice_index s.levels.items n)

-- A mark and a level for each node, and no mark and no layer from a later search. No dead node is an end, and each edge
-- with uses left that leaves one leads to another, of its layer or an earlier one. So none of them leads to an end, and
-- the first layers alone are as good.
pub record IsSearch (parts : GraphParts) (ends : List Bool) (left : List ℕ) (s : Search) : Type 0 where
  pub size : length s.met.items ≡ length parts.nodes
  pub depth : length s.levels.items ≡ length parts.nodes
  pub marks : (n : ℕ) → slice_index s.met.items n ≤ s.round
  pub layers : (i : ℕ) → slice_index s.layers.items i ≤ s.round
  pub dead : (n : ℕ) → is_dead s n ≡ true → is_marked ends n ≡ false
  pub closed : (k : ℕ) (e : Edge) → slice_get parts.edges k ≡ Some e → 0 < slice_index left k → is_dead s e.source ≡ true → IsBelow s e.source e.target

-- the search has met a node
abbrev pub is_met : Search → ℕ → Bool
is_met s n = slice_index s.met.items n == s.round

-- the search needn't go to a node: it has met it, or it is dead
abbrev pub is_past : Search → ℕ → Bool
is_past s n = is_met s n || is_dead s n

-- No node that was met is an end. Each edge with uses left that leaves one leads to another or to a dead node, or waits,
-- or leads to a node at which the search just arrives.
pub record IsSearching (parts : GraphParts) (ends : List Bool) (left : List ℕ) (arriving : ℕ → Type 0) (s : Search) : Type 0 where
  pub search : IsSearch parts ends left s
  pub fresh : (i : ℕ) → slice_index s.layers.items i < s.round
  pub top : (n : ℕ) → is_met s n ≡ true → slice_index s.levels.items n ≡ length s.layers.items
  pub waiting : All (λ k. k < length parts.edges) s.waiting.items
  pub inner : (n : ℕ) → is_met s n ≡ true → is_marked ends n ≡ false
  pub edges : (k : ℕ) (e : Edge) → slice_get parts.edges k ≡ Some e → 0 < slice_index left k → is_met s e.source ≡ true → (is_past s e.target ≡ true) ⊎ (Contains s.waiting.items k ⊎ arriving e.target)

-- the nodes to which the search needn't go stay so
abbrev pub KeepsPast : Search → Search → Type 0
KeepsPast s t = (n : ℕ) → is_past s n ≡ true → is_past t n ≡ true

-- the marks and levels of nodes stay as they are
abbrev pub KeepsNodes : Search → Search → Type 0
KeepsNodes s t = (t.met.items ≡ s.met.items) × (t.levels.items ≡ s.levels.items) × (t.round ≡ s.round)

-- and the layers
abbrev pub KeepsMarks : Search → Search → Type 0
KeepsMarks s t = (t.met.items ≡ s.met.items) × (t.levels.items ≡ s.levels.items) × (t.round ≡ s.round) × (t.layers.items ≡ s.layers.items)

-- nothing but layers is gone, from some one on, and of an edge's ends the target is dead where the source is
pub record IsReopened (s : Search) (source target : ℕ) (t : Search) : Type 0 where
  pub nodes : KeepsNodes s t
  pub count : ℕ
  pub layers : t.layers.items ≡ take count s.layers.items
  pub below : is_dead t source ≡ true → IsBelow t source target

-- there is one layer more, of the search's number
abbrev pub IsSealed : Search → Search → Type 0
IsSealed s t = KeepsNodes s t × (t.layers.items ≡ s.layers.items ++ s.round ∷ [])

-- a mark for each node, and a count for each edge
pub record HaveTables (parts : GraphParts) (ends : List Bool) (left : List ℕ) : Type 0 where
  pub nodes : length ends ≡ length parts.nodes
  pub edges : length left ≡ length parts.edges
