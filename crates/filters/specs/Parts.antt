-- Parts of a control flow automaton, as sets of nodes and of edges by their numbers.
use Rattle.std.specs.Prelude.{◌≡◌, ℕ, zero, suc, Bool, true, false, not, ◌&&◌, ◌||◌, ◌==◌, ◌<◌, nat_lt, List, length, slice_get, slice_index_or}
use Rattle.std.specs.List.{list_any}
use Rattle.std.specs.Option.{option_map_or}
use Rattle.cfa.specs.declared.parts.Edge.{Edge}
use Rattle.cfa.specs.declared.parts.GraphParts.{GraphParts}
use Rattle.filters.specs.declared.marks.Marks.{Marks}
use Rattle.filters.specs.declared.target_graph.TargetGraph.{TargetGraph}

-- which nodes and which edges are there
pub record Part : Type 0 where
  pub node : ℕ → Bool
  pub edge : ℕ → Bool

abbrev pub is_among : List ℕ → ℕ → Bool
is_among numbers number = list_any (λ member. member == number) numbers

-- the part that a target graph is
abbrev pub part_of : TargetGraph → Part
part_of t = record { node = is_among t.nodes; edge = is_among t.edges }

-- the whole graph
abbrev pub whole : GraphParts → Part
whole parts = record { node = λ n. nat_lt n (length parts.nodes); edge = λ k. nat_lt k (length parts.edges) }

-- all its nodes and edges are those of the graph
pub record IsWithin (parts : GraphParts) (p : Part) : Type 0 where
  pub nodes : (n : ℕ) → p.node n ≡ true → n < length parts.nodes
  pub edges : (k : ℕ) → p.edge k ≡ true → k < length parts.edges

-- some number below this one passes the test
abbrev pub some_below : (ℕ → Bool) → ℕ → Bool
some_below test zero = false
some_below test (suc n) = some_below test n || test n

-- the edge of a number has a property
abbrev pub edge_has : GraphParts → (Edge → Bool) → ℕ → Bool
edge_has parts property k = option_map_or property (slice_get parts.edges k) false

-- an edge begins or ends at a node
abbrev pub touches : ℕ → Edge → Bool
touches n e = e.source == n || e.target == n

-- a node is an end of some of these edges
abbrev pub is_end : GraphParts → (ℕ → Bool) → ℕ → Bool
is_end parts edges n = some_below (λ k. edges k && edge_has parts (touches n) k) (length parts.edges)

-- these edges, and their ends among these nodes
abbrev pub with_ends : GraphParts → (ℕ → Bool) → (ℕ → Bool) → Part
with_ends parts nodes edges = record { node = λ n. nodes n && is_end parts edges n; edge = edges }

-- the edges of a part that have a property, and their ends in the part
abbrev pub keeping : GraphParts → (Edge → Bool) → Part → Part
keeping parts property a = with_ends parts a.node (λ k. a.edge k && edge_has parts property k)

-- the edges of one part that aren't in another, and their ends in the first
abbrev pub without : GraphParts → Part → Part → Part
without parts a b = with_ends parts a.node (λ k. a.edge k && not (b.edge k))

-- what is in either of two parts
abbrev pub either : Part → Part → Part
either a b = record { node = λ n. a.node n || b.node n; edge = λ k. a.edge k || b.edge k }

-- what is in both
abbrev pub both : Part → Part → Part
both a b = record { node = λ n. a.node n && b.node n; edge = λ k. a.edge k && b.edge k }

-- ---- tables of marks

-- a number is marked
abbrev pub is_marked : List Bool → ℕ → Bool
is_marked marks k = slice_index_or marks k false

-- the part of what is marked
abbrev pub marked : Marks → Part
marked m = record { node = is_marked m.nodes.items; edge = is_marked m.edges.items }

-- a mark for each node and each edge of the graph
pub record IsFull (parts : GraphParts) (m : Marks) : Type 0 where
  pub nodes : length m.nodes.items ≡ length parts.nodes
  pub edges : length m.edges.items ≡ length parts.edges
