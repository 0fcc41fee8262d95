-- A target graph as a walk over its paths needs it.
use Rattle.std.specs.Prelude.{◌≡◌, ℕ, ◌^◌, ◌<◌, Bool, ◌&&◌, List, length}
use Rattle.std.specs.List.{filter, range_with_len}
use Rattle.cfa.specs.declared.parts.Edge.{Edge}
use Rattle.cfa.specs.declared.parts.GraphParts.{GraphParts}
use Rattle.filters.specs.Parts.{Part, IsWithin, part_of, edge_has, is_marked}
use Rattle.filters_paths.specs.declared.ground.Ground.{Ground}
use Rattle.filters_paths.specs.Paths.{is_start_node, is_end_node}
use Rattle.filters_paths.specs.Uses.{AreLiving, AreUses}

-- a path may begin by the edge of this number
abbrev pub is_first : GraphParts → Part → ℕ → Bool
is_first parts a k = a.edge k && edge_has parts (λ (e : Edge). is_start_node parts a e.source) k

-- the edges by which paths begin, rising
abbrev pub first_edges : GraphParts → Part → List ℕ
first_edges parts a = filter (is_first parts a) (range_with_len 0 (length parts.edges))

abbrev pub parts_of : Ground → GraphParts
parts_of g = g.graph.now

abbrev pub part_in : Ground → Part
part_in g = part_of g.target.now

-- the tables are those of the graph and the target graph, which lies within it
pub record IsGround (g : Ground) : Type 0 where
  pub within : IsWithin (parts_of g) (part_in g)
  pub few : length (parts_of g).edges < 2 ^ 32
  pub few_nodes : length (parts_of g).nodes < 2 ^ 32
  pub bound : g.bound < 2 ^ 32
  pub ends_size : length g.ends.items ≡ length (parts_of g).nodes
  pub ends : (n : ℕ) → n < length (parts_of g).nodes → is_marked g.ends.items n ≡ is_end_node (parts_of g) (part_in g) n
  pub firsts : g.firsts.items ≡ first_edges (parts_of g) (part_in g)
  pub living : List Bool
  pub lives : AreLiving (parts_of g) (part_in g) g.ends.items living
  pub uses : AreUses (parts_of g) (part_in g) living g.bound g.uses.items
