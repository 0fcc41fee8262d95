-- What the letters of a clause name is in the graph.
use Rattle.std.specs.Prelude.{ℕ, Bool, true, false, ◌&&◌, nat_lt, List, [], ◌∷◌, length}
use Rattle.std.specs.List.{list_all}
use Rattle.cfa.specs.declared.parts.GraphParts.{GraphParts}
use Rattle.goals.specs.applied_clauses.Trees.{Tree, nodes, edges, paths, predicate, quoted, dot, plus, repeat}

module _ (parts : GraphParts) where
  abbrev pub is_node : ℕ → Bool
  is_node n = nat_lt n (length parts.nodes)

  abbrev pub is_edge : ℕ → Bool
  is_edge k = nat_lt k (length parts.edges)

  -- a path has an edge, and its edges are there
  abbrev pub has_edges : List ℕ → Bool
  has_edges [] = false
  has_edges (k ∷ rest) = is_edge k && list_all is_edge rest

  -- each node, each edge and each of so many predicates is there, and each path has an edge
  abbrev pub tree_within : ℕ → Tree → Bool
  tree_within count (nodes ns is) = list_all is_node ns && list_all (λ i. nat_lt i count) is
  tree_within count (edges es is) = list_all is_edge es && list_all (λ i. nat_lt i count) is
  tree_within count (paths ps) = list_all has_edges ps
  tree_within count (predicate i) = nat_lt i count
  tree_within count (quoted body text) = tree_within count body
  tree_within count (dot a b) = tree_within count a && tree_within count b
  tree_within count (plus a b) = tree_within count a && tree_within count b
  tree_within count (repeat body least most) = tree_within count body
