-- What follows from the definition of the list of paths.
use Rattle.std.specs.Prelude.{◌≡◌, ◌↔◌, ℕ, List, Contains, IsTrue}
use Rattle.std.specs.Cmp.Lexicographic.{slice_cmp}
use Rattle.std.specs.List.Sorted.{IsStrictlySortedBy}
use Rattle.std.specs.Ordering.{nat_cmp}
use Rattle.cfa.specs.declared.parts.GraphParts.{GraphParts}
use Rattle.filters.specs.declared.target_graph.TargetGraph.{TargetGraph}
use Rattle.filters.specs.Parts.{Part, IsWithin, part_of}
use Rattle.filters_paths.specs.Paths.{is_path, paths_of}

-- the paths, whatever their length, each once and strictly rising in lexicographic order, a prefix before what it begins
pub record ArePaths (parts : GraphParts) (a : Part) (k : ℕ) (paths : List (List ℕ)) : Type 0 where
  pub rise : IsStrictlySortedBy (slice_cmp nat_cmp) paths
  pub each : (path : List ℕ) → Contains paths path ↔ IsTrue (is_path parts a k path)

-- of a target graph within the graph, the list of paths is the rising list of exactly the paths
abbrev pub PathsRise : Type 0
PathsRise = (parts : GraphParts) (target : TargetGraph) (k : ℕ) → IsWithin parts (part_of target) → ArePaths parts (part_of target) k (paths_of parts target k)

-- there is no other such list
abbrev pub OneList : Type 0
OneList = (parts : GraphParts) (a : Part) (k : ℕ) (one other : List (List ℕ)) → ArePaths parts a k one → ArePaths parts a k other → one ≡ other
