-- A depth-first walk over the prefixes of paths.
use Rattle.std.specs.Prelude.{◌≡◌, ℕ, ◌+◌, ◌-◌, ◌*◌, ◌<◌, ◌≤◌, Bool, true, List, [], ◌∷◌, ◌++◌, Option, None, Some, length, map, drop, if◌then◌else◌, All}
use Rattle.std.specs.List.{filter, flat_map, last_or, list_all, range_with_len}
use Rattle.cfa.specs.declared.parts.GraphParts.{GraphParts}
use Rattle.filters.specs.Parts.{Part}
use Rattle.filters_paths.specs.declared.ground.Ground.{Ground}
use Rattle.filters_paths.specs.declared.walk.Step.{Step}
use Rattle.filters_paths.specs.declared.walk.Walk.{Walk}
use Rattle.filters_paths.specs.Ground.{first_edges, parts_of, part_in}
use Rattle.filters_paths.specs.Paths.{begins_at_start, are_joined, is_path, leads_to, occurrences, ordered_lists}
use Rattle.filters_paths.specs.Searching.{IsSearch}
use Rattle.filters_paths.specs.Uses.{AreLeft}

-- ---- the lists behind a prefix

-- those that go on after a prefix by at most so many numbers and pass a test, in order
unfoldable pub extensions : ℕ → (List ℕ → Bool) → ℕ → List ℕ → List (List ℕ)
extensions limit test most p = filter test (map (λ rest. p ++ rest) (ordered_lists limit most))

-- those of at most so many numbers that begin with a prefix
unfoldable pub behind : ℕ → (List ℕ → Bool) → ℕ → List ℕ → List (List ℕ)
behind limit test longest p = extensions limit test (longest - length p) p

-- the paths that begin with a prefix
abbrev pub paths_behind : GraphParts → Part → ℕ → List ℕ → List (List ℕ)
paths_behind parts a most p = behind (length parts.edges) (is_path parts a most) (most * length parts.edges) p

-- ---- the steps of a walk

abbrev pub edges_of : List Step → List ℕ
edges_of steps = map (λ (s : Step). s.edge) steps

module _ (below : List ℕ → List (List ℕ)) (row : List ℕ → List ℕ) where
  -- what goes on after a prefix by the numbers of its row from a place on
  unfoldable pub from_place : List ℕ → ℕ → List (List ℕ)
  from_place p place = flat_map (λ e. below (p ++ e ∷ [])) (drop place (row p))

  -- what comes after the steps that lead on from a prefix
  unfoldable pub later : List ℕ → List Step → List (List ℕ)
  later p [] = []
  later p (s ∷ steps) = later (p ++ s.edge ∷ []) steps ++ from_place p (s.place + 1)

  -- what a walk has still to list that stands after these steps and reads on at a place
  unfoldable pub remaining : List Step → ℕ → List (List ℕ)
  remaining steps place = from_place (edges_of steps) place ++ later [] steps

-- ---- the walk over paths

-- the edges that may follow an edge, or that begin a path, rising
abbrev pub row_after : GraphParts → Part → Option ℕ → List ℕ
row_after parts a None = first_edges parts a
row_after parts a (Some k) = filter (leads_to parts k) (range_with_len 0 (length parts.edges))

-- those that may follow a prefix
abbrev pub row_of : GraphParts → Part → List ℕ → List ℕ
row_of parts a p = row_after parts a (last_or None p)

-- a list of edges that may be the front of a path
pub record IsPrefix (parts : GraphParts) (a : Part) (most : ℕ) (p : List ℕ) : Type 0 where
  pub begins : 0 < length p → begins_at_start parts a p ≡ true
  pub edges : list_all a.edge p ≡ true
  pub joined : are_joined parts p ≡ true
  pub bounded : (k : ℕ) → occurrences k p ≤ most

abbrev pub prefix_of : Walk → List ℕ
prefix_of w = edges_of w.steps.items

pub record IsWalk (g : Ground) (w : Walk) : Type 0 where
  pub «prefix» : IsPrefix (parts_of g) (part_in g) g.bound (prefix_of w)
  pub uses : AreLeft (parts_of g) g.uses.items w.left.items (prefix_of w)
  pub places : All (λ (s : Step). s.place < length (parts_of g).edges) w.steps.items
  pub search : IsSearch (parts_of g) g.ends.items w.left.items w.search

-- the paths that a walk has still to list
abbrev pub ahead : Ground → Walk → List (List ℕ)
ahead g w = remaining (paths_behind (parts_of g) (part_in g) g.bound) (row_of (parts_of g) (part_in g)) w.steps.items w.place

-- what a step to the next path leaves: the path and what comes after it, or nothing where there is none
abbrev pub IsAdvanced : List (List ℕ) → Bool → List ℕ → List (List ℕ) → Type 0
IsAdvanced before found path after = before ≡ (if found then path ∷ after else [])
