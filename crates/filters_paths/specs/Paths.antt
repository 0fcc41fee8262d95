-- The k-bounded paths of a target graph within a control flow automaton. PATHS is a letter of FQL (Holzer, Schallhart,
-- Tautschnig, Veith, VMCAI 2009); what the bound counts, and where a path begins and ends, is this project's profile.
use Rattle.std.specs.Prelude.{ℕ, zero, suc, ◌*◌, Bool, true, false, not, ◌&&◌, ◌||◌, ◌==◌, nat_le, List, [], ◌∷◌, length, map}
use Rattle.std.specs.List.{count_by, filter, flat_map, list_all, list_any, range_with_len}
use Rattle.cfa.specs.declared.parts.Edge.{Edge}
use Rattle.cfa.specs.declared.parts.Function.{Function}
use Rattle.cfa.specs.declared.parts.GraphParts.{GraphParts}
use Rattle.filters.specs.declared.target_graph.TargetGraph.{TargetGraph}
use Rattle.filters.specs.Parts.{Part, part_of, edge_has, some_below}

-- ---- where paths begin and end

-- some edge of the graph that isn't an edge of the part has a property
abbrev pub some_edge_outside : GraphParts → Part → (Edge → Bool) → Bool
some_edge_outside parts a property = some_below (λ k. not (a.edge k) && edge_has parts property k) (length parts.edges)

-- a node of the part that is a function's entry, or into which an edge leads that isn't an edge of the part
abbrev pub is_start_node : GraphParts → Part → ℕ → Bool
is_start_node parts a n = a.node n && (list_any (λ (f : Function). f.entry == n) parts.functions || some_edge_outside parts a (λ (e : Edge). e.target == n))

-- a node of the part that is a function's exit, or that an edge leaves which isn't an edge of the part
abbrev pub is_end_node : GraphParts → Part → ℕ → Bool
is_end_node parts a n = a.node n && (list_any (λ (f : Function). f.exit == n) parts.functions || some_edge_outside parts a (λ (e : Edge). e.source == n))

-- ---- paths, as lists of edges by their numbers

-- there is a first edge, and it leaves a start node
abbrev pub begins_at_start : GraphParts → Part → List ℕ → Bool
begins_at_start parts a [] = false
begins_at_start parts a (k ∷ rest) = edge_has parts (λ (e : Edge). is_start_node parts a e.source) k

-- there is a last edge, and it leads to an end node
abbrev pub ends_at_end : GraphParts → Part → List ℕ → Bool
ends_at_end parts a [] = false
ends_at_end parts a (k ∷ []) = edge_has parts (λ (e : Edge). is_end_node parts a e.target) k
ends_at_end parts a (k ∷ l ∷ rest) = ends_at_end parts a (l ∷ rest)

-- the edge of one number leads to the node that the edge of another leaves
abbrev pub leads_to : GraphParts → ℕ → ℕ → Bool
leads_to parts k l = edge_has parts (λ (e : Edge). edge_has parts (λ (f : Edge). e.target == f.source) l) k

-- the edges join end to start
abbrev pub are_joined : GraphParts → List ℕ → Bool
are_joined parts [] = true
are_joined parts (k ∷ []) = true
are_joined parts (k ∷ l ∷ rest) = leads_to parts k l && are_joined parts (l ∷ rest)

-- how often a number is in a list
abbrev pub occurrences : ℕ → List ℕ → ℕ
occurrences k numbers = count_by (λ number. number == k) numbers

-- no number is in the list more than so many times
abbrev pub is_bounded : ℕ → List ℕ → Bool
is_bounded most numbers = list_all (λ number. nat_le (occurrences number numbers) most) numbers

-- A path within the part: it begins at a start node, its edges are edges of the part and join end to start, no edge occurs
-- in it more often than the bound says, and it ends at an end node. It has at least one edge.
abbrev pub is_path : GraphParts → Part → ℕ → List ℕ → Bool
is_path parts a bound path = begins_at_start parts a path && list_all a.edge path && are_joined parts path && is_bounded bound path && ends_at_end parts a path

-- ---- all of them

-- all lists of at most so many numbers below a limit, in lexicographic order, a prefix before what it begins
unfoldable pub ordered_lists : ℕ → ℕ → List (List ℕ)
ordered_lists limit zero = [] ∷ []
ordered_lists limit (suc most) = [] ∷ flat_map (λ first. map (λ rest. first ∷ rest) (ordered_lists limit most)) (range_with_len 0 limit)

-- the k-bounded paths of a target graph, in order; a longer list has some edge more than k times
abbrev pub paths_of : GraphParts → TargetGraph → ℕ → List (List ℕ)
paths_of parts target k = filter (is_path parts (part_of target) k) (ordered_lists (length parts.edges) (k * length parts.edges))
