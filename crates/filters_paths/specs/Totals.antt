-- At most how many paths there are, by node and in all.
use Rattle.std.specs.Prelude.{◌≡◌, ℕ, ◌+◌, ◌^◌, ◌<◌, ◌≤◌, Bool, ◌==◌, List, length, slice_get, slice_index, if◌then◌else◌}
use Rattle.std.specs.List.{sum_by}
use Rattle.std.specs.Option.{option_map_or}
use Rattle.cfa.specs.declared.parts.Edge.{Edge}
use Rattle.cfa.specs.declared.parts.GraphParts.{GraphParts}
use Rattle.cfa.specs.Table.{outgoing_of}
use Rattle.filters.specs.Parts.{is_marked}

-- the total of the node to which an edge leads, and none where the edge may not be taken
abbrev pub by_edge : GraphParts → List ℕ → List ℕ → ℕ → ℕ
by_edge parts uses totals k = if slice_index uses k == 0 then 0 else option_map_or (λ (e : Edge). slice_index totals e.target) (slice_get parts.edges k) 0

-- a path that comes to a node ends there, if it is an end, or goes on by one of the edges that leave it
abbrev pub total_at : GraphParts → List Bool → List ℕ → List ℕ → ℕ → ℕ
total_at parts ends uses totals n = (if is_marked ends n then 1 else 0) + sum_by (by_edge parts uses totals) (outgoing_of parts n)

-- each total below 2^32 is at least that of the node by the others; a greater one says nothing
abbrev pub AreTotals : GraphParts → List Bool → List ℕ → List ℕ → Type 0
AreTotals parts ends uses totals = (n : ℕ) → n < length parts.nodes → slice_index totals n < 2 ^ 32 → total_at parts ends uses totals n ≤ slice_index totals n
