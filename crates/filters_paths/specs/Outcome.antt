-- What the listing of paths answers.
use Rattle.std.specs.Prelude.{◌≡◌, ℕ, ◌<◌, ◌≤◌, List, length, Result, Ok, Err}
use Rattle.std.specs.List.{sum_by}
use Rattle.filters_paths.specs.declared.fault.PathFault.{PathFault}
use Rattle.filters_paths.specs.declared.fault.PathFault.TheVariants.{TooManyPaths, TooManyEdges, Memory}

-- how many edges the paths have in all
abbrev pub edge_count : List (List ℕ) → ℕ
edge_count paths = sum_by length paths

-- These paths, where there are at most `limit` of them with at most `edge_limit` edges in all. That there are more than
-- `limit` is told first, whatever their edges; want of memory alone is free.
abbrev pub IsPathsOutcome : List (List ℕ) → ℕ → ℕ → Result (List (List ℕ)) PathFault → Type 0
IsPathsOutcome paths limit edge_limit (Ok listed) = (listed ≡ paths) × (length paths ≤ limit) × (edge_count paths ≤ edge_limit)
IsPathsOutcome paths limit edge_limit (Err TooManyPaths) = limit < length paths
IsPathsOutcome paths limit edge_limit (Err TooManyEdges) = (length paths ≤ limit) × (edge_limit < edge_count paths)
IsPathsOutcome paths limit edge_limit (Err Memory) = Unit {0}
