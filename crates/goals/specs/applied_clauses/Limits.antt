-- How many paths a `PATHS` may stand for.
use Rattle.std.specs.Prelude.{ℕ, nat_lt, if◌then◌else◌, List, length, Option, Some, None}
use Rattle.fql_read.specs.QueryLimits.{or_first}
use Rattle.filters_paths.specs.Outcome.{edge_count}
use Rattle.goals.specs.applied_clauses.Trees.{Tree, nodes, edges, paths, predicate, quoted, dot, plus, repeat}

-- the greatest number of paths, and of edges in all of them
abbrev pub most_paths : ℕ
most_paths = 10000

abbrev pub most_path_edges : ℕ
most_path_edges = 1000000

-- the limit that these paths pass, that of paths first
abbrev pub paths_limit : List (List ℕ) → Option ℕ
paths_limit ps = if nat_lt most_paths (length ps) then Some most_paths else (if nat_lt most_path_edges (edge_count ps) then Some most_path_edges else None)

-- the limit that the first `PATHS` passes that passes one, in the order of the text, within quotation marks too
abbrev pub passed_limit : Tree → Option ℕ
passed_limit (nodes ns is) = None
passed_limit (edges es is) = None
passed_limit (paths ps) = paths_limit ps
passed_limit (predicate i) = None
passed_limit (quoted body text) = passed_limit body
passed_limit (dot a b) = or_first (passed_limit a) (passed_limit b)
passed_limit (plus a b) = or_first (passed_limit a) (passed_limit b)
passed_limit (repeat body least most) = passed_limit body
