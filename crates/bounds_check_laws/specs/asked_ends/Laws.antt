-- The query that asks for the ends of runs.
use Rattle.std.specs.Prelude.{◌≡◌, ℕ, List, Some, codes, slice_get}
use Rattle.cfa.specs.Graph.{IsGraph}
use Rattle.cfa.specs.declared.parts.Function.{Function}
use Rattle.cfa.specs.declared.parts.GraphParts.{GraphParts}
use Rattle.bounds_check_laws.specs.ending_laws.Asking.{AsksForEachEnd}
use Rattle.fql_read.specs.Asks.{Asks}
use Rattle.fql_read.specs.declared.query.Query.{Query}
use Rattle.goals.specs.Plans.{cover_tree, passing_tree, plan_with}

-- a node at which the run ends, whichever it is
abbrev pub asking_for_ends : List ℕ
asking_for_ends = codes "cover NODES(ID)$"

-- it asks for each end
abbrev pub AllEndsAreAsked : Type 0
AllEndsAreAsked =
    (graph : GraphParts) (k : ℕ) (entry : Function) (q : Query) → IsGraph graph → slice_get graph.functions k ≡ Some entry → Asks asking_for_ends q →
    AsksForEachEnd graph entry (plan_with q (cover_tree graph q) (passing_tree graph q))
