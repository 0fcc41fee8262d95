-- Queries whose goals ask for the edges that a filter keeps: for all at once, or for each.
use Rattle.std.specs.Prelude.{◌≡◌, ℕ, false, List, [], ◌∷◌, None, map}
use Rattle.cfa.specs.declared.parts.GraphParts.{GraphParts}
use Rattle.fql_read.specs.declared.cover.CoverTree.TheVariants as cover
use Rattle.fql_read.specs.declared.cover.Split.{Split}
use Rattle.fql_read.specs.declared.query.Query.{Query}
use Rattle.filters.specs.Parts.{whole}
use Rattle.goals.specs.applied_clauses.Applied.{kept}
use Rattle.goals.specs.Forms.{edge_pattern}
use Rattle.goals.specs.GoalForm.{GoalForm}
use Rattle.goals.specs.Plans.{cover_tree, passing_tree, plan_with}
use Rattle.goals.specs.declared.goal_letter.GoalLetter.TheVariants.{Edge}
use Rattle.goals.specs.declared.plan.Plan.{Plan}
use Rattle.measurer_laws.specs.covered_laws.Covered.{AsksForEdges}

-- the plan of a query
abbrev pub plan_of : GraphParts → Query → Plan
plan_of parts q = plan_with q (cover_tree parts q) (passing_tree parts q)

-- A query that covers a filter in quotation marks, without `in`, anchors and a passing clause, has one goal, which asks for the
-- edges that the filter keeps of the whole graph.
abbrev pub QuotedFilterAsks : Type 0
QuotedFilterAsks =
    (parts : GraphParts) (q : Query) (s : Split) (text : List ℕ)
    → q.base ≡ None → q.cover.first ≡ false → q.cover.last ≡ false → q.passing ≡ None → q.cover.body ≡ cover.Quoted (cover.Edges s) text → s.predicates ≡ []
    → (goal : GoalForm) × ((plan_of parts q).goals ≡ goal ∷ []) × AsksForEdges (plan_of parts q) goal (kept parts (whole parts) s.filter).edges

-- the goal of an edge
abbrev pub edge_goal : ℕ → GoalForm
edge_goal k = record { word = Edge k ∷ []; pattern = edge_pattern k }

-- One that covers a filter without quotation marks has a goal for each edge that the filter keeps of the whole graph, in rising
-- order, which asks for this edge alone.
abbrev pub FilterAsks : Type 0
FilterAsks =
    (parts : GraphParts) (q : Query) (s : Split)
    → q.base ≡ None → q.cover.first ≡ false → q.cover.last ≡ false → q.passing ≡ None → q.cover.body ≡ cover.Edges s → s.predicates ≡ []
    → ((plan_of parts q).goals ≡ map edge_goal (kept parts (whole parts) s.filter).edges) × ((k : ℕ) → AsksForEdges (plan_of parts q) (edge_goal k) (k ∷ []))
