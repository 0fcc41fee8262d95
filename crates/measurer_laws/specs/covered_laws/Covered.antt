-- A goal of edges is hit exactly where what these edges tell happens by the trees.
use Rattle.std.specs.Prelude.{◌≡◌, ◌↔◌, ℕ, Bool, true, false, List, length, Some, None, slice_get, IsTrue}
use Rattle.std.specs.List.{list_any}
use Rattle.cfa.specs.declared.parts.Edge.{Edge}
use Rattle.cfa.specs.declared.parts.GraphParts.{GraphParts}
use Rattle.cfa.specs.declared.state.Predicates.{Predicates}
use Rattle.c_meaning.specs.declared.ends.Ends.{Ends}
use Rattle.c_meaning.specs.declared.input.Input.{Input}
use Rattle.c_meaning.specs.Runs.{counts_any, counts_traps}
use Rattle.c_meaning.specs.Starts.{CanStart}
use Rattle.c_typed_trees.specs.declared.unit.Typed.{Typed}
use Rattle.c_typed_trees.specs.declared.unit.TypedFunction.{TypedFunction}
use Rattle.c_lower_rules.specs.graph_of.GraphOf.{graph_of, function_of}
use Rattle.tree_events.specs.declared.edge_events.event.Event.{Event}
use Rattle.tree_events.specs.edge_events.Told.{told}
use Rattle.tree_meaning.specs.declared.ends.TreeEnd.{TreeEnd}
use Rattle.tree_meaning.specs.declared.ends.TreeEnd.TheVariants as tree
use Rattle.tree_events.specs.Runs.{tree_events, told_end}
use Rattle.tree_meaning_laws.specs.tree_laws.Laws.{IsMade}
use Rattle.patterns.specs.declared.letter.Letter.TheVariants as letter
use Rattle.patterns.specs.declared.pattern.Pattern.TheVariants as pattern
use Rattle.filters.specs.Parts.{edge_has, is_among}
use Rattle.goals.specs.GoalForm.{GoalForm}
use Rattle.goals.specs.declared.plan.Plan.{Plan}
use Rattle.measurer_hits.specs.hits.Inputs.{InputHits}

-- an end by the trees is counted as that of a run is; where turns were wanting there is none
abbrev pub counts_tree : Ends → TreeEnd → Bool
counts_tree ends (tree.Returned value) = true
counts_tree ends (tree.Trapped trap) = counts_traps ends
counts_tree ends tree.Blocked = counts_any ends
counts_tree ends tree.TooDeep = counts_any ends
counts_tree ends tree.OutOfTurns = false

-- By the trees, and with so many turns, the run of an input ends in a way that is counted, and in it an event happens that
-- passes a test.
pub record Happens (t : Typed) (entry : ℕ) (input : Input) (ends : Ends) (test : Event → Bool) : Type 0 where
  pub turns : ℕ
  pub counted : IsTrue (counts_tree ends (told_end t entry input turns))
  pub event : IsTrue (list_any test (tree_events t entry input turns))

-- an edge tells an event that passes a test
abbrev pub tells_one : (Event → Bool) → Edge → Bool
tells_one test e = list_any test (told e)

-- these are exactly the edges of a graph that tell an event which passes a test
abbrev pub AreTelling : GraphParts → List ℕ → (Event → Bool) → Type 0
AreTelling parts edges test = (k : ℕ) → is_among edges k ≡ edge_has parts (tells_one test) k

-- A goal asks that one of these edges is taken: its pattern is the letter that has them, and its plan has no anchors and no
-- passing clause.
pub record AsksForEdges (plan : Plan) (goal : GoalForm) (edges : List ℕ) : Type 0 where
  pub first : plan.first ≡ false
  pub last : plan.last ≡ false
  pub passing : plan.passing ≡ None
  pub pattern : goal.pattern ≡ pattern.Letter (letter.Edges edges)

-- Where a goal asks for exactly the edges that tell an event which passes a test, an input hits it exactly where such an event
-- happens by the trees, in a run whose end is counted.
abbrev pub CoveredWhereHappens : Type 0
CoveredWhereHappens =
    (t : Typed) (files : List (List ℕ)) (entry : ℕ) (f : TypedFunction) (input : Input) (p : Predicates) (plan : Plan) (ends : Ends) (goal : GoalForm) (edges : List ℕ) (test : Event → Bool)
    → IsMade t (length files) → slice_get t.functions entry ≡ Some f → CanStart (function_of entry f) input.words → AsksForEdges plan goal edges → AreTelling (graph_of t files) edges test
    → InputHits (graph_of t files) (function_of entry f) p plan ends goal input ↔ Happens t entry input ends test
