-- Filters that keep exactly the edges that tell an event which passes a test.
use Rattle.std.specs.Prelude.{◌≡◌, ◌↔◌, ℕ, Bool, true, false, ◌==◌, ◌&&◌, ◌||◌, List, length, Some, slice_get, option_map}
use Rattle.std.specs.List.{list_any}
use Rattle.fq_core.specs.declared.statement_kind.StatementKind.{StatementKind}
use Rattle.cfa.specs.declared.parts.GraphParts.{GraphParts}
use Rattle.cfa.specs.declared.parts.InputFunction.{InputFunction}
use Rattle.cfa.specs.declared.state.Predicates.{Predicates}
use Rattle.c_meaning.specs.declared.ends.Ends.{Ends}
use Rattle.c_meaning.specs.declared.input.Input.{Input}
use Rattle.c_meaning.specs.Starts.{CanStart}
use Rattle.c_typed_trees.specs.declared.unit.Typed.{Typed}
use Rattle.c_typed_trees.specs.declared.unit.TypedFunction.{TypedFunction}
use Rattle.c_lower_rules.specs.graph_of.GraphOf.{graph_of, function_of}
use Rattle.tree_events.specs.declared.edge_events.event.Event.{Event}
use Rattle.tree_events.specs.declared.edge_events.event.What.{What}
use Rattle.tree_events.specs.declared.edge_events.event.What.TheVariants.{Outcome, Entered, Answered}
use Rattle.tree_meaning_laws.specs.tree_laws.Laws.{IsMade}
use Rattle.fql_read.specs.declared.filter.Filter.{Filter}
use Rattle.fql_read.specs.declared.filter.FilterForm.{FilterForm}
use Rattle.fql_read.specs.declared.filter.FilterForm.TheVariants as form
use Rattle.filters.specs.Kept.{kept_by}
use Rattle.filters.specs.Kinds.{same_kind}
use Rattle.filters.specs.Parts.{edge_has, whole}
use Rattle.filters.specs.Properties.{is_name}
use Rattle.goals.specs.applied_clauses.Applied.{kept}
use Rattle.goals.specs.GoalForm.{GoalForm}
use Rattle.goals.specs.declared.plan.Plan.{Plan}
use Rattle.measurer_hits.specs.hits.Inputs.{InputHits}
use Rattle.measurer_laws.specs.covered_laws.Covered.{AsksForEdges, Happens, tells_one}

-- ---- tests of events

-- its place, that of the statement at hand or of a condition, is on this line, or in the file of this name
abbrev pub at_line : ℕ → Event → Bool
at_line line v = v.place.line == line

abbrev pub in_file : List (List ℕ) → List ℕ → Event → Bool
in_file files name v = is_name (slice_get files v.place.file) name

-- the statement at hand is of one of these kinds
abbrev pub of_kinds : List StatementKind → Event → Bool
of_kinds kinds v = list_any (λ kind. same_kind kind v.statement) kinds

-- a condition is decided, and one that settles its decision
abbrev pub is_outcome : What → Bool
is_outcome (Outcome truth settles) = true
is_outcome _ = false

abbrev pub is_settled : What → Bool
is_settled (Outcome truth settles) = settles
is_settled _ = false

abbrev pub decides : Event → Bool
decides v = is_outcome v.what

abbrev pub settles : Event → Bool
settles v = is_settled v.what

-- the function of this name is entered, or the input function of this name answers
abbrev pub is_called : Typed → List ℕ → What → Bool
is_called t name (Entered function) = is_name (option_map (λ (f : TypedFunction). f.name) (slice_get t.functions function)) name
is_called t name (Answered input) = is_name (option_map (λ (f : InputFunction). f.name) (slice_get t.inputs input)) name
is_called t name _ = false

abbrev pub calls : Typed → List ℕ → Event → Bool
calls t name v = is_called t name v.what

-- ---- filters

-- what a filter keeps of the whole graph are exactly the edges that tell an event which passes a test
abbrev pub Selects : GraphParts → Filter → (Event → Bool) → Type 0
Selects parts filter test = (k : ℕ) → (kept_by parts filter (whole parts)).edge k ≡ edge_has parts (tells_one test) k

-- Where a filter does so, a goal that asks for the edges that it keeps is hit exactly where such an event happens by the trees.
abbrev pub FilterCovered : Type 0
FilterCovered =
    (t : Typed) (files : List (List ℕ)) (entry : ℕ) (f : TypedFunction) (input : Input) (p : Predicates) (plan : Plan) (ends : Ends) (goal : GoalForm) (filter : Filter) (test : Event → Bool)
    → IsMade t (length files) → slice_get t.functions entry ≡ Some f → CanStart (function_of entry f) input.words
    → AsksForEdges plan goal (kept (graph_of t files) (whole (graph_of t files)) filter).edges → Selects (graph_of t files) filter test
    → InputHits (graph_of t files) (function_of entry f) p plan ends goal input ↔ Happens t entry input ends test

-- a filter of this form, at a column of the query
abbrev pub filter_of : ℕ → FilterForm → Filter
filter_of column f = record { column = column; form = f }

-- `@LINE`, `@FILE`, `@STMTTYPE` and `@CONDITIONEDGE`, in every graph
abbrev pub LinesSelect : Type 0
LinesSelect = (parts : GraphParts) (column line : ℕ) → Selects parts (filter_of column (form.Line line)) (at_line line)

abbrev pub FilesSelect : Type 0
FilesSelect = (parts : GraphParts) (column : ℕ) (name : List ℕ) → Selects parts (filter_of column (form.File name)) (in_file parts.files name)

abbrev pub KindsSelect : Type 0
KindsSelect = (parts : GraphParts) (column : ℕ) (kinds : List StatementKind) → Selects parts (filter_of column (form.StatementTypes kinds)) (of_kinds kinds)

abbrev pub ConditionsSelect : Type 0
ConditionsSelect = (parts : GraphParts) (column : ℕ) → Selects parts (filter_of column form.ConditionEdge) decides

-- `@DECISIONEDGE` and `@CALL`, in the automaton of a typed unit
abbrev pub DecisionsSelect : Type 0
DecisionsSelect = (t : Typed) (files : List (List ℕ)) (column : ℕ) → Selects (graph_of t files) (filter_of column form.DecisionEdge) settles

abbrev pub CallsSelect : Type 0
CallsSelect = (t : Typed) (files : List (List ℕ)) (column : ℕ) (name : List ℕ) → Selects (graph_of t files) (filter_of column (form.Call name)) (calls t name)

-- `UNION` of two such filters
abbrev pub UnionsSelect : Type 0
UnionsSelect =
    (parts : GraphParts) (column : ℕ) (f g : Filter) (a b : Event → Bool) → Selects parts f a → Selects parts g b → Selects parts (filter_of column (form.Union f g)) (λ v. a v || b v)

-- a test of the place and of the kind of the statement alone, as those of `@LINE`, `@FILE` and `@STMTTYPE` are
abbrev pub IsOfPlace : (Event → Bool) → Type 0
IsOfPlace test = (v w : Event) → v.place ≡ w.place → v.statement ≡ w.statement → test v ≡ test w

-- `INTERSECT` of two such filters, of which the first has such a test
abbrev pub IntersectionsSelect : Type 0
IntersectionsSelect =
    (parts : GraphParts) (column : ℕ) (f g : Filter) (a b : Event → Bool)
    → IsOfPlace a → Selects parts f a → Selects parts g b → Selects parts (filter_of column (form.Intersect f g)) (λ v. a v && b v)
