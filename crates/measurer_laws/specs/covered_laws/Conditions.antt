-- A condition that is decided at a place.
use Rattle.std.specs.Prelude.{◌≡◌, ◌↔◌, ℕ, Bool, true, false, not, ◌==◌, ◌&&◌, List, [], ◌∷◌, length, Some, slice_get}
use Rattle.fq_core.specs.declared.span.Span.{Span}
use Rattle.cfa.specs.declared.parts.Edge.{Edge}
use Rattle.cfa.specs.declared.parts.Operation.{Operation}
use Rattle.cfa.specs.declared.parts.Operation.TheVariants.{Guard}
use Rattle.cfa.specs.declared.state.Predicates.{Predicates}
use Rattle.c_meaning.specs.declared.ends.Ends.{Ends}
use Rattle.c_meaning.specs.declared.input.Input.{Input}
use Rattle.c_meaning.specs.Starts.{CanStart}
use Rattle.c_typed_trees.specs.declared.unit.Typed.{Typed}
use Rattle.c_typed_trees.specs.declared.unit.TypedFunction.{TypedFunction}
use Rattle.c_lower_rules.specs.graph_of.GraphOf.{graph_of, function_of}
use Rattle.tree_events.specs.declared.edge_events.event.Event.{Event}
use Rattle.tree_events.specs.declared.edge_events.event.What.{What}
use Rattle.tree_events.specs.declared.edge_events.event.What.TheVariants.{Outcome}
use Rattle.tree_meaning_laws.specs.tree_laws.Laws.{IsMade}
use Rattle.filters.specs.Parts.{edge_has, is_among}
use Rattle.goals.specs.GoalForm.{GoalForm}
use Rattle.goals.specs.declared.plan.Plan.{Plan}
use Rattle.measurer_hits.specs.hits.Inputs.{InputHits}
use Rattle.measurer_laws.specs.covered_laws.Covered.{AsksForEdges, Happens}

-- two places are one
abbrev pub same_place : Span → Span → Bool
same_place a b = a.file == b.file && (a.line == b.line && (a.column == b.column && (a.start == b.start && a.end == b.end)))

abbrev pub same_truth : Bool → Bool → Bool
same_truth true b = b
same_truth false b = not b

-- a condition is decided so
abbrev pub is_decided : Bool → What → Bool
is_decided truth (Outcome own settles) = same_truth truth own
is_decided truth _ = false

-- the condition of this place is decided so
abbrev pub decides_so : Span → Bool → Event → Bool
decides_so place truth v = same_place place v.place && is_decided truth v.what

-- a guard with this truth
abbrev pub guards : Bool → Operation → Bool
guards truth (Guard test own) = same_truth truth own
guards truth _ = false

-- a guard at this place with this truth
abbrev pub guards_at : Span → Bool → Edge → Bool
guards_at place truth e = same_place place e.span && guards truth e.operation

-- Where a goal asks for exactly the guards of a place that have a truth, an input hits it exactly where, by the trees, the
-- condition of this place is decided so, in a run whose end is counted.
abbrev pub ConditionCovered : Type 0
ConditionCovered =
    (t : Typed) (files : List (List ℕ)) (entry : ℕ) (f : TypedFunction) (input : Input) (p : Predicates) (plan : Plan) (ends : Ends) (goal : GoalForm) (edges : List ℕ) (place : Span) (truth : Bool)
    → IsMade t (length files) → slice_get t.functions entry ≡ Some f → CanStart (function_of entry f) input.words
    → AsksForEdges plan goal edges → ((k : ℕ) → is_among edges k ≡ edge_has (graph_of t files) (guards_at place truth) k)
    → InputHits (graph_of t files) (function_of entry f) p plan ends goal input ↔ Happens t entry input ends (decides_so place truth)

-- So it is of one guard, where no other guard of its place has its truth.
abbrev pub GuardCovered : Type 0
GuardCovered =
    (t : Typed) (files : List (List ℕ)) (entry : ℕ) (f : TypedFunction) (input : Input) (p : Predicates) (plan : Plan) (ends : Ends) (goal : GoalForm) (k : ℕ) (e : Edge) (truth : Bool)
    → IsMade t (length files) → slice_get t.functions entry ≡ Some f → CanStart (function_of entry f) input.words
    → AsksForEdges plan goal (k ∷ []) → slice_get (graph_of t files).edges k ≡ Some e → guards truth e.operation ≡ true
    → ((j : ℕ) (g : Edge) → slice_get (graph_of t files).edges j ≡ Some g → guards_at e.span truth g ≡ true → j ≡ k)
    → InputHits (graph_of t files) (function_of entry f) p plan ends goal input ↔ Happens t entry input ends (decides_so e.span truth)
