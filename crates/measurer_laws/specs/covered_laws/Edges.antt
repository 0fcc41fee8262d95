-- Goals of single edges, as a filter without quotation marks has: one is hit exactly where what its edge tells happens, if no
-- other edge tells the same; else of the goals of all that do, some one is.
use Rattle.std.specs.Prelude.{◌≡◌, ◌↔◌, ℕ, Bool, true, false, ◌==◌, ◌&&◌, List, [], ◌∷◌, length, Option, Some, None, slice_get}
use Rattle.cfa.specs.declared.parts.Edge.{Edge}
use Rattle.cfa.specs.declared.parts.Function.{Function}
use Rattle.cfa.specs.declared.parts.GraphParts.{GraphParts}
use Rattle.cfa.specs.declared.state.Predicates.{Predicates}
use Rattle.c_meaning.specs.declared.ends.Ends.{Ends}
use Rattle.c_meaning.specs.declared.input.Input.{Input}
use Rattle.c_meaning.specs.Starts.{CanStart}
use Rattle.c_typed_trees.specs.declared.unit.Typed.{Typed}
use Rattle.c_typed_trees.specs.declared.unit.TypedFunction.{TypedFunction}
use Rattle.c_lower_rules.specs.graph_of.GraphOf.{graph_of, function_of}
use Rattle.tree_events.specs.declared.edge_events.event.Event.{Event}
use Rattle.tree_events.specs.declared.edge_events.event.What.{What}
use Rattle.tree_events.specs.declared.edge_events.event.What.TheVariants.{Outcome, Did, Entered, Left, Answered, Valued, Enters, Again, Always, Straight}
use Rattle.tree_events.specs.edge_events.Told.{event_of, operation_tells}
use Rattle.tree_meaning_laws.specs.tree_laws.Laws.{IsMade}
use Rattle.fql_read.specs.declared.filter.Filter.{Filter}
use Rattle.filters.specs.Kinds.{same_kind}
use Rattle.filters.specs.Parts.{edge_has, is_among, whole}
use Rattle.filters.specs.Properties.{is_name}
use Rattle.goals.specs.applied_clauses.Applied.{kept, numbers}
use Rattle.goals.specs.GoalForm.{GoalForm}
use Rattle.goals.specs.declared.plan.Plan.{Plan}
use Rattle.measurer_hits.specs.hits.Inputs.{InputHits}
use Rattle.measurer_laws.specs.covered_laws.Conditions.{same_place, same_truth}
use Rattle.measurer_laws.specs.covered_laws.Covered.{AreTelling, AsksForEdges, Happens, tells_one}
use Rattle.measurer_laws.specs.covered_laws.Filters.{Selects}

-- ---- one event

abbrev pub same_name : Option (List ℕ) → Option (List ℕ) → Bool
same_name (Some a) b = is_name b a
same_name None (Some b) = false
same_name None None = true

-- the same happened
abbrev pub same_what : What → What → Bool
same_what (Outcome a s) (Outcome b r) = same_truth a b && same_truth s r
same_what (Did a) (Did b) = same_name a b
same_what (Entered a) (Entered b) = a == b
same_what Left Left = true
same_what (Answered a) (Answered b) = a == b
same_what Valued Valued = true
same_what Enters Enters = true
same_what Again Again = true
same_what Always Always = true
same_what Straight Straight = true
same_what _ _ = false

-- and at the same place, in a statement of the same kind
abbrev pub same_event : Event → Event → Bool
same_event v w = same_place v.place w.place && (same_kind v.statement w.statement && same_what v.what w.what)

-- two events pass this test exactly where they are one
abbrev pub SameEvents : Type 0
SameEvents = (v w : Event) → same_event v w ≡ true ↔ v ≡ w

-- ---- the goals of edges

-- the event of an edge: what it tells first, and all that it tells but that a call statement is done
abbrev pub event_at : Edge → Event
event_at e = event_of e (operation_tells e e.operation)

-- the edges that tell an event, in rising order
abbrev pub telling : GraphParts → Event → List ℕ
telling parts v = numbers (edge_has parts (tells_one (same_event v))) (length parts.edges)

-- each of these edges has a goal, which asks for it alone
abbrev pub AskForEach : Plan → List ℕ → (ℕ → GoalForm) → Type 0
AskForEach plan edges goals = (k : ℕ) → is_among edges k ≡ true → AsksForEdges plan (goals k) (k ∷ [])

-- an input hits the goal of some of these edges
pub record SomeHit (parts : GraphParts) (entry : Function) (p : Predicates) (plan : Plan) (ends : Ends) (edges : List ℕ) (goals : ℕ → GoalForm) (input : Input) : Type 0 where
  pub edge : ℕ
  pub among : is_among edges edge ≡ true
  pub hits : InputHits parts entry p plan ends (goals edge) input

-- ---- the laws

-- Where these edges are exactly those that tell an event which passes a test, and each has a goal of its own, an input hits some
-- of these goals exactly where such an event happens by the trees, in a run whose end is counted.
abbrev pub SomeCovered : Type 0
SomeCovered =
    (t : Typed) (files : List (List ℕ)) (entry : ℕ) (f : TypedFunction) (input : Input) (p : Predicates) (plan : Plan) (ends : Ends) (edges : List ℕ) (goals : ℕ → GoalForm) (test : Event → Bool)
    → IsMade t (length files) → slice_get t.functions entry ≡ Some f → CanStart (function_of entry f) input.words → AskForEach plan edges goals → AreTelling (graph_of t files) edges test
    → SomeHit (graph_of t files) (function_of entry f) p plan ends edges goals input ↔ Happens t entry input ends test

-- So it is of a filter's edges, where the filter keeps exactly the edges that tell an event which passes a test.
abbrev pub FilterSomeCovered : Type 0
FilterSomeCovered =
    (t : Typed) (files : List (List ℕ)) (entry : ℕ) (f : TypedFunction) (input : Input) (p : Predicates) (plan : Plan) (ends : Ends) (goals : ℕ → GoalForm) (filter : Filter) (test : Event → Bool)
    → IsMade t (length files) → slice_get t.functions entry ≡ Some f → CanStart (function_of entry f) input.words
    → AskForEach plan (kept (graph_of t files) (whole (graph_of t files)) filter).edges goals → Selects (graph_of t files) filter test
    → SomeHit (graph_of t files) (function_of entry f) p plan ends (kept (graph_of t files) (whole (graph_of t files)) filter).edges goals input ↔ Happens t entry input ends test

-- So it is of an event: of the goals of the edges that tell it some one is hit exactly where it happens.
abbrev pub AlikeCovered : Type 0
AlikeCovered =
    (t : Typed) (files : List (List ℕ)) (entry : ℕ) (f : TypedFunction) (input : Input) (p : Predicates) (plan : Plan) (ends : Ends) (goals : ℕ → GoalForm) (v : Event)
    → IsMade t (length files) → slice_get t.functions entry ≡ Some f → CanStart (function_of entry f) input.words → AskForEach plan (telling (graph_of t files) v) goals
    → SomeHit (graph_of t files) (function_of entry f) p plan ends (telling (graph_of t files) v) goals input ↔ Happens t entry input ends (same_event v)

-- And of one edge: where no other edge tells its event, its goal is hit exactly where this event happens.
abbrev pub EdgeCovered : Type 0
EdgeCovered =
    (t : Typed) (files : List (List ℕ)) (entry : ℕ) (f : TypedFunction) (input : Input) (p : Predicates) (plan : Plan) (ends : Ends) (goal : GoalForm) (k : ℕ) (e : Edge)
    → IsMade t (length files) → slice_get t.functions entry ≡ Some f → CanStart (function_of entry f) input.words
    → AsksForEdges plan goal (k ∷ []) → slice_get (graph_of t files).edges k ≡ Some e → telling (graph_of t files) (event_at e) ≡ k ∷ []
    → InputHits (graph_of t files) (function_of entry f) p plan ends goal input ↔ Happens t entry input ends (same_event (event_at e))

-- Whatever other edges tell, where the goal of an edge is hit its event happens.
abbrev pub CoveredHappens : Type 0
CoveredHappens =
    (t : Typed) (files : List (List ℕ)) (entry : ℕ) (f : TypedFunction) (input : Input) (p : Predicates) (plan : Plan) (ends : Ends) (goal : GoalForm) (k : ℕ) (e : Edge)
    → IsMade t (length files) → slice_get t.functions entry ≡ Some f → CanStart (function_of entry f) input.words
    → AsksForEdges plan goal (k ∷ []) → slice_get (graph_of t files).edges k ≡ Some e
    → InputHits (graph_of t files) (function_of entry f) p plan ends goal input → Happens t entry input ends (same_event (event_at e))
