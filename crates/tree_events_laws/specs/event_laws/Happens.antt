-- An event happens by the trees exactly where the run takes an edge that tells it.
use Rattle.std.specs.Prelude.{◌≡◌, ◌↔◌, ℕ, ◌+◌, ◌<◌, Bool, List, length, Some, None, slice_get, IsTrue}
use Rattle.std.specs.List.{list_any}
use Rattle.cfa.specs.declared.parts.Edge.{Edge}
use Rattle.cfa.specs.declared.parts.GraphParts.{GraphParts}
use Rattle.cfa.specs.declared.state.State.{State}
use Rattle.c_meaning.specs.declared.input.Input.{Input}
use Rattle.c_meaning.specs.declared.stepped.Stepped.TheVariants.{Moved}
use Rattle.c_meaning.specs.Runs.{state_after, state_at, state_from}
use Rattle.c_meaning.specs.Starts.{CanStart, start_of}
use Rattle.c_meaning.specs.Steps.{next}
use Rattle.c_typed_trees.specs.declared.unit.Typed.{Typed}
use Rattle.c_typed_trees.specs.declared.unit.TypedFunction.{TypedFunction}
use Rattle.c_lower_rules.specs.graph_of.GraphOf.{graph_of, function_of}
use Rattle.tree_events.specs.declared.edge_events.event.Event.{Event}
use Rattle.tree_events.specs.edge_events.Told.{told}
use Rattle.tree_events.specs.Runs.{tree_events}
use Rattle.tree_meaning_laws.specs.tree_laws.Laws.{IsMade}

-- among the first n edges of a run from a state is one that tells an event which passes a test
pub record Takes (parts : GraphParts) (input : Input) (first : State) (test : Event → Bool) (n : ℕ) : Type 0 where
  pub number : ℕ
  pub less : number < n
  pub from : State
  pub at : state_from parts input first number ≡ Some from
  pub edge : ℕ
  pub to : State
  pub goes : next parts input from ≡ Moved edge to
  pub taken : Edge
  pub there : slice_get parts.edges edge ≡ Some taken
  pub tells : IsTrue (list_any test (told taken))

-- Of a run that ends behind n edges: some event that passes a test happens by the trees, with more turns than edges, exactly where
-- the run takes an edge that tells one.
abbrev pub HappensWhereTaken : Type 0
HappensWhereTaken =
    (t : Typed) (files : List (List ℕ)) (entry : ℕ) (f : TypedFunction) (input : Input) (n : ℕ) (s : State) (more : ℕ) (test : Event → Bool)
    → IsMade t (length files) → slice_get t.functions entry ≡ Some f → CanStart (function_of entry f) input.words → state_at (graph_of t files) (function_of entry f) input n ≡ Some s → state_after (graph_of t files) input s ≡ None
    → IsTrue (list_any test (tree_events t entry input (n + 1 + more))) ↔ Takes (graph_of t files) input (start_of (graph_of t files) (function_of entry f) input.words) test n
