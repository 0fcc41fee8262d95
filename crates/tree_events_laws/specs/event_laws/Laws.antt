-- What the edges of a run tell is what happens by the trees.
use Rattle.std.specs.Prelude.{◌≡◌, ◌≢◌, ℕ, ◌+◌, ◌≤◌, List, [], ◌++◌, map, length, Some, None, slice_get}
use Rattle.c_lex.specs.declared.token.SourceText.{SourceText}
use Rattle.c_lex.specs.declared.token.Token.{Token}
use Rattle.c_lex.specs.Lexed.{Lexed}
use Rattle.c_parse.specs.declared.unit.Item.{Item}
use Rattle.c_parse.specs.Items.{DerivesItems}
use Rattle.c_parse.specs.Signs.{terminal_of}
use Rattle.c_types.specs.Units.{faults_of, typed_of}
use Rattle.cfa.specs.declared.state.State.{State}
use Rattle.c_meaning.specs.declared.input.Input.{Input}
use Rattle.c_meaning.specs.Runs.{state_after, state_at}
use Rattle.c_meaning.specs.Starts.{CanStart, start_of}
use Rattle.c_meaning.specs.Steps.{next}
use Rattle.c_typed_trees.specs.declared.unit.Typed.{Typed}
use Rattle.c_typed_trees.specs.declared.unit.TypedFunction.{TypedFunction}
use Rattle.c_lower_rules.specs.graph_of.GraphOf.{graph_of, function_of}
use Rattle.tree_events.specs.declared.edge_events.event.Event.{Event}
use Rattle.tree_meaning.specs.declared.ends.TreeEnd.TheVariants.{OutOfTurns}
use Rattle.tree_events.specs.Runs.{tree_events, told_end}
use Rattle.tree_events_laws.specs.expression_events.Follows.{tells}
use Rattle.tree_meaning_laws.specs.tree_laws.Laws.{IsMade, IsNext}

module _ (t : Typed) (files : List (List ℕ)) (entry : ℕ) (f : TypedFunction) (input : Input) where
  -- what the first n edges of the run tell
  abbrev pub edges_tell : ℕ → List Event
  edges_tell n = tells (graph_of t files) input n (start_of (graph_of t files) (function_of entry f) input.words)

  -- The run comes to a state, and its edges tell what happens by the trees with so many turns: up to the end, where the turns are
  -- enough, and else for as many edges at least.
  pub record Tells (turns : ℕ) : Type 0 where
    pub moves : ℕ
    pub to : State
    pub path : state_at (graph_of t files) (function_of entry f) input moves ≡ Some to
    pub tell : edges_tell moves ≡ tree_events t entry input turns
    pub enough : told_end t entry input turns ≡ OutOfTurns → turns ≤ moves
    pub last : told_end t entry input turns ≢ OutOfTurns → IsNext (told_end t entry input turns) (next (graph_of t files) input to)

-- with each number of turns, what happens by the trees is what the edges of some beginning of the run tell
abbrev pub TreesAreTold : Type 0
TreesAreTold =
    (t : Typed) (files : List (List ℕ)) (entry : ℕ) (f : TypedFunction) (input : Input) (turns : ℕ)
    → IsMade t (length files) → slice_get t.functions entry ≡ Some f → CanStart (function_of entry f) input.words → Tells t files entry f input turns

-- what the first n edges tell is a beginning of what happens by the trees with n turns
abbrev pub EdgesTell : Type 0
EdgesTell =
    (t : Typed) (files : List (List ℕ)) (entry : ℕ) (f : TypedFunction) (input : Input) (n : ℕ) (s : State)
    → IsMade t (length files) → slice_get t.functions entry ≡ Some f → CanStart (function_of entry f) input.words → state_at (graph_of t files) (function_of entry f) input n ≡ Some s
    → (rest : List Event) × (tree_events t entry input n ≡ edges_tell t files entry f input n ++ rest)

-- where the run ends behind n edges, what they tell is all that happens by the trees, with more turns than edges
abbrev pub EndedEdgesTell : Type 0
EndedEdgesTell =
    (t : Typed) (files : List (List ℕ)) (entry : ℕ) (f : TypedFunction) (input : Input) (n : ℕ) (s : State) (more : ℕ)
    → IsMade t (length files) → slice_get t.functions entry ≡ Some f → CanStart (function_of entry f) input.words → state_at (graph_of t files) (function_of entry f) input n ≡ Some s → state_after (graph_of t files) input s ≡ None
    → tree_events t entry input (n + 1 + more) ≡ edges_tell t files entry f input n

-- So it is of each unit of texts in which nothing is wrong.
abbrev pub UnitEdgesTell : Type 0
UnitEdgesTell =
    (texts : List SourceText) (tokens : List Token) (items : List Item) (files : List (List ℕ)) (entry : ℕ) (f : TypedFunction) (input : Input) (n : ℕ) (s : State)
    → Lexed texts tokens → DerivesItems items (map terminal_of tokens) → faults_of items ≡ [] → length files ≡ length texts
    → slice_get (typed_of items).functions entry ≡ Some f → CanStart (function_of entry f) input.words → state_at (graph_of (typed_of items) files) (function_of entry f) input n ≡ Some s
    → (rest : List Event) × (tree_events (typed_of items) entry input n ≡ edges_tell (typed_of items) files entry f input n ++ rest)

abbrev pub UnitEndedEdgesTell : Type 0
UnitEndedEdgesTell =
    (texts : List SourceText) (tokens : List Token) (items : List Item) (files : List (List ℕ)) (entry : ℕ) (f : TypedFunction) (input : Input) (n : ℕ) (s : State) (more : ℕ)
    → Lexed texts tokens → DerivesItems items (map terminal_of tokens) → faults_of items ≡ [] → length files ≡ length texts
    → slice_get (typed_of items).functions entry ≡ Some f → CanStart (function_of entry f) input.words → state_at (graph_of (typed_of items) files) (function_of entry f) input n ≡ Some s → state_after (graph_of (typed_of items) files) input s ≡ None
    → tree_events (typed_of items) entry input (n + 1 + more) ≡ edges_tell (typed_of items) files entry f input n
