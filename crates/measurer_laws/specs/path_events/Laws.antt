-- What the edges of a recorded run tell is what happens by the trees, up to its end or a limit of edges.
use Rattle.std.specs.Prelude.{◌≡◌, ℕ, ◌+◌, ◌≤◌, List, [], ◌++◌, length, map, Some, slice_get}
use Rattle.std.specs.List.{flat_map}
use Rattle.c_lex.specs.declared.token.SourceText.{SourceText}
use Rattle.c_lex.specs.declared.token.Token.{Token}
use Rattle.c_lex.specs.Lexed.{Lexed}
use Rattle.c_parse.specs.declared.unit.Item.{Item}
use Rattle.c_parse.specs.Items.{DerivesItems}
use Rattle.c_parse.specs.Signs.{terminal_of}
use Rattle.c_types.specs.Units.{faults_of, typed_of}
use Rattle.cfa.specs.declared.parts.Function.{Function}
use Rattle.cfa.specs.declared.parts.GraphParts.{GraphParts}
use Rattle.cfa.specs.declared.state.Predicates.{Predicates}
use Rattle.c_meaning.specs.declared.input.Input.{Input}
use Rattle.c_meaning.specs.Starts.{CanStart, start_of}
use Rattle.path_runner.specs.declared.path.PathRecord.{PathRecord}
use Rattle.path_runner.specs.declared.path.RunEnd.{RunEnd}
use Rattle.path_runner.specs.declared.path.RunEnd.TheVariants as run
use Rattle.path_runner.specs.Paths.{path_of}
use Rattle.c_typed_trees.specs.declared.unit.Typed.{Typed}
use Rattle.c_typed_trees.specs.declared.unit.TypedFunction.{TypedFunction}
use Rattle.c_lower_rules.specs.graph_of.GraphOf.{graph_of, function_of}
use Rattle.tree_events.specs.declared.edge_events.event.Event.{Event}
use Rattle.tree_meaning.specs.declared.ends.TreeEnd.{TreeEnd}
use Rattle.tree_meaning.specs.declared.ends.TreeEnd.TheVariants as tree
use Rattle.tree_meaning.specs.Ends.{tree_end}
use Rattle.tree_events.specs.Runs.{tree_events}
use Rattle.tree_events_laws.specs.expression_events.Follows.{edge_tells}
use Rattle.tree_meaning_laws.specs.tree_laws.Laws.{IsMade}

-- what the edges of these numbers tell, in order
abbrev pub all_tell : GraphParts → List ℕ → List Event
all_tell parts edges = flat_map (λ at. edge_tells (slice_get parts.edges at)) edges

-- a recorded end is that of the trees
abbrev pub IsEndOf : TreeEnd → RunEnd → Type 0
IsEndOf (tree.Returned value) end = end ≡ run.Returned value
IsEndOf (tree.Trapped trap) end = end ≡ run.Trapped trap
IsEndOf tree.Blocked end = end ≡ run.Blocked
IsEndOf tree.TooDeep end = end ≡ run.TooDeep
IsEndOf tree.OutOfTurns end = ⊥

module _ (t : Typed) (entry : ℕ) (input : Input) (steps : ℕ) (end : RunEnd) (es : List Event) where
  -- by the trees, and with more turns than these, a run ends so, and this is all that happens in it
  pub record EndsWith : Type 0 where
    pub ends : (more : ℕ) → IsEndOf (tree_end t entry input (steps + 1 + more)) end
    pub happens : (more : ℕ) → tree_events t entry input (steps + 1 + more) ≡ es

  -- by the trees, and with so many turns or more, this happens first in a run; it is as much as this at least
  pub record BeginsWith : Type 0 where
    pub long : steps ≤ length es
    pub happens : (more : ℕ) → (rest : List Event) × (tree_events t entry input (steps + more) ≡ es ++ rest)

-- so does a run that is recorded up to so many edges: a run that is cut begins so
abbrev pub HappensBy : Typed → ℕ → Input → ℕ → RunEnd → List Event → Type 0
HappensBy t entry input steps (run.Returned value) es = EndsWith t entry input steps (run.Returned value) es
HappensBy t entry input steps (run.Trapped trap) es = EndsWith t entry input steps (run.Trapped trap) es
HappensBy t entry input steps run.Blocked es = EndsWith t entry input steps run.Blocked es
HappensBy t entry input steps run.TooDeep es = EndsWith t entry input steps run.TooDeep es
HappensBy t entry input steps run.Cut es = BeginsWith t entry input steps run.Cut es

-- the record of a run from a function of an automaton, and what its edges tell
abbrev pub record_in : GraphParts → Function → Predicates → ℕ → Input → PathRecord
record_in parts g p steps input = path_of parts input p steps (start_of parts g input.words)

abbrev pub Agrees : Typed → GraphParts → ℕ → Function → Predicates → ℕ → Input → Type 0
Agrees t parts entry g p steps input = HappensBy t entry input steps (record_in parts g p steps input).end (all_tell parts (record_in parts g p steps input).edges)

abbrev pub RecordsTell : Type 0
RecordsTell =
    (t : Typed) (files : List (List ℕ)) (entry : ℕ) (f : TypedFunction) (input : Input) (p : Predicates) (steps : ℕ)
    → IsMade t (length files) → slice_get t.functions entry ≡ Some f → CanStart (function_of entry f) input.words
    → Agrees t (graph_of t files) entry (function_of entry f) p steps input

-- So it is of each unit of texts in which nothing is wrong, and each function of its automaton.
abbrev pub UnitRecordsTell : Type 0
UnitRecordsTell =
    (texts : List SourceText) (tokens : List Token) (items : List Item) (files : List (List ℕ)) (entry : ℕ) (g : Function) (input : Input) (p : Predicates) (steps : ℕ)
    → Lexed texts tokens → DerivesItems items (map terminal_of tokens) → faults_of items ≡ [] → length files ≡ length texts
    → slice_get (graph_of (typed_of items) files).functions entry ≡ Some g → CanStart g input.words
    → Agrees (typed_of items) (graph_of (typed_of items) files) entry g p steps input
