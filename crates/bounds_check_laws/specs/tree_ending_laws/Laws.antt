-- How a unit's function ends by the meaning of its trees, where inputs don't leave bounds and where ends are refuted.
use Rattle.std.specs.Prelude.{◌≡◌, ◌≢◌, ℕ, ◌+◌, ◌<◌, ◌≤◌, List, [], map, length, Option, Some, slice_get}
use Rattle.c_lex.specs.Lexed.{Lexed}
use Rattle.c_lex.specs.declared.token.SourceText.{SourceText}
use Rattle.c_lex.specs.declared.token.Token.{Token}
use Rattle.c_parse.specs.Items.{DerivesItems}
use Rattle.c_parse.specs.Signs.{terminal_of}
use Rattle.c_parse.specs.declared.unit.Item.{Item}
use Rattle.c_types.specs.Units.{faults_of, typed_of}
use Rattle.cfa.specs.Contexts.{Pair}
use Rattle.cfa.specs.declared.state.Predicates.{Predicates}
use Rattle.cfa.specs.declared.state.State.{State}
use Rattle.cfa.specs.declared.state.Trap.{Trap}
use Rattle.c_meaning.specs.Runs.{state_at}
use Rattle.c_meaning.specs.Starts.{CanStart, start_of}
use Rattle.c_meaning.specs.Steps.{next as next_of}
use Rattle.c_meaning.specs.declared.ends.Ends.TheVariants as counted
use Rattle.c_meaning.specs.declared.input.Input.{Input}
use Rattle.c_typed_trees.specs.declared.unit.Typed.{Typed}
use Rattle.c_typed_trees.specs.declared.unit.TypedFunction.{TypedFunction}
use Rattle.c_lower_rules.specs.graph_of.GraphOf.{function_of, graph_of}
use Rattle.path_runner.specs.Paths.{path_of}
use Rattle.path_runner.specs.declared.path.RunEnd.{RunEnd}
use Rattle.path_runner.specs.declared.path.RunEnd.TheVariants as ended
use Rattle.unwinder_reach.specs.reached.Reaching.{AreReached}
use Rattle.unwinder_reach.specs.declared.reached.bounds.Bounds.{Bounds}
use Rattle.unwinder_reach.specs.declared.reached.step.Step.{Step}
use Rattle.goals.specs.declared.plan.Plan.{Plan}
use Rattle.tree_meaning.specs.Ends.{tree_end}
use Rattle.tree_meaning.specs.declared.ends.TreeEnd.{TreeEnd}
use Rattle.tree_meaning.specs.declared.ends.TreeEnd.TheVariants as ends
use Rattle.measurer_hits.specs.run_laws.Laws.{IsGiven}
use Rattle.measurer_hits.specs.run_laws.Leaving.{LeavesBounds}
use Rattle.tree_meaning_laws.specs.tree_laws.Laws.{IsMade, IsNext}
use Rattle.bounds_check_laws.specs.ending_laws.Asking.{EndsAreRefuted}

-- ---- turns and edges

-- Where the states of the automaton end so after so many edges, every greater number of turns gives the end by the tree.
abbrev pub TurnsAboveEdges : Type 0
TurnsAboveEdges =
    (t : Typed) (files : List (List ℕ)) (entry : ℕ) (f : TypedFunction) (input : Input) (end : TreeEnd) (edges turns : ℕ) (s : State) →
    IsMade t (length files) → slice_get t.functions entry ≡ Some f → CanStart (function_of entry f) input.words →
    state_at (graph_of t files) (function_of entry f) input edges ≡ Some s → IsNext end (next_of (graph_of t files) input s) → edges < turns → tree_end t entry input turns ≡ end

-- ---- units of texts in which nothing is wrong

-- items and the function of a number are those of such texts
pub record IsUnitOf (texts : List SourceText) (files : List (List ℕ)) (items : List Item) (entry : ℕ) (f : TypedFunction) : Type 0 where
  pub tokens : List Token
  pub lexed : Lexed texts tokens
  pub derived : DerivesItems items (map terminal_of tokens)
  pub right : faults_of items ≡ []
  pub named : length files ≡ length texts
  pub there : slice_get (typed_of items).functions entry ≡ Some f

-- so it is of the end of an input from such a function
abbrev pub UnitTurnsAboveEdges : Type 0
UnitTurnsAboveEdges =
    (texts : List SourceText) (files : List (List ℕ)) (items : List Item) (entry : ℕ) (f : TypedFunction) (input : Input) (end : TreeEnd) (edges turns : ℕ) (s : State) →
    IsUnitOf texts files items entry f → CanStart (function_of entry f) input.words →
    state_at (graph_of (typed_of items) files) (function_of entry f) input edges ≡ Some s → IsNext end (next_of (graph_of (typed_of items) files) input s) → edges < turns →
    tree_end (typed_of items) entry input turns ≡ end

-- an end by the tree as the end of a recorded path: one for which no turn was left is cut
abbrev pub path_end : TreeEnd → RunEnd
path_end (ends.Returned value) = ended.Returned value
path_end (ends.Trapped trap) = ended.Trapped trap
path_end ends.Blocked = ended.Blocked
path_end ends.TooDeep = ended.TooDeep
path_end ends.OutOfTurns = ended.Cut

-- Where an input's path up to a limit of edges isn't cut, one turn more than the limit gives its end by the tree.
abbrev pub TreesAndPathsAgree : Type 0
TreesAndPathsAgree =
    (texts : List SourceText) (files : List (List ℕ)) (items : List Item) (entry : ℕ) (f : TypedFunction) (input : Input) (p : Predicates) (limit : ℕ) →
    IsUnitOf texts files items entry f → CanStart (function_of entry f) input.words →
    (path_of (graph_of (typed_of items) files) input p limit (start_of (graph_of (typed_of items) files) (function_of entry f) input.words)).end ≢ ended.Cut →
    path_end (tree_end (typed_of items) entry input (limit + 1)) ≡ (path_of (graph_of (typed_of items) files) input p limit (start_of (graph_of (typed_of items) files) (function_of entry f) input.words)).end

-- An input that doesn't leave the bounds, within which at most 50,000 pairs are reached, has one end by the tree, with 50,000 turns
-- and with any greater number.
abbrev pub StayingTreesEnd : Type 0
StayingTreesEnd =
    (texts : List SourceText) (files : List (List ℕ)) (items : List Item) (entry : ℕ) (f : TypedFunction) (bounds : Bounds) (pairs : List Pair) (steps : List (List Step)) (input : Input) →
    IsUnitOf texts files items entry f → CanStart (function_of entry f) input.words →
    AreReached (graph_of (typed_of items) files) bounds (function_of entry f) pairs steps → length pairs ≤ 50000 →
    ¬ LeavesBounds bounds.turns bounds.frames bounds.answers (graph_of (typed_of items) files) (function_of entry f) input →
    (end : TreeEnd) × (end ≢ ends.OutOfTurns) × ((turns : ℕ) → 50000 ≤ turns → tree_end (typed_of items) entry input turns ≡ end)

-- Where each end but a return is refuted with traps counted, no input ends in a trap by the tree, with any number of turns.
abbrev pub NoTreeTraps : Type 0
NoTreeTraps =
    (texts : List SourceText) (files : List (List ℕ)) (items : List Item) (entry : ℕ) (f : TypedFunction) (turns frames answers : ℕ) (p : Predicates) (plan : Plan) →
    IsUnitOf texts files items entry f →
    EndsAreRefuted turns frames answers (graph_of (typed_of items) files) (function_of entry f) p plan counted.Trapped →
    (input : Input) → IsGiven (function_of entry f) input → (turns : ℕ) (trap : Trap) → tree_end (typed_of items) entry input turns ≢ ends.Trapped trap

-- and with any end counted every input returns by the tree, with 50,000 turns and with any greater number
abbrev pub EachTreeReturns : Type 0
EachTreeReturns =
    (texts : List SourceText) (files : List (List ℕ)) (items : List Item) (entry : ℕ) (f : TypedFunction) (bounds : Bounds) (pairs : List Pair) (steps : List (List Step)) (p : Predicates) (plan : Plan) →
    IsUnitOf texts files items entry f →
    AreReached (graph_of (typed_of items) files) bounds (function_of entry f) pairs steps → length pairs ≤ 50000 →
    EndsAreRefuted bounds.turns bounds.frames bounds.answers (graph_of (typed_of items) files) (function_of entry f) p plan counted.Any →
    (input : Input) → IsGiven (function_of entry f) input → (value : Option ℕ) × ((turns : ℕ) → 50000 ≤ turns → tree_end (typed_of items) entry input turns ≡ ends.Returned value)
