-- What follows from the definitions, for those who rest on them.
use Rattle.std.specs.Prelude.{◌≡◌, ◌↔◌, ℕ, List, [], ◌∷◌, length, Ok, Option, Some, IsTrue, slice_get}
use Rattle.std.specs.Option.{option_map}
use Rattle.std.specs.List.{AllZip}
use Rattle.cfa.specs.declared.expr.ArrayPlace.{ArrayPlace}
use Rattle.cfa.specs.declared.expr.Expr.{Expr}
use Rattle.cfa.specs.declared.parts.Edge.{Edge}
use Rattle.cfa.specs.declared.parts.Function.{Function}
use Rattle.cfa.specs.declared.parts.GraphParts.{GraphParts}
use Rattle.cfa.specs.declared.parts.Operation.TheVariants.{Assume, Call}
use Rattle.cfa.specs.declared.state.State.{State}
use Rattle.cfa.specs.Contexts.{Pair, Follows, IsWalk, IsWithin, first_pair}
use Rattle.cfa.specs.Each.{Each}
use Rattle.cfa.specs.Graph.{IsGraph}
use Rattle.cfa.specs.States.{IsState, value_in}
use Rattle.cfa.specs.Table.{outgoing_of}
use Rattle.c_meaning.specs.declared.ends.Ends.{Ends}
use Rattle.c_meaning.specs.declared.input.Input.{Input}
use Rattle.c_meaning.specs.declared.stepped.Stepped.TheVariants.{Moved, Returned, Blocked, TooDeep}
use Rattle.c_meaning.specs.Pairs.{Fits, IsLongestWithin, IsRunWithin, last_pair_in, pair_along, pairs_along, pairs_in}
use Rattle.c_meaning.specs.Runs.{Run, IsBeginning, IsRun, counts, edges_in, last_in, state_at, states_in}
use Rattle.c_meaning.specs.Starts.{CanStart, fitted}
use Rattle.c_meaning.specs.Steps.{function_at, next, result_word}

-- ---- ends of runs

-- one edge leaves the state's node, an assumption whose test is 0
pub record FailsAssumption (parts : GraphParts) (s : State) : Type 0 where
  pub at : ℕ
  pub edge : Edge
  pub test : Expr
  pub only : outgoing_of parts s.node ≡ at ∷ []
  pub there : slice_get parts.edges at ≡ Some edge
  pub assumes : edge.operation ≡ Assume test
  pub fails : value_in s test ≡ Ok 0

-- a state of a graph is blocked exactly where an assumption fails
abbrev pub BlockedStates : Type 0
BlockedStates =
    (parts : GraphParts) (input : Input) (s : State) → IsGraph parts → IsState parts s → (next parts input s ≡ Blocked) ↔ FailsAssumption parts s

-- one edge leaves the state's node, a call, and 64 frames stand
pub record CallsTooDeep (parts : GraphParts) (s : State) : Type 0 where
  pub at : ℕ
  pub edge : Edge
  pub callee : ℕ
  pub words : List Expr
  pub arrays : List ArrayPlace
  pub only : outgoing_of parts s.node ≡ at ∷ []
  pub there : slice_get parts.edges at ≡ Some edge
  pub calls : edge.operation ≡ Call callee words arrays
  pub full : length s.frames ≡ 64

-- a run is too deep exactly where a call would make more than 64 frames
abbrev pub TooDeepStates : Type 0
TooDeepStates =
    (parts : GraphParts) (input : Input) (s : State) → IsGraph parts → IsState parts s → (next parts input s ≡ TooDeep) ↔ CallsTooDeep parts s

-- the state is at the exit of its function, with one frame, whose result is the value
pub record ReturnsValue (parts : GraphParts) (s : State) (value : Option ℕ) : Type 0 where
  pub function : Function
  pub own : function_at parts s.node ≡ Some function
  pub exit : s.node ≡ function.exit
  pub one : length s.frames ≡ 1
  pub gives : value ≡ option_map (λ kind. fitted kind (result_word s)) function.result

-- a run has returned exactly where it is at the entry's exit
abbrev pub ReturnedStates : Type 0
ReturnedStates =
    (parts : GraphParts) (input : Input) (s : State) (value : Option ℕ) → IsGraph parts → IsState parts s → (next parts input s ≡ Returned value) ↔ ReturnsValue parts s value

-- ---- runs

-- the states of a beginning are states of the graph
abbrev pub RunStates : Type 0
RunStates =
    (parts : GraphParts) (k : ℕ) (entry : Function) (input : Input) (r : Run) → IsGraph parts → slice_get parts.functions k ≡ Some entry → CanStart entry input.words → IsBeginning parts entry input r → Each (states_in r) (λ n s. IsState parts s)

-- the states of a beginning are the first ones of the input
abbrev pub BeginningStates : Type 0
BeginningStates =
    (parts : GraphParts) (entry : Function) (input : Input) (r : Run) → IsBeginning parts entry input r → (n : ℕ) (s : State) → slice_get (states_in r) n ≡ Some s → state_at parts entry input n ≡ Some s

-- a beginning is the run, where what comes next of its last state is counted
abbrev pub RunsByTheirEnds : Type 0
RunsByTheirEnds =
    (parts : GraphParts) (entry : Function) (input : Input) (ends : Ends) (r : Run) → IsBeginning parts entry input r → IsTrue (counts ends (next parts input (last_in r))) → IsRun parts entry input ends r

-- an input has one run, whatever ends count
abbrev pub OneRun : Type 0
OneRun =
    (parts : GraphParts) (entry : Function) (input : Input) (ends other : Ends) (r q : Run) → IsRun parts entry input ends r → IsRun parts entry input other q → r ≡ q

-- ---- contexts of runs

-- a step goes along the edge that is taken: it leads the pair of a state to the pair of the next one
abbrev pub StepsFollow : Type 0
StepsFollow =
    (parts : GraphParts) (input : Input) (s to : State) (at : ℕ) (p : Pair) → IsGraph parts → IsState parts s → next parts input s ≡ Moved at to → Fits p s → ((e : Edge) × Follows parts at e p (pair_along parts p at)) × Fits (pair_along parts p at) to

-- the pairs of a run, or of its beginning, are a walk from the entry, and each fits the state beside it
abbrev pub RunsAreWalks : Type 0
RunsAreWalks =
    (parts : GraphParts) (k : ℕ) (entry : Function) (input : Input) (r : Run) → IsGraph parts → slice_get parts.functions k ≡ Some entry → CanStart entry input.words → IsBeginning parts entry input r → IsWalk parts (first_pair entry) (pairs_along parts (first_pair entry) (edges_in r)) × AllZip Fits (pairs_in parts entry r) (states_in r)

-- ---- runs within bounds

-- a beginning within bounds is the longest one, where the run doesn't go on, or only to a state that isn't within them
abbrev pub LongestByTheirEnds : Type 0
LongestByTheirEnds =
    (turns frames answers : ℕ) (parts : GraphParts) (entry : Function) (input : Input) (r : Run) → IsBeginning parts entry input r → IsRunWithin turns frames answers parts entry r → ((at : ℕ) (to : State) → next parts input (last_in r) ≡ Moved at to → ¬ IsWithin turns frames answers (pair_along parts (last_pair_in parts entry r) at).context) → IsLongestWithin turns frames answers parts entry input r

-- there is one at most
abbrev pub OneLongest : Type 0
OneLongest =
    (turns frames answers : ℕ) (parts : GraphParts) (entry : Function) (input : Input) (r q : Run) → IsLongestWithin turns frames answers parts entry input r → IsLongestWithin turns frames answers parts entry input q → r ≡ q

-- the run of an input is within bounds exactly where it is the longest beginning within them
abbrev pub RunsWithin : Type 0
RunsWithin =
    (turns frames answers : ℕ) (parts : GraphParts) (entry : Function) (input : Input) (ends : Ends) (r : Run) → IsRun parts entry input ends r → IsRunWithin turns frames answers parts entry r ↔ IsLongestWithin turns frames answers parts entry input r
