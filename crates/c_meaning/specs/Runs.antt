-- Runs without a limit.
use Rattle.std.specs.Prelude.{◌≡◌, ℕ, zero, suc, Bool, true, false, List, [], ◌∷◌, map, Option, Some, None, option_and_then, slice_get, IsTrue}
use Rattle.cfa.specs.declared.parts.Function.{Function}
use Rattle.cfa.specs.declared.parts.GraphParts.{GraphParts}
use Rattle.cfa.specs.declared.state.State.{State}
use Rattle.c_meaning.specs.declared.ends.Ends.{Ends}
use Rattle.c_meaning.specs.declared.ends.Ends.TheVariants as counted
use Rattle.c_meaning.specs.declared.input.Input.{Input}
use Rattle.c_meaning.specs.declared.stepped.Stepped.{Stepped}
use Rattle.c_meaning.specs.declared.stepped.Stepped.TheVariants.{Moved, Returned, Trapped, Blocked, TooDeep}
use Rattle.c_meaning.specs.Starts.{start_of}
use Rattle.c_meaning.specs.Steps.{next}

-- ---- the sequence of states

-- the state that a run goes on in, where it goes on
abbrev pub state_moved : Stepped → Option State
state_moved (Moved edge to) = Some to
state_moved (Returned value) = None
state_moved (Trapped trap) = None
state_moved Blocked = None
state_moved TooDeep = None

abbrev pub state_after : GraphParts → Input → State → Option State
state_after parts input s = state_moved (next parts input s)

-- the state of a number, counted from 0, of the sequence that begins with a state and goes on by what comes next
abbrev pub state_from : GraphParts → Input → State → ℕ → Option State
state_from parts input first zero = Some first
state_from parts input first (suc n) = option_and_then (state_after parts input) (state_from parts input first n)

-- The states of an input from an entry: the sequence begins with the first state of a run, and goes on by what comes
-- next, as long as the run goes on. This is the state of a number, counted from 0, where there are so many.
abbrev pub state_at : GraphParts → Function → Input → ℕ → Option State
state_at parts entry input n = state_from parts input (start_of parts entry input.words) n

-- ---- the ends that count

abbrev pub counts_traps : Ends → Bool
counts_traps counted.Returned = false
counts_traps counted.Trapped = true
counts_traps counted.Any = true

abbrev pub counts_any : Ends → Bool
counts_any counted.Returned = false
counts_any counted.Trapped = false
counts_any counted.Any = true

-- by what comes next: a run that returns is counted always, one that traps where traps are, one that is blocked or too
-- deep where any end is; one that goes on hasn't ended
abbrev pub counts : Ends → Stepped → Bool
counts ends (Moved edge to) = false
counts ends (Returned value) = true
counts ends (Trapped trap) = counts_traps ends
counts ends Blocked = counts_any ends
counts ends TooDeep = counts_any ends

-- ---- runs

-- a step that went on: the edge, and the states before and after it
pub record Move : Type 0 where
  pub edge : ℕ
  pub source : State
  pub target : State

-- a run, or its beginning: the first state, and the moves that follow
pub record Run : Type 0 where
  pub first : State
  pub moves : List Move

-- the first state, and the one after each move
abbrev pub states_of : State → List Move → List State
states_of first moves = first ∷ map (λ (m : Move). m.target) moves

abbrev pub last_state : State → List Move → State
last_state first [] = first
last_state first (move ∷ moves) = last_state move.target moves

-- states 0 to n
abbrev pub states_in : Run → List State
states_in r = states_of r.first r.moves

-- edges 1 to n, each between two of the states
abbrev pub edges_in : Run → List ℕ
edges_in r = map (λ (m : Move). m.edge) r.moves

abbrev pub last_in : Run → State
last_in r = last_state r.first r.moves

-- each move leads from the state before, along its edge, to what comes next there
abbrev pub AreMoves : GraphParts → Input → State → List Move → Type 0
AreMoves parts input s [] = Unit {0}
AreMoves parts input s (m ∷ ms) = (m.source ≡ s) × (next parts input s ≡ Moved m.edge m.target) × AreMoves parts input m.target ms

-- a run of an input from an entry, or its beginning
pub record IsBeginning (parts : GraphParts) (entry : Function) (input : Input) (r : Run) : Type 0 where
  pub start : r.first ≡ start_of parts entry input.words
  pub moves : AreMoves parts input r.first r.moves

-- The run of an input from an entry, where it is counted: it lists states 0 to n and the edges 1 to n between them, these
-- are all states of the input, and what comes next of the last one is counted.
pub record IsRun (parts : GraphParts) (entry : Function) (input : Input) (ends : Ends) (r : Run) : Type 0 where
  pub begins : IsBeginning parts entry input r
  pub whole : (n : ℕ) → slice_get (states_in r) n ≡ state_at parts entry input n
  pub counted : IsTrue (counts ends (next parts input (last_in r)))
