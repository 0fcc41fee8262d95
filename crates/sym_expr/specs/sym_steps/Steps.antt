-- Symbolic states, and what a step tells in each world of what comes next there.
use Rattle.std.specs.Prelude.{◌≡◌, ℕ, ◌-◌, ◌≤◌, ◌==◌, Bool, true, false, List, [], ◌∷◌, ◌++◌, All, length, map, take, None, unwrap_or, slice_get, slice_index}
use Rattle.std.specs.Option.{IsSomeAnd}
use Rattle.circuit.specs.Truth.{World}
use Rattle.circuit.specs.Wires.{IsWire, lit_holds}
use Rattle.circuit.specs.declared.lit.Lit.{Lit}
use Rattle.circuit.specs.declared.lit.Gate.{Gate}
use Rattle.cfa.specs.declared.parts.GraphParts.{GraphParts}
use Rattle.cfa.specs.declared.parts.Operation.{Operation}
use Rattle.cfa.specs.declared.parts.Operation.TheVariants.{Call, Return}
use Rattle.cfa.specs.declared.state.Frame.{Frame}
use Rattle.cfa.specs.declared.state.State.{State}
use Rattle.cfa.specs.Each.{Each}
use Rattle.cfa.specs.States.{IsState}
use Rattle.c_meaning.specs.declared.input.Input.{Input}
use Rattle.c_meaning.specs.declared.stepped.Stepped.{Stepped}
use Rattle.c_meaning.specs.declared.stepped.Stepped.TheVariants.{Moved, Returned, Trapped, Blocked, TooDeep}
use Rattle.c_meaning.specs.Steps.{called_frame, start_in}
use Rattle.sym_expr.specs.Stores.{cells_in}
use Rattle.sym_expr.specs.declared.sym_steps.state.SymState.{SymState}
use Rattle.sym_expr.specs.declared.sym_steps.state.SymStep.{SymStep}

-- ---- states

-- the frame that runs, the last one
abbrev pub running_of : List Frame → Frame
running_of frames = unwrap_or (slice_get frames (length frames - 1)) (record { call = None; base = 0; arrays = [] })

-- the state that a symbolic one is in a world
abbrev pub state_in : List Gate → SymState → World → State
state_in gates s w = record { node = s.node; frames = s.frames; cells = cells_in gates s.store.cells w; taken = s.taken }

-- in every world it is a state of the graph
abbrev pub AreStates : GraphParts → List Gate → SymState → Type 0
AreStates parts gates s = (w : World) → IsState parts (state_in gates s w)

-- the state behind a step, at a node
abbrev pub state_after : List Gate → SymStep → ℕ → World → State
state_after gates t node w = record { node = node; frames = t.frames; cells = cells_in gates t.store.cells w; taken = t.taken }

-- ---- what comes next

-- the run goes on along this edge
abbrev pub goes_along : ℕ → Stepped → Bool
goes_along edge (Moved at to) = edge == at
goes_along edge (Returned value) = false
goes_along edge (Trapped trap) = false
goes_along edge Blocked = false
goes_along edge TooDeep = false

abbrev pub is_trapped : Stepped → Bool
is_trapped (Trapped trap) = true
is_trapped (Moved at to) = false
is_trapped (Returned value) = false
is_trapped Blocked = false
is_trapped TooDeep = false

abbrev pub is_returned : Stepped → Bool
is_returned (Returned value) = true
is_returned (Moved at to) = false
is_returned (Trapped trap) = false
is_returned Blocked = false
is_returned TooDeep = false

-- P of the edge and the state, where the run goes on
abbrev pub IfAlong : Stepped → (ℕ → State → Type 0) → Type 0
IfAlong (Moved at to) P = P at to
IfAlong (Returned value) P = Unit {0}
IfAlong (Trapped trap) P = Unit {0}
IfAlong Blocked P = Unit {0}
IfAlong TooDeep P = Unit {0}

-- one of the ways is along this edge
abbrev pub HasWay : SymStep → ℕ → Type 0
HasWay t at = (k : ℕ) × IsSomeAnd (slice_get t.ways k) (λ way. way.edge ≡ at)

-- What a step tells in a world of what comes next there.
pub record Tells (gates : List Gate) (t : SymStep) (w : World) (next : Stepped) : Type 0 where
  -- a way is taken where the run goes on along its edge, and it goes on along no other edge
  pub ways : Each t.ways (λ k way. lit_holds gates way.taken w ≡ goes_along way.edge next)
  pub onward : IfAlong next (λ at to. HasWay t at)
  pub traps : lit_holds gates t.traps w ≡ is_trapped next
  pub returns : t.returns ≡ is_returned next

-- the state that the run goes on in is the one behind the step, at the edge's target
abbrev pub LeadsTo : GraphParts → List Gate → SymStep → World → Stepped → Type 0
LeadsTo parts gates t w next = IfAlong next (λ at to. IsSomeAnd (slice_get parts.edges at) (λ e. to ≡ state_after gates t e.target w))

-- the word of an answer is the input's answer of its number in a world, and 0 past the words
abbrev pub Agrees : List Gate → List (List Lit) → World → Input → ℕ → Type 0
Agrees gates answers w input number = slice_index (cells_in gates answers w) number ≡ slice_index input.answers number

-- the frames after an operation of an edge
abbrev pub frames_next : State → ℕ → Operation → List Frame
frames_next s at (Call callee words arrays) = s.frames ++ called_frame s at (map (start_in s) arrays) ∷ []
frames_next s at (Return call dest) = take (length s.frames - 1) s.frames
frames_next s at _ = s.frames

-- A step of a symbolic state: in every world it tells what comes next of the state there.
pub record IsStep (parts : GraphParts) (old new : List Gate) (answers : List (List Lit)) (s : SymState) (next : Input → State → Stepped) (t : SymStep) : Type 0 where
  pub tells : (w : World) (input : Input) → Tells new t w (next input (state_in old s w))
  pub leads : (w : World) (input : Input) → Agrees old answers w input s.taken → LeadsTo parts new t w (next input (state_in old s w))
  -- each way leads to states of the graph, also in the worlds where it isn't taken, with the same frames in all
  pub keeps : Each t.ways (λ k way. IsSomeAnd (slice_get parts.edges way.edge) (λ e. (w : World) → IsState parts (state_after new t e.target w)))
  pub frames : Each t.ways (λ k way. IsSomeAnd (slice_get parts.edges way.edge) (λ e. (w : World) → t.frames ≡ frames_next (state_in old s w) way.edge e.operation))
  pub few : length t.ways ≤ 2
  pub cells : All (All (IsWire new)) t.store.cells
  pub wires : Each t.ways (λ k way. IsWire new way.taken)
  pub trap_wire : IsWire new t.traps
