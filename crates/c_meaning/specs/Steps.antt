-- What comes next in a run.
use Rattle.std.specs.Prelude.{ℕ, ◌+◌, ◌-◌, ◌==◌, nat_le, if◌then◌else◌, List, [], ◌∷◌, ◌++◌, map, take, drop, length, replicate, Option, Some, None, option_and_then, Result, Ok, Err, slice_get, slice_index, slice_set}
use Rattle.std.specs.Option.{option_map}
use Rattle.c_values.specs.declared.kinds.Kind.{Kind}
use Rattle.cfa.specs.declared.expr.ArrayPlace.{ArrayPlace}
use Rattle.cfa.specs.declared.expr.CellPlace.{CellPlace}
use Rattle.cfa.specs.declared.expr.Expr.{Expr}
use Rattle.cfa.specs.declared.parts.Edge.{Edge}
use Rattle.cfa.specs.declared.parts.Function.{Function}
use Rattle.cfa.specs.declared.parts.GraphParts.{GraphParts}
use Rattle.cfa.specs.declared.parts.InputFunction.{InputFunction}
use Rattle.cfa.specs.declared.parts.Node.{Node}
use Rattle.cfa.specs.declared.parts.Operation.{Operation}
use Rattle.cfa.specs.declared.parts.Operation.TheVariants.{Skip, Assign, Clear, Guard, Call, Return, Answer, Assert, Assume}
use Rattle.cfa.specs.declared.state.Frame.{Frame}
use Rattle.cfa.specs.declared.state.State.{State}
use Rattle.cfa.specs.declared.state.Trap.{Trap}
use Rattle.cfa.specs.declared.state.Trap.TheVariants as trap
use Rattle.cfa.specs.States.{running_frame, value_in}
use Rattle.cfa.specs.Table.{outgoing_of}
use Rattle.cfa.specs.Values.{array_start, cell_of, value_of}
use Rattle.c_meaning.specs.declared.input.Input.{Input}
use Rattle.c_meaning.specs.declared.stepped.Step.{Step}
use Rattle.c_meaning.specs.declared.stepped.Step.TheVariants as step
use Rattle.c_meaning.specs.declared.stepped.Stepped.{Stepped}
use Rattle.c_meaning.specs.declared.stepped.Stepped.TheVariants.{Moved, Returned, Trapped, Blocked, TooDeep}
use Rattle.c_meaning.specs.Starts.{fitted, frame_cells}

-- ---- values, or the trap that ends the run

-- goes on with a value or a cell
abbrev pub unless_trapped : {A : Type 0} → Result A Trap → (A → Stepped) → Stepped
unless_trapped (Ok value) next = next value
unless_trapped (Err trap) next = Trapped trap

-- the cell of a place
abbrev pub cell_in : State → CellPlace → Result ℕ Trap
cell_in s place = cell_of s.cells (running_frame s) place

abbrev pub value_before : Result ℕ Trap → Result (List ℕ) Trap → Result (List ℕ) Trap
value_before (Err trap) rest = Err trap
value_before (Ok value) (Err trap) = Err trap
value_before (Ok value) (Ok values) = Ok (value ∷ values)

-- the values of words in order, over these cells and the frame that runs
abbrev pub values_of : List ℕ → Frame → List Expr → Result (List ℕ) Trap
values_of cells frame [] = Ok []
values_of cells frame (word ∷ words) = value_before (value_of cells frame word) (values_of cells frame words)

abbrev pub values_in : State → List Expr → Result (List ℕ) Trap
values_in s words = values_of s.cells (running_frame s) words

-- the place of an array's first cell
abbrev pub start_in : State → ArrayPlace → ℕ
start_in s array = array_start s.cells (running_frame s) array

-- ---- along an edge within a function

-- the run goes to the edge's target with these cells
abbrev pub moved : ℕ → Edge → State → List ℕ → Stepped
moved at e s cells = Moved at (record s { node = e.target; cells = cells })

-- a value is put into a cell, where there is one
abbrev pub put : State → Option CellPlace → ℕ → (List ℕ → Stepped) → Stepped
put s None value next = next s.cells
put s (Some place) value next = unless_trapped (cell_in s place) (λ cell. next (slice_set s.cells cell value))

-- the cells, with those of an array set to 0
abbrev pub cleared : List ℕ → ℕ → ℕ → List ℕ
cleared cells first count = take first cells ++ (replicate count 0 ++ drop (first + count) cells)

-- the answer of a number as a value of a kind, and 0 past the end of the list
abbrev pub answer_of : Input → Kind → ℕ → ℕ
answer_of input kind number = fitted kind (slice_index input.answers number)

-- an answer is taken, whose place goes first
abbrev pub answered : Input → State → ℕ → Edge → Option CellPlace → Option InputFunction → Stepped
answered input s at e dest None = Blocked
answered input s at e dest (Some f) =
    put s dest (answer_of input f.result s.taken) (λ cells. Moved at (record s { node = e.target; cells = cells; taken = s.taken + 1 }))

-- ---- calls

-- the frame of a call, above the cells that are there, with the places of the arrays that it is lent
abbrev pub called_frame : State → ℕ → List ℕ → Frame
called_frame s at starts = record { call = Some at; base = length s.cells; arrays = starts }

-- a frame with these words is pushed, and the run goes to the callee's entry
abbrev pub called : State → ℕ → Edge → List ℕ → Function → List ℕ → Stepped
called s at e starts f words = Moved at (record s {
  node = e.target;
  frames = s.frames ++ called_frame s at starts ∷ [];
  cells = s.cells ++ frame_cells f words;
})

-- a call where 64 frames stand is too deep, before its words are evaluated
abbrev pub call_of : State → ℕ → Edge → List Expr → List ArrayPlace → Option Function → Stepped
call_of s at e words arrays None = Blocked
call_of s at e words arrays (Some f) =
    if nat_le 64 (length s.frames) then TooDeep else unless_trapped (values_in s words) (called s at e (map (start_in s) arrays) f)

-- ---- each operation

-- a test that is 0 ends the run so
abbrev pub unless_zero : Stepped → Stepped → ℕ → Stepped
unless_zero stopped next value = if value == 0 then stopped else next

-- what an operation does. An assigned element's index goes before the value. No node but an exit has a return.
abbrev pub operated : GraphParts → Input → State → ℕ → Edge → Operation → Stepped
operated parts input s at e Skip = moved at e s s.cells
operated parts input s at e (Assign place value) =
    unless_trapped (cell_in s place) (λ cell. unless_trapped (value_in s value) (λ v. moved at e s (slice_set s.cells cell v)))
operated parts input s at e (Clear array count) = moved at e s (cleared s.cells (start_in s array) count)
operated parts input s at e (Guard test truth) = moved at e s s.cells
operated parts input s at e (Call callee words arrays) = call_of s at e words arrays (slice_get parts.functions callee)
operated parts input s at e (Return call dest) = Blocked
operated parts input s at e (Answer number dest) = answered input s at e dest (slice_get parts.inputs number)
operated parts input s at e (Assert test) = unless_trapped (value_in s test) (unless_zero (Trapped trap.Assert) (moved at e s s.cells))
operated parts input s at e (Assume test) = unless_trapped (value_in s test) (unless_zero Blocked (moved at e s s.cells))

abbrev pub along_edge : GraphParts → Input → State → ℕ → Option Edge → Stepped
along_edge parts input s at None = Blocked
along_edge parts input s at (Some e) = operated parts input s at e e.operation

abbrev pub along : GraphParts → Input → State → ℕ → Stepped
along parts input s at = along_edge parts input s at (slice_get parts.edges at)

-- ---- from a node

-- of two guards, that of truth first, the test's value picks one
abbrev pub picked_by : GraphParts → Input → State → ℕ → ℕ → Operation → Stepped
picked_by parts input s yes_at no_at (Guard test truth) =
    unless_trapped (value_in s test) (λ v. if v == 0 then along parts input s no_at else along parts input s yes_at)
picked_by parts input s yes_at no_at _ = Blocked

abbrev pub picked : GraphParts → Input → State → ℕ → ℕ → Option Edge → Stepped
picked parts input s yes_at no_at None = Blocked
picked parts input s yes_at no_at (Some e) = picked_by parts input s yes_at no_at e.operation

-- by the numbers of the edges that leave the node: one, or two guards
abbrev pub onward : GraphParts → Input → State → List ℕ → Stepped
onward parts input s [] = Blocked
onward parts input s (at ∷ []) = along parts input s at
onward parts input s (yes_at ∷ no_at ∷ rest) = picked parts input s yes_at no_at (slice_get parts.edges yes_at)

-- ---- from an exit

-- what the cell of the result holds
abbrev pub result_word : State → ℕ
result_word s = slice_index s.cells (running_frame s).base

-- without the frame that runs
abbrev pub popped : State → State
popped s = record s { frames = take (length s.frames - 1) s.frames; cells = take (running_frame s).base s.cells }

-- the frame that ran is removed, and its result is put where the call wants it: into a cell of the frame below or a global
abbrev pub returned_by : State → ℕ → Edge → Operation → Stepped
returned_by s at e (Return call dest) = put (popped s) dest (result_word s) (moved at e (popped s))
returned_by s at e _ = Blocked

abbrev pub returned_along : State → ℕ → Option Edge → Stepped
returned_along s at None = Blocked
returned_along s at (Some e) = returned_by s at e e.operation

-- the return edge follows the call edge
abbrev pub returned_from : GraphParts → State → Option ℕ → Stepped
returned_from parts s None = Blocked
returned_from parts s (Some call) = returned_along s (call + 1) (slice_get parts.edges (call + 1))

-- with one frame the run has returned what the function gives
abbrev pub left : GraphParts → State → Function → Stepped
left parts s f =
    if length s.frames == 1 then Returned (option_map (λ kind. fitted kind (result_word s)) f.result)
    else returned_from parts s (running_frame s).call

-- ---- the next of a state

-- the function that a node belongs to
abbrev pub function_at : GraphParts → ℕ → Option Function
function_at parts node = option_and_then (λ (n : Node). slice_get parts.functions n.function) (slice_get parts.nodes node)

abbrev pub next_within : GraphParts → Input → State → Option Function → Stepped
next_within parts input s None = Blocked
next_within parts input s (Some f) = if s.node == f.exit then left parts s f else onward parts input s (outgoing_of parts s.node)

-- What comes next in a state of the graph. What is said of functions, edges and operations that aren't there, or that
-- leave a node where no graph has them, stands in for cases that no state of a graph has: `BlockedStates` says so.
unfoldable pub next : GraphParts → Input → State → Stepped
next parts input s = next_within parts input s (function_at parts s.node)

-- P of the state that the run goes on in, if it does
abbrev pub IfMoved : Stepped → (State → Type 0) → Type 0
IfMoved (Moved at to) P = P to
IfMoved (Returned value) P = Unit {0}
IfMoved (Trapped trap) P = Unit {0}
IfMoved Blocked P = Unit {0}
IfMoved TooDeep P = Unit {0}

-- what comes next, where a step says this and leaves this state
abbrev pub stepped : Step → State → Stepped
stepped (step.Moved edge) s = Moved edge s
stepped (step.Returned value) s = Returned value
stepped (step.Trapped trap) s = Trapped trap
stepped step.Blocked s = Blocked
stepped step.TooDeep s = TooDeep
