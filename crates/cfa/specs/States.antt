-- The states of a graph.
use Rattle.std.specs.Prelude.{◌≡◌, ℕ, ◌+◌, ◌-◌, ◌≤◌, List, [], map, take, sum, length, Option, Some, None, unwrap_or, Result, slice_get}
use Rattle.std.specs.Option.{IsNone, IsSomeAnd}
use Rattle.std.specs.List.{AllZip}
use Rattle.cfa.specs.declared.expr.Expr.{Expr}
use Rattle.cfa.specs.declared.parts.Function.{Function}
use Rattle.cfa.specs.declared.parts.GraphParts.{GraphParts}
use Rattle.cfa.specs.declared.state.Frame.{Frame}
use Rattle.cfa.specs.declared.state.State.{State}
use Rattle.cfa.specs.declared.state.Trap.{Trap}
use Rattle.cfa.specs.Each.{Each}
use Rattle.cfa.specs.Graph.{callee_of}
use Rattle.cfa.specs.Values.{value_of}

-- the frame that runs, the last one
abbrev pub running_frame : State → Frame
running_frame s = unwrap_or (slice_get s.frames (length s.frames - 1)) (record { call = None; base = 0; arrays = [] })

-- the value of an expression in a state, or its trap
abbrev pub value_in : State → Expr → Result ℕ Trap
value_in s e = value_of s.cells (running_frame s) e

abbrev pub function_cells : Option Function → ℕ
function_cells None = 0
function_cells (Some f) = f.cells

-- how many cells a frame of a function has
abbrev pub cells_of : GraphParts → ℕ → ℕ
cells_of parts function = function_cells (slice_get parts.functions function)

-- the place of the first cell behind the globals and the frames of these functions
abbrev pub end_of : GraphParts → List ℕ → ℕ
end_of parts owners = length parts.globals + sum (map (cells_of parts) owners)

-- the edge of this number is a call edge of one function, and calls another
abbrev pub IsCallBetween : GraphParts → ℕ → ℕ → ℕ → Type 0
IsCallBetween parts below own call =
    IsSomeAnd (slice_get parts.edges call) (λ e. (e.function ≡ below) × (callee_of e.operation ≡ Some own))

-- A frame has one lent array for each array parameter of its function, which lies, with that parameter's length, below
-- the frame's first cell.
abbrev pub HasArrays : GraphParts → ℕ → Frame → Type 0
HasArrays parts own frame =
    IsSomeAnd (slice_get parts.functions own) (λ f. AllZip (λ start length. start + length ≤ frame.base) frame.arrays f.arrays)

-- A state of the graph: each of its frames has a function.
pub record IsState (parts : GraphParts) (s : State) : Type 0 where
  -- the function of each frame
  pub owners : List ℕ
  pub each_owner : length owners ≡ length s.frames
  pub some_frame : 1 ≤ length s.frames
  pub most_frames : length s.frames ≤ 64
  -- the first frame alone comes from no call
  pub first : IsSomeAnd (slice_get s.frames 0) (λ frame. IsNone frame.call)
  -- each other comes from a call of the frame below, which calls its own function
  pub calls : (k below own : ℕ) (frame : Frame) → slice_get owners k ≡ Some below → slice_get owners (k + 1) ≡ Some own → slice_get s.frames (k + 1) ≡ Some frame → IsSomeAnd frame.call (IsCallBetween parts below own)
  -- the last one's function is the node's
  pub node : IsSomeAnd (slice_get parts.nodes s.node) (λ n. slice_get owners (length s.frames - 1) ≡ Some n.function)
  -- the cells are those of the globals and then each frame's
  pub bases : Each s.frames (λ k frame. frame.base ≡ end_of parts (take k owners))
  pub cells : length s.cells ≡ end_of parts owners
  pub arrays : (k own : ℕ) (frame : Frame) → slice_get owners k ≡ Some own → slice_get s.frames k ≡ Some frame → HasArrays parts own frame
