-- What is there where control is.
use Rattle.std.specs.Prelude.{◌≡◌, ℕ, false, Option, Some, None, List, [], Result, Ok, Err, slice_get, slice_set}
use Rattle.cfa.specs.declared.parts.Edge.{Edge}
use Rattle.cfa.specs.declared.parts.Function.{Function}
use Rattle.cfa.specs.declared.parts.GraphParts.{GraphParts}
use Rattle.cfa.specs.declared.state.State.{State}
use Rattle.cfa.specs.Graph.{room_of, is_return}
use Rattle.cfa.specs.Rules.{Room}
use Rattle.cfa.specs.States.{running_frame}
use Rattle.cfa.specs.declared.expr.CellPlace.{CellPlace}
use Rattle.cfa.specs.declared.state.Trap.{Trap}
use Rattle.c_meaning.specs.Steps.{cell_in, function_at}
use Rattle.c_meaning.specs.Storage.{Storage}

-- nothing can be named where there is no function
abbrev pub room_in : GraphParts → Option Function → Room
room_in parts None = record { globals = 0; cells = 0; arrays = [] }
room_in parts (Some f) = room_of parts f

-- what the expressions of a state are evaluated over
abbrev pub storage_of : GraphParts → State → Storage
storage_of parts s = record { cells = s.cells; frame = running_frame s; room = room_in parts (function_at parts s.node) }

-- the edge of this number leaves the state's node and is no return
abbrev pub Leaves : GraphParts → State → ℕ → Edge → Type 0
Leaves parts s at e = (slice_get parts.edges at ≡ Some e) × (e.source ≡ s.node) × (is_return e.operation ≡ false)

abbrev pub some_cell : Result ℕ Trap → Result (Option ℕ) Trap
some_cell (Ok cell) = Ok (Some cell)
some_cell (Err trap) = Err trap

-- the cell that something is put into, where there is one
abbrev pub dest_in : State → Option CellPlace → Result (Option ℕ) Trap
dest_in s None = Ok None
dest_in s (Some place) = some_cell (cell_in s place)

abbrev pub put_in : List ℕ → Option ℕ → ℕ → List ℕ
put_in cells None value = cells
put_in cells (Some cell) value = slice_set cells cell value
