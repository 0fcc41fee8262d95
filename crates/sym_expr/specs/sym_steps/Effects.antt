-- What the operations of edges make of cells, and what words tell of it in a world.
use Rattle.std.specs.Prelude.{ℕ, if◌then◌else◌, List, Option, Some, None, option_and_then, slice_set}
use Rattle.std.specs.Option.{option_map}
use Rattle.std.specs.Result.{result_ok}
use Rattle.circuit.specs.Truth.{World}
use Rattle.circuit.specs.Wires.{lit_holds}
use Rattle.circuit.specs.declared.lit.Lit.{Lit}
use Rattle.circuit.specs.declared.lit.Gate.{Gate}
use Rattle.cfa.specs.declared.expr.CellPlace.{CellPlace}
use Rattle.cfa.specs.declared.expr.Expr.{Expr}
use Rattle.cfa.specs.declared.state.Frame.{Frame}
use Rattle.cfa.specs.Values.{cell_of, value_of}
use Rattle.sym_expr.specs.Stores.{cells_in}

-- what words are in a world, if the literal beside them holds there
abbrev pub words_in : List Gate → List (List Lit) → Lit → World → Option (List ℕ)
words_in gates words fine w = if lit_holds gates fine w then Some (cells_in gates words w) else None

-- the cells with a value in the cell that a place names, where there is a place, unless its index traps
abbrev pub put_cells : List ℕ → Frame → Option CellPlace → ℕ → Option (List ℕ)
put_cells cells frame None value = Some cells
put_cells cells frame (Some place) value = option_map (λ cell. slice_set cells cell value) (result_ok (cell_of cells frame place))

-- the cells with an expression's value in the cell that a place names, unless one of them traps
abbrev pub assigned_cells : List ℕ → Frame → CellPlace → Expr → Option (List ℕ)
assigned_cells cells frame place value =
    option_and_then (λ cell. option_map (λ v. slice_set cells cell v) (result_ok (value_of cells frame value))) (result_ok (cell_of cells frame place))
