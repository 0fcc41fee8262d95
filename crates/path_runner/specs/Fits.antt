-- What the functions of this crate say of each other.
use Rattle.std.specs.Prelude.{◌≡◌, ℕ, List, Option, Some, Result, Ok, Err, slice_get, IsTrue}
use Rattle.cfa.specs.declared.expr.Expr.{Expr}
use Rattle.cfa.specs.declared.parts.GraphParts.{GraphParts}
use Rattle.cfa.specs.declared.state.State.{State}
use Rattle.cfa.specs.Rules.{expr_fits}
use Rattle.c_meaning.specs.declared.stepped.Stepped.{Stepped}
use Rattle.c_meaning.specs.declared.stepped.Stepped.TheVariants.{Moved, Returned, Trapped, Blocked, TooDeep}
use Rattle.c_meaning.specs.Places.{room_in}
use Rattle.c_meaning.specs.Steps.{function_at}
use Rattle.path_runner.specs.declared.path.RunEnd.{RunEnd}
use Rattle.path_runner.specs.declared.path.RunEnd.TheVariants as ended

-- an expression that a predicate has in a scope names what the function has where control is
abbrev pub RowFits : GraphParts → State → ℕ → List (Option Expr) → Type 0
RowFits parts s scope row =
    (e : Expr) → slice_get row scope ≡ Some (Some e) → IsTrue (expr_fits (room_in parts (function_at parts s.node)) e)

-- the edge along which a run goes on and the state that it leads to, or how the run ends
abbrev pub further : Stepped → Result (ℕ × State) RunEnd
further (Moved edge to) = Ok (edge, to)
further (Returned value) = Err (ended.Returned value)
further (Trapped trap) = Err (ended.Trapped trap)
further Blocked = Err ended.Blocked
further TooDeep = Err ended.TooDeep

-- the same, of an edge alone, where this is the state that it leads to
abbrev pub leading : State → Result ℕ RunEnd → Result (ℕ × State) RunEnd
leading to (Ok edge) = Ok (edge, to)
leading to (Err end) = Err end
