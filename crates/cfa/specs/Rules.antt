-- The rules for the expressions and places of a function.
use Rattle.std.specs.Prelude.{ℕ, ◌+◌, Bool, true, false, ◌&&◌, if◌then◌else◌, ◌==◌, nat_lt, nat_le, List, Option, Some, None, slice_get}
use Rattle.std.specs.Option.{is_some}
use Rattle.c_values.specs.declared.kinds.Kind.{Kind}
use Rattle.c_values.specs.declared.operators.BinaryOp.{BinaryOp}
use Rattle.c_values.specs.Kind.{is_kind, is_value}
use Rattle.cfa.specs.declared.expr.ArrayPlace.{ArrayPlace}
use Rattle.cfa.specs.declared.expr.ArrayPlace.TheVariants as array
use Rattle.cfa.specs.declared.expr.CellPlace.{CellPlace, fold-CellPlace}
use Rattle.cfa.specs.declared.expr.CellPlace.TheOpen.{CellPlace-F, Expr-F}
use Rattle.cfa.specs.declared.expr.Expr.{Expr, fold-Expr}
use Rattle.c_values.specs.Operations.{unary_kind, binary_kind, is_shift}
use Rattle.cfa.specs.Kinds.{same_kind}

-- What the places of a function may name: how many cells the globals and the function's frame have, and the lengths of
-- its array parameters.
pub record Room : Type 0 where
  pub globals : ℕ
  pub cells : ℕ
  pub arrays : List ℕ

-- how many cells a variable takes: one, or as many as an array has elements
abbrev pub cell_count : Option ℕ → ℕ
cell_count None = 1
cell_count (Some length) = length

-- an operand that meets the rules has this kind
abbrev pub has_kind : Option Kind → Kind → Bool
has_kind None kind = false
has_kind (Some own) kind = same_kind own kind

-- the right operand has the kind of the left one; that of a shift has a kind of its own (6.5.7p3)
abbrev pub right_fits : BinaryOp → Option Kind → Kind → Bool
right_fits op right kind = if is_shift op then is_some right else has_kind right kind

abbrev pub kind_if : Bool → Kind → Option Kind
kind_if true kind = Some kind
kind_if false kind = None

abbrev pub is_length : Option ℕ → ℕ → Bool
is_length None length = false
is_length (Some own) length = own == length

module _ (room : Room) where
  -- an array of this length lies, whole, within the globals or the frame, or it is an array parameter of this length
  abbrev pub array_fits : ArrayPlace → ℕ → Bool
  array_fits (array.Global first) length = nat_le (first + length) room.globals
  array_fits (array.Local first) length = nat_le (first + length) room.cells
  array_fits (array.Lent parameter) length = is_length (slice_get room.arrays parameter) length

  -- a place, from what its index gives
  abbrev pub place_step : CellPlace-F Bool (Option Kind) → Bool
  place_step (CellPlace-F.Global cell) = nat_lt cell room.globals
  place_step (CellPlace-F.Local cell) = nat_lt cell room.cells
  place_step (CellPlace-F.Element array index length) = is_some index && array_fits array length

  -- an expression, from what its parts give
  abbrev pub expr_step : Expr-F Bool (Option Kind) → Option Kind
  expr_step (Expr-F.Constant value kind) = kind_if (is_value kind value) kind
  expr_step (Expr-F.Load place kind) = kind_if (place && is_kind kind) kind
  expr_step (Expr-F.Convert operand kind) = kind_if (is_some operand && is_kind kind) kind
  expr_step (Expr-F.Unary op operand kind) = kind_if (has_kind operand kind) (unary_kind op kind)
  expr_step (Expr-F.Binary op left right kind) = kind_if (has_kind left kind && right_fits op right kind) (binary_kind op kind)

  -- The kind of an expression that meets the rules, and none of another: each place lies within the globals or the
  -- frame, each element of a lent array has that array's length, each operand has the kind that its operation takes,
  -- and each constant is a value of its kind.
  unfoldable pub checked_kind : Expr → Option Kind
  checked_kind = fold-Expr Bool (Option Kind) place_step expr_step

  -- a place that meets the rules
  unfoldable pub place_fits : CellPlace → Bool
  place_fits = fold-CellPlace Bool (Option Kind) place_step expr_step

  -- an expression that meets the rules
  abbrev pub expr_fits : Expr → Bool
  expr_fits e = is_some (checked_kind e)
