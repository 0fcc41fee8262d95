-- The value of an expression in a state, or the trap that ends its evaluation.
use Rattle.std.specs.Prelude.{ℕ, ◌+◌, Bool, ◌&&◌, if◌then◌else◌, pos, int_le, int_lt, List, slice_index, Result, Ok, Err, ok_or}
use Rattle.c_values.specs.declared.kinds.Kind.{Kind}
use Rattle.c_values.specs.declared.operators.BinaryOp.{BinaryOp}
use Rattle.c_values.specs.declared.operators.BinaryOp.TheVariants.{Div, Rem}
use Rattle.c_values.specs.Kind.{number_of, wrapped, converted}
use Rattle.c_values.specs.Operations.{is_zero_divisor, unary_value, binary_value, unary_kind, binary_kind}
use Rattle.cfa.specs.declared.expr.ArrayPlace.{ArrayPlace}
use Rattle.cfa.specs.declared.expr.ArrayPlace.TheVariants as array
use Rattle.cfa.specs.declared.expr.CellPlace.{CellPlace, fold-CellPlace}
use Rattle.cfa.specs.declared.expr.CellPlace.TheOpen.{CellPlace-F, Expr-F}
use Rattle.cfa.specs.declared.expr.Expr.{Expr, fold-Expr}
use Rattle.cfa.specs.declared.state.Frame.{Frame}
use Rattle.cfa.specs.declared.state.Trap.{Trap}
use Rattle.cfa.specs.declared.state.Trap.TheVariants as trap

-- an index names an element where it is from 0 to length - 1 (6.5.6p8)
abbrev pub is_index : ℕ → Kind → ℕ → Bool
is_index length kind index = int_le (pos 0) (number_of kind index) && int_lt (number_of kind index) (pos length)

-- why a quotient has no value: the divisor is 0, or the quotient is no number of the kind (6.5.5p5, 6.5.5p6)
abbrev pub divisor_trap : Kind → ℕ → Trap
divisor_trap kind right = if is_zero_divisor kind right then trap.ZeroDivisor else trap.OverflowDivisor

-- why an operation on two values has no value; other than quotients, shifts alone may have none (6.5.7p3)
abbrev pub operator_trap : BinaryOp → Kind → ℕ → Trap
operator_trap Div kind right = divisor_trap kind right
operator_trap Rem kind right = divisor_trap kind right
operator_trap _ kind right = trap.Shift

-- goes on with a value, and ends at a trap
abbrev pub after_value : Result ℕ Trap → (ℕ → Result ℕ Trap) → Result ℕ Trap
after_value (Ok value) next = next value
after_value (Err trap) next = Err trap

-- a part's kind, and its value or trap
pub record Valued : Type 0 where
  pub kind : Kind
  pub value : Result ℕ Trap

module _ (cells : List ℕ) (frame : Frame) where
  -- the place of an array's first cell among all cells
  abbrev pub array_start : ArrayPlace → ℕ
  array_start (array.Global first) = first
  array_start (array.Local first) = frame.base + first
  array_start (array.Lent parameter) = slice_index frame.arrays parameter

  abbrev pub element_at : ArrayPlace → ℕ → Kind → ℕ → Result ℕ Trap
  element_at array length kind index = if is_index length kind index then Ok (array_start array + index) else Err trap.Index

  -- a place, from what its index gives
  abbrev pub cell_step : CellPlace-F (Result ℕ Trap) Valued → Result ℕ Trap
  cell_step (CellPlace-F.Global cell) = Ok cell
  cell_step (CellPlace-F.Local cell) = Ok (frame.base + cell)
  cell_step (CellPlace-F.Element array index length) = after_value index.value (λ i. element_at array length index.kind i)

  -- the value of an operator with two operands, or its trap
  abbrev pub operator_outcome : BinaryOp → Kind → Kind → ℕ → ℕ → Result ℕ Trap
  operator_outcome op kind right_kind left right = ok_or (binary_value op kind right_kind left right) (operator_trap op kind right)

  -- an expression, from what its parts give: the left operand goes first, and the first trap counts
  abbrev pub value_step : Expr-F (Result ℕ Trap) Valued → Valued
  value_step (Expr-F.Constant value kind) = record { kind = kind; value = Ok value }
  value_step (Expr-F.Load place kind) = record { kind = kind; value = after_value place (λ cell. Ok (wrapped kind (pos (slice_index cells cell)))) }
  value_step (Expr-F.Convert operand kind) = record { kind = kind; value = after_value operand.value (λ a. Ok (converted operand.kind kind a)) }
  value_step (Expr-F.Unary op operand kind) = record { kind = unary_kind op kind; value = after_value operand.value (λ a. Ok (unary_value op kind a)) }
  value_step (Expr-F.Binary op left right kind) = record {
    kind = binary_kind op kind;
    value = after_value left.value (λ a. after_value right.value (λ b. operator_outcome op kind right.kind a b));
  }

  unfoldable pub valued : Expr → Valued
  valued = fold-Expr (Result ℕ Trap) Valued cell_step value_step

  -- the value of an expression where these are the cells and this is the frame that runs, or its trap
  abbrev pub value_of : Expr → Result ℕ Trap
  value_of e = (valued e).value

  -- the cell that a place names, or the trap of its index
  unfoldable pub cell_of : CellPlace → Result ℕ Trap
  cell_of = fold-CellPlace (Result ℕ Trap) Valued cell_step value_step
