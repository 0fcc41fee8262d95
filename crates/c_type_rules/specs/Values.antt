-- The expressions of the graph that typed expressions are: what they compute once each call, `&&`, `||` and `?:` in them
-- has been put into its cell of the frame.
use Rattle.std.specs.Prelude.{ℕ, Option, Some, None, option_map}
use Rattle.c_values.specs.declared.kinds.Kind.{Kind}
use Rattle.cfa.specs.declared.expr.ArrayPlace.{ArrayPlace}
use Rattle.cfa.specs.declared.expr.ArrayPlace.TheVariants as arrays
use Rattle.cfa.specs.declared.expr.CellPlace.{CellPlace}
use Rattle.cfa.specs.declared.expr.CellPlace.TheVariants as cells
use Rattle.cfa.specs.declared.expr.Expr.{Expr}
use Rattle.cfa.specs.declared.expr.Expr.TheVariants as exprs
use Rattle.cfa.specs.declared.parts.Variable.{Variable}
use Rattle.cfa.specs.declared.parts.VariablePlace.{VariablePlace}
use Rattle.cfa.specs.declared.parts.VariablePlace.TheVariants as places
use Rattle.c_typed_trees.specs.declared.expression.TypedExprForm.TheOpen.{TypedExprForm-F, TypedExpr-F, TypedCall-F, TypedPlace-F}
use Rattle.c_typed_trees.specs.declared.expression.TypedExpr.{TypedExpr, fold-TypedExpr}
use Rattle.c_typed_trees.specs.declared.expression.TypedPlace.{TypedPlace, fold-TypedPlace}

abbrev pub array_of : VariablePlace → ArrayPlace
array_of (places.Global first) = arrays.Global first
array_of (places.Local first) = arrays.Local first
array_of (places.Lent parameter) = arrays.Lent parameter

-- only arrays are lent
abbrev pub cell_of : VariablePlace → CellPlace
cell_of (places.Global cell) = cells.Global cell
cell_of (places.Local cell) = cells.Local cell
cell_of (places.Lent parameter) = cells.Local 0

abbrev pub length_or_none : Option ℕ → ℕ
length_or_none None = 0
length_or_none (Some n) = n

abbrev pub place_with : Variable → Option Expr → CellPlace
place_with v None = cell_of v.place
place_with v (Some index) = cells.Element (array_of v.place) index (length_or_none v.length)

-- a part's kind, and its expression
pub record Valued : Type 0 where
  pub kind : Kind
  pub expr : Expr

-- each form, from its parts, at its kind
abbrev pub value_step : TypedExprForm-F (Kind → Expr) ℕ Valued CellPlace → Kind → Expr
value_step (TypedExprForm-F.Constant v) = λ kind. exprs.Constant v kind
value_step (TypedExprForm-F.Load place) = λ kind. exprs.Load place kind
value_step (TypedExprForm-F.Convert a) = λ kind. exprs.Convert a.expr kind
value_step (TypedExprForm-F.Unary op a) = λ kind. exprs.Unary op a.expr a.kind
value_step (TypedExprForm-F.Binary op a b) = λ kind. exprs.Binary op a.expr b.expr a.kind
value_step (TypedExprForm-F.Both a b cell) = λ kind. exprs.Load (cells.Local cell) kind
value_step (TypedExprForm-F.Either a b cell) = λ kind. exprs.Load (cells.Local cell) kind
value_step (TypedExprForm-F.Choice a b c cell) = λ kind. exprs.Load (cells.Local cell) kind
value_step (TypedExprForm-F.Call cell) = λ kind. exprs.Load (cells.Local cell) kind

abbrev pub call_step : TypedCall-F (Kind → Expr) ℕ Valued CellPlace → ℕ
call_step c = c.cell

abbrev pub expr_step : TypedExpr-F (Kind → Expr) ℕ Valued CellPlace → Valued
expr_step e = record { kind = e.kind; expr = e.form e.kind }

abbrev pub place_step : TypedPlace-F (Kind → Expr) ℕ Valued CellPlace → CellPlace
place_step p = place_with p.variable (option_map (λ (i : Valued). i.expr) p.index)

unfoldable pub valued : TypedExpr → Valued
valued = fold-TypedExpr (Kind → Expr) ℕ Valued CellPlace value_step call_step expr_step place_step

-- the expression that a typed one is
abbrev pub expr_of : TypedExpr → Expr
expr_of e = (valued e).expr

-- the cell that a typed place is
unfoldable pub place_of_typed : TypedPlace → CellPlace
place_of_typed = fold-TypedPlace (Kind → Expr) ℕ Valued CellPlace value_step call_step expr_step place_step
