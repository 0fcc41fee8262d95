-- The forms of statements.
use Rattle.std.specs.Prelude.{ℕ, Bool, true, false, List, [], ◌∷◌, Option, Some, None, slice_get}
use Rattle.fq_core.specs.declared.span.Span.{Span}
use Rattle.fq_core.specs.declared.statement_kind.StatementKind.{StatementKind}
use Rattle.fq_core.specs.declared.statement_kind.StatementKind.TheVariants as kinds
use Rattle.c_typed_trees.specs.declared.expression.TypedExpr.{TypedExpr}
use Rattle.c_typed_trees.specs.declared.statement.TypedForm.{TypedForm, out-TypedForm}
use Rattle.c_typed_trees.specs.declared.statement.TypedForm.TheOpen.{TypedForm-F}
use Rattle.c_typed_trees.specs.declared.statement.TypedStatement.{TypedStatement}
use Rattle.c_lower_rules.specs.graph_of.Expressions.{Value, value_of}
use Rattle.c_lower_rules.specs.graph_of.Statements.{Piece}
use Rattle.c_lower_rules.specs.graph_of.Table.{piece}

-- a list has elements
abbrev pub has_any : {A : Type 0} → List A → Bool
has_any [] = false
has_any (x ∷ xs) = true

abbrev pub kind_at : {A B C : Type 0} → TypedForm-F A B C → StatementKind
kind_at (TypedForm-F.Block body) = kinds.Empty
kind_at TypedForm-F.Empty = kinds.Empty
kind_at (TypedForm-F.Local x first) = kinds.Decl
kind_at (TypedForm-F.LocalArray x list) = kinds.Decl
kind_at (TypedForm-F.Assign p op e) = kinds.Assign
kind_at (TypedForm-F.Call c) = kinds.Call
kind_at (TypedForm-F.Label name s) = kinds.Label
kind_at (TypedForm-F.If arms otherwise) = kinds.If
kind_at (TypedForm-F.While c s) = kinds.While
kind_at (TypedForm-F.Do s c) = kinds.Do
kind_at (TypedForm-F.For first c j s) = kinds.For
kind_at (TypedForm-F.Switch e cell groups) = kinds.Switch
kind_at TypedForm-F.Break = kinds.Jump
kind_at TypedForm-F.Continue = kinds.Jump
kind_at (TypedForm-F.Return e) = kinds.Return
kind_at (TypedForm-F.Assert e) = kinds.Assert
kind_at (TypedForm-F.Assume e) = kinds.Assume

-- the kind of a statement's edges
unfoldable pub kind_of : TypedForm → StatementKind
kind_of f = kind_at (out-TypedForm f)

-- an arm of an `if`
abbrev pub arm_of : TypedExpr × TypedStatement → Value × Piece
arm_of arm = (value_of arm.0, piece arm.1)

abbrev pub span_of_last : Option TypedStatement → Option Span
span_of_last None = None
span_of_last (Some s) = Some s.span

abbrev pub span_of : Option (TypedExpr × TypedStatement) → Option TypedStatement → Option Span
span_of None otherwise = span_of_last otherwise
span_of (Some arm) otherwise = Some arm.0.span

-- where what stands at a place among the arms begins: an arm's condition, or the else part
abbrev pub span_after : List (TypedExpr × TypedStatement) → ℕ → Option TypedStatement → Option Span
span_after arms k otherwise = span_of (slice_get arms k) otherwise
