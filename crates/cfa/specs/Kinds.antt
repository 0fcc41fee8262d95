-- The kinds of expressions.
use Rattle.std.specs.Prelude.{Bool, true, false, not, ◌&&◌, ◌==◌}
use Rattle.c_values.specs.declared.kinds.Kind.{Kind}
use Rattle.c_values.specs.Operations.{unary_kind, binary_kind}
use Rattle.cfa.specs.declared.expr.CellPlace.{CellPlace}
use Rattle.cfa.specs.declared.expr.CellPlace.TheOpen.{Expr-F}
use Rattle.cfa.specs.declared.expr.Expr.{Expr, out-Expr}

abbrev pub same_sign : Bool → Bool → Bool
same_sign true b = b
same_sign false b = not b

-- two kinds are the same integer type
abbrev pub same_kind : Kind → Kind → Bool
same_kind a b = a.width == b.width && same_sign a.signed b.signed

abbrev pub kind_at : Expr-F CellPlace Expr → Kind
kind_at (Expr-F.Constant value kind) = kind
kind_at (Expr-F.Load place kind) = kind
kind_at (Expr-F.Convert operand kind) = kind
kind_at (Expr-F.Unary op operand kind) = unary_kind op kind
kind_at (Expr-F.Binary op left right kind) = binary_kind op kind

-- the kind of an expression's value
abbrev pub kind_of : Expr → Kind
kind_of e = kind_at (out-Expr e)
