-- The parts that trees of expressions are made of.
-- Public contracts rest on this.
use Rattle.std.specs.Prelude.{ℕ}
use Rattle.fq_core.specs.declared.span.Span.{Span}
use Rattle.c_values.specs.declared.operators.UnaryOp.TheVariants as unaries
use Rattle.c_values.specs.declared.operators.BinaryOp.{BinaryOp}
use Rattle.c_values.specs.declared.operators.BinaryOp.TheVariants as ops
use Rattle.c_parse.specs.declared.sign.Symbol.{Symbol}
use Rattle.c_parse.specs.declared.sign.Symbol.TheVariants as symbols
use Rattle.c_parse.specs.declared.expr.ExprTree.{ExprTree, roll-ExprTree}
use Rattle.c_parse.specs.declared.expr.ExprForm.{ExprForm}
use Rattle.c_parse.specs.declared.expr.ExprForm.TheVariants as form
use Rattle.c_parse.specs.declared.operator.Prefix.{Prefix}
use Rattle.c_parse.specs.declared.operator.Prefix.TheVariants as prefixes
use Rattle.c_parse.specs.declared.operator.Infix.{Infix}
use Rattle.c_parse.specs.declared.operator.Infix.TheVariants as infixes

-- an expression of this form, whose first token has this span
abbrev pub tree : Span → ExprForm → ExprTree
tree s f = roll-ExprTree (record { span = s; form = f })

-- what a unary operator (6.5.3.3) makes of its operand
abbrev pub prefixed : Prefix → ExprTree → ExprForm
prefixed prefixes.Plus a = form.Plus a
prefixed (prefixes.Unary op) a = form.Unary op a

-- what an infix operator (6.5.5 to 6.5.14) makes of its operands
abbrev pub joined : Infix → ExprTree → ExprTree → ExprForm
joined (infixes.Binary op) a b = form.Binary op a b
joined infixes.Both a b = form.Both a b
joined infixes.Either a b = form.Either a b

-- how the operators are written
abbrev pub prefix_symbol : Prefix → Symbol
prefix_symbol prefixes.Plus = symbols.Plus
prefix_symbol (prefixes.Unary unaries.Neg) = symbols.Minus
prefix_symbol (prefixes.Unary unaries.Complement) = symbols.Tilde
prefix_symbol (prefixes.Unary unaries.Not) = symbols.Not

abbrev pub binary_symbol : BinaryOp → Symbol
binary_symbol ops.Add = symbols.Plus
binary_symbol ops.Sub = symbols.Minus
binary_symbol ops.Mul = symbols.Star
binary_symbol ops.Div = symbols.Slash
binary_symbol ops.Rem = symbols.Percent
binary_symbol ops.Shl = symbols.Shl
binary_symbol ops.Shr = symbols.Shr
binary_symbol ops.And = symbols.And
binary_symbol ops.Or = symbols.Or
binary_symbol ops.Xor = symbols.Caret
binary_symbol ops.Less = symbols.Less
binary_symbol ops.LessEqual = symbols.LessEqual
binary_symbol ops.Greater = symbols.Greater
binary_symbol ops.GreaterEqual = symbols.GreaterEqual
binary_symbol ops.Equal = symbols.Equal
binary_symbol ops.NotEqual = symbols.NotEqual

abbrev pub infix_symbol : Infix → Symbol
infix_symbol (infixes.Binary op) = binary_symbol op
infix_symbol infixes.Both = symbols.AndAnd
infix_symbol infixes.Either = symbols.OrOr

-- how tightly an operator binds: that of 6.5.5 the most, that of 6.5.14 the least
abbrev pub binary_level : BinaryOp → ℕ
binary_level ops.Or = 3
binary_level ops.Xor = 4
binary_level ops.And = 5
binary_level ops.Equal = 6
binary_level ops.NotEqual = 6
binary_level ops.Less = 7
binary_level ops.LessEqual = 7
binary_level ops.Greater = 7
binary_level ops.GreaterEqual = 7
binary_level ops.Shl = 8
binary_level ops.Shr = 8
binary_level ops.Add = 9
binary_level ops.Sub = 9
binary_level ops.Mul = 10
binary_level ops.Div = 10
binary_level ops.Rem = 10

abbrev pub level : Infix → ℕ
level infixes.Either = 1
level infixes.Both = 2
level (infixes.Binary op) = binary_level op
