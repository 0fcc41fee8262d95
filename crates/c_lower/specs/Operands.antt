-- The values that expressions give.
use Rattle.std.specs.Prelude.{ℕ, List, [], ◌∷◌, ◌++◌}
use Rattle.c_values.specs.declared.kinds.Kind.{Kind}
use Rattle.c_values.specs.declared.operators.BinaryOp.{BinaryOp}
use Rattle.c_values.specs.declared.operators.UnaryOp.{UnaryOp}
use Rattle.cfa.specs.declared.expr.Expr.TheVariants as expr
use Rattle.c_lower_rules.specs.declared.graph_of.parts.Operand.{Operand}
use Rattle.c_lower_rules.specs.declared.graph_of.parts.Target.{Target}
use Rattle.c_lower_rules.specs.graph_of.Expressions.{temporary}

abbrev pub constant_operand : ℕ → Kind → Operand
constant_operand n kind = record { value = expr.Constant n kind; reads = [] }

abbrev pub temporary_operand : ℕ → Kind → Operand
temporary_operand cell kind = record { value = temporary cell kind; reads = [] }

abbrev pub loaded_operand : List ℕ → Kind → Target → Operand
loaded_operand name kind c = record { value = expr.Load c.place kind; reads = name ∷ c.reads }

abbrev pub converted_operand : Kind → Operand → Operand
converted_operand kind v = record { value = expr.Convert v.value kind; reads = v.reads }

abbrev pub unary_operand : UnaryOp → Kind → Operand → Operand
unary_operand op kind v = record { value = expr.Unary op v.value kind; reads = v.reads }

abbrev pub binary_operand : BinaryOp → Kind → Operand → Operand → Operand
binary_operand op kind v w = record { value = expr.Binary op v.value w.value kind; reads = v.reads ++ w.reads }
