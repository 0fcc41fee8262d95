-- The weights of expressions and operations: an expression's weight is its operation's weight plus the weights of its parts.
-- Constants, loads of cells that no index names and conversions weigh nothing.
use Rattle.std.specs.Prelude.{ℕ, ◌+◌, ◌*◌, true, false, Option, Some, None, option_and_then, slice_get, sum_by}
use Rattle.c_values.specs.declared.kinds.Kind.{Kind}
use Rattle.c_values.specs.declared.operators.UnaryOp.{UnaryOp}
use Rattle.c_values.specs.declared.operators.UnaryOp.TheVariants.{Neg, Complement, Not}
use Rattle.c_values.specs.declared.operators.BinaryOp.{BinaryOp}
use Rattle.c_values.specs.declared.operators.BinaryOp.TheVariants.{Add, Sub, Mul, Div, Rem, Shl, Shr, And, Or, Xor, Less, LessEqual, Greater, GreaterEqual, Equal, NotEqual}
use Rattle.bit_words.specs.Weights.{bitwise_weight, sum_weight, shift_weight, product_weight, quotient_weight}
use Rattle.cfa.specs.declared.expr.CellPlace.{CellPlace, fold-CellPlace}
use Rattle.cfa.specs.declared.expr.CellPlace.TheOpen.{CellPlace-F, Expr-F}
use Rattle.cfa.specs.declared.expr.Expr.{Expr, fold-Expr}
use Rattle.cfa.specs.declared.parts.Edge.{Edge}
use Rattle.cfa.specs.declared.parts.Function.{Function}
use Rattle.cfa.specs.declared.parts.GraphParts.{GraphParts}
use Rattle.cfa.specs.declared.parts.InputFunction.{InputFunction}
use Rattle.cfa.specs.declared.parts.Operation.{Operation}
use Rattle.cfa.specs.declared.parts.Operation.TheVariants.{Skip, Assign, Clear, Guard, Call, Return, Answer, Assert, Assume}
use Rattle.cfa.specs.Graph.{edges_from, function_called}
use Rattle.cfa.specs.Kinds.{kind_of}

-- an operator with one operand of this width
abbrev pub unary_weight : UnaryOp → ℕ → ℕ
unary_weight Neg width = sum_weight width
unary_weight Complement width = bitwise_weight width
unary_weight Not width = bitwise_weight width

-- an operator whose left operand has this width
abbrev pub binary_weight : BinaryOp → ℕ → ℕ
binary_weight Add width = sum_weight width
binary_weight Sub width = sum_weight width
binary_weight Mul width = product_weight width
binary_weight Div width = quotient_weight width
binary_weight Rem width = quotient_weight width
binary_weight Shl width = shift_weight width
binary_weight Shr width = shift_weight width
binary_weight And width = bitwise_weight width
binary_weight Or width = bitwise_weight width
binary_weight Xor width = bitwise_weight width
binary_weight Less width = sum_weight width
binary_weight LessEqual width = sum_weight width
binary_weight Greater width = sum_weight width
binary_weight GreaterEqual width = sum_weight width
binary_weight Equal width = sum_weight width
binary_weight NotEqual width = sum_weight width

-- an element of an array of this length, where it is read or written at a kind of this width
abbrev pub element_weight : ℕ → ℕ → ℕ
element_weight length width = 4 * (width * length)

-- a place at a kind of some width, from the weight of its index
abbrev pub place_weight_step : CellPlace-F (ℕ → ℕ) ℕ → ℕ → ℕ
place_weight_step (CellPlace-F.Global cell) width = 0
place_weight_step (CellPlace-F.Local cell) width = 0
place_weight_step (CellPlace-F.Element array index length) width = index + element_weight length width

-- an expression, from the weights of its parts
abbrev pub weight_step : Expr-F (ℕ → ℕ) ℕ → ℕ
weight_step (Expr-F.Constant value kind) = 0
weight_step (Expr-F.Load place kind) = place kind.width
weight_step (Expr-F.Convert operand kind) = operand
weight_step (Expr-F.Unary op operand kind) = operand + unary_weight op kind.width
weight_step (Expr-F.Binary op left right kind) = left + right + binary_weight op kind.width

-- the weight of an expression
unfoldable pub weight_of : Expr → ℕ
weight_of = fold-Expr (ℕ → ℕ) ℕ place_weight_step weight_step

-- the weight of a place where it is read or written at a kind of this width
unfoldable pub place_weight : CellPlace → ℕ → ℕ
place_weight = fold-CellPlace (ℕ → ℕ) ℕ place_weight_step weight_step

-- the most wires that an expression or a part of this weight uses
abbrev pub most_expression_wires : ℕ → ℕ
most_expression_wires weight = 31 * weight

-- the same of a condition, whose value is compared with 0
abbrev pub most_condition_wires : ℕ → ℕ
most_condition_wires weight = 31 * weight + 64

-- ---- the operations of edges

-- the place where a result or an answer of a kind is put
abbrev pub dest_weight : Option CellPlace → Option Kind → ℕ
dest_weight None kind = 0
dest_weight (Some place) None = 0
dest_weight (Some place) (Some kind) = place_weight place kind.width

-- the kind of what a call gives back, by the number of its edge
abbrev pub result_kind : GraphParts → ℕ → Option Kind
result_kind parts call = option_and_then (λ (f : Function). f.result) (function_called parts call)

-- the kind of an answer, by the number of the input function
abbrev pub answer_kind : GraphParts → ℕ → Option Kind
answer_kind parts input = option_and_then (λ (i : InputFunction). Some i.result) (slice_get parts.inputs input)

-- An operation: its expressions, and the place where it puts a value of some kind. Two guards have one test, which counts
-- for that of truth.
abbrev pub operation_weight : GraphParts → Operation → ℕ
operation_weight parts Skip = 0
operation_weight parts (Assign place value) = place_weight place (kind_of value).width + weight_of value
operation_weight parts (Clear array length) = 0
operation_weight parts (Guard test true) = weight_of test
operation_weight parts (Guard test false) = 0
operation_weight parts (Call callee words arrays) = sum_by weight_of words
operation_weight parts (Return call dest) = dest_weight dest (result_kind parts call)
operation_weight parts (Answer input dest) = dest_weight dest (answer_kind parts input)
operation_weight parts (Assert test) = weight_of test
operation_weight parts (Assume test) = weight_of test

-- the operations that leave a node
abbrev pub operations_weight : GraphParts → ℕ → ℕ
operations_weight parts node = sum_by (λ (e : Edge). operation_weight parts e.operation) (edges_from parts node)
