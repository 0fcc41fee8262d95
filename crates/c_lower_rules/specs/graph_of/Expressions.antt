-- The nodes and edges of expressions.
use Rattle.std.specs.Prelude.{ℕ, ◌+◌, if◌then◌else◌, List, [], ◌∷◌, ◌++◌, map, Option, Some, None}
use Rattle.std.specs.List.{flat_map}
use Rattle.fq_core.specs.declared.span.Span.{Span}
use Rattle.c_values.specs.Kind.{int}
use Rattle.c_values.specs.declared.kinds.Kind.{Kind}
use Rattle.c_values.specs.declared.operators.BinaryOp.{BinaryOp}
use Rattle.c_values.specs.declared.operators.UnaryOp.{UnaryOp}
use Rattle.c_values.specs.declared.operators.UnaryOp.TheVariants as unary
use Rattle.cfa.specs.declared.expr.ArrayPlace.{ArrayPlace}
use Rattle.cfa.specs.declared.expr.ArrayPlace.TheVariants as array
use Rattle.cfa.specs.declared.expr.CellPlace.{CellPlace}
use Rattle.cfa.specs.declared.expr.CellPlace.TheVariants as place
use Rattle.cfa.specs.declared.expr.Expr.{Expr}
use Rattle.cfa.specs.declared.expr.Expr.TheVariants as expr
use Rattle.cfa.specs.declared.parts.Operation.TheVariants.{Call, Return, Answer}
use Rattle.cfa.specs.declared.parts.Variable.{Variable}
use Rattle.cfa.specs.declared.parts.VariablePlace.{VariablePlace}
use Rattle.cfa.specs.declared.parts.VariablePlace.TheVariants as variable
use Rattle.c_typed_trees.specs.declared.expression.Callee.{Callee}
use Rattle.c_typed_trees.specs.declared.expression.Callee.TheVariants.{Defined, Input}
use Rattle.c_typed_trees.specs.declared.expression.TypedCall.{TypedCall, fold-TypedCall}
use Rattle.c_typed_trees.specs.declared.expression.TypedExprForm.{TypedExprForm, fold-TypedExprForm}
use Rattle.c_typed_trees.specs.declared.expression.TypedExprForm.TheOpen.{TypedCall-F, TypedExpr-F, TypedExprForm-F, TypedPlace-F}
use Rattle.c_typed_trees.specs.declared.expression.TypedExpr.{TypedExpr, fold-TypedExpr}
use Rattle.c_typed_trees.specs.declared.expression.TypedPlace.{TypedPlace, fold-TypedPlace}
use Rattle.c_lower_rules.specs.declared.graph_of.parts.Around.{Around}
use Rattle.c_lower_rules.specs.declared.graph_of.parts.Operand.{Operand}
use Rattle.c_lower_rules.specs.declared.graph_of.parts.Target.{Target}
use Rattle.c_lower_rules.specs.graph_of.Builder.{Builder, Flow, node, in_order, numbered, give, ◌then◌, ending}
use Rattle.c_lower_rules.specs.graph_of.Edges.{entry_of, exit_of, deciding, node_at, node_here, step, put, guards}

-- an expression: its value, and as a condition from a to t where it holds and to f where not
pub record Value : Type 0 where
  pub span : Span
  pub kind : Kind
  pub pure : Around → Flow Operand
  pub cond : Around → ℕ → ℕ → ℕ → Builder

-- a place with its index
pub record Spot : Type 0 where
  pub variable : Variable
  pub index : Option Value

-- a call with its arguments, and the cell of its temporary
pub record Calling : Type 0 where
  pub callee : Callee
  pub words : List Value
  pub arrays : List Variable
  pub cell : ℕ

-- ---- places

abbrev pub array_of : VariablePlace → ArrayPlace
array_of (variable.Global first) = array.Global first
array_of (variable.Local first) = array.Local first
array_of (variable.Lent parameter) = array.Lent parameter

-- an integer's cell; an array that is lent has none
abbrev pub cell_of : VariablePlace → CellPlace
cell_of (variable.Global cell) = place.Global cell
cell_of (variable.Local cell) = place.Local cell
cell_of (variable.Lent parameter) = place.Element (array.Lent parameter) (expr.Constant 0 int) 0

abbrev pub length_of : Option ℕ → ℕ
length_of None = 0
length_of (Some length) = length

abbrev pub element_of : Variable → Expr → CellPlace
element_of v index = place.Element (array_of v.place) index (length_of v.length)

abbrev pub temporary : ℕ → Kind → Expr
temporary cell kind = expr.Load (place.Local cell) kind

-- pure of a place's index
abbrev pub spot_index : Variable → Option Value → Around → Flow Target
spot_index v None u = give (record { place = cell_of v.place; reads = [] })
spot_index v (Some index) u = index.pure u then λ i. give (record { place = element_of v i.value; reads = i.reads })

abbrev pub spot_cell : Spot → Around → Flow Target
spot_cell p u = spot_index p.variable p.index u

-- ---- calls

-- pure of each word in order
abbrev pub words_in_order : List Value → Around → Flow (List Operand)
words_in_order [] u = give []
words_in_order (x ∷ xs) u = x.pure u then λ v. words_in_order xs u then λ vs. give (v ∷ vs)

-- the names that a call reads: those of its words, and its arrays
abbrev pub reads_of : List Operand → List Variable → List (List ℕ)
reads_of words arrays = flat_map (λ (w : Operand). w.reads) words ++ map (λ (v : Variable). v.name) arrays

-- a call of a defined function: call edge to its entry, return edge from its exit; of an input function: edge Answer
abbrev pub call_edges : Callee → List Variable → Around → List Operand → Option CellPlace → ℕ → ℕ → Builder
call_edges (Defined i) arrays u words dest a z = numbered (λ n e k.
    step u (Call i (map (λ (w : Operand). w.value) words) (map (λ (v : Variable). array_of v.place) arrays)) [] (reads_of words arrays) a (entry_of i)
    ∷ step u (Return e dest) [] [] (exit_of i) z ∷ [])
call_edges (Input i) arrays u words dest a z = step u (Answer i dest) [] [] a z

-- ---- cond(e) from a to t, f

-- cond(!x) is cond(x) from a to f, t
abbrev pub not_cond : Value → Around → ℕ → ℕ → ℕ → Builder
not_cond x u a t f = x.cond u a f t

-- cond(x && y): node m; cond(x) from a to m, f; cond(y) from m to t, f
abbrev pub both_cond : Value → Value → Around → ℕ → ℕ → ℕ → Builder
both_cond x y u a t f = numbered (λ m e k. node (node_at u y.span) ∷ x.cond u a m f ∷ y.cond u m t f ∷ [])

-- cond(x || y): node m; cond(x) from a to t, m; cond(y) from m to t, f
abbrev pub either_cond : Value → Value → Around → ℕ → ℕ → ℕ → Builder
either_cond x y u a t f = numbered (λ m e k. node (node_at u y.span) ∷ x.cond u a t m ∷ y.cond u m t f ∷ [])

-- any other: pure(e) from a to a node n; the guards from n to t and to f
abbrev pub other_cond : Span → (Around → Flow Operand) → Around → ℕ → ℕ → ℕ → Builder
other_cond span x u a t f = ending (x u) (λ v n. guards u span v.value v.reads n t f) a

-- ---- pure(e)

-- a call: node m; pure of each word argument in order; the edges of the call, with its temporary, to m
abbrev pub call_pure : Calling → Kind → Around → Flow Operand
call_pure c kind u a n e k = record {
  made = in_order (node_here u ∷ ending (words_in_order c.words u) (λ ws b. call_edges c.callee c.arrays u ws (Some (place.Local c.cell)) b n) a ∷ []) n e k;
  end = n;
  gives = record { value = temporary c.cell kind; reads = [] };
}

-- `&&` or `||`: nodes T, F, m; cond to T, F; edge T to m Assign 1; edge F to m Assign 0
abbrev pub truth_pure : (Around → ℕ → ℕ → ℕ → Builder) → ℕ → Kind → Around → Flow Operand
truth_pure c cell kind u a n e k = record {
  made = in_order (node_here u ∷ node_here u ∷ node_here u ∷ c (deciding u n (n + 1)) a n (n + 1)
      ∷ put u cell (expr.Constant 1 int) [] n (n + 2) ∷ put u cell (expr.Constant 0 int) [] (n + 1) (n + 2) ∷ []) n e k;
  end = n + 2;
  gives = record { value = temporary cell kind; reads = [] };
}

-- pure of a part of `?:` and edge to m Assign
abbrev pub part_row : Value → ℕ → Around → ℕ → ℕ → Builder
part_row x cell u a m = ending (x.pure u) (λ v b. put u cell v.value v.reads b m) a

-- `?:`: nodes T, F, m; cond of its first part to T, F; pure of the second from T and edge to m Assign; pure of the third
-- from F and edge to m Assign
abbrev pub choice_pure : Value → Value → Value → ℕ → Kind → Around → Flow Operand
choice_pure c x y cell kind u a n e k = record {
  made = in_order (node_here u ∷ node_here u ∷ node_here u ∷ c.cond (deciding u n (n + 1)) a n (n + 1) ∷ part_row x cell u n (n + 2) ∷ part_row y cell u (n + 1) (n + 2) ∷ []) n e k;
  end = n + 2;
  gives = record { value = temporary cell kind; reads = [] };
}

abbrev pub load_pure : Spot → Kind → Around → Flow Operand
load_pure p kind u = spot_cell p u then λ c. give (record { value = expr.Load c.place kind; reads = p.variable.name ∷ c.reads })

abbrev pub convert_pure : Value → Kind → Around → Flow Operand
convert_pure x kind u = x.pure u then λ v. give (record { value = expr.Convert v.value kind; reads = v.reads })

-- an operator is done in the kind of its operand, or of its left one
abbrev pub unary_pure : UnaryOp → Value → Around → Flow Operand
unary_pure op x u = x.pure u then λ v. give (record { value = expr.Unary op v.value x.kind; reads = v.reads })

abbrev pub binary_pure : BinaryOp → Value → Value → Around → Flow Operand
binary_pure op x y u = x.pure u then λ v. y.pure u then λ w. give (record { value = expr.Binary op v.value w.value x.kind; reads = v.reads ++ w.reads })

-- ---- the trees

-- an expression that a condition doesn't split
abbrev pub unsplit : Span → Kind → (Around → Flow Operand) → Value
unsplit span kind x = record { span = span; kind = kind; pure = x; cond = other_cond span x }

abbrev pub split : Span → Kind → (Around → Flow Operand) → (Around → ℕ → ℕ → ℕ → Builder) → Value
split span kind x c = record { span = span; kind = kind; pure = x; cond = c }

abbrev pub unary_value : Span → Kind → UnaryOp → Value → Value
unary_value span kind unary.Not x = split span kind (unary_pure unary.Not x) (not_cond x)
unary_value span kind op x = unsplit span kind (unary_pure op x)

-- an expression's form, by the first token and the kind
abbrev pub Shaped : Type 0
Shaped = Span → Kind → Value

abbrev pub form_step : TypedExprForm-F Shaped Calling Value Spot → Shaped
form_step (TypedExprForm-F.Constant value) span kind = unsplit span kind (λ u. give (record { value = expr.Constant value kind; reads = [] }))
form_step (TypedExprForm-F.Load p) span kind = unsplit span kind (load_pure p kind)
form_step (TypedExprForm-F.Convert x) span kind = unsplit span kind (convert_pure x kind)
form_step (TypedExprForm-F.Unary op x) span kind = unary_value span kind op x
form_step (TypedExprForm-F.Binary op x y) span kind = unsplit span kind (binary_pure op x y)
form_step (TypedExprForm-F.Both x y cell) span kind = split span kind (truth_pure (both_cond x y) cell kind) (both_cond x y)
form_step (TypedExprForm-F.Either x y cell) span kind = split span kind (truth_pure (either_cond x y) cell kind) (either_cond x y)
form_step (TypedExprForm-F.Choice c x y cell) span kind = unsplit span kind (choice_pure c x y cell kind)
form_step (TypedExprForm-F.Call c) span kind = unsplit span kind (call_pure c kind)

abbrev pub expr_step : TypedExpr-F Shaped Calling Value Spot → Value
expr_step x = record { span = x.span; kind = x.kind; pure = (x.form x.span x.kind).pure; cond = (x.form x.span x.kind).cond }

abbrev pub place_step : TypedPlace-F Shaped Calling Value Spot → Spot
place_step p = record { variable = p.variable; index = p.index }

abbrev pub call_step : TypedCall-F Shaped Calling Value Spot → Calling
call_step c = record { callee = c.callee; words = c.words; arrays = c.arrays; cell = c.cell }

unfoldable pub shape_of : TypedExprForm → Shaped
shape_of = fold-TypedExprForm Shaped Calling Value Spot form_step call_step expr_step place_step

unfoldable pub value_of : TypedExpr → Value
value_of = fold-TypedExpr Shaped Calling Value Spot form_step call_step expr_step place_step

unfoldable pub spot_of : TypedPlace → Spot
spot_of = fold-TypedPlace Shaped Calling Value Spot form_step call_step expr_step place_step

unfoldable pub calling_of : TypedCall → Calling
calling_of = fold-TypedCall Shaped Calling Value Spot form_step call_step expr_step place_step
