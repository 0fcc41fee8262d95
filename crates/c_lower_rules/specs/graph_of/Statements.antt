-- The nodes and edges of statements, from a to z.
use Rattle.std.specs.Prelude.{ℕ, ◌+◌, if◌then◌else◌, List, [], ◌∷◌, ◌++◌, Option, Some, None}
use Rattle.fq_core.specs.declared.span.Span.{Span}
use Rattle.fq_core.specs.declared.statement_kind.StatementKind.TheVariants as kinds
use Rattle.c_values.specs.Kind.{int}
use Rattle.c_values.specs.Operations.{binary_kind}
use Rattle.c_values.specs.declared.kinds.Kind.{Kind}
use Rattle.c_values.specs.declared.operators.BinaryOp.{BinaryOp}
use Rattle.cfa.specs.Kinds.{same_kind}
use Rattle.cfa.specs.declared.expr.CellPlace.{CellPlace}
use Rattle.cfa.specs.declared.expr.CellPlace.TheVariants as place
use Rattle.cfa.specs.declared.expr.Expr.{Expr}
use Rattle.cfa.specs.declared.expr.Expr.TheVariants as expr
use Rattle.cfa.specs.declared.parts.Operation.{Operation}
use Rattle.cfa.specs.declared.parts.Operation.TheVariants.{Assign, Clear}
use Rattle.cfa.specs.declared.parts.Variable.{Variable}
use Rattle.c_lower_rules.specs.declared.graph_of.parts.Around.{Around}
use Rattle.c_lower_rules.specs.graph_of.Builder.{Builder, node, in_order, numbered, give, ◌then◌, ending}
use Rattle.c_lower_rules.specs.graph_of.Edges.{Lowering, stated, inside, deciding, seeing, scope_behind, node_at, node_here, step, skip, label_edge, enter_edge, back_edge}
use Rattle.c_lower_rules.specs.declared.graph_of.parts.Operand.{Operand}
use Rattle.c_lower_rules.specs.declared.graph_of.parts.Target.{Target}
use Rattle.c_lower_rules.specs.graph_of.Expressions.{Value, Spot, Calling, array_of, cell_of, length_of, element_of, spot_cell, words_in_order, call_edges}

-- a statement: its first token, the variables that it declares, and what it makes
pub record Piece : Type 0 where
  pub span : Span
  pub declares : List Variable
  pub make : Lowering

-- ---- blocks

-- S1 to Sn: for i below n, node m_i, then S_i from the last node to m_i; then S_n to z. A node m_i sees what S_1 to S_i
-- declare, and is on the line of S_(i+1).
abbrev pub sequence : List Piece → Lowering
sequence [] u a z = in_order []
sequence (s ∷ []) u a z = s.make u a z
sequence (s ∷ next ∷ rest) u a z = numbered (λ m e k.
    let w = seeing u s.declares k in
    node (node_at w next.span) ∷ scope_behind u s.declares ∷ s.make u a m ∷ sequence (next ∷ rest) w m z ∷ [])

-- a block of none: edge a to z Skip
abbrev pub block_row : List Piece → Lowering
block_row [] u a z = skip (stated u u.span kinds.Empty) a z
block_row (s ∷ rest) u a z = sequence (s ∷ rest) u a z

-- ---- `if`

-- what stands behind an arm: the next arm's condition, or the else part
abbrev pub span_behind : List (Value × Piece) → Option Piece → Option Span
span_behind [] None = None
span_behind [] (Some s) = Some s.span
span_behind (arm ∷ rest) otherwise = Some (arm.0).span

-- an arm: node t; node f, or f = z where nothing follows; cond from a to t, f; the arm from t to z; what follows from f
abbrev pub arm_row : Value × Piece → Option Span → Lowering → Lowering
arm_row arm None follow u a z = numbered (λ t e k.
    node (node_at u (arm.1).span) ∷ (arm.0).cond (deciding u t z) a t z ∷ (arm.1).make u t z ∷ [])
arm_row arm (Some span) follow u a z = numbered (λ t e k.
    node (node_at u (arm.1).span) ∷ node (node_at u span) ∷ (arm.0).cond (deciding u t (t + 1)) a t (t + 1) ∷ (arm.1).make u t z ∷ follow u (t + 1) z ∷ [])

-- the arms, one after another, and the else part
abbrev pub arms_row : List (Value × Piece) → Option Piece → Lowering
arms_row [] None u a z = in_order []
arms_row [] (Some s) u a z = s.make u a z
arms_row (arm ∷ rest) otherwise u a z = arm_row arm (span_behind rest otherwise) (arms_row rest otherwise) u a z

-- ---- loops

-- `while (c) S`: nodes h, t, l; edge a to h Skip enter; cond(c) h to t, z; S from t to l; edge l to h Skip back
abbrev pub while_row : Value → Piece → Lowering
while_row c s u a z = numbered (λ h e k.
    let v = inside u z (h + 2) in
    node_here v ∷ node_here v ∷ node_here v
    ∷ enter_edge u a h ∷ c.cond (deciding v (h + 1) z) h (h + 1) z ∷ s.make v (h + 1) (h + 2) ∷ back_edge u (h + 2) h ∷ [])

-- `do S while (c);`: nodes t, c, l; edge a to t Skip enter; S from t to c; cond c to l, z; edge l to t Skip back
abbrev pub do_row : Piece → Value → Lowering
do_row s c u a z = numbered (λ t e k.
    let v = inside u z (t + 1) in
    node_here v ∷ node_here v ∷ node_here v
    ∷ enter_edge u a t ∷ s.make v t (t + 1) ∷ c.cond (deciding v (t + 2) z) (t + 1) (t + 2) z ∷ back_edge u (t + 2) t ∷ [])

-- cond(c) h to t, z, or edge h to t Skip without c
abbrev pub for_test : Option Value → Around → ℕ → ℕ → ℕ → Builder
for_test None v h t z = skip v h t
for_test (Some c) v h t z = c.cond (deciding v t z) h t z

-- with J: node b, J from l to b, edge b to h Skip back; else edge l to h Skip back
abbrev pub for_step : Option Piece → Around → ℕ → ℕ → ℕ → Builder
for_step None u z h l = back_edge u l h
for_step (Some j) u z h l = numbered (λ b e k.
    let v = inside u z b in
    node_here v ∷ j.make v l b ∷ back_edge u b h ∷ [])

-- nodes h, t, l; edge i to h Skip enter; the test; S from t to l; the step
abbrev pub for_loop : Option Value → Option Piece → Piece → Lowering
for_loop c j s u i z = numbered (λ h e k.
    let v = inside u z (h + 2) in
    node_here v ∷ node_here v ∷ node_here v
    ∷ enter_edge u i h ∷ for_test c v h (h + 1) z ∷ s.make v (h + 1) (h + 2) ∷ for_step j u z h (h + 2) ∷ [])

-- the variables that statements declare, the last one's first
abbrev pub declared_by : List Piece → List Variable
declared_by [] = []
declared_by (s ∷ rest) = declared_by rest ++ s.declares

-- `for (I; c; J) S`: with I: node i, I from a to i; else i = a. The nodes of the loop and i see what I declares.
abbrev pub for_row : List Piece → Option Value → Option Piece → Piece → Lowering
for_row [] c j s u a z = for_loop c j s u a z
for_row (first ∷ rest) c j s u a z = numbered (λ i e k.
    let w = seeing u (declared_by (first ∷ rest)) k in
    node_here w ∷ scope_behind u (declared_by (first ∷ rest)) ∷ sequence (first ∷ rest) u a i ∷ for_loop c j s w i z ∷ [])

-- ---- other statements

-- `break`: edge Skip to z of the loop or switch
abbrev pub break_row : Lowering
break_row u a z = skip u a u.on_break

-- `continue`: edge Skip to l (`while`, `for`) or c (`do`)
abbrev pub continue_row : Lowering
continue_row u a z = skip u a u.on_continue

-- `return e`: pure(e), edge to the exit Assign the result, which is cell 0; `return`: edge a to exit Skip
abbrev pub return_row : Option Value → Lowering
return_row None u a z = skip u a u.exit
return_row (Some x) u a z = ending (x.pure u) (λ v b. step u (Assign (place.Local 0) v.value) [] v.reads b u.exit) a

-- `L: S`: node n; edge a to n Skip with label L; S from n to z
abbrev pub label_row : List ℕ → Piece → Lowering
label_row name s u a z = numbered (λ n e k. node_here u ∷ label_edge u name a n ∷ s.make u n z ∷ [])

-- `assert`, `assume`: pure, edge to z
abbrev pub test_row : (Expr → Operation) → Value → Lowering
test_row op x u a z = ending (x.pure u) (λ v b. step u (op v.value) [] v.reads b z) a

-- the conversion of a value of one kind to another; there is none between equal kinds
abbrev pub converted_to : Kind → Kind → Expr → Expr
converted_to own kind e = if same_kind own kind then e else expr.Convert e kind

-- what `p op= e` puts into p: p's value is converted to the operator's kind, and the result to p's (6.5.16.2p3)
abbrev pub combined : Kind → Option (BinaryOp × Kind) → CellPlace → Expr → Expr
combined kind None p e = e
combined kind (Some op) p e = converted_to (binary_kind op.0 op.1) kind (expr.Binary op.0 (converted_to kind op.1 (expr.Load p kind)) e op.1)

-- the names that `p = e` and `p op= e` read in p
abbrev pub reads_in_place : Variable → Option (BinaryOp × Kind) → List (List ℕ) → List (List ℕ)
reads_in_place v None index = index
reads_in_place v (Some op) index = v.name ∷ index

-- `p = e`: pure of p's index, pure(e), edge to z Assign
abbrev pub assign_row : Spot → Option (BinaryOp × Kind) → Value → Lowering
assign_row p op x u a z = ending (spot_cell p u then λ c. x.pure u then λ v. give (c, v))
    (λ (cv : Target × Operand) b. step u (Assign (cv.0).place (combined p.variable.kind op (cv.0).place (cv.1).value)) (p.variable.name ∷ [])
    (reads_in_place p.variable op (cv.0).reads ++ (cv.1).reads) b z) a

-- `T x`: edge to z Assign 0; `T x = e`: pure(e), edge to z Assign
abbrev pub local_row : Variable → Option Value → Lowering
local_row x None u a z = step u (Assign (cell_of x.place) (expr.Constant 0 x.kind)) (x.name ∷ []) [] a z
local_row x (Some e) u a z = ending (e.pure u) (λ v b. step u (Assign (cell_of x.place) v.value) (x.name ∷ []) v.reads b z) a

-- a value is put into the element of a number
abbrev pub element_row : Variable → ℕ → Value → Lowering
element_row x i e u a z = ending (e.pure u) (λ v b. step u (Assign (element_of x (expr.Constant i int)) v.value) (x.name ∷ []) v.reads b z) a

-- per value: node n_i unless last, pure(v_i), edge Assign to n_i, the last to z
abbrev pub elements_row : Variable → ℕ → List Value → Lowering
elements_row x i [] u a z = in_order []
elements_row x i (e ∷ []) u a z = element_row x i e u a z
elements_row x i (e ∷ next ∷ rest) u a z = numbered (λ n _ k. node_here u ∷ element_row x i e u a n ∷ elements_row x (i + 1) (next ∷ rest) u n z ∷ [])

abbrev pub clear : Variable → Around → ℕ → ℕ → Builder
clear x u a z = step u (Clear (array_of x.place) (length_of x.length)) (x.name ∷ []) [] a z

-- `T x[n]`: edge a to z Clear; `T x[n] = {v1..vm}`: node n_0, edge a to n_0 Clear, then the values from n_0 to z
abbrev pub array_row : Variable → List Value → Lowering
array_row x [] u a z = clear x u a z
array_row x (e ∷ rest) u a z = numbered (λ n _ k. node_here u ∷ clear x u a n ∷ elements_row x 0 (e ∷ rest) u n z ∷ [])

-- a call: pure of each word argument in order, and the edges of the call to z, which put its result nowhere
abbrev pub call_row : Calling → Lowering
call_row c u a z = ending (words_in_order c.words u) (λ ws b. call_edges c.callee c.arrays u ws None b z) a
