-- The edges of statements return into plain cells alone.
use Rattle.std.proofs.Common.{◌≡◌, ℕ, ◌+◌, true, false, List, [], ◌∷◌, ◌++◌, map, length, Option, Some, None, sym, subst, rules}
use Rattle.std.specs.Prelude.{IfSome}
use Rattle.std.specs.List.{AllByRecursion}
use Rattle.std.specs.Option.{option_map}
use Rattle.fq_core.specs.declared.span.Span.{Span}
use Rattle.fq_core.specs.declared.statement_kind.StatementKind.TheVariants as kinds
use Rattle.c_values.specs.declared.kinds.Kind.{Kind}
use Rattle.c_values.specs.declared.operators.BinaryOp.{BinaryOp}
use Rattle.c_values.specs.Kind.{int}
use Rattle.cfa.specs.declared.expr.CellPlace.TheVariants as place
use Rattle.cfa.specs.declared.expr.Expr.TheVariants as expr
use Rattle.cfa.specs.declared.parts.Operation.TheVariants.{Assert, Assign, Assume}
use Rattle.cfa.specs.declared.parts.Variable.{Variable}
use Rattle.c_typed_trees.specs.declared.expression.TypedCall.{TypedCall}
use Rattle.c_typed_trees.specs.declared.expression.TypedExpr.{TypedExpr}
use Rattle.c_typed_trees.specs.declared.expression.TypedPlace.{TypedPlace}
use Rattle.c_typed_trees.specs.declared.statement.TypedForm.{TypedForm, roll-TypedForm, the_lemmas as statement_lemmas}
use Rattle.c_typed_trees.specs.declared.statement.TypedForm.TheOpen.{TypedForm-F, TypedGroup-F, TypedStatement-F}
use Rattle.c_typed_trees.specs.declared.statement.TypedGroup.{TypedGroup, roll-TypedGroup}
use Rattle.c_typed_trees.specs.declared.statement.TypedStatement.{TypedStatement, ind-TypedStatement, roll-TypedStatement}
use Rattle.c_lower_rules.specs.graph_of.Builder.{give, ◌then◌, ending, node}
use Rattle.c_lower_rules.specs.declared.graph_of.parts.Around.{Around}
use Rattle.c_lower_rules.specs.declared.graph_of.parts.Operand.{Operand}
use Rattle.c_lower_rules.specs.declared.graph_of.parts.Target.{Target}
use Rattle.c_lower_rules.specs.graph_of.Edges.{Lowering, back_edge, deciding, enter_edge, inside, label_edge, node_at, node_here, put, scope_behind, seeing, stated, step, within}
use Rattle.c_lower_rules.specs.graph_of.Expressions.{Calling, Spot, Value, call_edges, cell_of, element_of, calling_of, spot_cell, spot_of, value_of, words_in_order}
use Rattle.c_lower_rules.specs.graph_of.Statements.{Piece, array_row, arm_row, arms_row, assign_row, block_row, call_row, clear, combined, declared_by, reads_in_place, do_row, element_row, elements_row, for_loop, for_row, for_step, for_test, label_row, local_row, return_row, sequence, span_behind, test_row, while_row}
use Rattle.c_lower_rules.specs.graph_of.Switch.{Case, Group, case_guard, cases_from, cases_row, default_from, group_nodes, groups_row, switch_row}
use Rattle.c_lower_rules.specs.graph_of.Table.{form_step, group_of, piece, shape, tested}
use Rattle.bounds_check_laws.proofs.plain_returns.Flows.{AllPlain, Plain, ending_is, in_order_is, then_is}
use Rattle.bounds_check_laws.proofs.plain_returns.Values.{ArePlainValues, IsPlainSpot, IsPlainValue, call_edges_are, calling_is, gives_is, none, one, place_is, spot_is, value_is, words_are}

abbrev pub PlainLowering : Lowering → Type 0
PlainLowering s = (u : Around) (a z : ℕ) → Plain (s u a z)

abbrev pub IsPlainPiece : Piece → Type 0
IsPlainPiece p = PlainLowering p.make

abbrev pub ArePlainPieces : List Piece → Type 0
ArePlainPieces ps = AllByRecursion IsPlainPiece ps

scope_is : (u : Around) (vs : List Variable) → Plain (scope_behind u vs)
scope_is u [] n e k = in_order_is [] tt n e k
scope_is u (v ∷ vs) n e k = tt

-- ---- blocks

sequence_is : (ps : List Piece) → ArePlainPieces ps → PlainLowering (sequence ps)
sequence_is [] h u a z n e k = in_order_is [] tt n e k
sequence_is (s ∷ []) h u a z n e k = h.0 u a z n e k
sequence_is (s ∷ next ∷ rest) h u a z m e k =
    let w = seeing u s.declares k in
    in_order_is (node (node_at w next.span) ∷ scope_behind u s.declares ∷ s.make u a m ∷ sequence (next ∷ rest) w m z ∷ [])
    (none, (scope_is u s.declares, (h.0 u a m, (sequence_is (next ∷ rest) h.1 w m z, tt)))) m e k

pub block_is : (ps : List Piece) → ArePlainPieces ps → PlainLowering (block_row ps)
block_is [] h u a z n e k = (tt, tt)
block_is (s ∷ rest) h u a z n e k = sequence_is (s ∷ rest) h u a z n e k

-- ---- `if`

abbrev IsPlainArm : Value × Piece → Type 0
IsPlainArm arm = IsPlainValue arm.0 × IsPlainPiece arm.1

arm_is : (arm : Value × Piece) (o : Option Span) (follow : Lowering) → IsPlainArm arm → PlainLowering follow → PlainLowering (arm_row arm o follow)
arm_is arm None follow h g u a z t e k =
    in_order_is (node (node_at u (arm.1).span) ∷ (arm.0).cond (deciding u t z) a t z ∷ (arm.1).make u t z ∷ []) (none, (h.0.cond (deciding u t z) a t z, (h.1 u t z, tt))) t e k
arm_is arm (Some span) follow h g u a z t e k =
    in_order_is (node (node_at u (arm.1).span) ∷ node (node_at u span) ∷ (arm.0).cond (deciding u t (t + 1)) a t (t + 1) ∷ (arm.1).make u t z ∷ follow u (t + 1) z ∷ [])
    (none, (none, (h.0.cond (deciding u t (t + 1)) a t (t + 1), (h.1 u t z, (g u (t + 1) z, tt))))) t e k

arms_are : (arms : List (Value × Piece)) (o : Option Piece) → AllByRecursion IsPlainArm arms → IfSome o IsPlainPiece → PlainLowering (arms_row arms o)
arms_are [] None h g u a z n e k = in_order_is [] tt n e k
arms_are [] (Some s) h g u a z n e k = g u a z n e k
arms_are (arm ∷ rest) o h g u a z n e k = arm_is arm (span_behind rest o) (arms_row rest o) h.0 (arms_are rest o h.1 g) u a z n e k

-- ---- loops

while_is : (c : Value) (s : Piece) → IsPlainValue c → IsPlainPiece s → PlainLowering (while_row c s)
while_is c s hc hs u a z h e k =
    let v = inside u z (h + 2) in
    in_order_is (node_here v ∷ node_here v ∷ node_here v ∷ enter_edge u a h ∷ c.cond (deciding v (h + 1) z) h (h + 1) z ∷ s.make v (h + 1) (h + 2) ∷ back_edge u (h + 2) h ∷ [])
    (none, (none, (none, (one, (hc.cond (deciding v (h + 1) z) h (h + 1) z, (hs v (h + 1) (h + 2), (one, tt))))))) h e k

do_is : (s : Piece) (c : Value) → IsPlainPiece s → IsPlainValue c → PlainLowering (do_row s c)
do_is s c hs hc u a z t e k =
    let v = inside u z (t + 1) in
    in_order_is (node_here v ∷ node_here v ∷ node_here v ∷ enter_edge u a t ∷ s.make v t (t + 1) ∷ c.cond (deciding v (t + 2) z) (t + 1) (t + 2) z ∷ back_edge u (t + 2) t ∷ [])
    (none, (none, (none, (one, (hs v t (t + 1), (hc.cond (deciding v (t + 2) z) (t + 1) (t + 2) z, (one, tt))))))) t e k

test_is : (c : Option Value) → IfSome c IsPlainValue → (v : Around) (h t z : ℕ) → Plain (for_test c v h t z)
test_is None g v h t z n e k = (tt, tt)
test_is (Some c) g v h t z n e k = g.cond (deciding v t z) h t z n e k

step_is : (j : Option Piece) → IfSome j IsPlainPiece → (u : Around) (z h l : ℕ) → Plain (for_step j u z h l)
step_is None g u z h l n e k = (tt, tt)
step_is (Some j) g u z h l b e k =
    let v = inside u z b in
    in_order_is (node_here v ∷ j.make v l b ∷ back_edge u b h ∷ []) (none, (g v l b, (one, tt))) b e k

loop_is : (c : Option Value) (j : Option Piece) (s : Piece) → IfSome c IsPlainValue → IfSome j IsPlainPiece → IsPlainPiece s → PlainLowering (for_loop c j s)
loop_is c j s hc hj hs u i z h e k =
    let v = inside u z (h + 2) in
    in_order_is (node_here v ∷ node_here v ∷ node_here v ∷ enter_edge u i h ∷ for_test c v h (h + 1) z ∷ s.make v (h + 1) (h + 2) ∷ for_step j u z h (h + 2) ∷ [])
    (none, (none, (none, (one, (test_is c hc v h (h + 1) z, (hs v (h + 1) (h + 2), (step_is j hj u z h (h + 2), tt))))))) h e k

for_is : (first : List Piece) (c : Option Value) (j : Option Piece) (s : Piece) → ArePlainPieces first → IfSome c IsPlainValue → IfSome j IsPlainPiece → IsPlainPiece s → PlainLowering (for_row first c j s)
for_is [] c j s hf hc hj hs u a z n e k = loop_is c j s hc hj hs u a z n e k
for_is (first ∷ rest) c j s hf hc hj hs u a z i e k =
    let w = seeing u (declared_by (first ∷ rest)) k in
    in_order_is (node_here w ∷ scope_behind u (declared_by (first ∷ rest)) ∷ sequence (first ∷ rest) u a i ∷ for_loop c j s w i z ∷ [])
    (none, (scope_is u (declared_by (first ∷ rest)), (sequence_is (first ∷ rest) hf u a i, (loop_is c j s hc hj hs w i z, tt)))) i e k

-- ---- other statements

return_is : (x : Option Value) → IfSome x IsPlainValue → PlainLowering (return_row x)
return_is None h u a z n e k = (tt, tt)
return_is (Some x) h u a z n e k = ending_is (x.pure u) (λ v b. step u (Assign (place.Local 0) v.value) [] v.reads b u.exit) (h.pure u) (λ v b. one) a n e k

label_is : (name : List ℕ) (s : Piece) → IsPlainPiece s → PlainLowering (label_row name s)
label_is name s h u a z n e k = in_order_is (node_here u ∷ label_edge u name a n ∷ s.make u n z ∷ []) (none, (one, (h u n z, tt))) n e k

assert_is : (x : Value) → IsPlainValue x → PlainLowering (test_row Assert x)
assert_is x h u a z n e k = ending_is (x.pure u) (λ v b. step u (Assert v.value) [] v.reads b z) (h.pure u) (λ v b. one) a n e k

assume_is : (x : Value) → IsPlainValue x → PlainLowering (test_row Assume x)
assume_is x h u a z n e k = ending_is (x.pure u) (λ v b. step u (Assume v.value) [] v.reads b z) (h.pure u) (λ v b. one) a n e k

assign_is : (p : Spot) (op : Option (BinaryOp × Kind)) (x : Value) → IsPlainSpot p → IsPlainValue x → PlainLowering (assign_row p op x)
assign_is p op x hp hx u a z n e k =
    ending_is (spot_cell p u then λ c. x.pure u then λ v. give (c, v))
    (λ (cv : Target × Operand) b. step u (Assign (cv.0).place (combined p.variable.kind op (cv.0).place (cv.1).value)) (p.variable.name ∷ []) (reads_in_place p.variable op (cv.0).reads ++ (cv.1).reads) b z)
    (then_is {B = Target × Operand} (spot_cell p u) (λ c. x.pure u then λ v. give (c, v)) (spot_is p.variable p.index hp u) (λ c. gives_is {B = Target × Operand} (x.pure u) (λ v. (c, v)) (hx.pure u))) (λ cv b. one) a n e k

local_is : (x : Variable) (o : Option Value) → IfSome o IsPlainValue → PlainLowering (local_row x o)
local_is x None h u a z n e k = (tt, tt)
local_is x (Some v) h u a z n e k = ending_is (v.pure u) (λ w b. step u (Assign (cell_of x.place) w.value) (x.name ∷ []) w.reads b z) (h.pure u) (λ w b. one) a n e k

element_is : (x : Variable) (i : ℕ) (v : Value) → IsPlainValue v → PlainLowering (element_row x i v)
element_is x i v h u a z n e k = ending_is (v.pure u) (λ w b. step u (Assign (element_of x (expr.Constant i int)) w.value) (x.name ∷ []) w.reads b z) (h.pure u) (λ w b. one) a n e k

elements_are : (x : Variable) (i : ℕ) (vs : List Value) → ArePlainValues vs → PlainLowering (elements_row x i vs)
elements_are x i [] h u a z n e k = in_order_is [] tt n e k
elements_are x i (v ∷ []) h u a z n e k = element_is x i v h.0 u a z n e k
elements_are x i (v ∷ next ∷ rest) h u a z n e k =
    in_order_is (node_here u ∷ element_row x i v u a n ∷ elements_row x (i + 1) (next ∷ rest) u n z ∷ []) (none, (element_is x i v h.0 u a n, (elements_are x (i + 1) (next ∷ rest) h.1 u n z, tt))) n e k

array_is : (x : Variable) (vs : List Value) → ArePlainValues vs → PlainLowering (array_row x vs)
array_is x [] h u a z n e k = (tt, tt)
array_is x (v ∷ rest) h u a z n e k =
    in_order_is (node_here u ∷ clear x u a n ∷ elements_row x 0 (v ∷ rest) u n z ∷ []) (none, (one, (elements_are x 0 (v ∷ rest) h u n z, tt))) n e k

call_is : (c : Calling) → ArePlainValues c.words → PlainLowering (call_row c)
call_is c h u a z n e k =
    ending_is (words_in_order c.words u) (λ ws b. call_edges c.callee c.arrays u ws None b z) (words_are c.words h u) (λ ws b. call_edges_are c.callee c.arrays u ws None b z tt) a n e k

-- ---- `switch`

cases_are : (u : Around) (cell : ℕ) (kind : Kind) (cases : List Case) (other c : ℕ) → Plain (cases_row u cell kind cases other c)
cases_are u cell kind [] other c n e k = (tt, tt)
cases_are u cell kind (l ∷ []) other c n e k = in_order_is (case_guard u cell kind l true true c l.target ∷ case_guard u cell kind l false true c other ∷ []) (one, (one, tt)) n e k
cases_are u cell kind (l ∷ next ∷ rest) other c n e k =
    in_order_is (node_here u ∷ case_guard u cell kind l true true c l.target ∷ case_guard u cell kind l false false c n ∷ cases_row u cell kind (next ∷ rest) other n ∷ [])
    (none, (one, (one, (cases_are u cell kind (next ∷ rest) other n, tt)))) n e k

abbrev IsPlainGroup : Group → Type 0
IsPlainGroup g = ArePlainPieces g.body

groups_are : (gs : List Group) → AllByRecursion IsPlainGroup gs → (u : Around) (g z : ℕ) → AllPlain (groups_row gs u g z)
groups_are [] h u g z = tt
groups_are (group ∷ []) h u g z = (block_is group.body h.0 u g z, tt)
groups_are (group ∷ next ∷ rest) h u g z = (block_is group.body h.0 u g (g + 1), groups_are (next ∷ rest) h.1 u (g + 1) z)

switch_is : (x : Value) (cell : ℕ) (gs : List Group) → IsPlainValue x → AllByRecursion IsPlainGroup gs → PlainLowering (switch_row x cell gs)
switch_is x cell gs hx hg u a z g e k =
    let c = g + length gs in
    in_order_is
    (group_nodes u gs ∷ node_here u ∷ ending (x.pure u) (λ v b. put u cell v.value v.reads b c) a ∷ cases_row u cell x.kind (cases_from g gs) (default_from g gs z) c ∷ groups_row gs (within u z) g z)
    (none, (none, (ending_is (x.pure u) (λ v b. put u cell v.value v.reads b c) (hx.pure u) (λ v b. one) a, (cases_are u cell x.kind (cases_from g gs) (default_from g gs z) c, groups_are gs hg (within u z) g z)))) g e k

-- ---- the trees

abbrev FormHas : TypedForm → Type 0
FormHas f = (span : Span) → IsPlainPiece (shape f span)

abbrev GroupHas : TypedGroup → Type 0
GroupHas g = IsPlainGroup (group_of g)

abbrev Makes : TypedStatement → Type 0
Makes s = IsPlainPiece (piece s)

pieces_hold : (ss : List TypedStatement) → AllByRecursion Makes ss → ArePlainPieces (map piece ss)
pieces_hold [] h = tt
pieces_hold (s ∷ ss) h = (h.0, pieces_hold ss h.1)

piece_if : (o : Option TypedStatement) → IfSome o Makes → IfSome (option_map piece o) IsPlainPiece
piece_if None h = tt
piece_if (Some s) h = h

values_hold : (xs : List TypedExpr) → ArePlainValues (map value_of xs)
values_hold [] = tt
values_hold (x ∷ xs) = (value_is x, values_hold xs)

value_if : (o : Option TypedExpr) → IfSome (option_map value_of o) IsPlainValue
value_if None = tt
value_if (Some x) = value_is x

abbrev ArmsMake : List (TypedExpr × TypedStatement) → Type 0
ArmsMake arms = AllByRecursion (λ (arm : TypedExpr × TypedStatement). Makes arm.1) arms

arms_hold : (arms : List (TypedExpr × TypedStatement)) → ArmsMake arms → AllByRecursion IsPlainArm (map tested (map (λ (arm : TypedExpr × TypedStatement). (arm.0, piece arm.1)) arms))
arms_hold [] h = tt
arms_hold (arm ∷ arms) h = ((value_is arm.0, h.0), arms_hold arms h.1)

groups_hold : (gs : List TypedGroup) → AllByRecursion GroupHas gs → AllByRecursion IsPlainGroup (map group_of gs)
groups_hold [] h = tt
groups_hold (g ∷ gs) h = (h.0, groups_hold gs h.1)

form_is : (x : TypedForm-F TypedForm TypedGroup TypedStatement) (made : Span → Piece) → shape (roll-TypedForm x) ≡ made → ((span : Span) → IsPlainPiece (made span)) → FormHas (roll-TypedForm x)
form_is x made e h span = subst (λ (m : Span → Piece). IsPlainPiece (m span)) (sym e) (h span)

block_at : (ss : List TypedStatement) → AllByRecursion Makes ss → FormHas (roll-TypedForm (TypedForm-F.Block ss))
unfolding shape piece
block_at ss h = form_is (TypedForm-F.Block ss) (form_step (TypedForm-F.Block (map piece ss))) (search (rules, statement_lemmas)) (λ span u. block_is (map piece ss) (pieces_hold ss h) (stated u span kinds.Empty))

empty_at : FormHas (roll-TypedForm TypedForm-F.Empty)
unfolding shape
empty_at = form_is TypedForm-F.Empty (form_step TypedForm-F.Empty) (search (rules, statement_lemmas)) (λ span u a z. one)

local_at : (v : Variable) (first : Option TypedExpr) → FormHas (roll-TypedForm (TypedForm-F.Local v first))
unfolding shape
local_at v first = form_is (TypedForm-F.Local v first) (form_step (TypedForm-F.Local v first)) (search (rules, statement_lemmas)) (λ span u. local_is v (option_map value_of first) (value_if first) (stated u span kinds.Decl))

array_at : (v : Variable) (list : List TypedExpr) → FormHas (roll-TypedForm (TypedForm-F.LocalArray v list))
unfolding shape
array_at v list = form_is (TypedForm-F.LocalArray v list) (form_step (TypedForm-F.LocalArray v list)) (search (rules, statement_lemmas)) (λ span u. array_is v (map value_of list) (values_hold list) (stated u span kinds.Decl))

assign_at : (p : TypedPlace) (op : Option (BinaryOp × Kind)) (x : TypedExpr) → FormHas (roll-TypedForm (TypedForm-F.Assign p op x))
unfolding shape
assign_at p op x = form_is (TypedForm-F.Assign p op x) (form_step (TypedForm-F.Assign p op x)) (search (rules, statement_lemmas)) (λ span u. assign_is (spot_of p) op (value_of x) (place_is p) (value_is x) (stated u span kinds.Assign))

call_at : (q : TypedCall) → FormHas (roll-TypedForm (TypedForm-F.Call q))
unfolding shape
call_at q = form_is (TypedForm-F.Call q) (form_step (TypedForm-F.Call q)) (search (rules, statement_lemmas)) (λ span u. call_is (calling_of q) (calling_is q) (stated u span kinds.Call))

label_at : (name : List ℕ) (s : TypedStatement) → Makes s → FormHas (roll-TypedForm (TypedForm-F.Label name s))
unfolding shape piece
label_at name s h = form_is (TypedForm-F.Label name s) (form_step (TypedForm-F.Label name (piece s))) (search (rules, statement_lemmas)) (λ span u. label_is name (piece s) h (stated u span kinds.Label))

if_at : (arms : List (TypedExpr × TypedStatement)) (o : Option TypedStatement) → ArmsMake arms → IfSome o Makes → FormHas (roll-TypedForm (TypedForm-F.If arms o))
unfolding shape piece
if_at arms o h g = form_is (TypedForm-F.If arms o) (form_step (TypedForm-F.If (map (λ (arm : TypedExpr × TypedStatement). (arm.0, piece arm.1)) arms) (option_map piece o))) (search (rules, statement_lemmas))
    (λ span u. arms_are (map tested (map (λ (arm : TypedExpr × TypedStatement). (arm.0, piece arm.1)) arms)) (option_map piece o) (arms_hold arms h) (piece_if o g) (stated u span kinds.If))

while_at : (x : TypedExpr) (s : TypedStatement) → Makes s → FormHas (roll-TypedForm (TypedForm-F.While x s))
unfolding shape piece
while_at x s h = form_is (TypedForm-F.While x s) (form_step (TypedForm-F.While x (piece s))) (search (rules, statement_lemmas)) (λ span u. while_is (value_of x) (piece s) (value_is x) h (stated u span kinds.While))

do_at : (s : TypedStatement) (x : TypedExpr) → Makes s → FormHas (roll-TypedForm (TypedForm-F.Do s x))
unfolding shape piece
do_at s x h = form_is (TypedForm-F.Do s x) (form_step (TypedForm-F.Do (piece s) x)) (search (rules, statement_lemmas)) (λ span u. do_is (piece s) (value_of x) h (value_is x) (stated u span kinds.Do))

for_at : (first : List TypedStatement) (x : Option TypedExpr) (j : Option TypedStatement) (s : TypedStatement) → AllByRecursion Makes first → IfSome j Makes → Makes s → FormHas (roll-TypedForm (TypedForm-F.For first x j s))
unfolding shape piece
for_at first x j s h i g = form_is (TypedForm-F.For first x j s) (form_step (TypedForm-F.For (map piece first) x (option_map piece j) (piece s))) (search (rules, statement_lemmas))
    (λ span u. for_is (map piece first) (option_map value_of x) (option_map piece j) (piece s) (pieces_hold first h) (value_if x) (piece_if j i) g (stated u span kinds.For))

switch_at : (x : TypedExpr) (cell : ℕ) (gs : List TypedGroup) → AllByRecursion GroupHas gs → FormHas (roll-TypedForm (TypedForm-F.Switch x cell gs))
unfolding shape group_of
switch_at x cell gs h = form_is (TypedForm-F.Switch x cell gs) (form_step (TypedForm-F.Switch x cell (map group_of gs))) (search (rules, statement_lemmas)) (λ span u. switch_is (value_of x) cell (map group_of gs) (value_is x) (groups_hold gs h) (stated u span kinds.Switch))

break_at : FormHas (roll-TypedForm TypedForm-F.Break)
unfolding shape
break_at = form_is TypedForm-F.Break (form_step TypedForm-F.Break) (search (rules, statement_lemmas)) (λ span u a z. one)

continue_at : FormHas (roll-TypedForm TypedForm-F.Continue)
unfolding shape
continue_at = form_is TypedForm-F.Continue (form_step TypedForm-F.Continue) (search (rules, statement_lemmas)) (λ span u a z. one)

return_at : (x : Option TypedExpr) → FormHas (roll-TypedForm (TypedForm-F.Return x))
unfolding shape
return_at x = form_is (TypedForm-F.Return x) (form_step (TypedForm-F.Return x)) (search (rules, statement_lemmas)) (λ span u. return_is (option_map value_of x) (value_if x) (stated u span kinds.Return))

assert_at : (x : TypedExpr) → FormHas (roll-TypedForm (TypedForm-F.Assert x))
unfolding shape
assert_at x = form_is (TypedForm-F.Assert x) (form_step (TypedForm-F.Assert x)) (search (rules, statement_lemmas)) (λ span u. assert_is (value_of x) (value_is x) (stated u span kinds.Assert))

assume_at : (x : TypedExpr) → FormHas (roll-TypedForm (TypedForm-F.Assume x))
unfolding shape
assume_at x = form_is (TypedForm-F.Assume x) (form_step (TypedForm-F.Assume x)) (search (rules, statement_lemmas)) (λ span u. assume_is (value_of x) (value_is x) (stated u span kinds.Assume))

group_at : (x : TypedGroup-F TypedForm TypedGroup TypedStatement) → AllByRecursion Makes x.body → GroupHas (roll-TypedGroup x)
unfolding group_of piece
group_at x h =
    let e : group_of (roll-TypedGroup x) ≡ record { labels = x.labels; body = map piece x.body } = search (rules, statement_lemmas) in
    subst IsPlainGroup (sym e) (pieces_hold x.body h)

statement_at : (x : TypedStatement-F TypedForm TypedGroup TypedStatement) → FormHas x.form → Makes (roll-TypedStatement x)
unfolding piece shape
statement_at x h =
    let e : piece (roll-TypedStatement x) ≡ shape x.form x.span = search (rules, statement_lemmas) in
    subst IsPlainPiece (sym e) (h x.span)

-- what holds of each part holds of the parts in a list
module _ {S : Type 0} (f : S → TypedStatement) (g : (q : S) → Makes (f q)) where
  all_make : (ys : List S) → AllByRecursion Makes (map f ys)
  all_make [] = tt
  all_make (y ∷ ys) = (g y, all_make ys)

  all_arms : (ys : List (TypedExpr × S)) → ArmsMake (map (λ (arm : TypedExpr × S). (arm.0, f arm.1)) ys)
  all_arms [] = tt
  all_arms (y ∷ ys) = (g y.1, all_arms ys)

module _ {S : Type 0} (f : S → TypedGroup) (g : (q : S) → GroupHas (f q)) where
  all_groups : (ys : List S) → AllByRecursion GroupHas (map f ys)
  all_groups [] = tt
  all_groups (y ∷ ys) = (g y, all_groups ys)

pub statement_is : (s : TypedStatement) → Makes s
statement_is s = ind-TypedStatement FormHas GroupHas Makes
    (λ x'. elim [
      | TypedForm-F.Block ys ↦ λ e. subst (λ z. FormHas (roll-TypedForm z)) e (block_at _ (all_make (λ q. q.0) (λ q. q.1) ys))
      | TypedForm-F.Empty ↦ λ e. subst (λ z. FormHas (roll-TypedForm z)) e (empty_at)
      | TypedForm-F.Local v first ↦ λ e. subst (λ z. FormHas (roll-TypedForm z)) e (local_at v first)
      | TypedForm-F.LocalArray v list ↦ λ e. subst (λ z. FormHas (roll-TypedForm z)) e (array_at v list)
      | TypedForm-F.Assign p op x ↦ λ e. subst (λ z. FormHas (roll-TypedForm z)) e (assign_at p op x)
      | TypedForm-F.Call q ↦ λ e. subst (λ z. FormHas (roll-TypedForm z)) e (call_at q)
      | TypedForm-F.Label name y ↦ λ e. subst (λ z. FormHas (roll-TypedForm z)) e (label_at name y.0 y.1)
      | TypedForm-F.If arms None ↦ λ e. subst (λ z. FormHas (roll-TypedForm z)) e (if_at _ None (all_arms (λ q. q.0) (λ q. q.1) arms) tt)
      | TypedForm-F.If arms (Some o) ↦ λ e. subst (λ z. FormHas (roll-TypedForm z)) e (if_at _ (Some o.0) (all_arms (λ q. q.0) (λ q. q.1) arms) o.1)
      | TypedForm-F.While x y ↦ λ e. subst (λ z. FormHas (roll-TypedForm z)) e (while_at x y.0 y.1)
      | TypedForm-F.Do y x ↦ λ e. subst (λ z. FormHas (roll-TypedForm z)) e (do_at y.0 x y.1)
      | TypedForm-F.For first x None y ↦ λ e. subst (λ z. FormHas (roll-TypedForm z)) e (for_at _ x None y.0 (all_make (λ q. q.0) (λ q. q.1) first) tt y.1)
      | TypedForm-F.For first x (Some j) y ↦ λ e. subst (λ z. FormHas (roll-TypedForm z)) e (for_at _ x (Some j.0) y.0 (all_make (λ q. q.0) (λ q. q.1) first) j.1 y.1)
      | TypedForm-F.Switch x cell gs ↦ λ e. subst (λ z. FormHas (roll-TypedForm z)) e (switch_at x cell _ (all_groups (λ q. q.0) (λ q. q.1) gs))
      | TypedForm-F.Break ↦ λ e. subst (λ z. FormHas (roll-TypedForm z)) e (break_at)
      | TypedForm-F.Continue ↦ λ e. subst (λ z. FormHas (roll-TypedForm z)) e (continue_at)
      | TypedForm-F.Return x ↦ λ e. subst (λ z. FormHas (roll-TypedForm z)) e (return_at x)
      | TypedForm-F.Assert x ↦ λ e. subst (λ z. FormHas (roll-TypedForm z)) e (assert_at x)
      | TypedForm-F.Assume x ↦ λ e. subst (λ z. FormHas (roll-TypedForm z)) e (assume_at x)
    ])
    (λ x' y e. subst (λ z. GroupHas (roll-TypedGroup z)) e (group_at (record { labels = y.labels; body = map (λ q. q.0) y.body }) (all_make (λ q. q.0) (λ q. q.1) y.body)))
    (λ x' y e. subst (λ z. Makes (roll-TypedStatement z)) e (statement_at (record { span = y.span; form = y.form.0 }) y.form.1)) s

pub pieces_are : (ss : List TypedStatement) → ArePlainPieces (map piece ss)
pieces_are [] = tt
pieces_are (s ∷ ss) = (statement_is s, pieces_are ss)
