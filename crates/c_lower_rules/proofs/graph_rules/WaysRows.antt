-- The ways on that statements make.
use Rattle.std.proofs.Common.{ℕ, ◌+◌, List, [], ◌∷◌, ◌++◌, length, Option, Some, None, refl, arith}
use Rattle.std.specs.List.{AllByRecursion}
use Rattle.std.specs.Prelude.{IfSome}
use Rattle.fq_core.specs.declared.span.Span.{Span}
use Rattle.fq_core.specs.declared.statement_kind.StatementKind.TheVariants as kinds
use Rattle.c_values.specs.Kind.{int}
use Rattle.c_values.specs.declared.kinds.Kind.{Kind}
use Rattle.c_values.specs.declared.operators.BinaryOp.{BinaryOp}
use Rattle.cfa.specs.declared.expr.CellPlace.TheVariants as place
use Rattle.cfa.specs.declared.expr.Expr.{Expr}
use Rattle.cfa.specs.declared.expr.Expr.TheVariants as expr
use Rattle.cfa.specs.declared.parts.Operation.{Operation}
use Rattle.cfa.specs.declared.parts.Operation.TheVariants.{Assign}
use Rattle.cfa.specs.declared.parts.Variable.{Variable}
use Rattle.c_lower_rules.specs.declared.graph_of.parts.Around.{Around}
use Rattle.c_lower_rules.specs.declared.graph_of.parts.Operand.{Operand}
use Rattle.c_lower_rules.specs.declared.graph_of.parts.Target.{Target}
use Rattle.c_lower_rules.specs.graph_of.Builder.{numbered, give, ◌then◌}
use Rattle.c_lower_rules.specs.graph_of.Edges.{Lowering, stated, inside, deciding, seeing, scope_behind, node_here, label_edge, skip, step}
use Rattle.c_lower_rules.specs.graph_of.Expressions.{Value, Spot, Calling, cell_of, element_of, spot_cell, words_in_order, call_edges}
use Rattle.c_lower_rules.specs.graph_of.Statements.{Piece, sequence, block_row, arm_row, arms_row, while_row, do_row, for_test, for_step, for_loop, declared_by, for_row, break_row, continue_row, return_row, label_row, test_row, combined, reads_in_place, assign_row, local_row, element_row, elements_row, clear, array_row, call_row}
use Rattle.c_lower_rules.proofs.graph_of.Fits.{◌&◌}
use Rattle.c_lower_rules.proofs.graph_rules.Ways.{IsSingle, Leading, leading, lead_nil, lead_one, single}
use Rattle.c_lower_rules.proofs.graph_rules.WaysFlows.{Closed, IsValue, IsSpot, then_is, then_gives, ending_is, spot_index_is, words_are, call_edges_are, third}

abbrev pub IsLowering : Lowering → Type 0
IsLowering s = (u : Around) (a z n e k : ℕ) → Closed (s u a z n e k) n a

abbrev pub IsPiece : Piece → Type 0
IsPiece p = IsLowering p.make

-- ---- one edge

pub skip_is : IsLowering skip
skip_is u a z n e k = single _ n (refl, refl, refl)

pub break_is : IsLowering break_row
break_is u a z n e k = single _ n (refl, refl, refl)

pub continue_is : IsLowering continue_row
continue_is u a z n e k = single _ n (refl, refl, refl)

pub clear_is : (x : Variable) → IsLowering (clear x)
clear_is x u a z n e k = single _ n (refl, refl, refl)

-- ---- a flow, and one edge

pub return_is : (x : Option Value) → IfSome x IsValue → IsLowering (return_row x)
return_is None h u a z n e k = single _ n (refl, refl, refl)
return_is (Some x) h u a z n e k = ending_is (x.pure u) (λ v b. step u (Assign (place.Local 0) v.value) [] v.reads b u.exit) (h.pure u) (λ v m p q r. single _ p (refl, refl, refl)) a n e k

pub test_is : (op : Expr → Operation) (x : Value) → ((v : Expr) → IsSingle (op v)) → IsValue x → IsLowering (test_row op x)
test_is op x one h u a z n e k = ending_is (x.pure u) (λ v b. step u (op v.value) [] v.reads b z) (h.pure u) (λ v m p q r. single _ p (one v.value)) a n e k

pub assign_is : (p : Spot) (op : Option (BinaryOp × Kind)) (x : Value) → IsSpot p → IsValue x → IsLowering (assign_row p op x)
assign_is p op x hp hx u a z n e k =
    ending_is (spot_cell p u then λ c. x.pure u then λ v. give (c, v))
    (λ (cv : Target × Operand) b. step u (Assign (cv.0).place (combined p.variable.kind op (cv.0).place (cv.1).value)) (p.variable.name ∷ []) (reads_in_place p.variable op (cv.0).reads ++ (cv.1).reads) b z)
    (then_is (spot_cell p u) (λ c. x.pure u then λ v. give (c, v)) (spot_index_is p.variable p.index hp u) (λ c. then_gives (x.pure u) (λ v. (c, v)) (hx.pure u)))
    (λ v m p q r. single _ p (refl, refl, refl)) a n e k

pub local_is : (x : Variable) (first : Option Value) → IfSome first IsValue → IsLowering (local_row x first)
local_is x None h u a z n e k = single _ n (refl, refl, refl)
local_is x (Some v) h u a z n e k = ending_is (v.pure u) (λ w b. step u (Assign (cell_of x.place) w.value) (x.name ∷ []) w.reads b z) (h.pure u) (λ v m p q r. single _ p (refl, refl, refl)) a n e k

element_is : (x : Variable) (i : ℕ) (v : Value) → IsValue v → IsLowering (element_row x i v)
element_is x i v h u a z n e k = ending_is (v.pure u) (λ w b. step u (Assign (element_of x (expr.Constant i int)) w.value) (x.name ∷ []) w.reads b z) (h.pure u) (λ v m p q r. single _ p (refl, refl, refl)) a n e k

-- one, and then another, from a node between them that is made first
followed_is : (first rest : Lowering) → IsLowering first → IsLowering rest → IsLowering (λ u a z. numbered (λ n e k. node_here u ∷ first u a n ∷ rest u n z ∷ []))
followed_is first rest hf hr u a z n e k =
    let mx = first u a n (n + 1) (e + 0) (k + 0) in
    let X = hf u a n (n + 1) (e + 0) (k + 0) in
    let Y = hr u n z (n + 1 + length mx.nodes) (e + 0 + length mx.edges) (k + 0 + length mx.scopes) in
    leading _ n e k _ _ (lead_nil & X.leads & Y.leads & tt) (λ i. omega (arith, X.same i, Y.same i))

elements_are : (x : Variable) (i : ℕ) (v : Value) (vs : List Value) → IsValue v → AllByRecursion IsValue vs → IsLowering (elements_row x i (v ∷ vs))
elements_are x i v [] h hs u a z n e k = element_is x i v h u a z n e k
elements_are x i v (next ∷ rest) h hs u a z n e k =
    followed_is (element_row x i v) (elements_row x (i + 1) (next ∷ rest)) (element_is x i v h) (elements_are x (i + 1) next rest hs.0 hs.1) u a z n e k

pub array_is : (x : Variable) (vs : List Value) → AllByRecursion IsValue vs → IsLowering (array_row x vs)
array_is x [] hs u a z n e k = clear_is x u a z n e k
array_is x (v ∷ rest) hs u a z n e k = followed_is (clear x) (elements_row x 0 (v ∷ rest)) (clear_is x) (elements_are x 0 v rest hs.0 hs.1) u a z n e k

pub label_is : (name : List ℕ) (s : Piece) → IsPiece s → IsLowering (label_row name s)
label_is name s hs u a z n e k = followed_is (λ u a z. label_edge u name a z) s.make (λ u a z n e k. single _ n (refl, refl, refl)) hs u a z n e k

pub call_is : (c : Calling) → AllByRecursion IsValue c.words → IsLowering (call_row c)
call_is c hs u a z n e k = ending_is (words_in_order c.words u) (λ ws b. call_edges c.callee c.arrays u ws None b z) (words_are c.words hs u) (λ ws m p q r. call_edges_are c.callee c.arrays u ws None m z p q r) a n e k

-- ---- blocks

scope_leads : (u : Around) (vs : List Variable) (n e k : ℕ) → Leading (scope_behind u vs n e k) n (λ i. 0) (λ i. 0)
scope_leads u [] n e k = leading [] n e k _ _ tt (λ i. omega arith)
scope_leads u (v ∷ vs) n e k = record { leads = lead_nil; same = λ i. omega arith }

pub sequence_is : (s : Piece) (ps : List Piece) → IsPiece s → AllByRecursion IsPiece ps → IsLowering (sequence (s ∷ ps))
sequence_is s [] h hs u a z n e k = h u a z n e k
sequence_is s (next ∷ rest) h hs u a z n e k =
    let w = seeing u s.declares k in
    let ms = scope_behind u s.declares (n + 1) (e + 0) (k + 0) in
    let S = scope_leads u s.declares (n + 1) (e + 0) (k + 0) in
    let n1 = n + 1 + length ms.nodes in
    let e1 = e + 0 + length ms.edges in
    let k1 = k + 0 + length ms.scopes in
    let mx = s.make u a n n1 e1 k1 in
    let X = h u a n n1 e1 k1 in
    let Y = sequence_is next rest hs.0 hs.1 w n z (n1 + length mx.nodes) (e1 + length mx.edges) (k1 + length mx.scopes) in
    leading _ n e k _ _ (lead_nil & S.leads & X.leads & Y.leads & tt) (λ i. omega (arith, S.same i, X.same i, Y.same i))

pub block_is : (ps : List Piece) → AllByRecursion IsPiece ps → IsLowering (block_row ps)
block_is [] hs u a z n e k = skip_is (stated u u.span kinds.Empty) a z n e k
block_is (s ∷ rest) hs u a z n e k = sequence_is s rest hs.0 hs.1 u a z n e k

-- ---- `if`

abbrev pub IsArm : Value × Piece → Type 0
IsArm arm = IsValue arm.0 × IsPiece arm.1

arm_then : (span : Span) (arm : Value × Piece) (rest : Lowering) → IsArm arm → IsLowering rest → IsLowering (arm_row arm (Some span) rest)
arm_then span arm rest h hr u a z n e k =
    let v = deciding u n (n + 1) in
    let mx = (arm.0).cond v a n (n + 1) (n + 1 + 1) (e + 0 + 0) (k + 0 + 0) in
    let X = h.0.cond v a n (n + 1) (n + 1 + 1) (e + 0 + 0) (k + 0 + 0) in
    let n1 = n + 1 + 1 + length mx.nodes in
    let e1 = e + 0 + 0 + length mx.edges in
    let k1 = k + 0 + 0 + length mx.scopes in
    let my = (arm.1).make u n z n1 e1 k1 in
    let Y = h.1 u n z n1 e1 k1 in
    let Z = hr u (n + 1) z (n1 + length my.nodes) (e1 + length my.edges) (k1 + length my.scopes) in
    leading _ n e k _ _ (lead_nil & lead_nil & X.leads & Y.leads & Z.leads & tt) (λ i. omega (arith, X.same i, Y.same i, Z.same i))

arm_alone : (arm : Value × Piece) (rest : Lowering) → IsArm arm → IsLowering (arm_row arm None rest)
arm_alone arm rest h u a z n e k =
    let v = deciding u n z in
    let mx = (arm.0).cond v a n z (n + 1) (e + 0) (k + 0) in
    let X = h.0.cond v a n z (n + 1) (e + 0) (k + 0) in
    let Y = h.1 u n z (n + 1 + length mx.nodes) (e + 0 + length mx.edges) (k + 0 + length mx.scopes) in
    leading _ n e k _ _ (lead_nil & X.leads & Y.leads & tt) (λ i. omega (arith, X.same i, Y.same i))

pub arms_are : (arm : Value × Piece) (arms : List (Value × Piece)) (otherwise : Option Piece) → IsArm arm → AllByRecursion IsArm arms → IfSome otherwise IsPiece → IsLowering (arms_row (arm ∷ arms) otherwise)
arms_are arm [] None h hs ho u a z n e k = arm_alone arm (arms_row [] None) h u a z n e k
arms_are arm [] (Some s) h hs ho u a z n e k = arm_then s.span arm s.make h ho u a z n e k
arms_are arm (next ∷ rest) otherwise h hs ho u a z n e k =
    arm_then (next.0).span arm (arms_row (next ∷ rest) otherwise) h (arms_are next rest otherwise hs.0 hs.1 ho) u a z n e k

-- ---- loops

pub while_is : (c : Value) (s : Piece) → IsValue c → IsPiece s → IsLowering (while_row c s)
while_is c s hc hs u a z n e k =
    let v = inside u z (n + 2) in
    let w = deciding v (n + 1) z in
    let n1 = n + 1 + 1 + 1 + 0 in
    let e1 = e + 0 + 0 + 0 + 1 in
    let k1 = k + 0 + 0 + 0 + 0 in
    let mx = c.cond w n (n + 1) z n1 e1 k1 in
    let X = hc.cond w n (n + 1) z n1 e1 k1 in
    let Y = hs v (n + 1) (n + 2) (n1 + length mx.nodes) (e1 + length mx.edges) (k1 + length mx.scopes) in
    leading _ n e k _ _ (lead_nil & lead_nil & lead_nil & lead_one _ (refl, refl, refl) & X.leads & Y.leads & lead_one _ (refl, refl, refl) & tt)
    (λ i. omega (arith, X.same i, Y.same i, third i n))

pub do_is : (s : Piece) (c : Value) → IsPiece s → IsValue c → IsLowering (do_row s c)
do_is s c hs hc u a z n e k =
    let v = inside u z (n + 1) in
    let w = deciding v (n + 2) z in
    let n1 = n + 1 + 1 + 1 + 0 in
    let e1 = e + 0 + 0 + 0 + 1 in
    let k1 = k + 0 + 0 + 0 + 0 in
    let my = s.make v n (n + 1) n1 e1 k1 in
    let Y = hs v n (n + 1) n1 e1 k1 in
    let X = hc.cond w (n + 1) (n + 2) z (n1 + length my.nodes) (e1 + length my.edges) (k1 + length my.scopes) in
    leading _ n e k _ _ (lead_nil & lead_nil & lead_nil & lead_one _ (refl, refl, refl) & Y.leads & X.leads & lead_one _ (refl, refl, refl) & tt)
    (λ i. omega (arith, X.same i, Y.same i, third i n))

for_test_is : (c : Option Value) → IfSome c IsValue → (v : Around) (h t z n e k : ℕ) → Closed (for_test c v h t z n e k) n h
for_test_is None hc v h t z n e k = single _ n (refl, refl, refl)
for_test_is (Some c) hc v h t z n e k = hc.cond (deciding v t z) h t z n e k

for_step_is : (j : Option Piece) → IfSome j IsPiece → (u : Around) (z h l n e k : ℕ) → Closed (for_step j u z h l n e k) n l
for_step_is None hj u z h l n e k = single _ n (refl, refl, refl)
for_step_is (Some j) hj u z h l n e k =
    let Z = hj (inside u z n) l n (n + 1) (e + 0) (k + 0) in
    leading _ n e k _ _ (lead_nil & Z.leads & lead_one _ (refl, refl, refl) & tt) (λ i. omega (arith, Z.same i))

for_loop_is : (c : Option Value) (j : Option Piece) (s : Piece) → IfSome c IsValue → IfSome j IsPiece → IsPiece s → IsLowering (for_loop c j s)
for_loop_is c j s hc hj hs u a z n e k =
    let v = inside u z (n + 2) in
    let n1 = n + 1 + 1 + 1 + 0 in
    let e1 = e + 0 + 0 + 0 + 1 in
    let k1 = k + 0 + 0 + 0 + 0 in
    let mx = for_test c v n (n + 1) z n1 e1 k1 in
    let X = for_test_is c hc v n (n + 1) z n1 e1 k1 in
    let my = s.make v (n + 1) (n + 2) (n1 + length mx.nodes) (e1 + length mx.edges) (k1 + length mx.scopes) in
    let Y = hs v (n + 1) (n + 2) (n1 + length mx.nodes) (e1 + length mx.edges) (k1 + length mx.scopes) in
    let T = for_step_is j hj u z n (n + 2) (n1 + length mx.nodes + length my.nodes) (e1 + length mx.edges + length my.edges) (k1 + length mx.scopes + length my.scopes) in
    leading _ n e k _ _ (lead_nil & lead_nil & lead_nil & lead_one _ (refl, refl, refl) & X.leads & Y.leads & T.leads & tt)
    (λ i. omega (arith, X.same i, Y.same i, T.same i, third i n))

pub for_is : (first : List Piece) (c : Option Value) (j : Option Piece) (s : Piece) → AllByRecursion IsPiece first → IfSome c IsValue → IfSome j IsPiece → IsPiece s → IsLowering (for_row first c j s)
for_is [] c j s hf hc hj hs u a z n e k = for_loop_is c j s hc hj hs u a z n e k
for_is (first ∷ rest) c j s hf hc hj hs u a z n e k =
    let ps : List Piece = first ∷ rest in
    let w = seeing u (declared_by ps) k in
    let ms = scope_behind u (declared_by ps) (n + 1) (e + 0) (k + 0) in
    let S = scope_leads u (declared_by ps) (n + 1) (e + 0) (k + 0) in
    let n1 = n + 1 + length ms.nodes in
    let e1 = e + 0 + length ms.edges in
    let k1 = k + 0 + length ms.scopes in
    let mx = sequence ps u a n n1 e1 k1 in
    let X = sequence_is first rest hf.0 hf.1 u a n n1 e1 k1 in
    let Y = for_loop_is c j s hc hj hs w n z (n1 + length mx.nodes) (e1 + length mx.edges) (k1 + length mx.scopes) in
    leading _ n e k _ _ (lead_nil & S.leads & X.leads & Y.leads & tt) (λ i. omega (arith, S.same i, X.same i, Y.same i))
