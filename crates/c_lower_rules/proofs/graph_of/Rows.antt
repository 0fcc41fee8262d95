-- Each row for a statement makes nodes and edges that stand in an order, where its parts do.
use Rattle.std.proofs.Common.{ℕ, ◌+◌, List, [], ◌∷◌, ◌++◌, length, Option, Some, None, refl, arith}
use Rattle.std.specs.List.{AllByRecursion}
use Rattle.std.specs.Prelude.{IfSome}
use Rattle.fq_core.specs.declared.statement_kind.StatementKind.TheVariants as kinds
use Rattle.c_values.specs.declared.kinds.Kind.{Kind}
use Rattle.c_values.specs.declared.operators.BinaryOp.{BinaryOp}
use Rattle.cfa.specs.declared.expr.CellPlace.TheVariants as place
use Rattle.cfa.specs.declared.expr.Expr.{Expr}
use Rattle.cfa.specs.declared.expr.Expr.TheVariants as expr
use Rattle.cfa.specs.declared.parts.Operation.{Operation}
use Rattle.cfa.specs.declared.parts.Operation.TheVariants.{Assign}
use Rattle.cfa.specs.declared.parts.Variable.{Variable}
use Rattle.c_values.specs.Kind.{int}
use Rattle.c_lower_rules.specs.cfa_order.Order.{Standing, GoesOn, IsInOrder}
use Rattle.c_lower_rules.specs.declared.graph_of.parts.Around.{Around}
use Rattle.c_lower_rules.specs.graph_of.Builder.{Builder, Flow, in_order, numbered, give, ◌then◌, ending}
use Rattle.c_lower_rules.specs.graph_of.Edges.{Lowering, stated, seeing, scope_behind, node_here, label_edge, skip, step, edge_of}
use Rattle.c_lower_rules.specs.declared.graph_of.parts.Operand.{Operand}
use Rattle.c_lower_rules.specs.declared.graph_of.parts.Target.{Target}
use Rattle.c_lower_rules.specs.graph_of.Expressions.{Value, Spot, Calling, cell_of, element_of, spot_cell, words_in_order, call_edges}
use Rattle.c_lower_rules.specs.graph_of.Statements.{Piece, sequence, block_row, break_row, continue_row, return_row, label_row, test_row, combined, reads_in_place, assign_row, local_row, element_row, elements_row, clear, array_row, call_row}
use Rattle.c_lower_rules.proofs.graph_of.Fits.{Fits, fits_given, fits_node, fits_edge, fits_scope, fits_nil, fits_cons, ◌&◌}
use Rattle.c_lower_rules.proofs.graph_of.Given.{From, To, Behind, LeavesFrom, Deep, Arranged, arrange, to_behind, leaves, goes, resumes, from_at, to_at, later, stands}
use Rattle.c_lower_rules.proofs.graph_of.Flows.{IsFlow, IsValue, IsSpot, then_is, then_gives, ending_is, spot_index_is, words_are, call_fits}

abbrev pub Given : Around → (ℕ → Standing) → ℕ → ℕ → List ℕ → ℕ → ℕ → Type 0
Given u at lo hi loops a z = From at lo loops a × To at hi loops z × LeavesFrom at hi loops u

abbrev pub IsLowering : Lowering → Type 0
IsLowering s = (u : Around) (a z n e k lo : ℕ) (loops : List ℕ) → Deep u.depth lo loops → Arranged (s u a z n e k) n lo (λ at hi. Given u at lo hi loops a z)

abbrev pub IsPiece : Piece → Type 0
IsPiece p = IsLowering p.make

-- ---- one edge

pub nothing_is : IsLowering (λ u a z. in_order [])
nothing_is u a z n e k lo loops d = arrange (lo + 1) (omega arith) (fits_nil _ _ _) (λ at ag g. tt)

pub skip_is : IsLowering skip
skip_is u a z n e k lo loops d = arrange (lo + 1) (omega arith) fits_edge (λ at ag g. goes (omega arith) g.0 (to_behind g.1))

pub break_is : IsLowering break_row
break_is u a z n e k lo loops d = arrange (lo + 1) (omega arith) fits_edge (λ at ag g. goes (omega arith) g.0 g.2.on_break)

pub continue_is : IsLowering continue_row
continue_is u a z n e k lo loops d = arrange (lo + 1) (omega arith) fits_edge (λ at ag g. goes (omega arith) g.0 g.2.on_continue)

pub clear_is : (x : Variable) → IsLowering (clear x)
clear_is x u a z n e k lo loops d = arrange (lo + 1) (omega arith) fits_edge (λ at ag g. goes (omega arith) g.0 (to_behind g.1))

-- ---- a flow, and one edge

pub flow_step_is : {A : Type 0} (x : Flow A) (f : A → ℕ → Builder) (depth a z n e k lo : ℕ) (loops : List ℕ) → IsFlow A x depth → Deep depth lo loops
    → ((v : A) (m p q r : ℕ) → Fits (f v m p q r) p [] (λ at. GoesOn (at m) (at z)))
    → Arranged (ending x f a n e k) n lo (λ at hi. From at lo loops a × Behind at hi loops z)
flow_step_is x f depth a z n e k lo loops hx d hf = ending_is x f (λ at hi. Behind at hi loops z) depth a n e k lo loops hx d (λ v m p q r. fits_given _ (hf v m p q r) (λ at ag g. goes (omega arith) g.1 g.2))

pub return_is : (x : Option Value) → IfSome x IsValue → IsLowering (return_row x)
return_is None h u a z n e k lo loops d = arrange (lo + 1) (omega arith) fits_edge (λ at ag g. goes (omega arith) g.0 g.2.exit)
return_is (Some x) h u a z n e k lo loops d =
    let X = flow_step_is (x.pure u) (λ v b. step u (Assign (place.Local 0) v.value) [] v.reads b u.exit) u.depth a u.exit n e k lo loops (h.pure u) d (λ v m p q r. fits_edge) in
    arrange X.hi X.wide X.fits (λ at ag g. (g.0, g.2.exit))

pub test_is : (op : Expr → Operation) (x : Value)
    → ((at : ℕ → Standing) (u : Around) (v : Expr) (reads : List (List ℕ)) (m z : ℕ) → GoesOn (at m) (at z) → IsInOrder at (edge_of u (op v) [] reads m z) [] (op v))
    → IsValue x → IsLowering (test_row op x)
test_is op x moves h u a z n e k lo loops d =
    let X = flow_step_is (x.pure u) (λ v b. step u (op v.value) [] v.reads b z) u.depth a z n e k lo loops (h.pure u) d
    (λ v m p q r. fits_given _ fits_edge (λ at ag g. moves at u v.value v.reads m z g)) in
    arrange X.hi X.wide X.fits (λ at ag g. (g.0, to_behind g.1))

pub assign_is : (p : Spot) (op : Option (BinaryOp × Kind)) (x : Value) → IsSpot p → IsValue x → IsLowering (assign_row p op x)
assign_is p op x hp hx u a z n e k lo loops d =
    let X = flow_step_is (spot_cell p u then λ c. x.pure u then λ v. give (c, v))
    (λ (cv : Target × Operand) b. step u (Assign (cv.0).place (combined p.variable.kind op (cv.0).place (cv.1).value)) (p.variable.name ∷ []) (reads_in_place p.variable op (cv.0).reads ++ (cv.1).reads) b z) u.depth a z n e k lo loops
    (then_is (spot_cell p u) (λ c. x.pure u then λ v. give (c, v)) u.depth (spot_index_is p.variable p.index hp u) (λ c. then_gives (x.pure u) (λ v. (c, v)) u.depth (hx.pure u))) d
    (λ v m p q r. fits_edge) in
    arrange X.hi X.wide X.fits (λ at ag g. (g.0, to_behind g.1))

pub local_is : (x : Variable) (first : Option Value) → IfSome first IsValue → IsLowering (local_row x first)
local_is x None h u a z n e k lo loops d = arrange (lo + 1) (omega arith) fits_edge (λ at ag g. goes (omega arith) g.0 (to_behind g.1))
local_is x (Some v) h u a z n e k lo loops d =
    let X = flow_step_is (v.pure u) (λ w b. step u (Assign (cell_of x.place) w.value) (x.name ∷ []) w.reads b z) u.depth a z n e k lo loops (h.pure u) d (λ v m p q r. fits_edge) in
    arrange X.hi X.wide X.fits (λ at ag g. (g.0, to_behind g.1))

element_is : (x : Variable) (i : ℕ) (v : Value) → IsValue v → IsLowering (element_row x i v)
element_is x i v h u a z n e k lo loops d =
    let X = flow_step_is (v.pure u) (λ w b. step u (Assign (element_of x (expr.Constant i int)) w.value) (x.name ∷ []) w.reads b z) u.depth a z n e k lo loops (h.pure u) d (λ v m p q r. fits_edge) in
    arrange X.hi X.wide X.fits (λ at ag g. (g.0, to_behind g.1))

-- one, and then another, from a node between them that is made first
followed_is : (first rest : Lowering) → IsLowering first → IsLowering rest → IsLowering (λ u a z. numbered (λ n e k. node_here u ∷ first u a n ∷ rest u n z ∷ []))
followed_is first rest hf hr u a z n e k lo loops d =
    let mx = first u a n (n + 1) (e + 0) (k + 0) in
    let X = hf u a n (n + 1) (e + 0) (k + 0) lo loops d in
    let Y = hr u n z (n + 1 + length mx.nodes) (e + 0 + length mx.edges) (k + 0 + length mx.scopes) X.hi loops (later (omega (arith, X.wide)) d) in
    arrange Y.hi (omega (arith, X.wide, Y.wide)) (fits_cons _ _ _ _ _ (fits_node (stands X.hi (omega (arith, X.wide)) refl d)) (fits_cons _ _ _ _ _ X.fits (fits_cons _ _ _ _ _ Y.fits (fits_nil _ _ _))))
    (λ at ag g. tt & (g.0, to_at ag.0 (omega arith), leaves (omega (arith, Y.wide)) g.2) & (from_at ag.0 (omega arith), g.1, g.2) & tt)

elements_are : (x : Variable) (i : ℕ) (vs : List Value) → AllByRecursion IsValue vs → IsLowering (elements_row x i vs)
elements_are x i [] hs u a z n e k lo loops d = nothing_is u a z n e k lo loops d
elements_are x i (v ∷ []) hs u a z n e k lo loops d = element_is x i v hs.0 u a z n e k lo loops d
elements_are x i (v ∷ next ∷ rest) hs u a z n e k lo loops d =
    followed_is (element_row x i v) (elements_row x (i + 1) (next ∷ rest)) (element_is x i v hs.0) (elements_are x (i + 1) (next ∷ rest) hs.1) u a z n e k lo loops d

pub array_is : (x : Variable) (vs : List Value) → AllByRecursion IsValue vs → IsLowering (array_row x vs)
array_is x [] hs u a z n e k lo loops d = clear_is x u a z n e k lo loops d
array_is x (v ∷ rest) hs u a z n e k lo loops d = followed_is (clear x) (elements_row x 0 (v ∷ rest)) (clear_is x) (elements_are x 0 (v ∷ rest) hs) u a z n e k lo loops d

pub label_is : (name : List ℕ) (s : Piece) → IsPiece s → IsLowering (label_row name s)
label_is name s hs u a z n e k lo loops d =
    followed_is (λ u a z. label_edge u name a z) s.make (λ u a z n e k lo loops d. arrange (lo + 1) (omega arith) fits_edge (λ at ag g. goes (omega arith) g.0 (to_behind g.1))) hs u a z n e k lo loops d

pub call_is : (c : Calling) → AllByRecursion IsValue c.words → IsLowering (call_row c)
call_is c hs u a z n e k lo loops d =
    let X = ending_is (words_in_order c.words u) (λ ws b. call_edges c.callee c.arrays u ws None b z) (λ at hi. To at hi loops z) u.depth a n e k lo loops (words_are c.words hs u) d
    (λ ws m p q r. fits_given _ (call_fits c.callee c.arrays u ws None m z p q r) (λ at ag g. resumes (omega arith) g.1 g.2)) in
    arrange X.hi X.wide X.fits (λ at ag g. (g.0, g.1))

-- ---- blocks

pub scope_fits : (u : Around) (vs : List Variable) (n e k : ℕ) → Fits (scope_behind u vs n e k) n [] (λ at. Unit {0})
scope_fits u [] n e k = fits_nil n e k
scope_fits u (v ∷ vs) n e k = fits_scope

pub sequence_is : (ps : List Piece) → AllByRecursion IsPiece ps → IsLowering (sequence ps)
sequence_is [] hs u a z n e k lo loops d = nothing_is u a z n e k lo loops d
sequence_is (s ∷ []) hs u a z n e k lo loops d = hs.0 u a z n e k lo loops d
sequence_is (s ∷ next ∷ rest) hs u a z n e k lo loops d =
    let w = seeing u s.declares k in
    let ms = scope_behind u s.declares (n + 1) (e + 0) (k + 0) in
    let n1 = n + 1 + length ms.nodes in
    let e1 = e + 0 + length ms.edges in
    let k1 = k + 0 + length ms.scopes in
    let mx = s.make u a n n1 e1 k1 in
    let X = hs.0 u a n n1 e1 k1 lo loops d in
    let Y = sequence_is (next ∷ rest) hs.1 w n z (n1 + length mx.nodes) (e1 + length mx.edges) (k1 + length mx.scopes) X.hi loops (later (omega (arith, X.wide)) d) in
    arrange Y.hi (omega (arith, X.wide, Y.wide))
    (fits_cons _ _ _ _ _ (fits_node (stands X.hi (omega (arith, X.wide)) refl d)) (fits_cons _ _ _ _ _ (scope_fits u s.declares _ _ _) (fits_cons _ _ _ _ _ X.fits (fits_cons _ _ _ _ _ Y.fits (fits_nil _ _ _)))))
    (λ at ag g. tt & tt & (g.0, to_at ag.0 (omega arith), leaves (omega (arith, Y.wide)) g.2) & (from_at ag.0 (omega arith), g.1, g.2) & tt)

pub block_is : (ps : List Piece) → AllByRecursion IsPiece ps → IsLowering (block_row ps)
block_is [] hs u a z n e k lo loops d = skip_is (stated u u.span kinds.Empty) a z n e k lo loops d
block_is (s ∷ rest) hs u a z n e k lo loops d = sequence_is (s ∷ rest) hs u a z n e k lo loops d
