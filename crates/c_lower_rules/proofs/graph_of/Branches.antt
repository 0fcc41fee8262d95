-- The rows for `if` and for loops make nodes and edges that stand in an order, where their parts do.
use Rattle.std.proofs.Common.{◌≡◌, ℕ, ◌+◌, ◌≤◌, List, [], ◌∷◌, ◌++◌, length, Option, Some, None, refl, arith}
use Rattle.std.specs.List.{AllByRecursion}
use Rattle.std.specs.Prelude.{IfSome}
use Rattle.fq_core.specs.declared.span.Span.{Span}
use Rattle.c_lower_rules.specs.cfa_order.Order.{Standing}
use Rattle.c_lower_rules.specs.declared.graph_of.parts.Around.{Around}
use Rattle.c_lower_rules.specs.graph_of.Edges.{Lowering, inside, deciding, seeing, scope_behind}
use Rattle.c_lower_rules.specs.graph_of.Expressions.{Value}
use Rattle.c_lower_rules.specs.graph_of.Statements.{Piece, sequence, arm_row, arms_row, while_row, do_row, for_test, for_step, for_loop, declared_by, for_row}
use Rattle.c_lower_rules.proofs.graph_of.Fits.{fits_node, fits_edge, fits_nil, fits_cons, ◌&◌}
use Rattle.c_lower_rules.proofs.graph_of.Given.{stand, From, To, Behind, Deep, Arranged, arrange, to_behind, behind, to, leaves, deeper, goes, from_at, to_at, enters, turns_back, third, later, stands, deep_inside}
use Rattle.c_lower_rules.proofs.graph_of.Flows.{IsValue}
use Rattle.c_lower_rules.proofs.graph_of.Rows.{IsLowering, IsPiece, nothing_is, sequence_is, scope_fits}

abbrev pub IsArm : Value × Piece → Type 0
IsArm arm = IsValue arm.0 × IsPiece arm.1

-- an arm that is followed by a node f, from which the rest goes on
arm_then : (span : Span) (arm : Value × Piece) (rest : Lowering) → IsArm arm → IsLowering rest → IsLowering (arm_row arm (Some span) rest)
arm_then span arm rest h hr u a z n e k lo loops d =
    let v = deciding u n (n + 1) in
    let mx = (arm.0).cond v a n (n + 1) (n + 1 + 1) (e + 0 + 0) (k + 0 + 0) in
    let X = h.0.cond v a n (n + 1) (n + 1 + 1) (e + 0 + 0) (k + 0 + 0) lo loops d in
    let n1 = n + 1 + 1 + length mx.nodes in
    let e1 = e + 0 + 0 + length mx.edges in
    let k1 = k + 0 + 0 + length mx.scopes in
    let my = (arm.1).make u n z n1 e1 k1 in
    let Y = h.1 u n z n1 e1 k1 X.hi loops (later (omega (arith, X.wide)) d) in
    let Z = hr u (n + 1) z (n1 + length my.nodes) (e1 + length my.edges) (k1 + length my.scopes) Y.hi loops (later (omega (arith, X.wide, Y.wide)) d) in
    arrange Z.hi (omega (arith, X.wide, Y.wide, Z.wide))
    (fits_cons _ _ _ _ _ (fits_node (stands X.hi (omega (arith, X.wide)) refl d)) (fits_cons _ _ _ _ _ (fits_node (stands Y.hi (omega (arith, X.wide, Y.wide)) refl d))
    (fits_cons _ _ _ _ _ X.fits (fits_cons _ _ _ _ _ Y.fits (fits_cons _ _ _ _ _ Z.fits (fits_nil _ _ _))))))
    (λ at ag g. tt & tt & (g.0, to_behind (to_at ag.0 (omega arith)), to_behind (to_at ag.1.0 (omega (arith, Y.wide))))
    & (from_at ag.0 (omega arith), to (omega (arith, Z.wide)) g.1, leaves (omega (arith, Z.wide)) g.2) & (from_at ag.1.0 (omega arith), g.1, g.2) & tt)

arm_alone : (arm : Value × Piece) (rest : Lowering) → IsArm arm → IsLowering (arm_row arm None rest)
arm_alone arm rest h u a z n e k lo loops d =
    let v = deciding u n z in
    let mx = (arm.0).cond v a n z (n + 1) (e + 0) (k + 0) in
    let X = h.0.cond v a n z (n + 1) (e + 0) (k + 0) lo loops d in
    let Y = h.1 u n z (n + 1 + length mx.nodes) (e + 0 + length mx.edges) (k + 0 + length mx.scopes) X.hi loops (later (omega (arith, X.wide)) d) in
    arrange Y.hi (omega (arith, X.wide, Y.wide)) (fits_cons _ _ _ _ _ (fits_node (stands X.hi (omega (arith, X.wide)) refl d)) (fits_cons _ _ _ _ _ X.fits (fits_cons _ _ _ _ _ Y.fits (fits_nil _ _ _))))
    (λ at ag g. tt & (g.0, to_behind (to_at ag.0 (omega arith)), behind (omega (arith, Y.wide)) (to_behind g.1)) & (from_at ag.0 (omega arith), g.1, g.2) & tt)

pub arms_are : (arms : List (Value × Piece)) (otherwise : Option Piece) → AllByRecursion IsArm arms → IfSome otherwise IsPiece → IsLowering (arms_row arms otherwise)
arms_are [] None hs ho u a z n e k lo loops d = nothing_is u a z n e k lo loops d
arms_are [] (Some s) hs ho u a z n e k lo loops d = ho u a z n e k lo loops d
arms_are (arm ∷ []) None hs ho u a z n e k lo loops d = arm_alone arm (arms_row [] None) hs.0 u a z n e k lo loops d
arms_are (arm ∷ []) (Some s) hs ho u a z n e k lo loops d = arm_then s.span arm s.make hs.0 ho u a z n e k lo loops d
arms_are (arm ∷ next ∷ rest) otherwise hs ho u a z n e k lo loops d =
    arm_then (next.0).span arm (arms_row (next ∷ rest) otherwise) hs.0 (arms_are (next ∷ rest) otherwise hs.1 ho) u a z n e k lo loops d

-- ---- loops

pub while_is : (c : Value) (s : Piece) → IsValue c → IsPiece s → IsLowering (while_row c s)
while_is c s hc hs u a z n e k lo loops d =
    let v = inside u z (n + 2) in
    let inner = loops ++ (lo + 1) ∷ [] in
    let d' = deep_inside (lo + 1) (omega arith) d in
    let w = deciding v (n + 1) z in
    let n1 = n + 1 + 1 + 1 + 0 in
    let e1 = e + 0 + 0 + 0 + 1 in
    let k1 = k + 0 + 0 + 0 + 0 in
    let mx = c.cond w n (n + 1) z n1 e1 k1 in
    let X = hc.cond w n (n + 1) z n1 e1 k1 (lo + 1) inner d' in
    let Y = hs v (n + 1) (n + 2) (n1 + length mx.nodes) (e1 + length mx.edges) (k1 + length mx.scopes) X.hi inner (later (omega (arith, X.wide)) d') in
    arrange (Y.hi + 1) (omega (arith, X.wide, Y.wide))
    (fits_cons _ _ _ _ _ (fits_node (stands (lo + 1) (omega arith) refl d')) (fits_cons _ _ _ _ _ (fits_node (stands X.hi (omega (arith, X.wide)) refl d')) (fits_cons _ _ _ _ _ (fits_node (stands Y.hi (omega (arith, X.wide, Y.wide)) refl d'))
    (fits_cons _ _ _ _ _ fits_edge (fits_cons _ _ _ _ _ X.fits (fits_cons _ _ _ _ _ Y.fits (fits_cons _ _ _ _ _ fits_edge (fits_nil _ _ _))))))))
    (λ at ag g.
    let out = deeper (lo + 1) (behind (omega (arith, Y.wide)) (to_behind g.1)) in
    let end = to_at (third at n ag.1.1.0) (omega arith) in
    tt & tt & tt & enters (omega arith) g.0 ag.0
    & (from_at ag.0 (omega arith), to_behind (to_at ag.1.0 (omega arith)), behind (omega (arith, Y.wide)) out)
    & (from_at ag.1.0 (omega arith), end, record { exit = deeper (lo + 1) (behind (omega arith) g.2.exit); on_break = out; on_continue = to_behind end })
    & turns_back at loops (third at n ag.1.1.0) ag.0 & tt)

pub do_is : (s : Piece) (c : Value) → IsPiece s → IsValue c → IsLowering (do_row s c)
do_is s c hs hc u a z n e k lo loops d =
    let v = inside u z (n + 1) in
    let inner = loops ++ (lo + 1) ∷ [] in
    let d' = deep_inside (lo + 1) (omega arith) d in
    let w = deciding v (n + 2) z in
    let n1 = n + 1 + 1 + 1 + 0 in
    let e1 = e + 0 + 0 + 0 + 1 in
    let k1 = k + 0 + 0 + 0 + 0 in
    let my = s.make v n (n + 1) n1 e1 k1 in
    let Y = hs v n (n + 1) n1 e1 k1 (lo + 1) inner d' in
    let X = hc.cond w (n + 1) (n + 2) z (n1 + length my.nodes) (e1 + length my.edges) (k1 + length my.scopes) Y.hi inner (later (omega (arith, Y.wide)) d') in
    arrange (X.hi + 1) (omega (arith, X.wide, Y.wide))
    (fits_cons _ _ _ _ _ (fits_node (stands (lo + 1) (omega arith) refl d')) (fits_cons _ _ _ _ _ (fits_node (stands Y.hi (omega (arith, Y.wide)) refl d')) (fits_cons _ _ _ _ _ (fits_node (stands X.hi (omega (arith, X.wide, Y.wide)) refl d'))
    (fits_cons _ _ _ _ _ fits_edge (fits_cons _ _ _ _ _ Y.fits (fits_cons _ _ _ _ _ X.fits (fits_cons _ _ _ _ _ fits_edge (fits_nil _ _ _))))))))
    (λ at ag g.
    let out = deeper (lo + 1) (behind {hi' = X.hi} (omega arith) (to_behind g.1)) in
    let middle = to_at {hi = Y.hi} ag.1.0 (omega arith) in
    tt & tt & tt & enters (omega arith) g.0 ag.0
    & (from_at ag.0 (omega arith), middle, record { exit = deeper (lo + 1) (behind (omega (arith, X.wide)) g.2.exit); on_break = behind (omega (arith, X.wide)) out; on_continue = to_behind middle })
    & (from_at ag.1.0 (omega arith), to_behind (to_at (third at n ag.1.1.0) (omega arith)), out)
    & turns_back at loops (third at n ag.1.1.0) ag.0 & tt)

-- ---- `for`

for_test_is : (c : Option Value) → IfSome c IsValue → (v : Around) (h t z n e k lo : ℕ) (loops : List ℕ) → Deep v.depth lo loops
    → Arranged (for_test c v h t z n e k) n lo (λ at hi. From at lo loops h × Behind at hi loops t × Behind at hi loops z)
for_test_is None hc v h t z n e k lo loops d = arrange (lo + 1) (omega arith) fits_edge (λ at ag g. goes (omega arith) g.0 g.1)
for_test_is (Some c) hc v h t z n e k lo loops d = hc.cond (deciding v t z) h t z n e k lo loops d

-- node b, the step from l to it, and the edge back to h
abbrev StepGiven : Around → ℕ → ℕ → ℕ → ℕ → ℕ → List ℕ → (ℕ → Standing) → ℕ → Type 0
StepGiven u z h l r lo loops at hi =
    (at h ≡ stand r (loops ++ r ∷ [])) × (at l ≡ stand lo (loops ++ r ∷ [])) × Behind at hi (loops ++ r ∷ []) u.exit × Behind at hi (loops ++ r ∷ []) z

for_step_is : (j : Option Piece) → IfSome j IsPiece → (u : Around) (z h l n e k r lo : ℕ) (loops : List ℕ) → r ≤ lo → Deep u.depth r loops
    → Arranged (for_step j u z h l n e k) n lo (StepGiven u z h l r lo loops)
for_step_is None hj u z h l n e k r lo loops le d = arrange (lo + 1) (omega arith) fits_edge (λ at ag g. turns_back at loops g.1 g.0)
for_step_is (Some j) hj u z h l n e k r lo loops le d =
    let v = inside u z n in
    let inner = loops ++ r ∷ [] in
    let d' = deep_inside r (omega arith) d in
    let Z = hj v l n (n + 1) (e + 0) (k + 0) lo inner (later le d') in
    arrange Z.hi Z.wide (fits_cons _ _ n e k (fits_node (stands Z.hi (omega (arith, Z.wide)) refl d')) (fits_cons _ _ _ _ _ Z.fits (fits_cons _ _ _ _ _ fits_edge (fits_nil _ _ _))))
    (λ at ag g.
    let end : To at Z.hi inner n = to_at ag.0 (omega arith) in
    tt & (from_at g.1 (omega arith), end, record { exit = g.2; on_break = g.3; on_continue = to_behind end }) & turns_back at loops ag.0 g.0 & tt)

for_loop_is : (c : Option Value) (j : Option Piece) (s : Piece) → IfSome c IsValue → IfSome j IsPiece → IsPiece s → IsLowering (for_loop c j s)
for_loop_is c j s hc hj hs u a z n e k lo loops d =
    let v = inside u z (n + 2) in
    let inner = loops ++ (lo + 1) ∷ [] in
    let d' = deep_inside (lo + 1) (omega arith) d in
    let n1 = n + 1 + 1 + 1 + 0 in
    let e1 = e + 0 + 0 + 0 + 1 in
    let k1 = k + 0 + 0 + 0 + 0 in
    let mx = for_test c v n (n + 1) z n1 e1 k1 in
    let X = for_test_is c hc v n (n + 1) z n1 e1 k1 (lo + 1) inner d' in
    let my = s.make v (n + 1) (n + 2) (n1 + length mx.nodes) (e1 + length mx.edges) (k1 + length mx.scopes) in
    let Y = hs v (n + 1) (n + 2) (n1 + length mx.nodes) (e1 + length mx.edges) (k1 + length mx.scopes) X.hi inner (later (omega (arith, X.wide)) d') in
    let T = for_step_is j hj u z n (n + 2) (n1 + length mx.nodes + length my.nodes) (e1 + length mx.edges + length my.edges) (k1 + length mx.scopes + length my.scopes) (lo + 1) Y.hi loops (omega (arith, X.wide, Y.wide)) (later (omega arith) d) in
    arrange (T.hi + 1) (omega (arith, X.wide, Y.wide, T.wide))
    (fits_cons _ _ _ _ _ (fits_node (stands (lo + 1) (omega arith) refl d')) (fits_cons _ _ _ _ _ (fits_node (stands X.hi (omega (arith, X.wide)) refl d')) (fits_cons _ _ _ _ _ (fits_node (stands Y.hi (omega (arith, X.wide, Y.wide)) refl d'))
    (fits_cons _ _ _ _ _ fits_edge (fits_cons _ _ _ _ _ X.fits (fits_cons _ _ _ _ _ Y.fits (fits_cons _ _ _ _ _ T.fits (fits_nil _ _ _))))))))
    (λ at ag g.
    let out : Behind at T.hi inner z = deeper (lo + 1) (behind (omega arith) (to_behind g.1)) in
    let exit : Behind at T.hi inner u.exit = deeper (lo + 1) (behind (omega arith) g.2.exit) in
    let end : To at Y.hi inner (n + 2) = to_at (third at n ag.1.1.0) (omega arith) in
    tt & tt & tt & enters (omega arith) g.0 ag.0
    & (from_at ag.0 (omega arith), to_behind (to_at ag.1.0 (omega arith)), behind (omega (arith, Y.wide, T.wide)) out)
    & (from_at ag.1.0 (omega arith), end, record { exit = behind (omega (arith, T.wide)) exit; on_break = behind (omega (arith, T.wide)) out; on_continue = to_behind end })
    & (ag.0, third at n ag.1.1.0, exit, out) & tt)

pub for_is : (first : List Piece) (c : Option Value) (j : Option Piece) (s : Piece) → AllByRecursion IsPiece first → IfSome c IsValue → IfSome j IsPiece → IsPiece s → IsLowering (for_row first c j s)
for_is [] c j s hf hc hj hs u a z n e k lo loops d = for_loop_is c j s hc hj hs u a z n e k lo loops d
for_is (first ∷ rest) c j s hf hc hj hs u a z n e k lo loops d =
    let ps : List Piece = first ∷ rest in
    let w = seeing u (declared_by ps) k in
    let ms = scope_behind u (declared_by ps) (n + 1) (e + 0) (k + 0) in
    let n1 = n + 1 + length ms.nodes in
    let e1 = e + 0 + length ms.edges in
    let k1 = k + 0 + length ms.scopes in
    let mx = sequence ps u a n n1 e1 k1 in
    let X = sequence_is ps hf u a n n1 e1 k1 lo loops d in
    let Y = for_loop_is c j s hc hj hs w n z (n1 + length mx.nodes) (e1 + length mx.edges) (k1 + length mx.scopes) X.hi loops (later (omega (arith, X.wide)) d) in
    arrange Y.hi (omega (arith, X.wide, Y.wide))
    (fits_cons _ _ _ _ _ (fits_node (stands X.hi (omega (arith, X.wide)) refl d)) (fits_cons _ _ _ _ _ (scope_fits u (declared_by ps) _ _ _) (fits_cons _ _ _ _ _ X.fits (fits_cons _ _ _ _ _ Y.fits (fits_nil _ _ _)))))
    (λ at ag g. tt & tt & (g.0, to_at ag.0 (omega arith), leaves (omega (arith, Y.wide)) g.2) & (from_at ag.0 (omega arith), g.1, g.2) & tt)
