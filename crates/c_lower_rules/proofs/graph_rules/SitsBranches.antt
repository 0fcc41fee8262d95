-- What `if` and loops make meets the rules.
use Rattle.std.proofs.Common.{ℕ, ◌+◌, ◌<◌, List, [], ◌∷◌, length, Option, Some, None, refl}
use Rattle.std.specs.Prelude.{IfSome, IsTrue}
use Rattle.std.specs.List.{AllByRecursion, list_all}
use Rattle.std.proofs.lemmas.List.Folds.{list_all-append}
use Rattle.fq_core.specs.declared.span.Span.{Span}
use Rattle.c_values.proofs.Fitting.{and_both}
use Rattle.c_typed_trees.specs.Fitting.{is_variable}
use Rattle.c_lower_rules.specs.declared.graph_of.parts.Around.{Around}
use Rattle.c_lower_rules.specs.graph_of.Edges.{Lowering, inside, deciding, seeing, scope_behind}
use Rattle.c_lower_rules.specs.graph_of.Expressions.{Value}
use Rattle.c_lower_rules.specs.graph_of.Statements.{Piece, sequence, arm_row, arms_row, while_row, do_row, for_test, for_step, for_loop, declared_by, for_row}
use Rattle.c_lower_rules.proofs.graph_of.Fits.{◌&◌}
use Rattle.c_lower_rules.proofs.graph_rules.Sits.{Sits, all_sit, Meets, all_meet}
use Rattle.c_lower_rules.proofs.graph_rules.Settings.{Setting, AtNode, Within, at_node, third_node, node_meets, edge_meets, plain_skip}
use Rattle.c_lower_rules.proofs.graph_rules.SitsFlows.{as_deciding}
use Rattle.c_lower_rules.proofs.graph_rules.SitsRows.{IsLowering, IsPiece, HasValue, OptionHas, as_inside, as_seeing, scope_meets, skip_is, sequence_is}
use Rattle.std.proofs.Common.{◌∙◌}

abbrev pub IsArm : Setting → Value × Piece → Type 0
IsArm c arm = HasValue c arm.0 × IsPiece c arm.1

module _ (c : Setting) where
  arm_then : (span : Span) (arm : Value × Piece) (rest : Lowering) → span.file < length c.graph.files → IsArm c arm → IsLowering c rest → IsLowering c (arm_row arm (Some span) rest)
  arm_then span arm rest file h hr u a z n e k w at to s =
      let S = all_sit c.graph _ n e k s in
      let t = at_node c w.function S.0 in
      let f = at_node c w.function S.1.0 in
      let v = deciding u n (n + 1) in
      let mx = (arm.0).cond v a n (n + 1) (n + 1 + 1) (e + 0 + 0) (k + 0 + 0) in
      let n1 = n + 1 + 1 + length mx.nodes in
      let e1 = e + 0 + 0 + length mx.edges in
      let k1 = k + 0 + 0 + length mx.scopes in
      let my = (arm.1).make u n z n1 e1 k1 in
      all_meet c.graph _ n e k (node_meets c u (arm.1).span e w h.1.span & node_meets c u span _ w file
      & h.0.1.cond v a n (n + 1) (n + 1 + 1) (e + 0 + 0) (k + 0 + 0) (as_deciding c u n (n + 1) w) at t f S.1.1.0
      & h.1.make u n z n1 e1 k1 w t to S.1.1.1.0 & hr u (n + 1) z (n1 + length my.nodes) (e1 + length my.edges) (k1 + length my.scopes) w f to S.1.1.1.1.0 & tt)

  arm_alone : (arm : Value × Piece) (rest : Lowering) → IsArm c arm → IsLowering c (arm_row arm None rest)
  arm_alone arm rest h u a z n e k w at to s =
      let S = all_sit c.graph _ n e k s in
      let t = at_node c w.function S.0 in
      let v = deciding u n z in
      let mx = (arm.0).cond v a n z (n + 1) (e + 0) (k + 0) in
      all_meet c.graph _ n e k (node_meets c u (arm.1).span e w h.1.span & h.0.1.cond v a n z (n + 1) (e + 0) (k + 0) (as_deciding c u n z w) at t to S.1.0
      & h.1.make u n z (n + 1 + length mx.nodes) (e + 0 + length mx.edges) (k + 0 + length mx.scopes) w t to S.1.1.0 & tt)

  pub arms_are : (arm : Value × Piece) (arms : List (Value × Piece)) (otherwise : Option Piece) → IsArm c arm → AllByRecursion (IsArm c) arms → IfSome otherwise (IsPiece c) → IsLowering c (arms_row (arm ∷ arms) otherwise)
  arms_are arm [] None h hs ho u a z n e k w at to s = arm_alone arm (arms_row [] None) h u a z n e k w at to s
  arms_are arm [] (Some p) h hs ho u a z n e k w at to s = arm_then p.span arm p.make ho.span h ho.make u a z n e k w at to s
  arms_are arm (next ∷ rest) otherwise h hs ho u a z n e k w at to s =
      arm_then (next.0).span arm (arms_row (next ∷ rest) otherwise) hs.0.0.1.span h (arms_are next rest otherwise hs.0 hs.1 ho) u a z n e k w at to s

  -- ---- loops

  pub while_is : (x : Value) (p : Piece) → HasValue c x → IsPiece c p → IsLowering c (while_row x p)
  while_is x p hx hp u a z n e k w at to s =
      let S = all_sit c.graph _ n e k s in
      let h = at_node c w.function S.0 in
      let t = at_node c w.function S.1.0 in
      let l = third_node c n (at_node c w.function S.1.1.0) in
      let v = inside u z (n + 2) in
      let w' = as_inside c u z (n + 2) to l w in
      let n1 = n + 1 + 1 + 1 + 0 in
      let e1 = e + 0 + 0 + 0 + 1 in
      let k1 = k + 0 + 0 + 0 + 0 in
      let mx = x.cond (deciding v (n + 1) z) n (n + 1) z n1 e1 k1 in
      all_meet c.graph _ n e k (node_meets c v u.span e w' w.file & node_meets c v u.span _ w' w.file & node_meets c v u.span _ w' w.file
      & edge_meets c w.function w.file at h (plain_skip c)
      & hx.1.cond (deciding v (n + 1) z) n (n + 1) z n1 e1 k1 (as_deciding c v (n + 1) z w') h t to S.1.1.1.1.0
      & hp.make v (n + 1) (n + 2) (n1 + length mx.nodes) (e1 + length mx.edges) (k1 + length mx.scopes) w' t l S.1.1.1.1.1.0
      & edge_meets c w.function w.file l h (plain_skip c) & tt)

  pub do_is : (p : Piece) (x : Value) → IsPiece c p → HasValue c x → IsLowering c (do_row p x)
  do_is p x hp hx u a z n e k w at to s =
      let S = all_sit c.graph _ n e k s in
      let t = at_node c w.function S.0 in
      let q = at_node c w.function S.1.0 in
      let l = third_node c n (at_node c w.function S.1.1.0) in
      let v = inside u z (n + 1) in
      let w' = as_inside c u z (n + 1) to q w in
      let n1 = n + 1 + 1 + 1 + 0 in
      let e1 = e + 0 + 0 + 0 + 1 in
      let k1 = k + 0 + 0 + 0 + 0 in
      let my = p.make v n (n + 1) n1 e1 k1 in
      all_meet c.graph _ n e k (node_meets c v u.span e w' w.file & node_meets c v u.span _ w' w.file & node_meets c v u.span _ w' w.file
      & edge_meets c w.function w.file at t (plain_skip c)
      & hp.make v n (n + 1) n1 e1 k1 w' t q S.1.1.1.1.0
      & hx.1.cond (deciding v (n + 2) z) (n + 1) (n + 2) z (n1 + length my.nodes) (e1 + length my.edges) (k1 + length my.scopes) (as_deciding c v (n + 2) z w') q l to S.1.1.1.1.1.0
      & edge_meets c w.function w.file l t (plain_skip c) & tt)

  for_test_is : (x : Option Value) → OptionHas c x → (v : Around) (h t z n e k : ℕ) → Within c v → AtNode c h → AtNode c t → AtNode c z → Sits c.graph (for_test x v h t z n e k) n e k → Meets c.graph (for_test x v h t z n e k) e
  for_test_is None hx v h t z n e k w at yes' no' s = skip_is c v h t n e k w at yes' s
  for_test_is (Some x) hx v h t z n e k w at yes' no' s = hx.1.cond (deciding v t z) h t z n e k (as_deciding c v t z w) at yes' no' s

  for_step_is : (j : Option Piece) → IfSome j (IsPiece c) → (u : Around) (z h l n e k : ℕ) → Within c u → AtNode c z → AtNode c h → AtNode c l → Sits c.graph (for_step j u z h l n e k) n e k → Meets c.graph (for_step j u z h l n e k) e
  for_step_is None hj u z h l n e k w to head last s = edge_meets c w.function w.file last head (plain_skip c)
  for_step_is (Some j) hj u z h l n e k w to head last s =
      let S = all_sit c.graph _ n e k s in
      let b = at_node c w.function S.0 in
      let w' = as_inside c u z n to b w in
      all_meet c.graph _ n e k (node_meets c (inside u z n) u.span e w' w.file & hj.make (inside u z n) l n (n + 1) (e + 0) (k + 0) w' last b S.1.0 & edge_meets c w.function w.file b head (plain_skip c) & tt)

  for_loop_is : (x : Option Value) (j : Option Piece) (p : Piece) → OptionHas c x → IfSome j (IsPiece c) → IsPiece c p → IsLowering c (for_loop x j p)
  for_loop_is x j p hx hj hp u a z n e k w at to s =
      let S = all_sit c.graph _ n e k s in
      let h = at_node c w.function S.0 in
      let t = at_node c w.function S.1.0 in
      let l = third_node c n (at_node c w.function S.1.1.0) in
      let v = inside u z (n + 2) in
      let w' = as_inside c u z (n + 2) to l w in
      let n1 = n + 1 + 1 + 1 + 0 in
      let e1 = e + 0 + 0 + 0 + 1 in
      let k1 = k + 0 + 0 + 0 + 0 in
      let mx = for_test x v n (n + 1) z n1 e1 k1 in
      let my = p.make v (n + 1) (n + 2) (n1 + length mx.nodes) (e1 + length mx.edges) (k1 + length mx.scopes) in
      all_meet c.graph _ n e k (node_meets c v u.span e w' w.file & node_meets c v u.span _ w' w.file & node_meets c v u.span _ w' w.file
      & edge_meets c w.function w.file at h (plain_skip c)
      & for_test_is x hx v n (n + 1) z n1 e1 k1 w' h t to S.1.1.1.1.0
      & hp.make v (n + 1) (n + 2) (n1 + length mx.nodes) (e1 + length mx.edges) (k1 + length mx.scopes) w' t l S.1.1.1.1.1.0
      & for_step_is j hj u z n (n + 2) (n1 + length mx.nodes + length my.nodes) (e1 + length mx.edges + length my.edges) (k1 + length mx.scopes + length my.scopes) w to h l S.1.1.1.1.1.1.0 & tt)

  -- what statements declare
  declared_fit : (ps : List Piece) → AllByRecursion (IsPiece c) ps → IsTrue (list_all (is_variable c.names) (declared_by ps))
  declared_fit [] hs = refl
  declared_fit (p ∷ rest) hs =
      list_all-append (is_variable c.names) (declared_by rest) p.declares ∙ and_both (list_all (is_variable c.names) (declared_by rest)) (list_all (is_variable c.names) p.declares) (declared_fit rest hs.1) hs.0.declares

  pub for_is : (first : List Piece) (x : Option Value) (j : Option Piece) (p : Piece) → AllByRecursion (IsPiece c) first → OptionHas c x → IfSome j (IsPiece c) → IsPiece c p → IsLowering c (for_row first x j p)
  for_is [] x j p hf hx hj hp u a z n e k w at to s = for_loop_is x j p hx hj hp u a z n e k w at to s
  for_is (first ∷ rest) x j p hf hx hj hp u a z n e k w at to s =
      let ps : List Piece = first ∷ rest in
      let S = all_sit c.graph _ n e k s in
      let i = at_node c w.function S.0 in
      let v = seeing u (declared_by ps) k in
      let fit = declared_fit ps hf in
      let w' = as_seeing c u (declared_by ps) (n + 1) (e + 0) k fit w S.1.0 in
      let ms = scope_behind u (declared_by ps) (n + 1) (e + 0) (k + 0) in
      let n1 = n + 1 + length ms.nodes in
      let e1 = e + 0 + length ms.edges in
      let k1 = k + 0 + length ms.scopes in
      let mx = sequence ps u a n n1 e1 k1 in
      all_meet c.graph _ n e k (node_meets c v u.span e w' w.file & scope_meets c u (declared_by ps) (n + 1) (e + 0) (k + 0) w fit
      & sequence_is c first rest hf.0 hf.1 u a n n1 e1 k1 w at i S.1.1.0
      & for_loop_is x j p hx hj hp v n z (n1 + length mx.nodes) (e1 + length mx.edges) (k1 + length mx.scopes) w' i to S.1.1.1.0 & tt)
