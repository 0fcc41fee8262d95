-- Blocks and the arms of an `if`, as one addition to the parts after another.
use Rattle.std.proofs.Common.{◌≡◌, ◌<◌, ◌≤◌, ℕ, ◌+◌, List, [], ◌∷◌, map, length, get_or, drop, Option, Some, None, refl, sym, ap, subst, ◌∙◌}
use Rattle.std.specs.Prelude.{slice_get, MatchOption}
use Rattle.std.specs.Option.{option_map}
use Rattle.std.proofs.lemmas.List.{drop_all}
use Rattle.fq_core.specs.declared.span.Span.{Span}
use Rattle.fq_core.specs.declared.statement_kind.StatementKind.TheVariants as kinds
use Rattle.c_typed_trees.specs.declared.expression.TypedExpr.{TypedExpr}
use Rattle.c_typed_trees.specs.declared.statement.TypedStatement.{TypedStatement}
use Rattle.c_lower_rules.specs.declared.graph_of.parts.Around.{Around}
use Rattle.c_lower_rules.specs.declared.graph_of.parts.Parts.{Parts}
use Rattle.c_lower_rules.specs.graph_of.Builder.{node, after}
use Rattle.c_lower_rules.specs.graph_of.Edges.{Lowering, stated, deciding, seeing, scope_behind, node_at, skip}
use Rattle.c_lower_rules.specs.graph_of.Expressions.{value_of}
use Rattle.c_lower_rules.specs.graph_of.Statements.{sequence, block_row, arms_row, arm_row, span_behind}
use Rattle.c_lower_rules.specs.graph_of.Table.{lowered, piece}
use Rattle.c_lower_rules.proofs.graph_of.After.{after_nil, after_numbered, after_node-length}
use Rattle.c_lower.specs.Forms.{arm_of, span_after, span_of, span_of_last}
use Rattle.c_lower.specs.Stopping.{IsStop}
use Rattle.c_lower.specs.declared.stop.Stop.{Stop}
use Rattle.c_lower.proofs.Lists.{none_behind, some_behind, here_behind}
use Rattle.c_lower.proofs.ScopeLaws.{piece_span, swapped}
use Rattle.c_lower.proofs.Stops.{stop_grows, memory_stops}
use Rattle.c_lower.proofs.ValueLaws.{own_span}

-- ---- blocks

module _ (u : Around) (a z : ℕ) (m : Parts) where
  pub empty_block_law : (list : List TypedStatement) → list ≡ [] → after (block_row (map piece list) u a z) m ≡ after (skip (stated u u.span kinds.Empty) a z) m
  empty_block_law list e = ap (λ (ss : List TypedStatement). after (block_row (map piece ss) u a z) m) e

  pub block_is : (list : List TypedStatement) → (list ≡ [] → ⊥) → after (block_row (map piece list) u a z) m ≡ after (sequence (map piece list) u a z) m
  block_is [] h = absurd (h refl)
  block_is (s ∷ ss) h = refl

pub ruleset block_laws = (empty_block_law, block_is, stop_grows, memory_stops)

module _ (u w : Around) (z : ℕ) (x : TypedStatement) (rest : List TypedStatement) (here to : ℕ) (m m1 : Parts) where
  last_statement : rest ≡ [] → (to ≡ z) × (m1 ≡ m) → after (sequence (map piece (x ∷ rest)) u here z) m ≡ after (sequence (map piece rest) w to z) (after (lowered x u here to) m1)
  last_statement e h =
      ap (λ (l : List TypedStatement). after (sequence (map piece (x ∷ l)) u here z) m) e
      ∙ (λ i. after (lowered x u here (sym h.0 i)) (sym h.1 i))
      ∙ sym (after_nil (after (lowered x u here to) m1))
      ∙ ap (λ (l : List TypedStatement). after (sequence (map piece l) w to z) (after (lowered x u here to) m1)) (sym e)

  more_statements : (y : TypedStatement) (ys : List TypedStatement) → rest ≡ y ∷ ys
      → (w ≡ seeing u (piece x).declares (length m.scopes)) × (to ≡ length m.nodes) × (m1 ≡ after (node (node_at w y.span)) (after (scope_behind u (piece x).declares) m))
      → after (sequence (map piece (x ∷ rest)) u here z) m ≡ after (sequence (map piece rest) w to z) (after (lowered x u here to) m1)
  more_statements y ys e h =
      let v = seeing u (piece x).declares (length m.scopes) in
      let n = length m.nodes in
      let behind : after (scope_behind u (piece x).declares) (after (node (node_at v (piece y).span)) m) ≡ m1 =
      ap (λ span. after (scope_behind u (piece x).declares) (after (node (node_at v span)) m)) (piece_span y)
      ∙ swapped u (piece x).declares (node_at v y.span) m
      ∙ ap (λ (v' : Around). after (node (node_at v' y.span)) (after (scope_behind u (piece x).declares) m)) (sym h.0) ∙ sym h.2 in
      ap (λ (l : List TypedStatement). after (sequence (map piece (x ∷ l)) u here z) m) e
      ∙ after_numbered (λ n' e' k. let v' = seeing u (piece x).declares k in node (node_at v' (piece y).span) ∷ scope_behind u (piece x).declares ∷ lowered x u here n' ∷ sequence (map piece (y ∷ ys)) v' n' z ∷ []) m
      ∙ ap (λ k. after (sequence (map piece (y ∷ ys)) v n z) (after (lowered x u here n) k)) behind
      ∙ (λ i. after (sequence (map piece (sym e i)) (sym h.0 i) (sym h.1 i) z) (after (lowered x u here (sym h.1 i)) m1))

module _ (u w : Around) (z : ℕ) (list : List TypedStatement) (i : ℕ) (x : TypedStatement) (here to : ℕ) (m m1 : Parts) (within : i < length list) (is : x ≡ get_or list i x)
    (next : MatchOption (slice_get list (i + 1)) ((to ≡ z) × (m1 ≡ m)) (λ y. (w ≡ seeing u (piece x).declares (length m.scopes)) × (to ≡ length m.nodes) × (m1 ≡ after (node (node_at w y.span)) (after (scope_behind u (piece x).declares) m)))) where
  statement_turn : after (sequence (map piece (drop i list)) u here z) m ≡ after (sequence (map piece (drop (i + 1) list)) w to z) (after (lowered x u here to) m1)
  statement_turn = ap (λ (l : List TypedStatement). after (sequence (map piece l) u here z) m) (here_behind list i x within is) ∙ by (slice_get list (i + 1)) refl next
    where
      by : (o : Option TypedStatement) → slice_get list (i + 1) ≡ o
          → MatchOption o ((to ≡ z) × (m1 ≡ m)) (λ y. (w ≡ seeing u (piece x).declares (length m.scopes)) × (to ≡ length m.nodes) × (m1 ≡ after (node (node_at w y.span)) (after (scope_behind u (piece x).declares) m)))
          → after (sequence (map piece (x ∷ drop (i + 1) list)) u here z) m ≡ after (sequence (map piece (drop (i + 1) list)) w to z) (after (lowered x u here to) m1)
      by None e h = last_statement u w z x (drop (i + 1) list) here to m m1 (none_behind list (i + 1) e) h
      by (Some y) e h = more_statements u w z x (drop (i + 1) list) here to m m1 y (drop (i + 1 + 1) list) (some_behind list (i + 1) y e) h

  -- a turn, from what its calls give
  pub block_goes_on : (m2 : Parts) → m2 ≡ after (lowered x u here to) m1 → after (sequence (map piece (drop i list)) u here z) m ≡ after (sequence (map piece (drop (i + 1) list)) w to z) m2
  block_goes_on m2 e = statement_turn ∙ ap (λ k. after (sequence (map piece (drop (i + 1) list)) w to z) k) (sym e)

  pub block_stops : (whole : Parts) (stop : Stop) → whole ≡ after (sequence (map piece (drop i list)) u here z) m → IsStop stop (after (lowered x u here to) m1) → IsStop stop whole
  block_stops whole stop e h = subst (λ p. IsStop stop p) (sym (e ∙ statement_turn)) (stop_grows stop _ _ h)

pub block_ends : (u : Around) (z : ℕ) (list : List TypedStatement) (i here : ℕ) (m : Parts) → length list ≤ i → after (sequence (map piece (drop i list)) u here z) m ≡ m
block_ends u z list i here m h = ap (λ (l : List TypedStatement). after (sequence (map piece l) u here z) m) (drop_all i list h) ∙ after_nil m

-- ---- the arms of an `if`

abbrev rest_of : List (TypedExpr × TypedStatement) → Option TypedStatement → Lowering
rest_of arms otherwise = arms_row (map arm_of arms) (option_map piece otherwise)

-- the condition of an arm, and its statement
abbrev within_arm : TypedExpr × TypedStatement → Around → ℕ → ℕ → ℕ → ℕ → Parts → Parts
within_arm arm u here t f z m = after (lowered arm.1 u t z) (after ((value_of arm.0).cond (deciding u t f) here t f) m)

-- where what follows begins
span_is : (arms : List (TypedExpr × TypedStatement)) (k : ℕ) (otherwise : Option TypedStatement) → span_behind (map arm_of (drop k arms)) (option_map piece otherwise) ≡ span_after arms k otherwise
span_is arms k otherwise = by (slice_get arms k) refl
  where
    last : (o : Option TypedStatement) → span_behind [] (option_map piece o) ≡ span_of_last o
    last None = refl
    last (Some s) = ap Some (piece_span s)

    by : (o : Option (TypedExpr × TypedStatement)) → slice_get arms k ≡ o → span_behind (map arm_of (drop k arms)) (option_map piece otherwise) ≡ span_after arms k otherwise
    by None e = ap (λ (l : List (TypedExpr × TypedStatement)). span_behind (map arm_of l) (option_map piece otherwise)) (none_behind arms k e) ∙ last otherwise ∙ ap (λ o. span_of o otherwise) (sym e)
    by (Some arm) e =
        ap (λ (l : List (TypedExpr × TypedStatement)). span_behind (map arm_of l) (option_map piece otherwise)) (some_behind arms k arm e) ∙ ap Some (own_span arm.0) ∙ ap (λ o. span_of o otherwise) (sym e)

module _ (u : Around) (z : ℕ) (arm : TypedExpr × TypedStatement) (rest : List (TypedExpr × TypedStatement)) (otherwise : Option TypedStatement) (here : ℕ) (m : Parts) where
  -- an arm that nothing follows
  last_arm : span_behind (map arm_of rest) (option_map piece otherwise) ≡ None → after (rest_of (arm ∷ rest) otherwise u here z) m
      ≡ after (rest_of rest otherwise u z z) (within_arm arm u here (length m.nodes) z z (after (node (node_at u arm.1.span)) m))
  last_arm e = by rest otherwise e
    where
      by : (rest : List (TypedExpr × TypedStatement)) (otherwise : Option TypedStatement) → span_behind (map arm_of rest) (option_map piece otherwise) ≡ None → after (rest_of (arm ∷ rest) otherwise u here z) m
          ≡ after (rest_of rest otherwise u z z) (within_arm arm u here (length m.nodes) z z (after (node (node_at u arm.1.span)) m))
      by [] None e =
          after_numbered (λ t e' k. node (node_at u (piece arm.1).span) ∷ (value_of arm.0).cond (deciding u t z) here t z ∷ lowered arm.1 u t z ∷ []) m
          ∙ ap (λ span. within_arm arm u here (length m.nodes) z z (after (node (node_at u span)) m)) (piece_span arm.1) ∙ sym (after_nil _)
      by [] (Some s) e = absurd (cc)
      by (next ∷ rest) otherwise e = absurd (cc)

  -- an arm that something follows
  more_arms : (span : Span) → span_behind (map arm_of rest) (option_map piece otherwise) ≡ Some span → after (rest_of (arm ∷ rest) otherwise u here z) m
      ≡ after (rest_of rest otherwise u (length m.nodes + 1) z) (within_arm arm u here (length m.nodes) (length m.nodes + 1) z (after (node (node_at u span)) (after (node (node_at u arm.1.span)) m)))
  more_arms span e =
      ap (λ o. after (arm_row (arm_of arm) o (rest_of rest otherwise) u here z) m) e
      ∙ after_numbered (λ t e' k. node (node_at u (piece arm.1).span) ∷ node (node_at u span) ∷ (value_of arm.0).cond (deciding u t (t + 1)) here t (t + 1) ∷ lowered arm.1 u t z ∷ rest_of rest otherwise u (t + 1) z ∷ []) m
      ∙ ap (λ first. after (rest_of rest otherwise u (length m.nodes + 1) z) (within_arm arm u here (length m.nodes) (length m.nodes + 1) z (after (node (node_at u span)) (after (node (node_at u first)) m)))) (piece_span arm.1)

module _ (u : Around) (z : ℕ) (list : List (TypedExpr × TypedStatement)) (otherwise : Option TypedStatement) (i : ℕ) (arm : TypedExpr × TypedStatement) (here t f : ℕ) (m m1 m2 : Parts) (within : i < length list) (is : arm ≡ get_or list i arm)
    (number : t ≡ length m.nodes) (first : m1 ≡ after (node (node_at u arm.1.span)) m)
    (next : MatchOption (span_after list (i + 1) otherwise) ((f ≡ z) × (m2 ≡ m1)) (λ span. (f ≡ length m1.nodes) × (m2 ≡ after (node (node_at u span)) m1))) where
  arm_turn : after (rest_of (drop i list) otherwise u here z) m ≡ after (rest_of (drop (i + 1) list) otherwise u f z) (within_arm arm u here t f z m2)
  arm_turn = ap (λ (l : List (TypedExpr × TypedStatement)). after (rest_of l otherwise u here z) m) (here_behind list i arm within is) ∙ by (span_after list (i + 1) otherwise) refl next
    where
      by : (o : Option Span) → span_after list (i + 1) otherwise ≡ o → MatchOption o ((f ≡ z) × (m2 ≡ m1)) (λ span. (f ≡ length m1.nodes) × (m2 ≡ after (node (node_at u span)) m1))
          → after (rest_of (arm ∷ drop (i + 1) list) otherwise u here z) m ≡ after (rest_of (drop (i + 1) list) otherwise u f z) (within_arm arm u here t f z m2)
      by None e h =
          last_arm u z arm (drop (i + 1) list) otherwise here m (span_is list (i + 1) otherwise ∙ e)
          ∙ (λ j. after (rest_of (drop (i + 1) list) otherwise u (sym h.0 j) z) (within_arm arm u here (sym number j) (sym h.0 j) z ((sym first ∙ sym h.1) j)))
      by (Some span) e h =
          let long : length m.nodes + 1 ≡ f = sym (h.0 ∙ ap (λ (p : Parts). length p.nodes) first ∙ after_node-length (node_at u arm.1.span) m) in
          let made : after (node (node_at u span)) (after (node (node_at u arm.1.span)) m) ≡ m2 = ap (after (node (node_at u span))) (sym first) ∙ sym h.1 in
          more_arms u z arm (drop (i + 1) list) otherwise here m span (span_is list (i + 1) otherwise ∙ e)
          ∙ (λ j. after (rest_of (drop (i + 1) list) otherwise u (long j) z) (within_arm arm u here (sym number j) (long j) z (made j)))

  -- a turn, from what its calls give
  pub arms_go_on : (m3 : Parts) → m3 ≡ within_arm arm u here t f z m2 → after (rest_of (drop i list) otherwise u here z) m ≡ after (rest_of (drop (i + 1) list) otherwise u f z) m3
  arms_go_on m3 e = arm_turn ∙ ap (λ k. after (rest_of (drop (i + 1) list) otherwise u f z) k) (sym e)

  pub arms_stop : (whole : Parts) (stop : Stop) → whole ≡ after (rest_of (drop i list) otherwise u here z) m → IsStop stop (within_arm arm u here t f z m2) → IsStop stop whole
  arms_stop whole stop e h = subst (λ p. IsStop stop p) (sym (e ∙ arm_turn)) (stop_grows stop _ _ h)

module _ (u : Around) (z : ℕ) (list : List (TypedExpr × TypedStatement)) (otherwise : Option TypedStatement) (i here : ℕ) (m whole : Parts) (end : length list ≤ i) (left : whole ≡ after (rest_of (drop i list) otherwise u here z) m) where
  no_arms : whole ≡ after (rest_of [] otherwise u here z) m
  no_arms = left ∙ ap (λ (l : List (TypedExpr × TypedStatement)). after (rest_of l otherwise u here z) m) (drop_all i list end)

  pub without_else : otherwise ≡ None → m ≡ whole
  without_else e = sym (no_arms ∙ ap (λ o. after (rest_of [] o u here z) m) e ∙ after_nil m)

  pub with_else : (s : TypedStatement) → otherwise ≡ Some s → whole ≡ after (lowered s u here z) m
  with_else s e = no_arms ∙ ap (λ o. after (rest_of [] o u here z) m) e

pub ruleset arms_laws = (stop_grows, memory_stops)
