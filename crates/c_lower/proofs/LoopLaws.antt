-- Loops and labels, as one addition to the parts after another.
use Rattle.std.proofs.Common.{◌≡◌, ℕ, ◌+◌, List, [], ◌∷◌, map, length, Option, Some, None, refl, sym, ap, subst, ◌∙◌}
use Rattle.std.specs.Option.{option_map}
use Rattle.c_typed_trees.specs.declared.expression.TypedExpr.{TypedExpr}
use Rattle.c_typed_trees.specs.declared.statement.TypedStatement.{TypedStatement}
use Rattle.c_lower_rules.specs.declared.graph_of.parts.Around.{Around}
use Rattle.c_lower_rules.specs.declared.graph_of.parts.Parts.{Parts}
use Rattle.c_lower_rules.specs.graph_of.Builder.{after}
use Rattle.c_lower_rules.specs.graph_of.Edges.{inside, deciding, seeing, scope_behind, node_at, node_here, skip, label_edge, enter_edge, back_edge}
use Rattle.c_lower_rules.specs.graph_of.Expressions.{Value, value_of}
use Rattle.c_lower_rules.specs.graph_of.Statements.{Piece, sequence, block_row, declared_by, while_row, do_row, for_row, for_loop, for_test, for_step, label_row}
use Rattle.c_lower_rules.specs.graph_of.Table.{lowered, piece}
use Rattle.c_lower_rules.proofs.graph_of.After.{after_numbered}
use Rattle.c_lower.specs.Stopping.{IsStop}
use Rattle.c_lower.specs.declared.stop.Stop.{Stop}
use Rattle.c_lower.proofs.ScopeLaws.{swapped, scopes_keep_nodes}
use Rattle.c_lower.proofs.Stops.{stop_grows, memory_stops}

-- three nodes, on the line of the innermost statement
abbrev three : Around → Parts → Parts
three v m = after (node_here v) (after (node_here v) (after (node_here v) m))

module _ (u : Around) (a z : ℕ) (m : Parts) where
  pub while_law : (c : TypedExpr) (s : TypedStatement) → after (while_row (value_of c) (piece s) u a z) m
      ≡ (let h = length m.nodes in
      let v = inside u z (h + 2) in
      after (back_edge u (h + 2) h) (after (lowered s v (h + 1) (h + 2)) (after ((value_of c).cond (deciding v (h + 1) z) h (h + 1) z) (after (enter_edge u a h) (three v m)))))
  while_law c s = after_numbered (λ h e k. let v = inside u z (h + 2) in node_here v ∷ node_here v ∷ node_here v ∷ enter_edge u a h ∷ (value_of c).cond (deciding v (h + 1) z) h (h + 1) z ∷ lowered s v (h + 1) (h + 2) ∷ back_edge u (h + 2) h ∷ []) m

  pub do_law : (s : TypedStatement) (c : TypedExpr) → after (do_row (piece s) (value_of c) u a z) m
      ≡ (let t = length m.nodes in
      let v = inside u z (t + 1) in
      after (back_edge u (t + 2) t) (after ((value_of c).cond (deciding v (t + 2) z) (t + 1) (t + 2) z) (after (lowered s v t (t + 1)) (after (enter_edge u a t) (three v m)))))
  do_law s c = after_numbered (λ t e k. let v = inside u z (t + 1) in node_here v ∷ node_here v ∷ node_here v ∷ enter_edge u a t ∷ lowered s v t (t + 1) ∷ (value_of c).cond (deciding v (t + 2) z) (t + 1) (t + 2) z ∷ back_edge u (t + 2) t ∷ []) m

  pub for_loop_law : (c : Option Value) (j : Option Piece) (s : TypedStatement) → after (for_loop c j (piece s) u a z) m
      ≡ (let h = length m.nodes in
      let v = inside u z (h + 2) in
      after (for_step j u z h (h + 2)) (after (lowered s v (h + 1) (h + 2)) (after (for_test c v h (h + 1) z) (after (enter_edge u a h) (three v m)))))
  for_loop_law c j s = after_numbered (λ h e k. let v = inside u z (h + 2) in node_here v ∷ node_here v ∷ node_here v ∷ enter_edge u a h ∷ for_test c v h (h + 1) z ∷ lowered s v (h + 1) (h + 2) ∷ for_step j u z h (h + 2) ∷ []) m

  pub label_law : (name : List ℕ) (s : TypedStatement) → after (label_row name (piece s) u a z) m ≡ after (lowered s u (length m.nodes) z) (after (label_edge u name a (length m.nodes)) (after (node_here u) m))
  label_law name s = after_numbered (λ n e k. node_here u ∷ label_edge u name a n ∷ lowered s u n z ∷ []) m

  pub no_first_law : (first : List TypedStatement) (c : Option Value) (j : Option Piece) (s : Piece) → first ≡ [] → after (for_row (map piece first) c j s u a z) m ≡ after (for_loop c j s u a z) m
  no_first_law first c j s e = ap (λ (l : List TypedStatement). after (for_row (map piece l) c j s u a z) m) e

  pub first_law : (first : List TypedStatement) (c : Option Value) (j : Option Piece) (s : Piece) → (first ≡ [] → ⊥) → after (for_row (map piece first) c j s u a z) m
      ≡ (let w = seeing u (declared_by (map piece first)) (length m.scopes) in
      let i = length m.nodes in
      after (for_loop c j s w i z) (after (block_row (map piece first) u a i) (after (node_here w) (after (scope_behind u (declared_by (map piece first))) m))))
  first_law [] c j s h = absurd (h refl)
  first_law (x ∷ xs) c j s h =
      let ds = declared_by (map piece (x ∷ xs)) in
      let w = seeing u ds (length m.scopes) in
      after_numbered (λ i e k. let w' = seeing u ds k in node_here w' ∷ scope_behind u ds ∷ sequence (map piece (x ∷ xs)) u a i ∷ for_loop c j s w' i z ∷ []) m
      ∙ ap (λ p. after (for_loop c j s w (length m.nodes) z) (after (sequence (map piece (x ∷ xs)) u a (length m.nodes)) p)) (swapped u ds (node_at w w.span) m)

pub ruleset while_laws = (while_law, stop_grows)

pub ruleset do_laws = (do_law, stop_grows)

pub ruleset for_loop_laws = (for_loop_law, stop_grows)

pub ruleset for_laws = (no_first_law, first_law, scopes_keep_nodes, stop_grows, memory_stops)

module _ (u : Around) (h t z : ℕ) (m : Parts) where
  pub no_test_law : (o : Option TypedExpr) → o ≡ None → after (for_test (option_map value_of o) u h t z) m ≡ after (skip u h t) m
  no_test_law o e = ap (λ (p : Option TypedExpr). after (for_test (option_map value_of p) u h t z) m) e

  pub for_test_law : (o : Option TypedExpr) (c : TypedExpr) → o ≡ Some c → after (for_test (option_map value_of o) u h t z) m ≡ after ((value_of c).cond (deciding u t z) h t z) m
  for_test_law o c e = ap (λ (p : Option TypedExpr). after (for_test (option_map value_of p) u h t z) m) e

pub ruleset for_test_laws = (no_test_law, for_test_law, stop_grows)

module _ (u : Around) (z h l : ℕ) (m : Parts) where
  pub no_step_law : (o : Option TypedStatement) → o ≡ None → after (for_step (option_map piece o) u z h l) m ≡ after (back_edge u l h) m
  no_step_law o e = ap (λ (p : Option TypedStatement). after (for_step (option_map piece p) u z h l) m) e

  pub for_step_law : (o : Option TypedStatement) (j : TypedStatement) → o ≡ Some j → after (for_step (option_map piece o) u z h l) m
      ≡ (let b = length m.nodes in let v = inside u z b in after (back_edge u b h) (after (lowered j v l b) (after (node_here v) m)))
  for_step_law o j e =
      ap (λ (p : Option TypedStatement). after (for_step (option_map piece p) u z h l) m) e
      ∙ after_numbered (λ b e' k. let v = inside u z b in node_here v ∷ lowered j v l b ∷ back_edge u b h ∷ []) m

  pub for_step_stop : (o : Option TypedStatement) (j : TypedStatement) (stop : Stop) → o ≡ Some j
      → IsStop stop (let b = length m.nodes in let v = inside u z b in after (lowered j v l b) (after (node_here v) m)) → IsStop stop (after (for_step (option_map piece o) u z h l) m)
  for_step_stop o j stop e k = subst (λ p. IsStop stop p) (sym (for_step_law o j e)) (stop_grows stop _ _ k)

pub ruleset for_step_laws = (no_step_law, for_step_law, for_step_stop, stop_grows)
