-- `switch`, as one addition to the parts after another.
use Rattle.std.proofs.Common.{◌≡◌, ◌<◌, ◌≤◌, ℕ, ◌+◌, List, [], ◌∷◌, map, length, get_or, drop, Option, Some, None, refl, sym, ap, subst, ◌∙◌, arith}
use Rattle.std.specs.Prelude.{slice_get, MatchOption}
use Rattle.std.proofs.lemmas.List.{drop_all, length-map}
use Rattle.c_values.specs.declared.kinds.Kind.{Kind}
use Rattle.c_typed_trees.specs.declared.expression.TypedExpr.{TypedExpr}
use Rattle.c_typed_trees.specs.declared.statement.TypedGroup.{TypedGroup, out-TypedGroup}
use Rattle.c_lower_rules.specs.declared.graph_of.parts.Around.{Around}
use Rattle.c_lower_rules.specs.declared.graph_of.parts.Parts.{Parts}
use Rattle.c_lower_rules.specs.graph_of.Builder.{in_order, after, ending}
use Rattle.c_lower_rules.specs.graph_of.Edges.{within, node_here, put}
use Rattle.c_lower_rules.specs.graph_of.Expressions.{value_of, part_row}
use Rattle.c_lower_rules.specs.graph_of.Statements.{block_row}
use Rattle.c_lower_rules.specs.graph_of.Switch.{Group, cases_from, default_from, cases_row, group_nodes, groups_row, switch_row}
use Rattle.c_lower_rules.specs.graph_of.Table.{piece, group_of}
use Rattle.c_lower_rules.proofs.graph_of.After.{after_nil, after_in_order, after_numbered}
use Rattle.c_lower.specs.Cases.{case_of}
use Rattle.c_lower.specs.Stopping.{IsStop}
use Rattle.c_lower.specs.declared.labels.CaseLabel.{CaseLabel}
use Rattle.c_lower.specs.declared.stop.Stop.{Stop}
use Rattle.c_lower.proofs.FlowLaws.{after_cons}
use Rattle.c_lower.proofs.LabelLaws.{grouped, group_nodes-length}
use Rattle.c_lower.proofs.Lists.{none_behind, some_behind, here_behind}
use Rattle.c_lower.proofs.Stops.{stop_grows, memory_stops}
use Rattle.c_lower.proofs.ValueLaws.{own_kind}

pub switch_law : (x : TypedExpr) (cell : ℕ) (groups : List TypedGroup) (u : Around) (a z : ℕ) (m : Parts) → after (switch_row (value_of x) cell (map group_of groups) u a z) m
    ≡ (let gs = map group_of groups in
    let g = length m.nodes in
    let c = g + length groups in
    after (in_order (groups_row gs (within u z) g z)) (after (cases_row u cell x.kind (cases_from g gs) (default_from g gs z) c) (after (part_row (value_of x) cell u a c) (after (node_here u) (after (group_nodes u gs) m)))))
switch_law x cell groups u a z m =
    let gs = map group_of groups in
    let g = length m.nodes in
    after_numbered (λ g e k.
    let c = g + length gs in
    group_nodes u gs ∷ node_here u ∷ ending ((value_of x).pure u) (λ v b. put u cell v.value v.reads b c) a
    ∷ cases_row u cell (value_of x).kind (cases_from g gs) (default_from g gs z) c ∷ groups_row gs (within u z) g z) m
    ∙ sym (after_in_order (groups_row gs (within u z) g z) _)
    ∙ ap (λ kind. made (length gs) kind) (own_kind x)
    ∙ ap (λ k. made k x.kind) (length-map groups group_of)
  where
    made : ℕ → Kind → Parts
    made k kind =
        let gs = map group_of groups in
        let g = length m.nodes in
        after (in_order (groups_row gs (within u z) g z)) (after (cases_row u cell kind (cases_from g gs) (default_from g gs z) (g + k)) (after (part_row (value_of x) cell u a (g + k)) (after (node_here u) (after (group_nodes u gs) m))))

pub ruleset switch_laws = (switch_law, group_nodes-length, stop_grows, memory_stops)

-- too many edges before the groups
module _ (x : TypedExpr) (cell : ℕ) (groups : List TypedGroup) (u : Around) (a z : ℕ) (m : Parts) (c : ℕ) (m1 m2 : Parts) (stop : Stop) (nodes : m1 ≡ after (group_nodes u (map group_of groups)) m) (node : m2 ≡ after (node_here u) m1) (number : c ≡ length m1.nodes) where
  c_is : c ≡ length m.nodes + length groups
  c_is = number ∙ ap (λ (p : Parts). length p.nodes) nodes ∙ group_nodes-length u (map group_of groups) m ∙ ap (λ k. length m.nodes + k) (length-map groups group_of)

  begun : m2 ≡ after (node_here u) (after (group_nodes u (map group_of groups)) m)
  begun = node ∙ ap (after (node_here u)) nodes

  pub value_stops : IsStop stop (after (part_row (value_of x) cell u a c) m2) → IsStop stop (after (switch_row (value_of x) cell (map group_of groups) u a z) m)
  value_stops h =
      subst (λ p. IsStop stop p) (sym (switch_law x cell groups u a z m))
      (stop_grows stop _ _ (stop_grows stop _ _ (subst (λ p. IsStop stop p) (λ i. after (part_row (value_of x) cell u a (c_is i)) (begun i)) h)))

  pub cases_stop : (m3 : Parts) (cases : List CaseLabel) (other g : ℕ) → m3 ≡ after (part_row (value_of x) cell u a c) m2 → g ≡ length m.nodes → map case_of cases ≡ cases_from g (map group_of groups) → other ≡ default_from g (map group_of groups) z
      → IsStop stop (after (cases_row u cell x.kind (map case_of cases) other c) m3) → IsStop stop (after (switch_row (value_of x) cell (map group_of groups) u a z) m)
  cases_stop m3 cases other g part first labels last h =
      let gs = map group_of groups in
      let done : m3 ≡ after (part_row (value_of x) cell u a (length m.nodes + length groups)) (after (node_here u) (after (group_nodes u gs) m)) = part ∙ (λ i. after (part_row (value_of x) cell u a (c_is i)) (begun i)) in
      let list : map case_of cases ≡ cases_from (length m.nodes) gs = labels ∙ ap (λ k. cases_from k gs) first in
      let end : other ≡ default_from (length m.nodes) gs z = last ∙ ap (λ k. default_from k gs z) first in
      subst (λ p. IsStop stop p) (sym (switch_law x cell groups u a z m)) (stop_grows stop _ _ (subst (λ p. IsStop stop p) (λ i. after (cases_row u cell x.kind (list i) (end i) (c_is i)) (done i)) h))

  -- all that is made, from what the calls give
  pub switch_is : (m3 m4 : Parts) (cases list : List CaseLabel) (other g : ℕ) (inner : Around) → m3 ≡ after (part_row (value_of x) cell u a c) m2 → g ≡ length m.nodes → map case_of cases ≡ cases_from g (map group_of groups) → list ≡ cases
      → other ≡ default_from g (map group_of groups) z → m4 ≡ after (cases_row u cell x.kind (map case_of list) other c) m3 → inner ≡ within u z
      → after (in_order (groups_row (map group_of groups) inner g z)) m4 ≡ after (switch_row (value_of x) cell (map group_of groups) u a z) m
  switch_is m3 m4 cases list other g inner part first labels same last guards inside =
      let gs = map group_of groups in
      let done : m3 ≡ after (part_row (value_of x) cell u a (length m.nodes + length groups)) (after (node_here u) (after (group_nodes u gs) m)) = part ∙ (λ i. after (part_row (value_of x) cell u a (c_is i)) (begun i)) in
      let all : map case_of list ≡ cases_from (length m.nodes) gs = ap (map case_of) same ∙ labels ∙ ap (λ k. cases_from k gs) first in
      let end : other ≡ default_from (length m.nodes) gs z = last ∙ ap (λ k. default_from k gs z) first in
      let made : m4 ≡ after (cases_row u cell x.kind (cases_from (length m.nodes) gs) (default_from (length m.nodes) gs z) (length m.nodes + length groups)) (after (part_row (value_of x) cell u a (length m.nodes + length groups)) (after (node_here u) (after (group_nodes u gs) m)))
      = guards ∙ (λ i. after (cases_row u cell x.kind (all i) (end i) (c_is i)) (done i)) in
      (λ i. after (in_order (groups_row gs (inside i) (first i) z)) (made i)) ∙ sym (switch_law x cell groups u a z m)

module _ (u : Around) (z : ℕ) (g : ℕ) (x : TypedGroup) (rest : List TypedGroup) (to : ℕ) (m : Parts) where
  body_is : after (block_row (group_of x).body u g to) m ≡ after (block_row (map piece (out-TypedGroup x).body) u g to) m
  body_is = ap (λ (k : Group). after (block_row k.body u g to) m) (grouped x)

  last_group : rest ≡ [] → to ≡ z → after (in_order (groups_row (map group_of (x ∷ rest)) u g z)) m ≡ after (in_order (groups_row (map group_of rest) u (g + 1) z)) (after (block_row (map piece (out-TypedGroup x).body) u g to) m)
  last_group e h =
      ap (λ l. after (in_order (groups_row (map group_of (x ∷ l)) u g z)) m) e
      ∙ after_cons (block_row (group_of x).body u g z) [] m
      ∙ ap (λ k. after (in_order []) (after (block_row (group_of x).body u g k) m)) (sym h)
      ∙ ap (after (in_order [])) body_is
      ∙ ap (λ l. after (in_order (groups_row (map group_of l) u (g + 1) z)) (after (block_row (map piece (out-TypedGroup x).body) u g to) m)) (sym e)

  more_groups : (y : TypedGroup) (ys : List TypedGroup) → rest ≡ y ∷ ys → to ≡ g + 1
      → after (in_order (groups_row (map group_of (x ∷ rest)) u g z)) m ≡ after (in_order (groups_row (map group_of rest) u (g + 1) z)) (after (block_row (map piece (out-TypedGroup x).body) u g to) m)
  more_groups y ys e h =
      ap (λ l. after (in_order (groups_row (map group_of (x ∷ l)) u g z)) m) e
      ∙ after_cons (block_row (group_of x).body u g (g + 1)) (groups_row (map group_of (y ∷ ys)) u (g + 1) z) m
      ∙ ap (λ k. after (in_order (groups_row (map group_of (y ∷ ys)) u (g + 1) z)) (after (block_row (group_of x).body u g k) m)) (sym h)
      ∙ ap (after (in_order (groups_row (map group_of (y ∷ ys)) u (g + 1) z))) body_is
      ∙ ap (λ l. after (in_order (groups_row (map group_of l) u (g + 1) z)) (after (block_row (map piece (out-TypedGroup x).body) u g to) m)) (sym e)

module _ (u : Around) (z g : ℕ) (list : List TypedGroup) (i : ℕ) (x : TypedGroup) (to : ℕ) (m : Parts) (within : i < length list) (is : x ≡ get_or list i x)
    (next : MatchOption (slice_get list (i + 1)) (to ≡ z) (λ _. to ≡ g + i + 1)) where
  group_turn : after (in_order (groups_row (map group_of (drop i list)) u (g + i) z)) m ≡ after (in_order (groups_row (map group_of (drop (i + 1) list)) u (g + (i + 1)) z)) (after (block_row (map piece (out-TypedGroup x).body) u (g + i) to) m)
  group_turn =
      ap (λ l. after (in_order (groups_row (map group_of l) u (g + i) z)) m) (here_behind list i x within is) ∙ by (slice_get list (i + 1)) refl next
      ∙ ap (λ k. after (in_order (groups_row (map group_of (drop (i + 1) list)) u k z)) (after (block_row (map piece (out-TypedGroup x).body) u (g + i) to) m)) (let k : g + i + 1 ≡ g + (i + 1) = omega arith in k)
    where
      by : (o : Option TypedGroup) → slice_get list (i + 1) ≡ o → MatchOption o (to ≡ z) (λ _. to ≡ g + i + 1)
          → after (in_order (groups_row (map group_of (x ∷ drop (i + 1) list)) u (g + i) z)) m ≡ after (in_order (groups_row (map group_of (drop (i + 1) list)) u (g + i + 1) z)) (after (block_row (map piece (out-TypedGroup x).body) u (g + i) to) m)
      by None e h = last_group u z (g + i) x (drop (i + 1) list) to m (none_behind list (i + 1) e) h
      by (Some y) e h = more_groups u z (g + i) x (drop (i + 1) list) to m y (drop (i + 1 + 1) list) (some_behind list (i + 1) y e) h

  pub groups_go_on : (whole m2 : Parts) → m2 ≡ after (block_row (map piece (out-TypedGroup x).body) u (g + i) to) m → whole ≡ after (in_order (groups_row (map group_of (drop i list)) u (g + i) z)) m
      → whole ≡ after (in_order (groups_row (map group_of (drop (i + 1) list)) u (g + (i + 1)) z)) m2
  groups_go_on whole m2 e h = h ∙ group_turn ∙ ap (after (in_order (groups_row (map group_of (drop (i + 1) list)) u (g + (i + 1)) z))) (sym e)

  pub groups_stop : (whole : Parts) (stop : Stop) → whole ≡ after (in_order (groups_row (map group_of (drop i list)) u (g + i) z)) m → IsStop stop (after (block_row (map piece (out-TypedGroup x).body) u (g + i) to) m) → IsStop stop whole
  groups_stop whole stop e h = subst (λ p. IsStop stop p) (sym (e ∙ group_turn)) (stop_grows stop _ _ h)

pub groups_end : (u : Around) (z g : ℕ) (list : List TypedGroup) (i : ℕ) (m whole : Parts) → length list ≤ i → whole ≡ after (in_order (groups_row (map group_of (drop i list)) u (g + i) z)) m → m ≡ whole
groups_end u z g list i m whole end h = sym (h ∙ ap (λ l. after (in_order (groups_row (map group_of l) u (g + i) z)) m) (drop_all i list end) ∙ after_nil m)
