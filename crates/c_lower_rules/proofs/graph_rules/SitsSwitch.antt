-- What a `switch` makes meets the rules.
use Rattle.std.proofs.Common.{◌≡◌, ℕ, ◌+◌, ◌<◌, Bool, true, false, List, [], ◌∷◌, ◌++◌, map, length, Option, Some, None, ap, subst}
use Rattle.std.specs.Prelude.{IsTrue, ◌&&◌, nat_lt}
use Rattle.std.proofs.lemmas.List.{length-map}
use Rattle.std.specs.List.{AllByRecursion}
use Rattle.std.specs.Option.{is_some}
use Rattle.std.proofs.lemmas.Bool.{ltb-true}
use Rattle.fq_core.specs.declared.span.Span.{Span}
use Rattle.c_values.specs.Kind.{is_kind, is_value}
use Rattle.c_values.specs.declared.kinds.Kind.{Kind}
use Rattle.c_values.specs.declared.operators.BinaryOp.TheVariants as binary
use Rattle.c_values.proofs.Fitting.{and_left, and_right}
use Rattle.cfa.specs.declared.expr.CellPlace.TheVariants as place
use Rattle.cfa.specs.declared.expr.Expr.TheVariants as expr
use Rattle.cfa.specs.declared.parts.Node.{Node}
use Rattle.cfa.specs.Rules.{expr_fits}
use Rattle.c_typed_trees.specs.Fitting.{span_fits, labels_fit}
use Rattle.c_lower_rules.specs.declared.graph_of.parts.Around.{Around}
use Rattle.c_lower_rules.specs.graph_of.Builder.{in_order, ending}
use Rattle.c_lower_rules.specs.graph_of.Edges.{within, node_at, put}
use Rattle.c_lower_rules.specs.graph_of.Expressions.{Value, temporary}
use Rattle.c_lower_rules.specs.graph_of.Statements.{block_row}
use Rattle.c_lower_rules.specs.graph_of.Switch.{Group, Case, cases_in, cases_from, has_default, default_at, default_from, cases_row, groups_row, switch_row}
use Rattle.c_lower_rules.proofs.graph_of.Fits.{◌&◌}
use Rattle.c_lower_rules.proofs.graph_rules.Sits.{Holds, Sits, sit_first, sit_rest, all_sit, NodeMeets, Meets, all_meet, meet_nil, meet_cons}
use Rattle.c_lower_rules.proofs.graph_rules.Settings.{Setting, AtNode, Within, at_node, node_meets, edge_meets, plain_skip, plain_guard}
use Rattle.c_lower_rules.proofs.graph_rules.Operands.{same_kind_self, constant_checked, binary_checked, local_fits, temporary_checked}
use Rattle.c_lower_rules.proofs.graph_rules.SitsFlows.{OperandFits, IsValue, ending_is}
use Rattle.c_lower_rules.proofs.graph_rules.SitsRows.{IsLowering, IsPiece, as_within, plain_put, block_is}
use Rattle.cfa.proofs.Exits.{given}

-- a case label has its place, its value, and its node
pub record CaseFits (c : Setting) (kind : Kind) (l : Case) : Type 0 where
  pub span : l.span.file < length c.graph.files
  pub value : IsTrue (is_value kind l.value)
  pub target : AtNode c l.target

-- labels and statements that fit
pub record IsGroup (c : Setting) (kind : Kind) (g : Group) : Type 0 where
  pub labels : IsTrue (labels_fit c.names kind g.labels)
  pub body : AllByRecursion (IsPiece c) g.body

module _ (c : Setting) where
  -- the place of a token that fits lies in a file
  pub span_there : (span : Span) → IsTrue (span_fits c.names span) → span.file < length c.graph.files
  span_there span h = subst (λ n. span.file < n) c.files (ltb-true span.file c.names.files h)

  -- ---- labels

  test_fits : (cell value : ℕ) (kind : Kind) → IsTrue (nat_lt cell c.names.room.cells) → IsTrue (is_kind kind) → IsTrue (is_value kind value)
      → IsTrue (expr_fits c.names.room (expr.Binary binary.Equal (temporary cell kind) (expr.Constant value kind) kind))
  test_fits cell value kind h k v =
      ap is_some (binary_checked c.names.room binary.Equal (temporary cell kind) (expr.Constant value kind) kind kind (temporary_checked c.names.room cell kind h k) (constant_checked c.names.room value kind v) (same_kind_self kind))

  cases_are : (ls : List Case) (u : Around) (cell : ℕ) (kind : Kind) (other a n e k : ℕ) → AllByRecursion (CaseFits c kind) ls → IsTrue (nat_lt cell c.names.room.cells) → IsTrue (is_kind kind)
      → Within c u → AtNode c a → AtNode c other → Sits c.graph (cases_row u cell kind ls other a n e k) n e k → Meets c.graph (cases_row u cell kind ls other a n e k) e
  cases_are [] u cell kind other a n e k hs h k' w at to s = edge_meets c w.function w.file at to (plain_skip c)
  cases_are (l ∷ []) u cell kind other a n e k hs h k' w at to s =
      let fits = test_fits cell l.value kind h k' hs.0.value in
      all_meet c.graph _ n e k (edge_meets c w.function hs.0.span at hs.0.target (plain_guard c _ true fits) & edge_meets c w.function hs.0.span at to (plain_guard c _ false fits) & tt)
  cases_are (l ∷ m ∷ rest) u cell kind other a n e k hs h k' w at to s =
      let fits = test_fits cell l.value kind h k' hs.0.value in
      let S = all_sit c.graph _ n e k s in
      let next = at_node c w.function S.0 in
      all_meet c.graph _ n e k (node_meets c u u.span e w w.file & edge_meets c w.function hs.0.span at hs.0.target (plain_guard c _ true fits) & edge_meets c w.function hs.0.span at next (plain_guard c _ false fits)
      & cases_are (m ∷ rest) u cell kind other n (n + 1 + 0 + 0) (e + 0 + 1 + 1) (k + 0 + 0 + 0) hs.1 h k' w next to S.1.1.1.0 & tt)

  -- ---- groups

  -- the nodes of the groups are there
  abbrev AllAt : ℕ → List Group → Type 0
  AllAt g [] = Unit {0}
  AllAt g (x ∷ xs) = AtNode c g × AllAt (g + 1) xs

  all_at : (u : Around) (groups : List Group) (n : ℕ) → u.function ≡ c.number → Holds c.graph.nodes n (map (λ (g : Group). node_at u u.span) groups) → AllAt n groups
  all_at u [] n e h = tt
  all_at u (g ∷ groups) n e h = (record { there = given (λ (y : Node). y.function ≡ c.number) _ (node_at u u.span) h.0 e }, all_at u groups (n + 1) e h.1)

  cases_in_fit : (kind : Kind) (g : ℕ) (labels : List (Span × Option ℕ)) (ls : List Case) → IsTrue (labels_fit c.names kind labels) → AtNode c g → AllByRecursion (CaseFits c kind) ls → AllByRecursion (CaseFits c kind) (cases_in g labels ++ ls)
  cases_in_fit kind g [] ls h at hs = hs
  cases_in_fit kind g ((span, None) ∷ rest) ls h at hs = cases_in_fit kind g rest ls (and_right (span_fits c.names span) (labels_fit c.names kind rest) h) at hs
  cases_in_fit kind g ((span, Some value) ∷ rest) ls h at hs =
      let own = and_left (span_fits c.names span && is_value kind value) (labels_fit c.names kind rest) h in (
        record { span = span_there span (and_left (span_fits c.names span) (is_value kind value) own); value = and_right (span_fits c.names span) (is_value kind value) own; target = at },
        cases_in_fit kind g rest ls (and_right (span_fits c.names span && is_value kind value) (labels_fit c.names kind rest) h) at hs,
      )

  cases_fit : (kind : Kind) (groups : List Group) (g : ℕ) → AllByRecursion (IsGroup c kind) groups → AllAt g groups → AllByRecursion (CaseFits c kind) (cases_from g groups)
  cases_fit kind [] g hs at = tt
  cases_fit kind (group ∷ rest) g hs at = cases_in_fit kind g group.labels (cases_from (g + 1) rest) hs.0.labels at.0 (cases_fit kind rest (g + 1) hs.1 at.1)

  default_there : (groups : List Group) (g z : ℕ) → AllAt g groups → AtNode c z → AtNode c (default_from g groups z)
  default_there [] g z at to = to
  default_there (group ∷ rest) g z at to = by (has_default group.labels) at.0 (default_there rest (g + 1) z at.1 to)
    where
      by : (b : Bool) → AtNode c g → AtNode c (default_from (g + 1) rest z) → AtNode c (default_at b g (default_from (g + 1) rest z))
      by true h k = h
      by false h k = k

  groups_are : (kind : Kind) (groups : List Group) → AllByRecursion (IsGroup c kind) groups → (u : Around) (g z n e k : ℕ) → Within c u → AllAt g groups → AtNode c z
      → Sits c.graph (in_order (groups_row groups u g z) n e k) n e k → Meets c.graph (in_order (groups_row groups u g z) n e k) e
  groups_are kind [] hs u g z n e k w at to s = meet_nil c.graph n e k
  groups_are kind (group ∷ []) hs u g z n e k w at to s =
      let S = all_sit c.graph _ n e k s in
      all_meet c.graph _ n e k (block_is c group.body hs.0.body u g z n e k w at.0 to S.0 & tt)
  groups_are kind (group ∷ next ∷ rest) hs u g z n e k w at to s =
      let m = block_row group.body u g (g + 1) n e k in
      meet_cons c.graph _ _ n e k (block_is c group.body hs.0.body u g (g + 1) n e k w at.0 at.1.0 (sit_first c.graph _ _ n e k s))
      (groups_are kind (next ∷ rest) hs.1 u (g + 1) z (n + length m.nodes) (e + length m.edges) (k + length m.scopes) w at.1 to (sit_rest c.graph _ _ n e k s))

  nodes_meet : (u : Around) (groups : List Group) → Within c u → AllByRecursion (NodeMeets c.graph) (map (λ (g : Group). node_at u u.span) groups)
  nodes_meet u [] w = tt
  nodes_meet u (g ∷ groups) w = ((node_meets c u u.span 0 w w.file).nodes.0, nodes_meet u groups w)

  pub switch_is : (x : Value) (cell : ℕ) (groups : List Group) → IsValue c x x.kind → IsTrue (is_kind x.kind) → IsTrue (nat_lt cell c.names.room.cells) → AllByRecursion (IsGroup c x.kind) groups → IsLowering c (switch_row x cell groups)
  switch_is x cell groups hx hk h hs u a z n e k w at to s =
      let q = n + length groups in
      let n1 = n + length (map (λ (g : Group). node_at u u.span) groups) in
      let r0 = sit_rest c.graph _ _ n e k s in
      let r1 = sit_rest c.graph _ _ _ _ _ r0 in
      let r2 = sit_rest c.graph _ _ _ _ _ r1 in
      let r3 = sit_rest c.graph _ _ _ _ _ r2 in
      let there = all_at u groups n w.function (sit_first c.graph _ _ n e k s).nodes in
      let same : n1 ≡ n + length groups = ap (λ m. n + m) (length-map groups (λ (g : Group). node_at u u.span)) in
      let middle = subst (AtNode c) same (at_node c w.function (sit_first c.graph _ _ _ _ _ r0)) in
      let mv = ending (x.pure u) (λ v b. put u cell v.value v.reads b q) a (n1 + 1) (e + 0 + 0) (k + 0 + 0) in
      let n2 = n1 + 1 + length mv.nodes in
      let e2 = e + 0 + 0 + length mv.edges in
      let k2 = k + 0 + 0 + length mv.scopes in
      let mc = cases_row u cell x.kind (cases_from n groups) (default_from n groups z) q n2 e2 k2 in
      meet_cons c.graph _ _ n e k (record { nodes = nodes_meet u groups w; edges = tt; scopes = tt }) (meet_cons c.graph _ _ _ _ _ (node_meets c u u.span _ w w.file)
      (meet_cons c.graph _ _ _ _ _
      (ending_is c (OperandFits c x.kind) (x.pure u) (λ v b. put u cell v.value v.reads b q) (hx.pure u w) (λ v m p q r fit from sits. edge_meets c w.function w.file from middle (plain_put c (place.Local cell) x.kind v (local_fits c.names.room cell h) fit)) a (n1 + 1) (e + 0 + 0) (k + 0 + 0) at (sit_first c.graph _ _ _ _ _ r1))
      (meet_cons c.graph _ _ _ _ _
      (cases_are (cases_from n groups) u cell x.kind (default_from n groups z) q n2 e2 k2 (cases_fit x.kind groups n hs there) h hk w middle (default_there groups n z there to) (sit_first c.graph _ _ _ _ _ r2))
      (groups_are x.kind groups hs (within u z) n z (n2 + length mc.nodes) (e2 + length mc.edges) (k2 + length mc.scopes) (as_within c u z to w) there to r3))))
