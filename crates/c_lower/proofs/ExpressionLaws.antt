-- What expressions make, form by form, as one addition to the parts after another.
use Rattle.std.proofs.Common.{◌≡◌, ◌<◌, ◌≤◌, ℕ, ◌+◌, List, [], ◌∷◌, ◌++◌, map, length, get_or, drop, false, Some, None, refl, sym, ap, subst, ◌∙◌, append_assoc, append-nil, rules}
use Rattle.std.proofs.lemmas.List.{drop_all, drop_more}
use Rattle.c_values.specs.Kind.{int}
use Rattle.c_values.specs.declared.kinds.Kind.{Kind}
use Rattle.c_values.specs.declared.operators.BinaryOp.{BinaryOp}
use Rattle.c_values.specs.declared.operators.UnaryOp.{UnaryOp}
use Rattle.c_values.specs.declared.operators.UnaryOp.TheVariants as unary
use Rattle.cfa.specs.declared.expr.CellPlace.TheVariants as place
use Rattle.cfa.specs.declared.expr.Expr.TheVariants as expr
use Rattle.c_typed_trees.specs.declared.expression.TypedCall.{TypedCall, out-TypedCall}
use Rattle.c_typed_trees.specs.declared.expression.TypedExpr.{TypedExpr}
use Rattle.c_typed_trees.specs.declared.expression.TypedExprForm.{the_lemmas}
use Rattle.c_typed_trees.specs.declared.expression.TypedExprForm.TheVariants as forms
use Rattle.c_typed_trees.specs.declared.expression.TypedPlace.{TypedPlace, out-TypedPlace}
use Rattle.c_lower_rules.specs.declared.graph_of.parts.Around.{Around}
use Rattle.c_lower_rules.specs.declared.graph_of.parts.Operand.{Operand}
use Rattle.c_lower_rules.specs.declared.graph_of.parts.Parts.{Parts}
use Rattle.c_lower_rules.specs.declared.graph_of.parts.Target.{Target}
use Rattle.c_lower_rules.specs.graph_of.Builder.{Builder, Flow, node, after, made_by, give, ◌then◌, ending}
use Rattle.c_lower_rules.specs.graph_of.Edges.{deciding, node_at, node_here, put, guards}
use Rattle.c_lower_rules.specs.graph_of.Expressions.{Value, Calling, value_of, spot_of, calling_of, spot_cell, cell_of, element_of, words_in_order, call_edges, call_pure, truth_pure, choice_pure, part_row, both_cond, either_cond, other_cond}
use Rattle.c_lower_rules.proofs.graph_of.After.{after_at, after_numbered}
use Rattle.c_lower.specs.Flows.{end_of, gives_of}
use Rattle.c_lower.specs.Operands.{constant_operand, temporary_operand, loaded_operand, converted_operand, unary_operand, binary_operand}
use Rattle.c_lower.proofs.FlowLaws.{give_made, give_end, give_gives, made_then, end_then, gives_then, made_gives, end_gives, gives_gives, made_ending}
use Rattle.c_lower.specs.Stopping.{IsStop}
use Rattle.c_lower.specs.declared.stop.Stop.{Stop}
use Rattle.c_lower.proofs.Stops.{stop_grows}
use Rattle.c_lower.proofs.ValueLaws.{own_span, calling_is, constant_is, load_is, convert_is, unary_is, binary_is, both_is, either_is, choice_is, call_is, no_index_is, index_is, splits, not_is, both_cond_is, either_cond_is, other_is}

module _ {A : Type 0} (a : ℕ) (m : Parts) (p q : Flow A) (e : p ≡ q) where
  same_made : after (made_by p a) m ≡ after (made_by q a) m
  same_made = ap (λ (x : Flow A). after (made_by x a) m) e

  same_end : end_of p a m ≡ end_of q a m
  same_end = ap (λ (x : Flow A). end_of x a m) e

  same_gives : gives_of p a m ≡ gives_of q a m
  same_gives = ap (λ (x : Flow A). gives_of x a m) e

-- ---- values

module _ (u : Around) (a : ℕ) (m : Parts) (x : TypedExpr) where
  pub constant_made : (n : ℕ) → x.form ≡ forms.Constant n → after (made_by ((value_of x).pure u) a) m ≡ m
  constant_made n e = same_made a m _ _ (constant_is u x n e) ∙ give_made (constant_operand n x.kind) a m

  pub constant_end : (n : ℕ) → x.form ≡ forms.Constant n → end_of ((value_of x).pure u) a m ≡ a
  constant_end n e = same_end a m _ _ (constant_is u x n e) ∙ give_end (constant_operand n x.kind) a m

  pub constant_gives : (n : ℕ) → x.form ≡ forms.Constant n → gives_of ((value_of x).pure u) a m ≡ constant_operand n x.kind
  constant_gives n e = same_gives a m _ _ (constant_is u x n e) ∙ give_gives (constant_operand n x.kind) a m

  pub load_made : (p : TypedPlace) → x.form ≡ forms.Load p → after (made_by ((value_of x).pure u) a) m ≡ after (made_by (spot_cell (spot_of p) u) a) m
  load_made p e = same_made a m _ _ (load_is u x p e) ∙ made_gives (spot_cell (spot_of p) u) (λ c. loaded_operand (out-TypedPlace p).variable.name x.kind c) a m

  pub load_end : (p : TypedPlace) → x.form ≡ forms.Load p → end_of ((value_of x).pure u) a m ≡ end_of (spot_cell (spot_of p) u) a m
  load_end p e = same_end a m _ _ (load_is u x p e) ∙ end_gives (spot_cell (spot_of p) u) (λ c. loaded_operand (out-TypedPlace p).variable.name x.kind c) a m

  pub load_gives : (p : TypedPlace) → x.form ≡ forms.Load p → gives_of ((value_of x).pure u) a m ≡ loaded_operand (out-TypedPlace p).variable.name x.kind (gives_of (spot_cell (spot_of p) u) a m)
  load_gives p e = same_gives a m _ _ (load_is u x p e) ∙ gives_gives (spot_cell (spot_of p) u) (λ c. loaded_operand (out-TypedPlace p).variable.name x.kind c) a m

  pub convert_made : (y : TypedExpr) → x.form ≡ forms.Convert y → after (made_by ((value_of x).pure u) a) m ≡ after (made_by ((value_of y).pure u) a) m
  convert_made y e = same_made a m _ _ (convert_is u x y e) ∙ made_gives ((value_of y).pure u) (λ v. converted_operand x.kind v) a m

  pub convert_end : (y : TypedExpr) → x.form ≡ forms.Convert y → end_of ((value_of x).pure u) a m ≡ end_of ((value_of y).pure u) a m
  convert_end y e = same_end a m _ _ (convert_is u x y e) ∙ end_gives ((value_of y).pure u) (λ v. converted_operand x.kind v) a m

  pub convert_gives : (y : TypedExpr) → x.form ≡ forms.Convert y → gives_of ((value_of x).pure u) a m ≡ converted_operand x.kind (gives_of ((value_of y).pure u) a m)
  convert_gives y e = same_gives a m _ _ (convert_is u x y e) ∙ gives_gives ((value_of y).pure u) (λ v. converted_operand x.kind v) a m

  pub unary_made : (op : UnaryOp) (y : TypedExpr) → x.form ≡ forms.Unary op y → after (made_by ((value_of x).pure u) a) m ≡ after (made_by ((value_of y).pure u) a) m
  unary_made op y e = same_made a m _ _ (unary_is u x op y e) ∙ made_gives ((value_of y).pure u) (λ v. unary_operand op y.kind v) a m

  pub unary_end : (op : UnaryOp) (y : TypedExpr) → x.form ≡ forms.Unary op y → end_of ((value_of x).pure u) a m ≡ end_of ((value_of y).pure u) a m
  unary_end op y e = same_end a m _ _ (unary_is u x op y e) ∙ end_gives ((value_of y).pure u) (λ v. unary_operand op y.kind v) a m

  pub unary_gives : (op : UnaryOp) (y : TypedExpr) → x.form ≡ forms.Unary op y → gives_of ((value_of x).pure u) a m ≡ unary_operand op y.kind (gives_of ((value_of y).pure u) a m)
  unary_gives op y e = same_gives a m _ _ (unary_is u x op y e) ∙ gives_gives ((value_of y).pure u) (λ v. unary_operand op y.kind v) a m

  pub binary_made : (op : BinaryOp) (y z : TypedExpr) → x.form ≡ forms.Binary op y z
      → after (made_by ((value_of x).pure u) a) m ≡ after (made_by ((value_of z).pure u) (end_of ((value_of y).pure u) a m)) (after (made_by ((value_of y).pure u) a) m)
  binary_made op y z e = same_made a m _ _ (binary_is u x op y z e)
      ∙ made_then ((value_of y).pure u) (λ v. (value_of z).pure u then λ w. give (binary_operand op y.kind v w)) a m ∙ made_gives ((value_of z).pure u) (λ w. binary_operand op y.kind (gives_of ((value_of y).pure u) a m) w) _ _

  pub binary_end : (op : BinaryOp) (y z : TypedExpr) → x.form ≡ forms.Binary op y z
      → end_of ((value_of x).pure u) a m ≡ end_of ((value_of z).pure u) (end_of ((value_of y).pure u) a m) (after (made_by ((value_of y).pure u) a) m)
  binary_end op y z e = same_end a m _ _ (binary_is u x op y z e)
      ∙ end_then ((value_of y).pure u) (λ v. (value_of z).pure u then λ w. give (binary_operand op y.kind v w)) a m ∙ end_gives ((value_of z).pure u) (λ w. binary_operand op y.kind (gives_of ((value_of y).pure u) a m) w) _ _

  pub binary_gives : (op : BinaryOp) (y z : TypedExpr) → x.form ≡ forms.Binary op y z
      → gives_of ((value_of x).pure u) a m ≡ binary_operand op y.kind (gives_of ((value_of y).pure u) a m) (gives_of ((value_of z).pure u) (end_of ((value_of y).pure u) a m) (after (made_by ((value_of y).pure u) a) m))
  binary_gives op y z e = same_gives a m _ _ (binary_is u x op y z e)
      ∙ gives_then ((value_of y).pure u) (λ v. (value_of z).pure u then λ w. give (binary_operand op y.kind v w)) a m ∙ gives_gives ((value_of z).pure u) (λ w. binary_operand op y.kind (gives_of ((value_of y).pure u) a m) w) _ _

  -- a value of two operands, from what its parts give
  pub binary_result : (op : BinaryOp) (y z : TypedExpr) (kind : Kind) (m1 : Parts) (b : ℕ) (v w r : Operand) → x.form ≡ forms.Binary op y z → m1 ≡ after (made_by ((value_of y).pure u) a) m → b ≡ end_of ((value_of y).pure u) a m
      → v ≡ gives_of ((value_of y).pure u) a m → w ≡ gives_of ((value_of z).pure u) b m1 → kind ≡ y.kind → r ≡ binary_operand op kind v w → r ≡ gives_of ((value_of x).pure u) a m
  binary_result op y z kind m1 b v w r e h1 h2 h3 h4 h6 h5 =
      h5 ∙ ap (λ k. binary_operand op k v w) h6 ∙ ap (λ k. binary_operand op y.kind k w) h3
      ∙ ap (λ k. binary_operand op y.kind (gives_of ((value_of y).pure u) a m) k) (h4 ∙ ap (λ k. gives_of ((value_of z).pure u) k m1) h2 ∙ ap (λ k. gives_of ((value_of z).pure u) (end_of ((value_of y).pure u) a m) k) h1)
      ∙ sym (binary_gives op y z e)

  pub binary_stop : (op : BinaryOp) (y z : TypedExpr) (stop : Stop) → x.form ≡ forms.Binary op y z → IsStop stop (after (made_by ((value_of y).pure u) a) m) → IsStop stop (after (made_by ((value_of x).pure u) a) m)
  binary_stop op y z stop e h = subst (λ p. IsStop stop p) (sym (binary_made op y z e)) (stop_grows stop _ _ h)

  pub both_made : (y z : TypedExpr) (cell : ℕ) → x.form ≡ forms.Both y z cell → after (made_by ((value_of x).pure u) a) m ≡ after (made_by (truth_pure (both_cond (value_of y) (value_of z)) cell x.kind u) a) m
  both_made y z cell e = same_made a m _ _ (both_is u x y z cell e)

  pub both_end : (y z : TypedExpr) (cell : ℕ) → x.form ≡ forms.Both y z cell → end_of ((value_of x).pure u) a m ≡ end_of (truth_pure (both_cond (value_of y) (value_of z)) cell x.kind u) a m
  both_end y z cell e = same_end a m _ _ (both_is u x y z cell e)

  pub both_gives : (y z : TypedExpr) (cell : ℕ) → x.form ≡ forms.Both y z cell → gives_of ((value_of x).pure u) a m ≡ gives_of (truth_pure (both_cond (value_of y) (value_of z)) cell x.kind u) a m
  both_gives y z cell e = same_gives a m _ _ (both_is u x y z cell e)

  pub either_made : (y z : TypedExpr) (cell : ℕ) → x.form ≡ forms.Either y z cell → after (made_by ((value_of x).pure u) a) m ≡ after (made_by (truth_pure (either_cond (value_of y) (value_of z)) cell x.kind u) a) m
  either_made y z cell e = same_made a m _ _ (either_is u x y z cell e)

  pub either_end : (y z : TypedExpr) (cell : ℕ) → x.form ≡ forms.Either y z cell → end_of ((value_of x).pure u) a m ≡ end_of (truth_pure (either_cond (value_of y) (value_of z)) cell x.kind u) a m
  either_end y z cell e = same_end a m _ _ (either_is u x y z cell e)

  pub either_gives : (y z : TypedExpr) (cell : ℕ) → x.form ≡ forms.Either y z cell → gives_of ((value_of x).pure u) a m ≡ gives_of (truth_pure (either_cond (value_of y) (value_of z)) cell x.kind u) a m
  either_gives y z cell e = same_gives a m _ _ (either_is u x y z cell e)

  pub choice_made : (c y z : TypedExpr) (cell : ℕ) → x.form ≡ forms.Choice c y z cell → after (made_by ((value_of x).pure u) a) m ≡ after (made_by (choice_pure (value_of c) (value_of y) (value_of z) cell x.kind u) a) m
  choice_made c y z cell e = same_made a m _ _ (choice_is u x c y z cell e)

  pub choice_end : (c y z : TypedExpr) (cell : ℕ) → x.form ≡ forms.Choice c y z cell → end_of ((value_of x).pure u) a m ≡ end_of (choice_pure (value_of c) (value_of y) (value_of z) cell x.kind u) a m
  choice_end c y z cell e = same_end a m _ _ (choice_is u x c y z cell e)

  pub choice_gives : (c y z : TypedExpr) (cell : ℕ) → x.form ≡ forms.Choice c y z cell → gives_of ((value_of x).pure u) a m ≡ gives_of (choice_pure (value_of c) (value_of y) (value_of z) cell x.kind u) a m
  choice_gives c y z cell e = same_gives a m _ _ (choice_is u x c y z cell e)

  pub call_made : (c : TypedCall) → x.form ≡ forms.Call c → after (made_by ((value_of x).pure u) a) m ≡ after (made_by (call_pure (calling_of c) x.kind u) a) m
  call_made c e = same_made a m _ _ (call_is u x c e)

  pub call_end : (c : TypedCall) → x.form ≡ forms.Call c → end_of ((value_of x).pure u) a m ≡ end_of (call_pure (calling_of c) x.kind u) a m
  call_end c e = same_end a m _ _ (call_is u x c e)

  pub call_gives : (c : TypedCall) → x.form ≡ forms.Call c → gives_of ((value_of x).pure u) a m ≡ gives_of (call_pure (calling_of c) x.kind u) a m
  call_gives c e = same_gives a m _ _ (call_is u x c e)

pub ruleset value_laws = (
  constant_made,
  constant_end,
  constant_gives,
  load_made,
  load_end,
  load_gives,
  convert_made,
  convert_end,
  convert_gives,
  unary_made,
  unary_end,
  unary_gives,
  binary_made,
  binary_end,
  binary_gives,
  both_made,
  both_end,
  both_gives,
  either_made,
  either_end,
  either_gives,
  choice_made,
  choice_end,
  choice_gives,
  call_made,
  call_end,
  call_gives,
  stop_grows,
)

-- ---- places

module _ (u : Around) (a : ℕ) (m : Parts) (p : TypedPlace) where
  pub no_index_made : (out-TypedPlace p).index ≡ None → after (made_by (spot_cell (spot_of p) u) a) m ≡ m
  no_index_made e = same_made a m _ _ (no_index_is u p e) ∙ give_made {A = Target} (record { place = cell_of (out-TypedPlace p).variable.place; reads = [] }) a m

  pub no_index_end : (out-TypedPlace p).index ≡ None → end_of (spot_cell (spot_of p) u) a m ≡ a
  no_index_end e = same_end a m _ _ (no_index_is u p e) ∙ give_end {A = Target} (record { place = cell_of (out-TypedPlace p).variable.place; reads = [] }) a m

  pub no_index_gives : (out-TypedPlace p).index ≡ None → gives_of (spot_cell (spot_of p) u) a m ≡ record { place = cell_of (out-TypedPlace p).variable.place; reads = [] }
  no_index_gives e = same_gives a m _ _ (no_index_is u p e) ∙ give_gives {A = Target} (record { place = cell_of (out-TypedPlace p).variable.place; reads = [] }) a m

  pub index_made : (i : TypedExpr) → (out-TypedPlace p).index ≡ Some i → after (made_by (spot_cell (spot_of p) u) a) m ≡ after (made_by ((value_of i).pure u) a) m
  index_made i e = same_made a m _ _ (index_is u p i e) ∙ made_gives {B = Target} ((value_of i).pure u) (λ (v : Operand). record { place = element_of (out-TypedPlace p).variable v.value; reads = v.reads }) a m

  pub index_end : (i : TypedExpr) → (out-TypedPlace p).index ≡ Some i → end_of (spot_cell (spot_of p) u) a m ≡ end_of ((value_of i).pure u) a m
  index_end i e = same_end a m _ _ (index_is u p i e) ∙ end_gives {B = Target} ((value_of i).pure u) (λ (v : Operand). record { place = element_of (out-TypedPlace p).variable v.value; reads = v.reads }) a m

  pub index_gives : (i : TypedExpr) → (out-TypedPlace p).index ≡ Some i → gives_of (spot_cell (spot_of p) u) a m ≡ (let v = gives_of ((value_of i).pure u) a m in record { place = element_of (out-TypedPlace p).variable v.value; reads = v.reads })
  index_gives i e = same_gives a m _ _ (index_is u p i e) ∙ gives_gives {B = Target} ((value_of i).pure u) (λ (v : Operand). record { place = element_of (out-TypedPlace p).variable v.value; reads = v.reads }) a m

pub ruleset spot_laws = (no_index_made, no_index_end, no_index_gives, index_made, index_end, index_gives, stop_grows)

-- ---- what has nodes of its own

-- three nodes, on the line of the innermost statement
abbrev pub three : Around → Parts → Parts
three u m = after (node_here u) (after (node_here u) (after (node_here u) m))

module _ (c : Around → ℕ → ℕ → ℕ → Builder) (cell : ℕ) (kind : Kind) (u : Around) (a : ℕ) (m : Parts) where
  pub truth_made : after (made_by (truth_pure c cell kind u) a) m
      ≡ (let n = length m.nodes in after (put u cell (expr.Constant 0 int) [] (n + 1) (n + 2)) (after (put u cell (expr.Constant 1 int) [] n (n + 2)) (after (c (deciding u n (n + 1)) a n (n + 1)) (three u m))))
  truth_made = let n = length m.nodes in after_at (made_by (truth_pure c cell kind u) a) m
      (node_here u ∷ node_here u ∷ node_here u ∷ c (deciding u n (n + 1)) a n (n + 1) ∷ put u cell (expr.Constant 1 int) [] n (n + 2) ∷ put u cell (expr.Constant 0 int) [] (n + 1) (n + 2) ∷ []) refl

  pub truth_end : end_of (truth_pure c cell kind u) a m ≡ length m.nodes + 2
  unfolding end_of
  truth_end = refl

  pub truth_gives : gives_of (truth_pure c cell kind u) a m ≡ temporary_operand cell kind
  unfolding gives_of
  truth_gives = refl

pub ruleset truth_laws = (truth_made, truth_end, truth_gives, stop_grows)

pub part_law : (x : Value) (cell : ℕ) (u : Around) (a z : ℕ) (m : Parts) → after (part_row x cell u a z) m
    ≡ (let v = gives_of (x.pure u) a m in after (put u cell v.value v.reads (end_of (x.pure u) a m) z) (after (made_by (x.pure u) a) m))
part_law x cell u a z m = made_ending (x.pure u) (λ v b. put u cell v.value v.reads b z) a m

pub ruleset part_laws = (part_law, stop_grows)

module _ (c x y : Value) (cell : ℕ) (kind : Kind) (u : Around) (a : ℕ) (m : Parts) where
  pub choice_row_made : after (made_by (choice_pure c x y cell kind u) a) m
      ≡ (let n = length m.nodes in after (part_row y cell u (n + 1) (n + 2)) (after (part_row x cell u n (n + 2)) (after (c.cond (deciding u n (n + 1)) a n (n + 1)) (three u m))))
  choice_row_made = let n = length m.nodes in after_at (made_by (choice_pure c x y cell kind u) a) m
      (node_here u ∷ node_here u ∷ node_here u ∷ c.cond (deciding u n (n + 1)) a n (n + 1) ∷ part_row x cell u n (n + 2) ∷ part_row y cell u (n + 1) (n + 2) ∷ []) refl

  pub choice_row_end : end_of (choice_pure c x y cell kind u) a m ≡ length m.nodes + 2
  unfolding end_of
  choice_row_end = refl

  pub choice_row_gives : gives_of (choice_pure c x y cell kind u) a m ≡ temporary_operand cell kind
  unfolding gives_of
  choice_row_gives = refl

pub ruleset choice_laws = (choice_row_made, choice_row_end, choice_row_gives, stop_grows)

-- ---- calls

module _ (c : TypedCall) (kind : Kind) (u : Around) (a : ℕ) (m : Parts) where
  pub call_row_made : after (made_by (call_pure (calling_of c) kind u) a) m
      ≡ (let d = out-TypedCall c in
      let ws = words_in_order (map value_of d.words) u in
      let m1 = after (node_here u) m in
      after (call_edges d.callee d.arrays u (gives_of ws a m1) (Some (place.Local d.cell)) (end_of ws a m1) (length m.nodes)) (after (made_by ws a) m1))
  call_row_made =
      let d = out-TypedCall c in
      let n = length m.nodes in
      let ws = words_in_order (map value_of d.words) u in
      ap (λ (k : Calling). after (made_by (call_pure k kind u) a) m) (calling_is c)
      ∙ after_at (made_by (call_pure (record { callee = d.callee; words = map value_of d.words; arrays = d.arrays; cell = d.cell }) kind u) a) m
      (node_here u ∷ ending ws (λ vs b. call_edges d.callee d.arrays u vs (Some (place.Local d.cell)) b n) a ∷ []) refl
      ∙ made_ending ws (λ vs b. call_edges d.callee d.arrays u vs (Some (place.Local d.cell)) b n) a (after (node_here u) m)

  pub call_row_end : end_of (call_pure (calling_of c) kind u) a m ≡ length m.nodes
  unfolding end_of
  call_row_end = refl

  pub call_row_gives : gives_of (call_pure (calling_of c) kind u) a m ≡ temporary_operand (out-TypedCall c).cell kind
  unfolding gives_of
  call_row_gives = ap (λ (k : Calling). temporary_operand k.cell kind) (calling_is c)

pub ruleset call_value_laws = (call_row_made, call_row_end, call_row_gives, stop_grows)

-- ---- words

module _ (u : Around) (a : ℕ) (m : Parts) where
  none_made : after (made_by (words_in_order [] u) a) m ≡ m
  none_made = give_made {A = List Operand} [] a m

  none_end : end_of (words_in_order [] u) a m ≡ a
  none_end = give_end {A = List Operand} [] a m

  none_gives : gives_of (words_in_order [] u) a m ≡ []
  none_gives = give_gives {A = List Operand} [] a m

  more_made : (x : Value) (xs : List Value) → after (made_by (words_in_order (x ∷ xs) u) a) m ≡ after (made_by (words_in_order xs u) (end_of (x.pure u) a m)) (after (made_by (x.pure u) a) m)
  more_made x xs = made_then (x.pure u) (λ v. words_in_order xs u then λ vs. give (v ∷ vs)) a m ∙ made_gives (words_in_order xs u) (λ vs. gives_of (x.pure u) a m ∷ vs) _ _

  more_end : (x : Value) (xs : List Value) → end_of (words_in_order (x ∷ xs) u) a m ≡ end_of (words_in_order xs u) (end_of (x.pure u) a m) (after (made_by (x.pure u) a) m)
  more_end x xs = end_then (x.pure u) (λ v. words_in_order xs u then λ vs. give (v ∷ vs)) a m ∙ end_gives (words_in_order xs u) (λ vs. gives_of (x.pure u) a m ∷ vs) _ _

  more_gives : (x : Value) (xs : List Value) → gives_of (words_in_order (x ∷ xs) u) a m ≡ gives_of (x.pure u) a m ∷ gives_of (words_in_order xs u) (end_of (x.pure u) a m) (after (made_by (x.pure u) a) m)
  more_gives x xs = gives_then (x.pure u) (λ v. words_in_order xs u then λ vs. give (v ∷ vs)) a m ∙ gives_gives (words_in_order xs u) (λ vs. gives_of (x.pure u) a m ∷ vs) _ _

-- how far a loop over words has come: what is left, from a node on and behind parts, gives what the whole list gives
pub record Left (u : Around) (all : List Value) (a0 : ℕ) (m0 : Parts) (rest : List Value) (a : ℕ) (m : Parts) (values : List Operand) : Type 0 where
  pub made : after (made_by (words_in_order all u) a0) m0 ≡ after (made_by (words_in_order rest u) a) m
  pub end : end_of (words_in_order all u) a0 m0 ≡ end_of (words_in_order rest u) a m
  pub gives : gives_of (words_in_order all u) a0 m0 ≡ values ++ gives_of (words_in_order rest u) a m

pub left_turn : (u : Around) (all : List Value) (a0 : ℕ) (m0 : Parts) (list : List TypedExpr) (i : ℕ) (x : TypedExpr) (a b : ℕ) (m m' : Parts) (v : Operand) (values values' : List Operand) → i < length list → x ≡ get_or list i x
    → m' ≡ after (made_by ((value_of x).pure u) a) m → b ≡ end_of ((value_of x).pure u) a m → v ≡ gives_of ((value_of x).pure u) a m → values' ≡ values ++ v ∷ []
    → Left u all a0 m0 (map value_of (drop i list)) a m values → Left u all a0 m0 (map value_of (drop (i + 1) list)) b m' values'
left_turn u all a0 m0 list i x a b m m' v values values' within is e1 e2 e3 e4 l =
    let here : drop i list ≡ x ∷ drop (i + 1) list = subst (λ y. drop i list ≡ y ∷ drop (i + 1) list) (sym is) (drop_more list i x within) in
    let ys = map value_of (drop (i + 1) list) in
    let all' : map value_of (drop i list) ≡ value_of x ∷ ys = ap (map value_of) here in
    record {
      made = l.made ∙ ap (λ zs. after (made_by (words_in_order zs u) a) m) all' ∙ more_made u a m (value_of x) ys
          ∙ ap (λ b'. after (made_by (words_in_order ys u) b') (after (made_by ((value_of x).pure u) a) m)) (sym e2) ∙ ap (λ k. after (made_by (words_in_order ys u) b) k) (sym e1);
      end = l.end ∙ ap (λ zs. end_of (words_in_order zs u) a m) all' ∙ more_end u a m (value_of x) ys
          ∙ ap (λ b'. end_of (words_in_order ys u) b' (after (made_by ((value_of x).pure u) a) m)) (sym e2) ∙ ap (λ k. end_of (words_in_order ys u) b k) (sym e1);
      gives =
          l.gives ∙ ap (λ zs. values ++ gives_of (words_in_order zs u) a m) all' ∙ ap (λ zs. values ++ zs) (more_gives u a m (value_of x) ys)
          ∙ sym (append_assoc values (gives_of ((value_of x).pure u) a m ∷ []) _) ∙ ap (λ w. (values ++ w ∷ []) ++ gives_of (words_in_order ys u) (end_of ((value_of x).pure u) a m) (after (made_by ((value_of x).pure u) a) m)) (sym e3)
          ∙ ap (λ ws. ws ++ gives_of (words_in_order ys u) (end_of ((value_of x).pure u) a m) (after (made_by ((value_of x).pure u) a) m)) (sym e4)
          ∙ ap (λ b'. values' ++ gives_of (words_in_order ys u) b' (after (made_by ((value_of x).pure u) a) m)) (sym e2) ∙ ap (λ k. values' ++ gives_of (words_in_order ys u) b k) (sym e1);
    }

-- what is told of too many edges within a turn holds of the whole
pub left_stop : (u : Around) (all : List Value) (a0 : ℕ) (m0 : Parts) (list : List TypedExpr) (i : ℕ) (x : TypedExpr) (a : ℕ) (m : Parts) (values : List Operand) (stop : Stop) → i < length list → x ≡ get_or list i x
    → Left u all a0 m0 (map value_of (drop i list)) a m values → IsStop stop (after (made_by ((value_of x).pure u) a) m) → IsStop stop (after (made_by (words_in_order all u) a0) m0)
left_stop u all a0 m0 list i x a m values stop within is l h =
    let here : drop i list ≡ x ∷ drop (i + 1) list = subst (λ y. drop i list ≡ y ∷ drop (i + 1) list) (sym is) (drop_more list i x within) in
    let ys = map value_of (drop (i + 1) list) in
    let all' : map value_of (drop i list) ≡ value_of x ∷ ys = ap (map value_of) here in
    let e : after (made_by (words_in_order all u) a0) m0 ≡ after (made_by (words_in_order ys u) (end_of ((value_of x).pure u) a m)) (after (made_by ((value_of x).pure u) a) m) = l.made ∙ ap (λ zs. after (made_by (words_in_order zs u) a) m) all' ∙ more_made u a m (value_of x) ys in
    subst (λ p. IsStop stop p) (sym e) (stop_grows stop _ _ h)

module _ (u : Around) (all : List Value) (a0 : ℕ) (m0 : Parts) (list : List TypedExpr) (i a : ℕ) (m : Parts) (values : List Operand) (end : length list ≤ i) (l : Left u all a0 m0 (map value_of (drop i list)) a m values) where
  none_left : map value_of (drop i list) ≡ []
  none_left = ap (map value_of) (drop_all i list end)

  pub left_made : m ≡ after (made_by (words_in_order all u) a0) m0
  left_made = sym (l.made ∙ ap (λ xs. after (made_by (words_in_order xs u) a) m) none_left ∙ none_made u a m)

  pub left_end : a ≡ end_of (words_in_order all u) a0 m0
  left_end = sym (l.end ∙ ap (λ xs. end_of (words_in_order xs u) a m) none_left ∙ none_end u a m)

  pub left_gives : values ≡ gives_of (words_in_order all u) a0 m0
  left_gives = sym (l.gives ∙ ap (λ xs. values ++ gives_of (words_in_order xs u) a m) none_left ∙ ap (λ vs. values ++ vs) (none_gives u a m) ∙ append-nil values)

-- ---- conditions

module _ (u : Around) (a t f : ℕ) (m : Parts) (x : TypedExpr) where
  pub not_law : (y : TypedExpr) → x.form ≡ forms.Unary unary.Not y → after ((value_of x).cond u a t f) m ≡ after ((value_of y).cond u a f t) m
  not_law y e = ap (λ (c : Around → ℕ → ℕ → ℕ → Builder). after (c u a t f) m) (not_is x y e)

  pub not_result : (op : UnaryOp) (y : TypedExpr) → op ≡ unary.Not → x.form ≡ forms.Unary op y → after ((value_of x).cond u a t f) m ≡ after ((value_of y).cond u a f t) m
  not_result op y h e = not_law y (e ∙ ap (λ o. forms.Unary o y) h)

  pub both_law : (y z : TypedExpr) (cell : ℕ) → x.form ≡ forms.Both y z cell → after ((value_of x).cond u a t f) m ≡ after (both_cond (value_of y) (value_of z) u a t f) m
  both_law y z cell e = ap (λ (c : Around → ℕ → ℕ → ℕ → Builder). after (c u a t f) m) (both_cond_is x y z cell e)

  pub either_law : (y z : TypedExpr) (cell : ℕ) → x.form ≡ forms.Either y z cell → after ((value_of x).cond u a t f) m ≡ after (either_cond (value_of y) (value_of z) u a t f) m
  either_law y z cell e = ap (λ (c : Around → ℕ → ℕ → ℕ → Builder). after (c u a t f) m) (either_cond_is x y z cell e)

  pub other_law : splits x.form ≡ false → after ((value_of x).cond u a t f) m ≡ after (other_cond x.span (value_of x).pure u a t f) m
  other_law e = ap (λ (c : Around → ℕ → ℕ → ℕ → Builder). after (c u a t f) m) (other_is x e)

  pub neg_law : (op : UnaryOp) (y : TypedExpr) → op ≡ unary.Neg → x.form ≡ forms.Unary op y → after ((value_of x).cond u a t f) m ≡ after (other_cond x.span (value_of x).pure u a t f) m
  neg_law op y h e = other_law (ap splits (e ∙ ap (λ o. forms.Unary o y) h) ∙ k)
    where
      k : splits (forms.Unary unary.Neg y) ≡ false
      k = search (rules, the_lemmas)

  pub complement_law : (op : UnaryOp) (y : TypedExpr) → op ≡ unary.Complement → x.form ≡ forms.Unary op y → after ((value_of x).cond u a t f) m ≡ after (other_cond x.span (value_of x).pure u a t f) m
  complement_law op y h e = other_law (ap splits (e ∙ ap (λ o. forms.Unary o y) h) ∙ k)
    where
      k : splits (forms.Unary unary.Complement y) ≡ false
      k = search (rules, the_lemmas)

  pub plain_law : after (other_cond x.span (value_of x).pure u a t f) m
      ≡ (let p = (value_of x).pure u in let v = gives_of p a m in after (guards u x.span v.value v.reads (end_of p a m) t f) (after (made_by p a) m))
  plain_law = made_ending ((value_of x).pure u) (λ v n. guards u x.span v.value v.reads n t f) a m

pub ruleset plain_laws = (plain_law, stop_grows)

pub ruleset condition_laws = (not_result, both_law, either_law, other_law, neg_law, complement_law, stop_grows)

module _ (x y : TypedExpr) (u : Around) (a t f : ℕ) (m : Parts) where
  pub both_row_law : after (both_cond (value_of x) (value_of y) u a t f) m ≡ (let n = length m.nodes in after ((value_of y).cond u n t f) (after ((value_of x).cond u a n f) (after (node (node_at u y.span)) m)))
  both_row_law = after_numbered (λ n e k. node (node_at u (value_of y).span) ∷ (value_of x).cond u a n f ∷ (value_of y).cond u n t f ∷ []) m
      ∙ ap (λ span. after ((value_of y).cond u (length m.nodes) t f) (after ((value_of x).cond u a (length m.nodes) f) (after (node (node_at u span)) m))) (own_span y)

  pub either_row_law : after (either_cond (value_of x) (value_of y) u a t f) m ≡ (let n = length m.nodes in after ((value_of y).cond u n t f) (after ((value_of x).cond u a t n) (after (node (node_at u y.span)) m)))
  either_row_law = after_numbered (λ n e k. node (node_at u (value_of y).span) ∷ (value_of x).cond u a t n ∷ (value_of y).cond u n t f ∷ []) m
      ∙ ap (λ span. after ((value_of y).cond u (length m.nodes) t f) (after ((value_of x).cond u a t (length m.nodes)) (after (node (node_at u span)) m))) (own_span y)

pub ruleset pair_laws = (both_row_law, either_row_law, stop_grows)
