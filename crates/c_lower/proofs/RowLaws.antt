-- Rows of statements that hold no statements, as one addition to the parts after another.
use Rattle.std.proofs.Common.{◌≡◌, ◌<◌, ◌≤◌, ℕ, ◌+◌, List, [], ◌∷◌, ◌++◌, map, length, get_or, drop, Option, Some, None, refl, sym, ap, subst, ◌∙◌}
use Rattle.std.specs.Prelude.{slice_get, MatchOption}
use Rattle.std.specs.Option.{option_map}
use Rattle.std.proofs.lemmas.List.{drop_all}
use Rattle.c_values.specs.Kind.{int}
use Rattle.c_values.specs.declared.kinds.Kind.{Kind}
use Rattle.c_values.specs.declared.operators.BinaryOp.{BinaryOp}
use Rattle.cfa.specs.declared.expr.CellPlace.TheVariants as place
use Rattle.cfa.specs.declared.expr.Expr.{Expr}
use Rattle.cfa.specs.declared.expr.Expr.TheVariants as expr
use Rattle.cfa.specs.declared.parts.Operation.{Operation}
use Rattle.cfa.specs.declared.parts.Operation.TheVariants.{Assign, Assert, Assume}
use Rattle.cfa.specs.declared.parts.Variable.{Variable}
use Rattle.c_typed_trees.specs.declared.expression.TypedCall.{TypedCall, out-TypedCall}
use Rattle.c_typed_trees.specs.declared.expression.TypedExpr.{TypedExpr}
use Rattle.c_typed_trees.specs.declared.expression.TypedPlace.{TypedPlace, out-TypedPlace}
use Rattle.c_lower_rules.specs.declared.graph_of.parts.Around.{Around}
use Rattle.c_lower_rules.specs.declared.graph_of.parts.Operand.{Operand}
use Rattle.c_lower_rules.specs.declared.graph_of.parts.Parts.{Parts}
use Rattle.c_lower_rules.specs.declared.graph_of.parts.Target.{Target}
use Rattle.c_lower_rules.specs.graph_of.Builder.{Builder, Flow, after, made_by, give, ◌then◌, ending}
use Rattle.c_lower_rules.specs.graph_of.Edges.{node_here, step, skip}
use Rattle.c_lower_rules.specs.graph_of.Expressions.{Calling, value_of, spot_of, calling_of, spot_cell, cell_of, element_of, words_in_order, call_edges}
use Rattle.c_lower_rules.specs.graph_of.Statements.{return_row, test_row, assign_row, combined, reads_in_place, local_row, element_row, elements_row, clear, array_row, call_row}
use Rattle.c_lower_rules.proofs.graph_of.After.{after_nil, after_numbered}
use Rattle.c_lower.specs.Flows.{end_of, gives_of}
use Rattle.c_lower.specs.Stopping.{IsStop}
use Rattle.c_lower.specs.declared.stop.Stop.{Stop}
use Rattle.c_lower.proofs.FlowLaws.{made_then, end_then, gives_then, made_gives, end_gives, gives_gives, made_ending}
use Rattle.c_lower.proofs.Lists.{none_behind, some_behind, here_behind}
use Rattle.c_lower.proofs.Stops.{stop_grows}
use Rattle.c_lower.proofs.ValueLaws.{own_variable, calling_is}

module _ (u : Around) (a z : ℕ) (m : Parts) where
  -- an edge from where a value is known
  valued_law : (x : TypedExpr) (f : Operand → ℕ → Builder) → after (ending ((value_of x).pure u) f a) m
      ≡ (let p = (value_of x).pure u in after (f (gives_of p a m) (end_of p a m)) (after (made_by p a) m))
  valued_law x f = made_ending ((value_of x).pure u) f a m

  pub return_none_law : (o : Option TypedExpr) → o ≡ None → after (return_row (option_map value_of o) u a z) m ≡ after (skip u a u.exit) m
  return_none_law o e = ap (λ (q : Option TypedExpr). after (return_row (option_map value_of q) u a z) m) e

  pub return_law : (o : Option TypedExpr) (x : TypedExpr) → o ≡ Some x → after (return_row (option_map value_of o) u a z) m
      ≡ (let p = (value_of x).pure u in let v = gives_of p a m in after (step u (Assign (place.Local 0) v.value) [] v.reads (end_of p a m) u.exit) (after (made_by p a) m))
  return_law o x e = ap (λ (q : Option TypedExpr). after (return_row (option_map value_of q) u a z) m) e ∙ valued_law x (λ v b. step u (Assign (place.Local 0) v.value) [] v.reads b u.exit)

  pub return_stop : (o : Option TypedExpr) (x : TypedExpr) (stop : Stop) → o ≡ Some x → IsStop stop (after (made_by ((value_of x).pure u) a) m) → IsStop stop (after (return_row (option_map value_of o) u a z) m)
  return_stop o x stop e h = subst (λ p. IsStop stop p) (sym (return_law o x e)) (stop_grows stop _ _ h)

  pub test_law : (op : Expr → Operation) (x : TypedExpr) → after (test_row op (value_of x) u a z) m
      ≡ (let p = (value_of x).pure u in let v = gives_of p a m in after (step u (op v.value) [] v.reads (end_of p a m) z) (after (made_by p a) m))
  test_law op x = valued_law x (λ v b. step u (op v.value) [] v.reads b z)

  pub local_none_law : (v : Variable) (o : Option TypedExpr) → o ≡ None → after (local_row v (option_map value_of o) u a z) m ≡ after (step u (Assign (cell_of v.place) (expr.Constant 0 v.kind)) (v.name ∷ []) [] a z) m
  local_none_law v o e = ap (λ (q : Option TypedExpr). after (local_row v (option_map value_of q) u a z) m) e

  pub local_law : (v : Variable) (o : Option TypedExpr) (x : TypedExpr) → o ≡ Some x → after (local_row v (option_map value_of o) u a z) m
      ≡ (let p = (value_of x).pure u in let w = gives_of p a m in after (step u (Assign (cell_of v.place) w.value) (v.name ∷ []) w.reads (end_of p a m) z) (after (made_by p a) m))
  local_law v o x e = ap (λ (q : Option TypedExpr). after (local_row v (option_map value_of q) u a z) m) e ∙ valued_law x (λ w b. step u (Assign (cell_of v.place) w.value) (v.name ∷ []) w.reads b z)

  pub local_stop : (v : Variable) (o : Option TypedExpr) (x : TypedExpr) (stop : Stop) → o ≡ Some x → IsStop stop (after (made_by ((value_of x).pure u) a) m) → IsStop stop (after (local_row v (option_map value_of o) u a z) m)
  local_stop v o x stop e h = subst (λ p. IsStop stop p) (sym (local_law v o x e)) (stop_grows stop _ _ h)

  pub element_law : (v : Variable) (i : ℕ) (x : TypedExpr) → after (element_row v i (value_of x) u a z) m
      ≡ (let p = (value_of x).pure u in let w = gives_of p a m in after (step u (Assign (element_of v (expr.Constant i int)) w.value) (v.name ∷ []) w.reads (end_of p a m) z) (after (made_by p a) m))
  element_law v i x = valued_law x (λ w b. step u (Assign (element_of v (expr.Constant i int)) w.value) (v.name ∷ []) w.reads b z)

  pub call_law : (c : TypedCall) → after (call_row (calling_of c) u a z) m
      ≡ (let d = out-TypedCall c in let ws = words_in_order (map value_of d.words) u in after (call_edges d.callee d.arrays u (gives_of ws a m) None (end_of ws a m) z) (after (made_by ws a) m))
  call_law c = ap (λ (k : Calling). after (call_row k u a z) m) (calling_is c)
      ∙ made_ending (words_in_order (map value_of (out-TypedCall c).words) u) (λ ws b. call_edges (out-TypedCall c).callee (out-TypedCall c).arrays u ws None b z) a m

  -- the edge of an assignment, from what is known of its place and its value
  abbrev assigning : TypedPlace → Option (BinaryOp × Kind) → Target → Operand → ℕ → Builder
  assigning p op c v b = step u (Assign c.place (combined (out-TypedPlace p).variable.kind op c.place v.value)) ((out-TypedPlace p).variable.name ∷ [])
      (reads_in_place (out-TypedPlace p).variable op c.reads ++ v.reads) b z

  pub assign_law : (p : TypedPlace) (op : Option (BinaryOp × Kind)) (x : TypedExpr) → after (assign_row (spot_of p) op (value_of x) u a z) m
      ≡ (let s = spot_cell (spot_of p) u in
      let q = (value_of x).pure u in
      let c = gives_of s a m in
      let b = end_of s a m in
      let m1 = after (made_by s a) m in
      let v = gives_of q b m1 in
      let w = (out-TypedPlace p).variable in
      after (step u (Assign c.place (combined w.kind op c.place v.value)) (w.name ∷ []) (reads_in_place w op c.reads ++ v.reads) (end_of q b m1) z) (after (made_by q b) m1))
  assign_law p op x =
      let s = spot_cell (spot_of p) u in
      let q = (value_of x).pure u in
      let c = gives_of s a m in
      let b = end_of s a m in
      let m1 = after (made_by s a) m in
      let f : Target → Flow (Target × Operand) = λ c'. q then λ v. give (c', v) in
      let g : Operand → Target × Operand = λ v. (c, v) in
      ap (λ (w : Variable). after (ending (s then f) (λ (cv : Target × Operand) b'. step u (Assign (cv.0).place (combined w.kind op (cv.0).place (cv.1).value)) (w.name ∷ []) (reads_in_place w op (cv.0).reads ++ (cv.1).reads) b' z) a) m) (own_variable p)
      ∙ made_ending (s then f) (λ (cv : Target × Operand) b'. assigning p op cv.0 cv.1 b') a m
      ∙ ap (λ (cv : Target × Operand). after (assigning p op cv.0 cv.1 (end_of (s then f) a m)) (after (made_by (s then f) a) m)) (gives_then s f a m ∙ gives_gives q g b m1)
      ∙ ap (λ k. after (assigning p op c (gives_of q b m1) k) (after (made_by (s then f) a) m)) (end_then s f a m ∙ end_gives q g b m1)
      ∙ ap (λ k. after (assigning p op c (gives_of q b m1) (end_of q b m1)) k) (made_then s f a m ∙ made_gives q g b m1)

module _ (u : Around) (a z : ℕ) (m : Parts) where
  pub assert_law : (x : TypedExpr) → after (test_row Assert (value_of x) u a z) m
      ≡ (let p = (value_of x).pure u in let v = gives_of p a m in after (step u (Assert v.value) [] v.reads (end_of p a m) z) (after (made_by p a) m))
  assert_law x = test_law u a z m Assert x

  pub assume_law : (x : TypedExpr) → after (test_row Assume (value_of x) u a z) m
      ≡ (let p = (value_of x).pure u in let v = gives_of p a m in after (step u (Assume v.value) [] v.reads (end_of p a m) z) (after (made_by p a) m))
  assume_law x = test_law u a z m Assume x

pub ruleset return_laws = (return_none_law, return_law, return_stop, stop_grows)

pub ruleset local_laws = (local_none_law, local_law, local_stop, stop_grows)

pub ruleset element_laws = (element_law, stop_grows)

pub ruleset call_laws = (call_law, stop_grows)

pub ruleset assign_laws = (assign_law, stop_grows)

pub ruleset assert_laws = (assert_law, stop_grows)

pub ruleset assume_laws = (assume_law, stop_grows)

-- ---- arrays with a list of values

module _ (v : Variable) (u : Around) (a z : ℕ) (m : Parts) where
  pub empty_array_law : (list : List TypedExpr) → list ≡ [] → after (array_row v (map value_of list) u a z) m ≡ after (clear v u a z) m
  empty_array_law list e = ap (λ (xs : List TypedExpr). after (array_row v (map value_of xs) u a z) m) e

  pub array_law : (list : List TypedExpr) → (list ≡ [] → ⊥) → after (array_row v (map value_of list) u a z) m
      ≡ after (elements_row v 0 (map value_of list) u (length m.nodes) z) (after (clear v u a (length m.nodes)) (after (node_here u) m))
  array_law [] h = absurd (h refl)
  array_law (x ∷ xs) h = after_numbered (λ n e k. node_here u ∷ clear v u a n ∷ elements_row v 0 (map value_of (x ∷ xs)) u n z ∷ []) m

pub ruleset array_laws = (empty_array_law, array_law, stop_grows)

module _ (v : Variable) (u : Around) (z : ℕ) (j : ℕ) (x : TypedExpr) (rest : List TypedExpr) (here to : ℕ) (m m1 : Parts) where
  last_element : rest ≡ [] → (to ≡ z) × (m1 ≡ m) → after (elements_row v j (map value_of (x ∷ rest)) u here z) m ≡ after (elements_row v (j + 1) (map value_of rest) u to z) (after (element_row v j (value_of x) u here to) m1)
  last_element e h =
      ap (λ (ys : List TypedExpr). after (elements_row v j (map value_of (x ∷ ys)) u here z) m) e
      ∙ (λ i. after (element_row v j (value_of x) u here (sym h.0 i)) (sym h.1 i))
      ∙ sym (after_nil (after (element_row v j (value_of x) u here to) m1))
      ∙ ap (λ (ys : List TypedExpr). after (elements_row v (j + 1) (map value_of ys) u to z) (after (element_row v j (value_of x) u here to) m1)) (sym e)

  more_elements : (y : TypedExpr) (ys : List TypedExpr) → rest ≡ y ∷ ys → (to ≡ length m.nodes) × (m1 ≡ after (node_here u) m)
      → after (elements_row v j (map value_of (x ∷ rest)) u here z) m ≡ after (elements_row v (j + 1) (map value_of rest) u to z) (after (element_row v j (value_of x) u here to) m1)
  more_elements y ys e h =
      ap (λ (l : List TypedExpr). after (elements_row v j (map value_of (x ∷ l)) u here z) m) e
      ∙ after_numbered (λ n _ k. node_here u ∷ element_row v j (value_of x) u here n ∷ elements_row v (j + 1) (map value_of (y ∷ ys)) u n z ∷ []) m
      ∙ (λ i. after (elements_row v (j + 1) (map value_of (sym e i)) u (sym h.0 i) z) (after (element_row v j (value_of x) u here (sym h.0 i)) (sym h.1 i)))

module _ (v : Variable) (u : Around) (z : ℕ) (list : List TypedExpr) (i : ℕ) (x : TypedExpr) (here to : ℕ) (m m1 : Parts) (within : i < length list) (is : x ≡ get_or list i x)
    (next : MatchOption (slice_get list (i + 1)) ((to ≡ z) × (m1 ≡ m)) (λ _. (to ≡ length m.nodes) × (m1 ≡ after (node_here u) m))) where
  -- a turn, from what its calls give
  element_turn : after (elements_row v i (map value_of (drop i list)) u here z) m ≡ after (elements_row v (i + 1) (map value_of (drop (i + 1) list)) u to z) (after (element_row v i (value_of x) u here to) m1)
  element_turn =
      ap (λ (l : List TypedExpr). after (elements_row v i (map value_of l) u here z) m) (here_behind list i x within is)
      ∙ by (slice_get list (i + 1)) refl next
    where
      by : (o : Option TypedExpr) → slice_get list (i + 1) ≡ o → MatchOption o ((to ≡ z) × (m1 ≡ m)) (λ _. (to ≡ length m.nodes) × (m1 ≡ after (node_here u) m))
          → after (elements_row v i (map value_of (x ∷ drop (i + 1) list)) u here z) m ≡ after (elements_row v (i + 1) (map value_of (drop (i + 1) list)) u to z) (after (element_row v i (value_of x) u here to) m1)
      by None e h = last_element v u z i x (drop (i + 1) list) here to m m1 (none_behind list (i + 1) e) h
      by (Some y) e h = more_elements v u z i x (drop (i + 1) list) here to m m1 y (drop (i + 1 + 1) list) (some_behind list (i + 1) y e) h

  pub elements_go_on : (m2 : Parts) → m2 ≡ after (element_row v i (value_of x) u here to) m1 → after (elements_row v i (map value_of (drop i list)) u here z) m ≡ after (elements_row v (i + 1) (map value_of (drop (i + 1) list)) u to z) m2
  elements_go_on m2 e = element_turn ∙ ap (λ k. after (elements_row v (i + 1) (map value_of (drop (i + 1) list)) u to z) k) (sym e)

  pub elements_stop : (whole : Parts) (stop : Stop) → whole ≡ after (elements_row v i (map value_of (drop i list)) u here z) m → IsStop stop (after (element_row v i (value_of x) u here to) m1) → IsStop stop whole
  elements_stop whole stop e h = subst (λ p. IsStop stop p) (sym (e ∙ element_turn)) (stop_grows stop _ _ h)

pub elements_end : (v : Variable) (u : Around) (z : ℕ) (list : List TypedExpr) (i : ℕ) (here : ℕ) (m : Parts) → length list ≤ i → after (elements_row v i (map value_of (drop i list)) u here z) m ≡ m
elements_end v u z list i here m h = ap (λ (l : List TypedExpr). after (elements_row v i (map value_of l) u here z) m) (drop_all i list h) ∙ after_nil m
