-- What statements make meets the rules.
use Rattle.std.proofs.Common.{◌≡◌, ℕ, ◌+◌, ◌^◌, ◌<◌, ◌≤◌, Bool, true, List, [], ◌∷◌, ◌++◌, length, Option, Some, None, refl, sym, ap, subst, ◌∙◌, arith}
use Rattle.std.specs.Prelude.{IsTrue, ◌&&◌, nat_lt, slice_get, if◌then◌else◌, pos, ◌-◌, ◌-ℤ◌}
use Rattle.std.specs.List.{AllByRecursion, list_all}
use Rattle.std.specs.Option.{is_some}
use Rattle.std.proofs.lemmas.Bool.{lt-ltb, le-leb}
use Rattle.std.proofs.lemmas.List.Folds.{list_all-append}
use Rattle.fq_core.specs.declared.span.Span.{Span}
use Rattle.fq_core.specs.declared.statement_kind.StatementKind.{StatementKind}
use Rattle.fq_core.specs.declared.statement_kind.StatementKind.TheVariants as kinds
use Rattle.c_values.specs.Kind.{IsInRange, is_kind, is_value, int, number_of, least, greatest}
use Rattle.c_values.specs.declared.kinds.Kind.{Kind}
use Rattle.c_values.specs.declared.operators.BinaryOp.{BinaryOp}
use Rattle.c_values.proofs.Fitting.{and_left, and_right, and_both, IsValue-zero, le_is, value_from_parts}
use Rattle.cfa.specs.declared.expr.CellPlace.{CellPlace}
use Rattle.cfa.specs.declared.expr.CellPlace.TheVariants as place
use Rattle.cfa.specs.declared.expr.Expr.{Expr}
use Rattle.cfa.specs.declared.expr.Expr.TheVariants as expr
use Rattle.cfa.specs.declared.parts.Operation.{Operation}
use Rattle.cfa.specs.declared.parts.Operation.TheVariants.{Assign}
use Rattle.cfa.specs.declared.parts.Variable.{Variable}
use Rattle.cfa.specs.declared.parts.VariablePlace.{VariablePlace}
use Rattle.cfa.specs.declared.parts.VariablePlace.TheVariants as variable
use Rattle.cfa.specs.Graph.{variable_fits, global_fits, scope_fits}
use Rattle.cfa.specs.Rules.{Room, checked_kind, place_fits, expr_fits}
use Rattle.c_typed_trees.specs.Fitting.{is_variable, is_integer, is_array, operands_meet}
use Rattle.c_lower_rules.specs.declared.graph_of.parts.Around.{Around}
use Rattle.c_lower_rules.specs.declared.graph_of.parts.Operand.{Operand}
use Rattle.c_lower_rules.specs.declared.graph_of.parts.Target.{Target}
use Rattle.c_lower_rules.specs.graph_of.Builder.{numbered, give, ◌then◌}
use Rattle.c_lower_rules.specs.graph_of.Edges.{Lowering, stated, inside, within, seeing, sees_behind, scope_behind, node_here, label_edge, skip, step}
use Rattle.c_lower_rules.specs.graph_of.Expressions.{Value, Spot, Calling, cell_of, element_of, spot_cell}
use Rattle.c_lower_rules.specs.graph_of.Statements.{Piece, sequence, block_row, break_row, continue_row, return_row, label_row, test_row, combined, reads_in_place, assign_row, local_row, element_row, elements_row, clear, array_row, call_row}
use Rattle.c_lower_rules.proofs.graph_of.Fits.{◌&◌}
use Rattle.c_lower_rules.proofs.graph_rules.Sits.{Sits, all_sit, Meets, all_meet, meet_nil}
use Rattle.c_lower_rules.proofs.graph_rules.Settings.{Setting, AtNode, Within, IsPlain, at_node, node_meets, edge_meets, plain_skip, plain_assign, plain_clear}
use Rattle.c_lower_rules.proofs.graph_rules.Operands.{constant_checked, local_fits, integer_variable, integer_cell, array_place, element_place, variable_kind, combined_checked}
use Rattle.c_lower_rules.proofs.graph_rules.SitsFlows.{OperandFits, TargetFits, IsValue, then_is, then_gives, ending_is, spot_index_is, SpotFits, CallFits, call_ends}
use Rattle.c_lower_rules.proofs.graph_rules.SitsValues.{operand_fits}

abbrev pub IsLowering : Setting → Lowering → Type 0
IsLowering c s = (u : Around) (a z n e k : ℕ) → Within c u → AtNode c a → AtNode c z → Sits c.graph (s u a z n e k) n e k → Meets c.graph (s u a z n e k) e

-- a statement whose token lies in a file, and whose variables fit
pub record IsPiece (c : Setting) (p : Piece) : Type 0 where
  pub span : p.span.file < length c.graph.files
  pub declares : IsTrue (list_all (is_variable c.names) p.declares)
  pub make : IsLowering c p.make

-- an expression of some kind
abbrev pub HasValue : Setting → Value → Type 0
HasValue c x = (kind : Kind) × IsValue c x kind

abbrev pub OptionHas : Setting → Option Value → Type 0
OptionHas c None = Unit {0}
OptionHas c (Some x) = HasValue c x

module _ (c : Setting) where
  -- ---- within

  pub as_stated : (u : Around) (span : Span) (kind : StatementKind) → span.file < length c.graph.files → Within c u → Within c (stated u span kind)
  as_stated u span kind file w = record { function = w.function; file = file; scope = w.scope; own = w.own; sees = w.sees; exit = w.exit; on_break = w.on_break; on_continue = w.on_continue }

  pub as_inside : (u : Around) (b l : ℕ) → AtNode c b → AtNode c l → Within c u → Within c (inside u b l)
  as_inside u b l hb hl w = record { function = w.function; file = w.file; scope = w.scope; own = w.own; sees = w.sees; exit = w.exit; on_break = hb; on_continue = hl }

  pub as_within : (u : Around) (b : ℕ) → AtNode c b → Within c u → Within c (within u b)
  as_within u b hb w = record { function = w.function; file = w.file; scope = w.scope; own = w.own; sees = w.sees; exit = w.exit; on_break = hb; on_continue = w.on_continue }

  -- ---- scopes

  globals_same : c.names.room.globals ≡ length c.graph.globals
  globals_same = ap (λ (r : Room). r.globals) c.room

  global_too : (length' : Option ℕ) (p : VariablePlace) → IsTrue (variable_fits c.names.room length' p) → IsTrue (global_fits (length c.graph.globals) length' p)
  global_too length' (variable.Global first) h = subst (λ n. IsTrue (global_fits n length' (variable.Global first))) globals_same h
  global_too length' (variable.Local first) h = refl
  global_too length' (variable.Lent parameter) h = refl

  pub variables_own : (vs : List Variable) → IsTrue (list_all (is_variable c.names) vs) → IsTrue (list_all (λ (v : Variable). is_kind v.kind && global_fits (length c.graph.globals) v.length v.place) vs)
  variables_own [] h = refl
  variables_own (v ∷ vs) h =
      let own = and_left (is_variable c.names v) (list_all (is_variable c.names) vs) h in
      and_both (is_kind v.kind && global_fits (length c.graph.globals) v.length v.place) _
      (and_both (is_kind v.kind) (global_fits (length c.graph.globals) v.length v.place) (and_left (is_kind v.kind) (variable_fits c.names.room v.length v.place) own) (global_too v.length v.place (and_right (is_kind v.kind) (variable_fits c.names.room v.length v.place) own)))
      (variables_own vs (and_right (is_variable c.names v) (list_all (is_variable c.names) vs) h))

  pub variables_seen : (vs : List Variable) → IsTrue (list_all (is_variable c.names) vs) → IsTrue (list_all (λ (v : Variable). variable_fits c.names.room v.length v.place) vs)
  variables_seen [] h = refl
  variables_seen (v ∷ vs) h =
      and_both (variable_fits c.names.room v.length v.place) _ (and_right (is_kind v.kind) (variable_fits c.names.room v.length v.place) (and_left (is_variable c.names v) (list_all (is_variable c.names) vs) h))
      (variables_seen vs (and_right (is_variable c.names v) (list_all (is_variable c.names) vs) h))

  all_behind : (test : Variable → Bool) (vs ws : List Variable) → IsTrue (list_all test vs) → IsTrue (list_all test ws) → IsTrue (list_all test (vs ++ ws))
  all_behind test vs ws h k = list_all-append test vs ws ∙ and_both (list_all test vs) (list_all test ws) h k

  own_behind : (u : Around) (vs : List Variable) → Within c u → IsTrue (list_all (is_variable c.names) vs) → IsTrue (scope_fits (length c.graph.globals) (sees_behind u vs))
  own_behind u vs w h = all_behind _ vs u.sees.variables (variables_own vs h) w.own

  pub scope_meets : (u : Around) (vs : List Variable) (n e k : ℕ) → Within c u → IsTrue (list_all (is_variable c.names) vs) → Meets c.graph (scope_behind u vs n e k) e
  scope_meets u [] n e k w h = meet_nil c.graph n e k
  scope_meets u (v ∷ vs) n e k w h = record { nodes = tt; edges = tt; scopes = (record { fits = own_behind u (v ∷ vs) w h }, tt) }

  pub as_seeing : (u : Around) (vs : List Variable) (n e k : ℕ) → IsTrue (list_all (is_variable c.names) vs) → Within c u → Sits c.graph (scope_behind u vs n e (k + 0)) n e (k + 0) → Within c (seeing u vs k)
  as_seeing u [] n e k h w s = record { function = w.function; file = w.file; scope = w.scope; own = w.own; sees = w.sees; exit = w.exit; on_break = w.on_break; on_continue = w.on_continue }
  as_seeing u (v ∷ vs) n e k h w s =
      let same : k + 0 ≡ k = omega arith in
      record {
        function = w.function;
        file = w.file;
        scope = subst (λ m. slice_get c.graph.scopes m ≡ Some (sees_behind u (v ∷ vs))) same s.scopes.0;
        own = own_behind u (v ∷ vs) w h;
        sees = all_behind _ (v ∷ vs) u.sees.variables (variables_seen (v ∷ vs) h) w.sees;
        exit = w.exit;
        on_break = w.on_break;
        on_continue = w.on_continue;
      }

  -- ---- one edge

  pub skip_is : IsLowering c skip
  skip_is u a z n e k w at to s = edge_meets c w.function w.file at to (plain_skip c)

  pub break_is : IsLowering c break_row
  break_is u a z n e k w at to s = edge_meets c w.function w.file at w.on_break (plain_skip c)

  pub continue_is : IsLowering c continue_row
  continue_is u a z n e k w at to s = edge_meets c w.function w.file at w.on_continue (plain_skip c)

  pub clear_is : (x : Variable) → IsTrue (is_array c.names x) → IsLowering c (clear x)
  clear_is x h u a z n e k w at to s = edge_meets c w.function w.file at to (plain_clear c _ _ (array_place c.names x h))

  -- ---- a flow, and one edge

  pub plain_put : (p : CellPlace) (kind : Kind) (v : Operand) → IsTrue (place_fits c.names.room p) → OperandFits c kind v → IsPlain c (Assign p v.value)
  plain_put p kind v h fit = plain_assign c p v.value (and_both (place_fits c.names.room p) (expr_fits c.names.room v.value) h (operand_fits c v fit))

  pub return_is : (x : Option Value) → OptionHas c x → IsLowering c (return_row x)
  return_is None h u a z n e k w at to s = edge_meets c w.function w.file at w.exit (plain_skip c)
  return_is (Some x) h u a z n e k w at to s =
      ending_is c (OperandFits c h.0) (x.pure u) (λ v b. step u (Assign (place.Local 0) v.value) [] v.reads b u.exit) (h.1.pure u w)
      (λ v m p q r fit from sits. edge_meets c w.function w.file from w.exit (plain_put (place.Local 0) h.0 v (local_fits c.names.room 0 c.some_cell) fit)) a n e k at s

  pub test_is : (op : Expr → Operation) (x : Value) → ((v : Expr) → IsTrue (expr_fits c.names.room v) → IsPlain c (op v)) → HasValue c x → IsLowering c (test_row op x)
  test_is op x plain h u a z n e k w at to s =
      ending_is c (OperandFits c h.0) (x.pure u) (λ v b. step u (op v.value) [] v.reads b z) (h.1.pure u w)
      (λ v m p q r fit from sits. edge_meets c w.function w.file from to (plain v.value (operand_fits c v fit))) a n e k at s

  -- an operator is done in a kind that the right operand fits
  abbrev pub OperatorFits : Option (BinaryOp × Kind) → Kind → Type 0
  OperatorFits None right = Unit {0}
  OperatorFits (Some op) right = IsTrue (is_kind op.1) × IsTrue (operands_meet op.0 op.1 right)

  combined_fits : (kind right : Kind) (op : Option (BinaryOp × Kind)) (p : CellPlace) (x : Expr) → OperatorFits op right → IsTrue (is_kind kind) → IsTrue (place_fits c.names.room p) → checked_kind c.names.room x ≡ Some right → IsTrue (expr_fits c.names.room (combined kind op p x))
  combined_fits kind right None p x ho hk hp hx = ap is_some hx
  combined_fits kind right (Some op) p x ho hk hp hx = ap is_some (combined_checked c.names.room kind op p x right hp hk ho.0 hx ho.1)

  pub assign_is : (p : Spot) (op : Option (BinaryOp × Kind)) (x : Value) (kind : Kind) → SpotFits c p → IsTrue (is_kind p.variable.kind) → IsValue c x kind → OperatorFits op kind → IsLowering c (assign_row p op x)
  assign_is p op x kind hp hk hx ho u a z n e k w at to s =
      let Fit : Target × Operand → Type 0 = λ cv. TargetFits c cv.0 × OperandFits c kind cv.1 in
      ending_is c Fit (spot_cell p u then λ t. x.pure u then λ v. give (t, v))
      (λ (cv : Target × Operand) b. step u (Assign (cv.0).place (combined p.variable.kind op (cv.0).place (cv.1).value)) (p.variable.name ∷ []) (reads_in_place p.variable op (cv.0).reads ++ (cv.1).reads) b z)
      (then_is c (TargetFits c) Fit (spot_cell p u) (λ t. x.pure u then λ v. give (t, v)) (spot_index_is c p.variable p.index hp u w)
      (λ t fit. then_gives c (OperandFits c kind) Fit (x.pure u) (λ v. (t, v)) (hx.pure u w) (λ v own. (fit, own))))
      (λ cv m q r o fit from sits. edge_meets c w.function w.file from to (plain_assign c (cv.0).place (combined p.variable.kind op (cv.0).place (cv.1).value)
      (and_both (place_fits c.names.room (cv.0).place) (expr_fits c.names.room (combined p.variable.kind op (cv.0).place (cv.1).value)) fit.0.fits (combined_fits p.variable.kind kind op (cv.0).place (cv.1).value ho hk fit.0.fits fit.1.checked)))) a n e k at s

  pub local_is : (x : Variable) (first : Option Value) → IsTrue (is_integer c.names x) → OptionHas c first → IsLowering c (local_row x first)
  local_is x None hx h u a z n e k w at to s =
      let zero' = constant_checked c.names.room 0 x.kind (IsValue-zero x.kind (variable_kind c.names x (integer_variable c.names x hx))) in
      edge_meets c w.function w.file at to (plain_assign c (cell_of x.place) (expr.Constant 0 x.kind) (and_both (place_fits c.names.room (cell_of x.place)) (expr_fits c.names.room (expr.Constant 0 x.kind)) (integer_cell c.names x hx) (ap is_some zero')))
  local_is x (Some v) hx h u a z n e k w at to s =
      ending_is c (OperandFits c h.0) (v.pure u) (λ o b. step u (Assign (cell_of x.place) o.value) (x.name ∷ []) o.reads b z) (h.1.pure u w)
      (λ o m p q r fit from sits. edge_meets c w.function w.file from to (plain_put (cell_of x.place) h.0 o (integer_cell c.names x hx) fit)) a n e k at s

  -- ---- arrays

  -- an index below 2 ^ 31 is an int
  index_value : (i : ℕ) → i < 2 ^ 31 → IsTrue (is_value int i)
  unfolding number_of least greatest
  index_value i h =
      let below : nat_lt i (2 ^ 63) ≡ true = lt-ltb i (2 ^ 63) (omega arith) in
      let number : number_of int i ≡ pos i = ap (λ b. if b then pos i else (pos i -ℤ pos (2 ^ 64))) below in
      let range : IsInRange int (pos i) = (le_is (least int) (pos i) refl, le_is (pos i) (greatest int) (le-leb i (2 ^ 31 - 1) (omega arith))) in
      value_from_parts int i (record { of_kind = refl; pattern = omega arith; range = subst (IsInRange int) (sym number) range })

  element_is : (x : Variable) (i : ℕ) (v : Value) → IsTrue (is_array c.names x) → i < 2 ^ 31 → HasValue c v → IsLowering c (element_row x i v)
  element_is x i v hx le h u a z n e k w at to s =
      let index = constant_checked c.names.room i int (index_value i le) in
      ending_is c (OperandFits c h.0) (v.pure u) (λ o b. step u (Assign (element_of x (expr.Constant i int)) o.value) (x.name ∷ []) o.reads b z) (h.1.pure u w)
      (λ o m p q r fit from sits. edge_meets c w.function w.file from to (plain_put (element_of x (expr.Constant i int)) h.0 o (element_place c.names x (expr.Constant i int) int hx index) fit)) a n e k at s

  -- one, and then another, from a node between them that is made first
  followed_is : (first rest : Lowering) → IsLowering c first → IsLowering c rest → IsLowering c (λ u a z. numbered (λ n e k. node_here u ∷ first u a n ∷ rest u n z ∷ []))
  followed_is first rest hf hr u a z n e k w at to s =
      let S = all_sit c.graph _ n e k s in
      let m = at_node c w.function S.0 in
      let mx = first u a n (n + 1) (e + 0) (k + 0) in
      all_meet c.graph _ n e k (node_meets c u u.span e w w.file & hf u a n (n + 1) (e + 0) (k + 0) w at m S.1.0
      & hr u n z (n + 1 + length mx.nodes) (e + 0 + length mx.edges) (k + 0 + length mx.scopes) w m to S.1.1.0 & tt)

  elements_are : (x : Variable) (i : ℕ) (v : Value) (vs : List Value) → IsTrue (is_array c.names x) → i + length (v ∷ vs) ≤ 2 ^ 31 → HasValue c v → AllByRecursion (HasValue c) vs → IsLowering c (elements_row x i (v ∷ vs))
  elements_are x i v [] hx le h hs u a z n e k w at to s = element_is x i v hx (omega arith) h u a z n e k w at to s
  elements_are x i v (next ∷ rest) hx le h hs u a z n e k w at to s =
      followed_is (element_row x i v) (elements_row x (i + 1) (next ∷ rest)) (element_is x i v hx (omega arith) h) (elements_are x (i + 1) next rest hx (omega arith) hs.0 hs.1) u a z n e k w at to s

  pub array_is : (x : Variable) (vs : List Value) → IsTrue (is_array c.names x) → length vs ≤ 2 ^ 31 → AllByRecursion (HasValue c) vs → IsLowering c (array_row x vs)
  array_is x [] hx le hs u a z n e k w at to s = clear_is x hx u a z n e k w at to s
  array_is x (v ∷ rest) hx le hs u a z n e k w at to s =
      followed_is (clear x) (elements_row x 0 (v ∷ rest)) (clear_is x hx) (elements_are x 0 v rest hx (omega arith) hs.0 hs.1) u a z n e k w at to s

  -- ---- labels and calls

  pub label_is : (name : List ℕ) (p : Piece) → IsPiece c p → IsLowering c (label_row name p)
  label_is name p hp u a z n e k w at to s =
      followed_is (λ u a z. label_edge u name a z) p.make (λ u a z n e k w at to s. edge_meets c w.function w.file at to (plain_skip c)) hp.make u a z n e k w at to s

  pub call_is : (call : Calling) (result : Option Kind) → CallFits c call.callee call.words call.arrays result → IsLowering c (call_row call)
  call_is call result h u a z n e k w at to s =
      call_ends c call.callee call.words call.arrays result None u z h (record { place = refl; some = tt }) w to a n e k at s

  -- ---- blocks

  pub sequence_is : (p : Piece) (ps : List Piece) → IsPiece c p → AllByRecursion (IsPiece c) ps → IsLowering c (sequence (p ∷ ps))
  sequence_is p [] h hs u a z n e k w at to s = h.make u a z n e k w at to s
  sequence_is p (next ∷ rest) h hs u a z n e k w at to s =
      let S = all_sit c.graph _ n e k s in
      let v = seeing u p.declares k in
      let m = at_node c w.function S.0 in
      let w' = as_seeing u p.declares (n + 1) (e + 0) k h.declares w S.1.0 in
      let ms = scope_behind u p.declares (n + 1) (e + 0) (k + 0) in
      let n1 = n + 1 + length ms.nodes in
      let e1 = e + 0 + length ms.edges in
      let k1 = k + 0 + length ms.scopes in
      let mx = p.make u a n n1 e1 k1 in
      all_meet c.graph _ n e k (node_meets c v next.span e w' hs.0.span & scope_meets u p.declares (n + 1) (e + 0) (k + 0) w h.declares & h.make u a n n1 e1 k1 w at m S.1.1.0
      & sequence_is next rest hs.0 hs.1 v n z (n1 + length mx.nodes) (e1 + length mx.edges) (k1 + length mx.scopes) w' m to S.1.1.1.0 & tt)

  pub block_is : (ps : List Piece) → AllByRecursion (IsPiece c) ps → IsLowering c (block_row ps)
  block_is [] hs u a z n e k w at to s = skip_is (stated u u.span kinds.Empty) a z n e k (as_stated u u.span kinds.Empty w.file w) at to s
  block_is (p ∷ rest) hs u a z n e k w at to s = sequence_is p rest hs.0 hs.1 u a z n e k w at to s
