-- What conditions and values make meets the rules.
use Rattle.std.proofs.Common.{◌≡◌, ℕ, ◌+◌, ◌<◌, true, false, List, [], ◌∷◌, ◌++◌, length, Option, Some, ap}
use Rattle.std.specs.Prelude.{IsTrue, nat_lt}
use Rattle.std.specs.Option.{is_some}
use Rattle.fq_core.specs.declared.span.Span.{Span}
use Rattle.c_values.specs.Kind.{is_kind, is_value, int}
use Rattle.c_values.specs.Operations.{unary_kind, binary_kind}
use Rattle.c_values.specs.declared.kinds.Kind.{Kind}
use Rattle.c_values.specs.declared.operators.BinaryOp.{BinaryOp}
use Rattle.c_values.specs.declared.operators.UnaryOp.{UnaryOp}
use Rattle.c_values.proofs.Fitting.{and_both, IsValue-truth_of}
use Rattle.cfa.specs.declared.expr.CellPlace.TheVariants as place
use Rattle.cfa.specs.declared.expr.Expr.{Expr}
use Rattle.cfa.specs.declared.expr.Expr.TheVariants as expr
use Rattle.cfa.specs.Rules.{checked_kind, place_fits, expr_fits}
use Rattle.c_typed_trees.specs.Fitting.{operands_meet}
use Rattle.c_lower_rules.specs.declared.graph_of.parts.Around.{Around}
use Rattle.c_lower_rules.specs.declared.graph_of.parts.Operand.{Operand}
use Rattle.c_lower_rules.specs.graph_of.Builder.{Builder, Flow, give}
use Rattle.c_lower_rules.specs.graph_of.Edges.{deciding, put, guards}
use Rattle.c_lower_rules.specs.graph_of.Expressions.{Value, Spot, Calling, spot_cell, not_cond, both_cond, either_cond, other_cond, call_pure, truth_pure, part_row, choice_pure, load_pure, convert_pure, unary_pure, binary_pure}
use Rattle.c_lower_rules.proofs.graph_of.Fits.{◌&◌}
use Rattle.c_lower_rules.proofs.graph_rules.Sits.{Sits, all_sit, Meets, all_meet}
use Rattle.c_lower_rules.proofs.graph_rules.Settings.{Setting, AtNode, Within, at_node, third_node, node_meets, edge_meets, plain_assign, plain_guard}
use Rattle.c_lower_rules.proofs.graph_rules.Operands.{constant_checked, load_checked, convert_checked, unary_checked, binary_checked, local_fits, temporary_checked}
use Rattle.c_lower_rules.proofs.graph_rules.SitsFlows.{OperandFits, TargetFits, IsPure, IsTesting, as_deciding, give_is, then_is, then_gives, ending_is, spot_index_is, SpotFits, CallFits, DestFits, call_ends}

module _ (c : Setting) where
  -- an operand is an expression that meets the rules
  pub operand_fits : {kind : Kind} (v : Operand) → OperandFits c kind v → IsTrue (expr_fits c.names.room v.value)
  operand_fits v h = ap is_some h.checked

  -- ---- cond

  guards_are : (u : Around) (span : Span) (v : Operand) (kind : Kind) (t f m p q r : ℕ) → Within c u → span.file < length c.graph.files → OperandFits c kind v → AtNode c m → AtNode c t → AtNode c f → Meets c.graph (guards u span v.value v.reads m t f p q r) q
  guards_are u span v kind t f m p q r w file h at yes' no' =
      let fits = operand_fits v h in
      all_meet c.graph _ p q r (edge_meets c w.function file at yes' (plain_guard c v.value true fits) & edge_meets c w.function file at no' (plain_guard c v.value false fits) & tt)

  pub other_is : (span : Span) (kind : Kind) (x : Around → Flow Operand) → span.file < length c.graph.files → IsPure c (OperandFits c kind) x → IsTesting c (other_cond span x)
  other_is span kind x file hx u a t f n e k w at yes' no' s =
      ending_is c (OperandFits c kind) (x u) (λ v m. guards u span v.value v.reads m t f) (hx u w) (λ v m p q r fit from sits. guards_are u span v kind t f m p q r w file fit from yes' no') a n e k at s

  pub not_is : (x : Value) → IsTesting c x.cond → IsTesting c (not_cond x)
  not_is x hx u a t f n e k w at yes' no' s = hx u a f t n e k w at no' yes' s

  pub both_is : (x y : Value) → y.span.file < length c.graph.files → IsTesting c x.cond → IsTesting c y.cond → IsTesting c (both_cond x y)
  both_is x y file hx hy u a t f n e k w at yes' no' s =
      let S = all_sit c.graph _ n e k s in
      let m = at_node c w.function S.0 in
      let mx = x.cond u a n f (n + 1) (e + 0) (k + 0) in
      all_meet c.graph _ n e k (node_meets c u y.span e w file & hx u a n f (n + 1) (e + 0) (k + 0) w at m no' S.1.0
      & hy u n t f (n + 1 + length mx.nodes) (e + 0 + length mx.edges) (k + 0 + length mx.scopes) w m yes' no' S.1.1.0 & tt)

  pub either_is : (x y : Value) → y.span.file < length c.graph.files → IsTesting c x.cond → IsTesting c y.cond → IsTesting c (either_cond x y)
  either_is x y file hx hy u a t f n e k w at yes' no' s =
      let S = all_sit c.graph _ n e k s in
      let m = at_node c w.function S.0 in
      let mx = x.cond u a t n (n + 1) (e + 0) (k + 0) in
      all_meet c.graph _ n e k (node_meets c u y.span e w file & hx u a t n (n + 1) (e + 0) (k + 0) w at yes' m S.1.0
      & hy u n t f (n + 1 + length mx.nodes) (e + 0 + length mx.edges) (k + 0 + length mx.scopes) w m yes' no' S.1.1.0 & tt)

  -- ---- pure

  temporary_fits : (cell : ℕ) (kind : Kind) (reads : List (List ℕ)) → IsTrue (nat_lt cell c.names.room.cells) → IsTrue (is_kind kind) → OperandFits c kind (record { value = expr.Load (place.Local cell) kind; reads = reads })
  temporary_fits cell kind reads h k = record { checked = temporary_checked c.names.room cell kind h k }

  pub call_pure_is : (call : Calling) (result : Option Kind) (kind : Kind) → CallFits c call.callee call.words call.arrays result → result ≡ Some kind → IsTrue (nat_lt call.cell c.names.room.cells) → IsTrue (is_kind kind) → IsPure c (OperandFits c kind) (call_pure call kind)
  call_pure_is call result kind h some cell k' u w = record {
    flows = λ a n e k at s.
        let S = all_sit c.graph _ n e k s in
        let m = at_node c w.function S.0 in
        let dest : DestFits c (Some (place.Local call.cell)) result = record { place = local_fits c.names.room call.cell cell; some = ap is_some some } in
        record {
          made = all_meet c.graph _ n e k (node_meets c u u.span e w w.file
              & call_ends c call.callee call.words call.arrays result (Some (place.Local call.cell)) u n h dest w m a (n + 1) (e + 0) (k + 0) at S.1.0 & tt);
          end = m;
          gives = temporary_fits call.cell kind [] cell k';
        };
  }

  put_meets : (u : Around) (cell : ℕ) (value : Expr) (kind : Kind) (reads : List (List ℕ)) (a z p q r : ℕ) → Within c u → IsTrue (nat_lt cell c.names.room.cells) → checked_kind c.names.room value ≡ Some kind → AtNode c a → AtNode c z → Meets c.graph (put u cell value reads a z p q r) q
  put_meets u cell value kind reads a z p q r w h checked at to =
      edge_meets c w.function w.file at to (plain_assign c (place.Local cell) value (and_both (place_fits c.names.room (place.Local cell)) (expr_fits c.names.room value) (local_fits c.names.room cell h) (ap is_some checked)))

  pub truth_is : (t : Around → ℕ → ℕ → ℕ → Builder) (cell : ℕ) (kind : Kind) → IsTesting c t → IsTrue (nat_lt cell c.names.room.cells) → IsTrue (is_kind kind) → IsPure c (OperandFits c kind) (truth_pure t cell kind)
  truth_is t cell kind ht cell_in k' u w = record {
    flows = λ a n e k at s.
        let S = all_sit c.graph _ n e k s in
        let yes' = at_node c w.function S.0 in
        let no' = at_node c w.function S.1.0 in
        let m = third_node c n (at_node c w.function S.1.1.0) in
        let one = constant_checked c.names.room 1 int (IsValue-truth_of true) in
        let zero' = constant_checked c.names.room 0 int (IsValue-truth_of false) in
        record {
          made = all_meet c.graph _ n e k (node_meets c u u.span e w w.file & node_meets c u u.span _ w w.file & node_meets c u u.span _ w w.file
              & ht (deciding u n (n + 1)) a n (n + 1) (n + 1 + 1 + 1) (e + 0 + 0 + 0) (k + 0 + 0 + 0) (as_deciding c u n (n + 1) w) at yes' no' S.1.1.1.0
              & put_meets u cell (expr.Constant 1 int) int [] n (n + 2) 0 _ 0 w cell_in one yes' m & put_meets u cell (expr.Constant 0 int) int [] (n + 1) (n + 2) 0 _ 0 w cell_in zero' no' m & tt);
          end = m;
          gives = temporary_fits cell kind [] cell_in k';
        };
  }

  part_is : (x : Value) (cell : ℕ) (kind : Kind) (u : Around) (a m n e k : ℕ) → IsPure c (OperandFits c kind) x.pure → IsTrue (nat_lt cell c.names.room.cells) → Within c u → AtNode c a → AtNode c m → Sits c.graph (part_row x cell u a m n e k) n e k → Meets c.graph (part_row x cell u a m n e k) e
  part_is x cell kind u a m n e k hx cell_in w at to s =
      ending_is c (OperandFits c kind) (x.pure u) (λ v b. put u cell v.value v.reads b m) (hx u w) (λ v b p q r fit from sits. put_meets u cell v.value kind v.reads b m p q r w cell_in fit.checked from to) a n e k at s

  pub choice_is : (t x y : Value) (cell : ℕ) (kind own other : Kind) → IsTesting c t.cond → IsPure c (OperandFits c own) x.pure → IsPure c (OperandFits c other) y.pure → IsTrue (nat_lt cell c.names.room.cells) → IsTrue (is_kind kind) → IsPure c (OperandFits c kind) (choice_pure t x y cell kind)
  choice_is t x y cell kind own other ht hx hy cell_in k' u w = record {
    flows = λ a n e k at s.
        let S = all_sit c.graph _ n e k s in
        let yes' = at_node c w.function S.0 in
        let no' = at_node c w.function S.1.0 in
        let m = third_node c n (at_node c w.function S.1.1.0) in
        let v = deciding u n (n + 1) in
        let n1 = n + 1 + 1 + 1 in
        let e1 = e + 0 + 0 + 0 in
        let k1 = k + 0 + 0 + 0 in
        let mt = t.cond v a n (n + 1) n1 e1 k1 in
        let mx = part_row x cell u n (n + 2) (n1 + length mt.nodes) (e1 + length mt.edges) (k1 + length mt.scopes) in
        record {
          made = all_meet c.graph _ n e k (node_meets c u u.span e w w.file & node_meets c u u.span _ w w.file & node_meets c u u.span _ w w.file
              & ht v a n (n + 1) n1 e1 k1 (as_deciding c u n (n + 1) w) at yes' no' S.1.1.1.0
              & part_is x cell own u n (n + 2) (n1 + length mt.nodes) (e1 + length mt.edges) (k1 + length mt.scopes) hx cell_in w yes' m S.1.1.1.1.0
              & part_is y cell other u (n + 1) (n + 2) (n1 + length mt.nodes + length mx.nodes) (e1 + length mt.edges + length mx.edges) (k1 + length mt.scopes + length mx.scopes) hy cell_in w no' m S.1.1.1.1.1.0 & tt);
          end = m;
          gives = temporary_fits cell kind [] cell_in k';
        };
  }

  pub constant_is : (n : ℕ) (kind : Kind) → IsTrue (is_value kind n) → IsPure c (OperandFits c kind) (λ u. give (record { value = expr.Constant n kind; reads = [] }))
  constant_is n kind h u w = give_is c (OperandFits c kind) (record { value = expr.Constant n kind; reads = [] }) (record { checked = constant_checked c.names.room n kind h })

  pub load_is : (p : Spot) (kind : Kind) → SpotFits c p → IsTrue (is_kind kind) → IsPure c (OperandFits c kind) (load_pure p kind)
  load_is p kind h k u w =
      then_gives c (TargetFits c) (OperandFits c kind) (spot_cell p u) (λ t. record { value = expr.Load t.place kind; reads = p.variable.name ∷ t.reads }) (spot_index_is c p.variable p.index h u w)
      (λ t fit. record { checked = load_checked c.names.room t.place kind fit.fits k })

  pub convert_is : (x : Value) (own kind : Kind) → IsPure c (OperandFits c own) x.pure → IsTrue (is_kind kind) → IsPure c (OperandFits c kind) (convert_pure x kind)
  convert_is x own kind h k u w =
      then_gives c (OperandFits c own) (OperandFits c kind) (x.pure u) (λ v. record { value = expr.Convert v.value kind; reads = v.reads }) (h u w)
      (λ v fit. record { checked = convert_checked c.names.room v.value own kind fit.checked k })

  pub unary_is : (op : UnaryOp) (x : Value) → IsPure c (OperandFits c x.kind) x.pure → IsPure c (OperandFits c (unary_kind op x.kind)) (unary_pure op x)
  unary_is op x h u w =
      then_gives c (OperandFits c x.kind) (OperandFits c (unary_kind op x.kind)) (x.pure u) (λ v. record { value = expr.Unary op v.value x.kind; reads = v.reads }) (h u w)
      (λ v fit. record { checked = unary_checked c.names.room op v.value x.kind fit.checked })

  pub binary_is : (op : BinaryOp) (x y : Value) (right : Kind) → IsPure c (OperandFits c x.kind) x.pure → IsPure c (OperandFits c right) y.pure → IsTrue (operands_meet op x.kind right) → IsPure c (OperandFits c (binary_kind op x.kind)) (binary_pure op x y)
  binary_is op x y right h i m u w =
      then_is c (OperandFits c x.kind) (OperandFits c (binary_kind op x.kind)) (x.pure u) _ (h u w)
      (λ v fit. then_gives c (OperandFits c right) (OperandFits c (binary_kind op x.kind)) (y.pure u) (λ o. record { value = expr.Binary op v.value o.value x.kind; reads = v.reads ++ o.reads }) (i u w)
      (λ o other. record { checked = binary_checked c.names.room op v.value o.value x.kind right fit.checked other.checked m }))
