-- The trees of statements do what they mean.
use Rattle.std.proofs.Common.{◌≡◌, ℕ, ◌+◌, Bool, false, List, [], ◌∷◌, map, length, Option, Some, None, Result, Ok, Err, refl, sym, ap, subst, ◌∙◌, arith, inl, inr}
use Rattle.std.specs.Prelude.{IsTrue, IfSome, ◌&&◌}
use Rattle.std.specs.Option.{option_map}
use Rattle.std.specs.List.{AllByRecursion, list_all}
use Rattle.std.proofs.lemmas.Bool.{leb-true}
use Rattle.std.proofs.lemmas.List.{length-map}
use Rattle.fq_core.specs.declared.span.Span.{Span}
use Rattle.fq_core.specs.declared.statement_kind.StatementKind.{StatementKind}
use Rattle.c_values.specs.Kind.{IsKind, is_value}
use Rattle.c_values.specs.declared.kinds.Kind.{Kind}
use Rattle.c_values.specs.declared.operators.BinaryOp.{BinaryOp}
use Rattle.c_values.proofs.Fitting.{and_left, and_right, and_both}
use Rattle.cfa.specs.declared.parts.Variable.{Variable}
use Rattle.cfa.specs.declared.state.Trap.{Trap}
use Rattle.cfa.specs.Values.{after_value}
use Rattle.c_typed_trees.specs.declared.expression.TypedCall.{TypedCall}
use Rattle.c_typed_trees.specs.declared.expression.TypedExpr.{TypedExpr}
use Rattle.c_typed_trees.specs.declared.expression.TypedExprForm.{TypedExprForm}
use Rattle.c_typed_trees.specs.declared.expression.TypedPlace.{TypedPlace, ind-TypedPlace, roll-TypedPlace}
use Rattle.c_typed_trees.specs.declared.statement.TypedForm.{TypedForm, roll-TypedForm}
use Rattle.c_typed_trees.specs.declared.statement.TypedForm.TheOpen.{TypedForm-F, TypedGroup-F, TypedStatement-F}
use Rattle.c_typed_trees.specs.declared.statement.TypedGroup.{TypedGroup, roll-TypedGroup}
use Rattle.c_typed_trees.specs.declared.statement.TypedStatement.{TypedStatement, ind-TypedStatement, roll-TypedStatement}
use Rattle.c_typed_trees.specs.Fitting.{is_variable, is_integer, is_array, place_fits, expression_fits, option_fits, operator_fits, operands_meet, begins_within, arm_fits, arms_fit, statement_if, labels_fit, statement_fits, is_cell, span_fits}
use Rattle.c_lower_rules.specs.graph_of.Edges.{Lowering, stated}
use Rattle.c_lower_rules.specs.graph_of.Expressions.{Spot, value_of, spot_of}
use Rattle.c_lower_rules.specs.graph_of.Statements.{Piece, block_row, arms_row, return_row, local_row, array_row}
use Rattle.c_lower_rules.specs.graph_of.Switch as graph
use Rattle.c_lower_rules.specs.graph_of.Table.{stating, tested, shape, piece}
use Rattle.c_lower_rules.specs.graph_of.Table as table
use Rattle.tree_meaning_laws.specs.temporaries_apart.Named.{Named, no_names, names_then, names_in_order, names_if, with_variables, named, place_named, option_named, arm_named, statement_named, group_named}
use Rattle.tree_meaning.specs.declared.way.Way.{Way}
use Rattle.tree_meaning.specs.declared.way.Way.TheVariants.{GoesOn}
use Rattle.tree_meaning.specs.Outcomes.{Store, Done, Gives, Ends, OutOfTurns, ◌andthen◌, unless_trap, Meaning}
use Rattle.tree_meaning.specs.Activations.{stored}
use Rattle.tree_meaning.specs.Expressions.{Meant, Placed}
use Rattle.tree_meaning.specs.Statements.{block, arms, assign, combined, declare, declare_array, return_value}
use Rattle.tree_meaning.specs.Switch.{Group}
use Rattle.tree_meaning.specs.Calls.{Calls}
use Rattle.tree_meaning.specs.Trees.{placed, call_does, value, arm_does, form_does, group_of, does}
use Rattle.tree_meaning.proofs.TreeForms as tree
use Rattle.tree_meaning_laws.specs.expression_laws.Contexts.{Context, IsContext, Held, Proper, parts_of, names_of, own_frame, own_activation}
use Rattle.tree_meaning_laws.specs.expression_laws.Flows.{Decides, CallsDo, Came}
use Rattle.tree_meaning_laws.proofs.expression_laws.Follows.{follows_give, follows_then}
use Rattle.tree_meaning_laws.proofs.expression_laws.Forms as expressions
use Rattle.tree_meaning_laws.proofs.expression_laws.Values.{Owned, variable_owned}
use Rattle.tree_meaning_laws.proofs.expression_laws.ValueTrees.{Room, two, room_second, room_at, room_spare, room_is, meaning, fit, same_fit, values_of_kind, value_does, place_does, does_call}
use Rattle.tree_meaning_laws.specs.statement_laws.Simulates.{Arrives, Simulates}
use Rattle.tree_meaning_laws.specs.statement_laws.Steps.{Stepping, stepping, form_stepping, group_stepping, all_steps, steps_if, step_if, arms_steps, groups_steps}
use Rattle.tree_meaning_laws.specs.statement_laws.Laws.{StatementsDo}
use Rattle.tree_meaning_laws.proofs.statement_laws.Rows.{AllDo, GoesOnly, skip_does, break_does, continue_does, return_does, label_does, block_does, while_does, do_does, for_does, TestDoes, StepDoes, ArmsDo, LastDoes, arms_do}
use Rattle.tree_meaning_laws.proofs.statement_laws.Assigns.{OperatorFits, assign_does, return_value_does, assert_does, assume_does}
use Rattle.tree_meaning_laws.proofs.statement_laws.Arrays.{ElementsDo, declare_zero, declare_value, array_does}
use Rattle.tree_meaning_laws.proofs.statement_laws.Switches.{LabelsOf, GroupDoes, GroupsDo, switch_does}
use Rattle.tree_meaning_laws.proofs.statement_laws.Forms

no_truth : IsTrue false → ⊥
no_truth h = cc

module _ (c : Context) (ok : IsContext c) (calls : Calls) (works : CallsDo c calls) where
  abbrev R : Named → Held → ℕ → ℕ → Type 0
  R = Room c ok calls works

  abbrev means : TypedExpr → Meant
  means = meaning c ok calls works

  abbrev done : TypedStatement → Meaning
  done = does c.typed calls (own_activation c)

  abbrev FormDoes : TypedForm → Type 0
  FormDoes f = ((ho : Held) (low high : ℕ) → R (Forms.form_named f) ho low high → IsTrue (Forms.form_fits (names_of c) f) → IsTrue (form_stepping f).steps → (span : Span) → Simulates c ho (form_does c.typed calls (own_activation c) f) (shape f span).make)
      × (IsTrue (form_stepping f).is_step → (s : Store) → GoesOnly (form_does c.typed calls (own_activation c) f s))

  abbrev pub StatementDoes : TypedStatement → Type 0
  StatementDoes s = ((ho : Held) (low high : ℕ) → R (statement_named s) ho low high → IsTrue (statement_fits (names_of c) s) → IsTrue (stepping s).steps → Simulates c ho (done s) (piece s).make) × (IsTrue (stepping s).is_step → (st : Store) → GoesOnly (done s st))

  abbrev GroupIs : TypedGroup → Type 0
  GroupIs g = (ho : Held) (low high : ℕ) (kind : Kind) → R (group_named g) ho low high → IsTrue (Forms.group_fits (names_of c) g kind) → IsTrue (group_stepping g) → GroupDoes c ok ho kind (group_of c.typed calls (own_activation c) g) (table.group_of g)

  -- a form is what its step makes
  form_is : (x : TypedForm-F TypedForm TypedGroup TypedStatement) (m : Meaning) (kind : StatementKind) (vs : List Variable) (row : Lowering) (names : Named) (fits : Bool) (st : Stepping)
      → form_does c.typed calls (own_activation c) (roll-TypedForm x) ≡ m → shape (roll-TypedForm x) ≡ stating kind vs row → Forms.form_named (roll-TypedForm x) ≡ names → Forms.form_fits (names_of c) (roll-TypedForm x) ≡ fits → form_stepping (roll-TypedForm x) ≡ st
      → ((ho : Held) (low high : ℕ) → R names ho low high → IsTrue fits → IsTrue st.steps → Simulates c ho m row) → (IsTrue st.is_step → (s : Store) → GoesOnly (m s)) → FormDoes (roll-TypedForm x)
  form_is x m kind vs row names fits st e f g h k works' goes = (
    λ ho low high room is steps' span.
        subst (λ (q : Meaning). Simulates c ho q (shape (roll-TypedForm x) span).make) (sym e) (subst (λ (q : Span → Piece). Simulates c ho m (q span).make) (sym f)
        (λ u a z n e k' sits s st' at. works' ho low high (room_is c ok calls works _ _ ho low high g room) (subst IsTrue h is) (subst (λ (q : Stepping). IsTrue q.steps) k steps') (stated u span kind) a z n e k' sits s st' at)),
    λ is s. subst (λ (q : Meaning). GoesOnly (q s)) (sym e) (goes (subst (λ (q : Stepping). IsTrue q.is_step) k is) s),
  )

  -- ---- the parts

  first_room : (a b : Named) (ho : Held) (low high : ℕ) (r : R (names_then a b) ho low high) → R a ho low (two c ok calls works a b ho low high r).mid
  first_room a b ho low high r = (two c ok calls works a b ho low high r).first

  pieces_do : (ss : List TypedStatement) → AllByRecursion StatementDoes ss → (ho : Held) (low high : ℕ) → R (names_in_order (map statement_named ss)) ho low high → IsTrue (list_all (λ fits. fits) (map (statement_fits (names_of c)) ss)) → IsTrue (all_steps (map stepping ss))
      → AllDo c ho (map done ss) (map piece ss)
  pieces_do [] hs ho low high room f k = tt
  pieces_do (s ∷ ss) hs ho low high room f k = (
    (hs.0).0 ho low _ (first_room (statement_named s) (names_in_order (map statement_named ss)) ho low high room) (and_left _ _ f) (and_left _ _ k),
    pieces_do ss hs.1 ho _ high (room_second c ok calls works (statement_named s) (names_in_order (map statement_named ss)) ho low high room) (and_right _ _ f) (and_right _ _ k),
  )

  test_of : (x : TypedExpr) (ho : Held) (low high : ℕ) → R (named x) ho low high → IsTrue (expression_fits (names_of c) x) → Decides c ho (value c.typed calls (own_activation c) x) (value_of x).cond
  test_of x ho low high room f = (value_does c ok calls works x ho low high room f).cond

  -- ---- the forms

  block_at : (body : List TypedStatement) → AllByRecursion StatementDoes body → FormDoes (roll-TypedForm (TypedForm-F.Block body))
  block_at body hs = form_is (TypedForm-F.Block body) _ _ _ _ _ _ _ (tree.block_is c.typed calls (own_activation c) body) (Forms.made_block body) (Forms.named_block body) (Forms.fit_block (names_of c) body) (Forms.steps_block body)
      (λ ho low high room f k. block_does c ho (map done body) (map piece body) (pieces_do body hs ho low high room f k)) (λ is s. absurd (no_truth is))

  empty_at : FormDoes (roll-TypedForm TypedForm-F.Empty)
  empty_at = form_is TypedForm-F.Empty _ _ _ _ _ _ _ (tree.empty_is c.typed calls (own_activation c)) Forms.made_empty Forms.named_empty (Forms.fit_empty (names_of c)) Forms.steps_empty (λ ho low high room f k. skip_does c ho) (λ is s. absurd (no_truth is))

  own_variable : (v : Variable) (names : Named) (ho : Held) (low high : ℕ) → R (with_variables (v ∷ []) names) ho low high → IsTrue (is_variable (names_of c) v) → Owned c v
  own_variable v names ho low high room f = variable_owned c ok v f room.stands.below.0

  behind_variable : (v : Variable) (names : Named) (ho : Held) (low high : ℕ) → R (with_variables (v ∷ []) names) ho low high → R names ho low high
  behind_variable v names ho low high room = record { proper = room.proper; clear = room.clear; stands = record { ascend = room.stands.ascend; below = room.stands.below.1 } }

  local_at : (v : Variable) (first : Option TypedExpr) → FormDoes (roll-TypedForm (TypedForm-F.Local v first))
  local_at v first = form_is (TypedForm-F.Local v first) _ _ _ _ _ _ _ (tree.local_is c.typed calls (own_activation c) v first) (Forms.made_local v first) (Forms.named_local v first) (Forms.fit_local (names_of c) v first) (Forms.steps_local v first)
      (λ ho low high room f k. by first ho low high room (and_left (is_integer (names_of c) v) (option_fits (names_of c) first) f) (and_right (is_integer (names_of c) v) (option_fits (names_of c) first) f)) (λ is s. absurd (no_truth is))
    where
      by : (first : Option TypedExpr) (ho : Held) (low high : ℕ) → R (with_variables (v ∷ []) (option_named first)) ho low high → IsTrue (is_integer (names_of c) v) → IsTrue (option_fits (names_of c) first) → Simulates c ho (declare (own_activation c) v (option_map means first)) (local_row v (option_map value_of first))
      by None ho low high room fits f = declare_zero c ok ho room.proper v fits (own_variable v no_names ho low high room (and_left _ _ (and_left _ _ fits)))
      by (Some x) ho low high room fits f =
          let inner = behind_variable v (named x) ho low high room in
          declare_value c ok ho room.proper v low high (means x) (value_of x) fits (own_variable v (named x) ho low high room (and_left _ _ (and_left _ _ fits))) room.clear (value_does c ok calls works x ho low high inner f)

  elements : (list : List TypedExpr) (ho : Held) (low high : ℕ) (proper : Proper c ho) → R (names_in_order (map named list)) ho low high → IsTrue (list_all (expression_fits (names_of c)) list) → ElementsDo c ok ho proper (map means list) (map value_of list)
  elements [] ho low high proper room f = tt
  elements (x ∷ xs) ho low high proper room f =
      let first = first_room (named x) (names_in_order (map named xs)) ho low high room in (
        record { low = low; high = _; clear = first.clear; does = value_does c ok calls works x ho low _ first (and_left _ _ f) },
        elements xs ho _ high proper (room_second c ok calls works (named x) (names_in_order (map named xs)) ho low high room) (and_right _ _ f),
      )

  array_at : (v : Variable) (list : List TypedExpr) → FormDoes (roll-TypedForm (TypedForm-F.LocalArray v list))
  array_at v list = form_is (TypedForm-F.LocalArray v list) _ _ _ _ _ _ _ (tree.array_is c.typed calls (own_activation c) v list) (Forms.made_array v list) (Forms.named_array v list) (Forms.fit_array (names_of c) v list) (Forms.steps_array v list)
      (λ ho low high room f k.
      let all : IsTrue (is_array (names_of c) v && list_all (expression_fits (names_of c)) list && begins_within (names_of c) v.length (length list)) = f in
      let front : IsTrue (is_array (names_of c) v && list_all (expression_fits (names_of c)) list) = and_left _ _ all in
      by v.length refl ho low high room (and_left _ _ (and_left (is_array (names_of c) v) _ front)) (and_right (is_array (names_of c) v) _ front) (and_right (is_array (names_of c) v && list_all (expression_fits (names_of c)) list) (begins_within (names_of c) v.length (length list)) all)) (λ is s. absurd (no_truth is))
    where
      by : (o : Option ℕ) → v.length ≡ o → (ho : Held) (low high : ℕ) → R (with_variables (v ∷ []) (names_in_order (map named list))) ho low high → IsTrue (is_variable (names_of c) v) → IsTrue (list_all (expression_fits (names_of c)) list) → IsTrue (begins_within (names_of c) o (length list))
          → Simulates c ho (declare_array (own_activation c) v (map means list)) (array_row v (map value_of list))
      by None e ho low high room own f b = absurd cc
      by (Some n) e ho low high room own f b =
          let shorter = leb-true (length list) n (and_left _ _ b) in
          let most = leb-true n 1024 (and_right _ _ b) in
          let long = length-map list means in
          array_does c ok ho room.proper v n e most (own_variable v (names_in_order (map named list)) ho low high room own) (map means list) (map value_of list) (omega (arith, shorter, long))
          (elements list ho low high room.proper (behind_variable v (names_in_order (map named list)) ho low high room) f)

  -- ---- assignments

  record PlaceKnown (p : TypedPlace) : Type 0 where
    variable : (spot_of p).variable ≡ (placed c.typed calls (own_activation c) p).variable
    of_kind : IsTrue (place_fits (names_of c) p) → IsKind (placed c.typed calls (own_activation c) p).variable.kind

  place_known : (p : TypedPlace) → PlaceKnown p
  place_known p = ind-TypedPlace (λ (f : TypedExprForm). Unit {0}) (λ (q : TypedCall). Unit {0}) (λ (x : TypedExpr). Unit {0}) PlaceKnown (λ x y e. tt) (λ x y e. tt) (λ x y e. tt) (λ x y e. at x.variable x.index) p
    where
      at : (v : Variable) (o : Option TypedExpr) → PlaceKnown (roll-TypedPlace (record { variable = v; index = o }))
      at v None =
          let made = ap (λ (q : Spot). q.variable) (expressions.made_whole v) in
          let own = ap (λ (q : Placed). q.variable) (tree.whole_is c.typed calls (own_activation c) v) in
          record { variable = made ∙ sym own; of_kind = λ f. let i = subst IsTrue (expressions.fit_whole (names_of c) v) f in subst (λ (w : Variable). IsKind w.kind) (sym own) (and_left _ _ (and_left _ _ (and_left _ _ i))) }
      at v (Some i) =
          let made = ap (λ (q : Spot). q.variable) (expressions.made_element v i) in
          let own = ap (λ (q : Placed). q.variable) (tree.element_is c.typed calls (own_activation c) v i) in
          record { variable = made ∙ sym own; of_kind = λ f. let both = subst IsTrue (expressions.fit_element (names_of c) v i) f in subst (λ (w : Variable). IsKind w.kind) (sym own) (and_left _ _ (and_left _ _ (and_left (is_array (names_of c) v) _ both))) }

  operator_is : (op : Option (BinaryOp × Kind)) (x : TypedExpr) → IsTrue (expression_fits (names_of c) x) → IsTrue (operator_fits (names_of c) op x) → OperatorFits op (means x).kind
  operator_is None x f g = tt
  operator_is (Some op) x f g = (and_left _ _ g, subst (λ k. IsTrue (operands_meet op.0 op.1 k)) (same_fit c ok calls works x f) (and_right _ _ g))

  trapped_goes : {A : Type 0} (r : Result A Trap) (k : A → Done Way) → ((v : A) → GoesOnly (k v)) → GoesOnly (unless_trap r k)
  trapped_goes (Ok v) k h = h v
  trapped_goes (Err t) k h = tt

  then_goes : {A : Type 0} (d : Done A) (k : A → Store → Done Way) → ((v : A) (s : Store) → GoesOnly (k v s)) → GoesOnly (d andthen k)
  then_goes (Gives v s) k h = h v s
  then_goes (Ends end) k h = tt
  then_goes OutOfTurns k h = tt

  assign_goes : (own : Placed) (op : Option (BinaryOp × Kind)) (m : Meant) (s : Store) → GoesOnly (assign own op m s)
  assign_goes own op m s = then_goes (own.first [] s) _ (λ is s1. then_goes (m.first [] s1) _ (λ vs s2. trapped_goes (own.cell is s2.cells) _ (λ cell.
      trapped_goes (after_value (m.rest vs s2.cells) (combined own.variable.kind op m.kind s2.cells cell)) (λ v. Gives GoesOn (stored s2 cell v)) (λ v. refl {A = Way} {a = GoesOn}))))

  assign_at : (p : TypedPlace) (op : Option (BinaryOp × Kind)) (x : TypedExpr) → FormDoes (roll-TypedForm (TypedForm-F.Assign p op x))
  assign_at p op x = form_is (TypedForm-F.Assign p op x) _ _ _ _ _ _ _ (tree.assign_is c.typed calls (own_activation c) p op x) (Forms.made_assign p op x) (Forms.named_assign p op x) (Forms.fit_assign (names_of c) p op x) (Forms.steps_assign p op x)
      (λ ho low high room f k.
      let all : IsTrue (place_fits (names_of c) p && operator_fits (names_of c) op x && expression_fits (names_of c) x) = f in
      let both : IsTrue (place_fits (names_of c) p && operator_fits (names_of c) op x) = and_left _ _ all in
      let pf = and_left (place_fits (names_of c) p) (operator_fits (names_of c) op x) both in
      let xf = and_right (place_fits (names_of c) p && operator_fits (names_of c) op x) (expression_fits (names_of c) x) all in
      let T = two c ok calls works (place_named p) (named x) ho low high room in
      let K = place_known p in
      assign_does c ok ho low T.mid high (placed c.typed calls (own_activation c) p) op (means x) (spot_of p) (value_of x) T.before T.behind room.proper room.clear
      (λ u. place_does c ok calls works p ho low T.mid T.first pf u) (λ held proper clear. value_does c ok calls works x held T.mid high (T.second held proper clear) xf)
      K.variable (K.of_kind pf) (operator_is op x xf (and_right (place_fits (names_of c) p) (operator_fits (names_of c) op x) both)) (values_of_kind c ok calls works x xf))
      (λ is s. assign_goes (placed c.typed calls (own_activation c) p) op (means x) s)

  call_at : (q : TypedCall) → FormDoes (roll-TypedForm (TypedForm-F.Call q))
  call_at q = form_is (TypedForm-F.Call q) _ _ _ _ _ _ _ (tree.call_statement_is c.typed calls (own_activation c) q) (Forms.made_call q) (Forms.named_call q) (Forms.fit_call (names_of c) q) (Forms.steps_call q)
      (λ ho low high room f k u a z n e k' sits s st at.
      follows_then (parts_of c) c.input (Came c ho None z) (Arrives c ho u z) st s.turns s.turns (call_does c.typed calls (own_activation c) q s) (λ v s'. Gives GoesOn s') (does_call c ok calls works q ho low high room f None tt u z a n e k' sits s st at)
      (λ v s' to h few. follows_give (parts_of c) c.input (Arrives c ho u z) to GoesOn s' h))
      (λ is s. then_goes (call_does c.typed calls (own_activation c) q s) _ (λ v s'. refl))

  label_at : (name : List ℕ) (body : TypedStatement) → StatementDoes body → FormDoes (roll-TypedForm (TypedForm-F.Label name body))
  label_at name body h = form_is (TypedForm-F.Label name body) _ _ _ _ _ _ _ (tree.label_is c.typed calls (own_activation c) name body) (Forms.made_label name body) (Forms.named_label name body) (Forms.fit_label (names_of c) name body) (Forms.steps_label name body)
      (λ ho low high room f k. label_does c ho name (done body) (piece body) (h.0 ho low high room f k)) (λ is s. absurd (no_truth is))

  -- ---- `if`

  abbrev ArmStatements : List (TypedExpr × TypedStatement) → Type 0
  ArmStatements list = AllByRecursion (λ (arm : TypedExpr × TypedStatement). StatementDoes arm.1) list

  abbrev arm_names : List (TypedExpr × TypedStatement) → Named
  arm_names list = names_in_order (map arm_named (map (Forms.arms_by statement_named) list))

  arms_of : (list : List (TypedExpr × TypedStatement)) → ArmStatements list → (ho : Held) (low high : ℕ) → R (arm_names list) ho low high → IsTrue (list_all (arm_fits (names_of c)) (map (Forms.arms_by (statement_fits (names_of c))) list)) → IsTrue (arms_steps (map (Forms.arms_by stepping) list))
      → ArmsDo c ho (map (arm_does c.typed calls (own_activation c)) (map (tree.paired c.typed calls (own_activation c)) list)) (map tested (map (Forms.arms_by piece) list))
  arms_of [] hs ho low high room f k = tt
  arms_of (arm ∷ list) hs ho low high room f k =
      let names = names_then (named arm.0) (statement_named arm.1) in
      let one = first_room names (arm_names list) ho low high room in
      let both : IsTrue (expression_fits (names_of c) arm.0 && statement_fits (names_of c) arm.1) = and_left _ _ f in (
        (
          test_of arm.0 ho low _ (first_room (named arm.0) (statement_named arm.1) ho low _ one) (and_left _ _ both),
          (hs.0).0 ho _ _ (room_second c ok calls works (named arm.0) (statement_named arm.1) ho low _ one) (and_right _ _ both) (and_left _ _ k),
        ),
        arms_of list hs.1 ho _ high (room_second c ok calls works names (arm_names list) ho low high room) (and_right _ _ f) (and_right _ _ k),
      )

  last_of : (o : Option TypedStatement) → IfSome o StatementDoes → (ho : Held) (low high : ℕ) → R (names_if (option_map statement_named o)) ho low high → IsTrue (statement_if (names_of c) (option_map (statement_fits (names_of c)) o)) → IsTrue (steps_if (option_map stepping o))
      → LastDoes c ho (option_map done o) (option_map piece o)
  last_of None h ho low high room f k = tt
  last_of (Some s) h ho low high room f k = h.0 ho low high room f k

  if_at : (list : List (TypedExpr × TypedStatement)) (o : Option TypedStatement) → ArmStatements list → IfSome o StatementDoes → FormDoes (roll-TypedForm (TypedForm-F.If list o))
  if_at list o hs h = form_is (TypedForm-F.If list o) _ _ _ _ _ _ _ (tree.if_is c.typed calls (own_activation c) list o) (Forms.made_if list o) (Forms.named_if list o) (Forms.fit_if (names_of c) list o) (Forms.steps_if list o)
      (λ ho low high room f k. by list hs ho low high room (and_left (arms_fit (names_of c) (map (Forms.arms_by (statement_fits (names_of c))) list)) _ f) (and_right (arms_fit (names_of c) (map (Forms.arms_by (statement_fits (names_of c))) list)) _ f) (and_left (arms_steps (map (Forms.arms_by stepping) list)) _ k) (and_right (arms_steps (map (Forms.arms_by stepping) list)) _ k)) (λ is s. absurd (no_truth is))
    where
      by : (list : List (TypedExpr × TypedStatement)) → ArmStatements list → (ho : Held) (low high : ℕ) → R (names_then (arm_names list) (names_if (option_map statement_named o))) ho low high
          → IsTrue (arms_fit (names_of c) (map (Forms.arms_by (statement_fits (names_of c))) list)) → IsTrue (statement_if (names_of c) (option_map (statement_fits (names_of c)) o)) → IsTrue (arms_steps (map (Forms.arms_by stepping) list)) → IsTrue (steps_if (option_map stepping o))
          → Simulates c ho (arms (map (arm_does c.typed calls (own_activation c)) (map (tree.paired c.typed calls (own_activation c)) list)) (option_map done o)) (arms_row (map tested (map (Forms.arms_by piece) list)) (option_map piece o))
      by [] hs ho low high room f g k l = absurd cc
      by (arm ∷ list) hs ho low high room f g k l =
          let A = arms_of (arm ∷ list) hs ho low _ (first_room (arm_names (arm ∷ list)) (names_if (option_map statement_named o)) ho low high room) f k in
          let L = last_of o h ho _ high (room_second c ok calls works (arm_names (arm ∷ list)) (names_if (option_map statement_named o)) ho low high room) g l in
          arms_do c ho (arm_does c.typed calls (own_activation c) (tree.paired c.typed calls (own_activation c) arm)) (map (arm_does c.typed calls (own_activation c)) (map (tree.paired c.typed calls (own_activation c)) list)) (option_map done o)
          (tested (Forms.arms_by piece arm)) (map tested (map (Forms.arms_by piece) list)) (option_map piece o) A.0 A.1 L

  -- ---- loops

  while_at : (test : TypedExpr) (body : TypedStatement) → StatementDoes body → FormDoes (roll-TypedForm (TypedForm-F.While test body))
  while_at test body h = form_is (TypedForm-F.While test body) _ _ _ _ _ _ _ (tree.while_is c.typed calls (own_activation c) test body) (Forms.made_while test body) (Forms.named_while test body) (Forms.fit_while (names_of c) test body) (Forms.steps_while test body)
      (λ ho low high room f k. while_does c ho _ (done body) (value_of test) (piece body) (test_of test ho low _ (first_room (named test) (statement_named body) ho low high room) (and_left _ _ f))
      (h.0 ho _ high (room_second c ok calls works (named test) (statement_named body) ho low high room) (and_right _ _ f) k)) (λ is s. absurd (no_truth is))

  do_at : (body : TypedStatement) (test : TypedExpr) → StatementDoes body → FormDoes (roll-TypedForm (TypedForm-F.Do body test))
  do_at body test h = form_is (TypedForm-F.Do body test) _ _ _ _ _ _ _ (tree.do_is c.typed calls (own_activation c) body test) (Forms.made_do body test) (Forms.named_do body test) (Forms.fit_do (names_of c) body test) (Forms.steps_do body test)
      (λ ho low high room f k. do_does c ho (done body) _ (piece body) (value_of test) (h.0 ho low _ (first_room (statement_named body) (named test) ho low high room) (and_left _ _ f) k)
      (test_of test ho _ high (room_second c ok calls works (statement_named body) (named test) ho low high room) (and_right _ _ f))) (λ is s. absurd (no_truth is))

  test_if : (o : Option TypedExpr) (ho : Held) (low high : ℕ) → R (option_named o) ho low high → IsTrue (option_fits (names_of c) o) → TestDoes c ho (option_map (value c.typed calls (own_activation c)) o) (option_map value_of o)
  test_if None ho low high room f = tt
  test_if (Some x) ho low high room f = test_of x ho low high room f

  next_if : (o : Option TypedStatement) → IfSome o StatementDoes → (ho : Held) (low high : ℕ) → R (names_if (option_map statement_named o)) ho low high → IsTrue (statement_if (names_of c) (option_map (statement_fits (names_of c)) o)) → IsTrue (step_if (option_map stepping o))
      → StepDoes c ho (option_map done o) (option_map piece o)
  next_if None h ho low high room f k = tt
  next_if (Some s) h ho low high room f k = (h.0 ho low high room f (and_right _ _ k), h.1 (and_left _ _ k))

  for_at : (first : List TypedStatement) (test : Option TypedExpr) (next : Option TypedStatement) (body : TypedStatement) → AllByRecursion StatementDoes first → IfSome next StatementDoes → StatementDoes body → FormDoes (roll-TypedForm (TypedForm-F.For first test next body))
  for_at first test next body hs hn hb = form_is (TypedForm-F.For first test next body) _ _ _ _ _ _ _ (tree.for_is c.typed calls (own_activation c) first test next body) (Forms.made_for first test next body) (Forms.named_for first test next body) (Forms.fit_for (names_of c) first test next body) (Forms.steps_for first test next body)
      (λ ho low high room f k.
      let n1 = names_in_order (map statement_named first) in
      let n2 = option_named test in
      let n3 = names_if (option_map statement_named next) in
      let n4 = statement_named body in
      let r2 = room_second c ok calls works n1 (names_then n2 (names_then n3 n4)) ho low high room in
      let r3 = room_second c ok calls works n2 (names_then n3 n4) ho _ high r2 in
      let f1 = list_all (λ (fits : Bool). fits) (map (statement_fits (names_of c)) first) in
      let f2 = option_fits (names_of c) test in
      let f3 = statement_if (names_of c) (option_map (statement_fits (names_of c)) next) in
      let f4 = statement_fits (names_of c) body in
      let three : IsTrue (f1 && f2 && f3) = and_left (f1 && f2 && f3) f4 f in
      let both : IsTrue (f1 && f2) = and_left (f1 && f2) f3 three in
      let k1 = all_steps (map stepping first) in
      let k2 = step_if (option_map stepping next) in
      let kk : IsTrue (k1 && k2) = and_left (k1 && k2) (stepping body).steps k in
      for_does c ho (map done first) _ (option_map done next) (done body) (map piece first) (option_map value_of test) (option_map piece next) (piece body)
      (pieces_do first hs ho low _ (first_room n1 (names_then n2 (names_then n3 n4)) ho low high room) (and_left f1 f2 both) (and_left k1 k2 kk))
      (test_if test ho _ _ (first_room n2 (names_then n3 n4) ho _ high r2) (and_right f1 f2 both))
      (next_if next hn ho _ _ (first_room n3 n4 ho _ high r3) (and_right (f1 && f2) f3 three) (and_right k1 k2 kk))
      (hb.0 ho _ high (room_second c ok calls works n3 n4 ho _ high r3) (and_right (f1 && f2 && f3) f4 f) (and_right (k1 && k2) (stepping body).steps k))) (λ is s. absurd (no_truth is))

  -- ---- `switch`

  groups_of : (gs : List TypedGroup) → AllByRecursion GroupIs gs → (ho : Held) (low high : ℕ) (kind : Kind) → R (names_in_order (map group_named gs)) ho low high → IsTrue (list_all (λ (g : Kind → Bool). g kind) (map (Forms.group_fits (names_of c)) gs)) → IsTrue (groups_steps (map group_stepping gs))
      → GroupsDo c ok ho kind (map (group_of c.typed calls (own_activation c)) gs) (map table.group_of gs)
  groups_of [] hs ho low high kind room f k = tt
  groups_of (g ∷ gs) hs ho low high kind room f k = (
    hs.0 ho low _ kind (first_room (group_named g) (names_in_order (map group_named gs)) ho low high room) (and_left _ _ f) (and_left _ _ k),
    groups_of gs hs.1 ho _ high kind (room_second c ok calls works (group_named g) (names_in_order (map group_named gs)) ho low high room) (and_right _ _ f) (and_right _ _ k),
  )

  switch_at : (x : TypedExpr) (cell : ℕ) (gs : List TypedGroup) → AllByRecursion GroupIs gs → FormDoes (roll-TypedForm (TypedForm-F.Switch x cell gs))
  switch_at x cell gs hs = form_is (TypedForm-F.Switch x cell gs) _ _ _ _ _ _ _ (tree.switch_is c.typed calls (own_activation c) x cell gs) (Forms.made_switch x cell gs) (Forms.named_switch x cell gs) (Forms.fit_switch (names_of c) x cell gs) (Forms.steps_switch x cell gs)
      (λ ho low high room f k.
      let fx = expression_fits (names_of c) x in
      let fg = list_all (λ (g : Kind → Bool). g (fit c ok calls works x).kind) (map (Forms.group_fits (names_of c)) gs) in
      let both : IsTrue (fx && is_cell (names_of c) cell) = and_left (fx && is_cell (names_of c) cell) fg f in
      let own = and_left fx (is_cell (names_of c) cell) both in
      let names = names_then (named x) (names_in_order (map group_named gs)) in
      let inner = (room_at c ok calls works cell names ho low high room).2 in
      let T = two c ok calls works (named x) (names_in_order (map group_named gs)) ho (cell + 1) high inner in
      switch_does c ok ho (cell + 1) T.mid cell (means x) (value_of x) _ _ (omega arith) room.proper T.first.clear (room_spare c ok calls works cell names ho low high room) (value_does c ok calls works x ho (cell + 1) T.mid T.first own) (values_of_kind c ok calls works x own)
      (subst (λ kind. GroupsDo c ok ho kind (map (group_of c.typed calls (own_activation c)) gs) (map table.group_of gs)) (same_fit c ok calls works x own)
      (groups_of gs hs ho T.mid high (fit c ok calls works x).kind (room_second c ok calls works (named x) (names_in_order (map group_named gs)) ho (cell + 1) high inner) (and_right (fx && is_cell (names_of c) cell) fg f) k))) (λ is s. absurd (no_truth is))

  labels_of : (kind : Kind) (labels : List (Span × Option ℕ)) → IsTrue (labels_fit (names_of c) kind labels) → LabelsOf kind labels
  labels_of kind [] f = tt
  labels_of kind ((span, None) ∷ rest) f = labels_of kind rest (and_right _ _ f)
  labels_of kind ((span, Some v) ∷ rest) f = let one : IsTrue (span_fits (names_of c) span && is_value kind v) = and_left _ _ f in (and_right _ _ one, labels_of kind rest (and_right _ _ f))

  group_at : (g : TypedGroup-F TypedForm TypedGroup TypedStatement) → AllByRecursion StatementDoes g.body → GroupIs (roll-TypedGroup g)
  group_at g hs ho low high kind room f k =
      let fits : IsTrue (labels_fit (names_of c) kind g.labels && list_all (λ fits. fits) (map (statement_fits (names_of c)) g.body)) = subst (λ (q : Kind → Bool). IsTrue (q kind)) (Forms.fit_group (names_of c) g) f in
      let D : GroupDoes c ok ho kind (record { labels = g.labels; does = block (map done g.body) }) (record { labels = g.labels; body = map piece g.body }) = record {
        labels = refl;
        values = labels_of kind g.labels (and_left _ _ fits);
        means = map done g.body;
        block = refl;
        does = pieces_do g.body hs ho low high (room_is c ok calls works _ _ ho low high (Forms.named_group g) room) (and_right _ _ fits) (subst IsTrue (Forms.steps_group g) k);
      } in
      subst (λ (q : Group). GroupDoes c ok ho kind q (table.group_of (roll-TypedGroup g))) (sym (tree.group_is c.typed calls (own_activation c) g))
      (subst (λ (q : graph.Group). GroupDoes c ok ho kind (record { labels = g.labels; does = block (map done g.body) }) q) (sym (Forms.made_group g)) D)

  -- ---- jumps and tests

  break_at : FormDoes (roll-TypedForm TypedForm-F.Break)
  break_at = form_is TypedForm-F.Break _ _ _ _ _ _ _ (tree.break_is c.typed calls (own_activation c)) Forms.made_break Forms.named_break (Forms.fit_break (names_of c)) Forms.steps_break (λ ho low high room f k. break_does c ho) (λ is s. absurd (no_truth is))

  continue_at : FormDoes (roll-TypedForm TypedForm-F.Continue)
  continue_at = form_is TypedForm-F.Continue _ _ _ _ _ _ _ (tree.continue_is c.typed calls (own_activation c)) Forms.made_continue Forms.named_continue (Forms.fit_continue (names_of c)) Forms.steps_continue (λ ho low high room f k. continue_does c ho) (λ is s. absurd (no_truth is))

  result_kept : IsTrue (c.keeps (own_frame c).base)
  result_kept = ok.kept (own_frame c).base (inr (inl (0, omega (arith, ok.result), omega arith)))

  return_at : (x : Option TypedExpr) → FormDoes (roll-TypedForm (TypedForm-F.Return x))
  return_at x = form_is (TypedForm-F.Return x) _ _ _ _ _ _ _ (tree.return_is c.typed calls (own_activation c) x) (Forms.made_return x) (Forms.named_return x) (Forms.fit_return (names_of c) x) (Forms.steps_return x)
      (λ ho low high room f k. by x ho low high room f) (λ is s. absurd (no_truth is))
    where
      by : (x : Option TypedExpr) (ho : Held) (low high : ℕ) → R (option_named x) ho low high → IsTrue (option_fits (names_of c) x) → Simulates c ho (return_value (own_activation c) (option_map means x)) (return_row (option_map value_of x))
      by None ho low high room f = return_does c ho
      by (Some e) ho low high room f = return_value_does c ok ho low high (means e) (value_of e) room.proper room.clear (value_does c ok calls works e ho low high room f) result_kept

  assert_at : (x : TypedExpr) → FormDoes (roll-TypedForm (TypedForm-F.Assert x))
  assert_at x = form_is (TypedForm-F.Assert x) _ _ _ _ _ _ _ (tree.assert_is c.typed calls (own_activation c) x) (Forms.made_assert x) (Forms.named_assert x) (Forms.fit_assert (names_of c) x) (Forms.steps_assert x)
      (λ ho low high room f k. assert_does c ok ho low high (means x) (value_of x) room.proper room.clear (value_does c ok calls works x ho low high room f)) (λ is s. absurd (no_truth is))

  assume_at : (x : TypedExpr) → FormDoes (roll-TypedForm (TypedForm-F.Assume x))
  assume_at x = form_is (TypedForm-F.Assume x) _ _ _ _ _ _ _ (tree.assume_is c.typed calls (own_activation c) x) (Forms.made_assume x) (Forms.named_assume x) (Forms.fit_assume (names_of c) x) (Forms.steps_assume x)
      (λ ho low high room f k. assume_does c ok ho low high (means x) (value_of x) room.proper room.clear (value_does c ok calls works x ho low high room f)) (λ is s. absurd (no_truth is))

  -- ---- statements

  statement_at : (s : TypedStatement-F TypedForm TypedGroup TypedStatement) → FormDoes s.form → StatementDoes (roll-TypedStatement s)
  statement_at s h = (
    λ ho low high room f k.
        let fits : IsTrue (span_fits (names_of c) s.span && Forms.form_fits (names_of c) s.form) = subst IsTrue (Forms.fit_statement (names_of c) s) f in
        subst (λ (q : Meaning). Simulates c ho q (piece (roll-TypedStatement s)).make) (sym (tree.statement_is c.typed calls (own_activation c) s))
        (subst (λ (q : Piece). Simulates c ho (form_does c.typed calls (own_activation c) s.form) q.make) (sym (Forms.made_statement s))
        (h.0 ho low high (room_is c ok calls works _ _ ho low high (Forms.named_statement s) room) (and_right _ _ fits) (subst (λ (q : Stepping). IsTrue q.steps) (Forms.steps_statement s) k) s.span)),
    λ is st. subst (λ (q : Meaning). GoesOnly (q st)) (sym (tree.statement_is c.typed calls (own_activation c) s)) (h.1 (subst (λ (q : Stepping). IsTrue q.is_step) (Forms.steps_statement s) is) st),
  )

  module _ {S : Type 0} (f : S → TypedStatement) (g : (q : S) → StatementDoes (f q)) where
    all_statements : (ys : List S) → AllByRecursion StatementDoes (map f ys)
    all_statements [] = tt
    all_statements (y ∷ ys) = (g y, all_statements ys)

    all_arms : (ys : List (TypedExpr × S)) → ArmStatements (map (λ (arm : TypedExpr × S). (arm.0, f arm.1)) ys)
    all_arms [] = tt
    all_arms (y ∷ ys) = (g y.1, all_arms ys)

  all_groups : {S : Type 0} (f : S → TypedGroup) → ((q : S) → GroupIs (f q)) → (ys : List S) → AllByRecursion GroupIs (map f ys)
  all_groups f g [] = tt
  all_groups f g (y ∷ ys) = (g y, all_groups f g ys)

  pub statement_does : (s : TypedStatement) → StatementDoes s
  statement_does s = ind-TypedStatement FormDoes GroupIs StatementDoes
      (λ x'. elim [
        | TypedForm-F.Block ys ↦ λ e. subst (λ z. FormDoes (roll-TypedForm z)) e (block_at _ (all_statements (λ q. q.0) (λ q. q.1) ys))
        | TypedForm-F.Empty ↦ λ e. subst (λ z. FormDoes (roll-TypedForm z)) e empty_at
        | TypedForm-F.Local v first ↦ λ e. subst (λ z. FormDoes (roll-TypedForm z)) e (local_at v first)
        | TypedForm-F.LocalArray v list ↦ λ e. subst (λ z. FormDoes (roll-TypedForm z)) e (array_at v list)
        | TypedForm-F.Assign p op x ↦ λ e. subst (λ z. FormDoes (roll-TypedForm z)) e (assign_at p op x)
        | TypedForm-F.Call q ↦ λ e. subst (λ z. FormDoes (roll-TypedForm z)) e (call_at q)
        | TypedForm-F.Label name y ↦ λ e. subst (λ z. FormDoes (roll-TypedForm z)) e (label_at name y.0 y.1)
        | TypedForm-F.If arms None ↦ λ e. subst (λ z. FormDoes (roll-TypedForm z)) e (if_at _ None (all_arms (λ q. q.0) (λ q. q.1) arms) tt)
        | TypedForm-F.If arms (Some o) ↦ λ e. subst (λ z. FormDoes (roll-TypedForm z)) e (if_at _ (Some o.0) (all_arms (λ q. q.0) (λ q. q.1) arms) o.1)
        | TypedForm-F.While x y ↦ λ e. subst (λ z. FormDoes (roll-TypedForm z)) e (while_at x y.0 y.1)
        | TypedForm-F.Do y x ↦ λ e. subst (λ z. FormDoes (roll-TypedForm z)) e (do_at y.0 x y.1)
        | TypedForm-F.For first x None y ↦ λ e. subst (λ z. FormDoes (roll-TypedForm z)) e (for_at _ x None y.0 (all_statements (λ q. q.0) (λ q. q.1) first) tt y.1)
        | TypedForm-F.For first x (Some j) y ↦ λ e. subst (λ z. FormDoes (roll-TypedForm z)) e (for_at _ x (Some j.0) y.0 (all_statements (λ q. q.0) (λ q. q.1) first) j.1 y.1)
        | TypedForm-F.Switch x cell gs ↦ λ e. subst (λ z. FormDoes (roll-TypedForm z)) e (switch_at x cell _ (all_groups (λ q. q.0) (λ q. q.1) gs))
        | TypedForm-F.Break ↦ λ e. subst (λ z. FormDoes (roll-TypedForm z)) e break_at
        | TypedForm-F.Continue ↦ λ e. subst (λ z. FormDoes (roll-TypedForm z)) e continue_at
        | TypedForm-F.Return x ↦ λ e. subst (λ z. FormDoes (roll-TypedForm z)) e (return_at x)
        | TypedForm-F.Assert x ↦ λ e. subst (λ z. FormDoes (roll-TypedForm z)) e (assert_at x)
        | TypedForm-F.Assume x ↦ λ e. subst (λ z. FormDoes (roll-TypedForm z)) e (assume_at x)
      ])
      (λ x' y e. subst (λ z. GroupIs (roll-TypedGroup z)) e (group_at (record { labels = y.labels; body = map (λ q. q.0) y.body }) (all_statements (λ q. q.0) (λ q. q.1) y.body)))
      (λ x' y e. subst (λ z. StatementDoes (roll-TypedStatement z)) e (statement_at (record { span = y.span; form = y.form.0 }) y.form.1)) s

  -- statements in a row
  pub body_does : (ss : List TypedStatement) (ho : Held) (low high : ℕ) → R (names_in_order (map statement_named ss)) ho low high → IsTrue (list_all (statement_fits (names_of c)) ss) → IsTrue (all_steps (map stepping ss)) → Simulates c ho (block (map done ss)) (block_row (map piece ss))
  body_does ss ho low high room f k = block_does c ho (map done ss) (map piece ss) (pieces_do ss (every ss) ho low high room (mapped ss f) k)
    where
      every : (xs : List TypedStatement) → AllByRecursion StatementDoes xs
      every [] = tt
      every (x ∷ xs) = (statement_does x, every xs)

      mapped : (xs : List TypedStatement) → IsTrue (list_all (statement_fits (names_of c)) xs) → IsTrue (list_all (λ fits. fits) (map (statement_fits (names_of c)) xs))
      mapped [] h = refl
      mapped (x ∷ xs) h = and_both _ _ (and_left _ _ h) (mapped xs (and_right _ _ h))

pub statements_do : StatementsDo
statements_do c calls ho low high s ok works proper clear ascend below fits steps' =
    (statement_does c ok calls works s).0 ho low high (record { proper = proper; clear = clear; stands = record { ascend = ascend; below = below } }) fits steps'
