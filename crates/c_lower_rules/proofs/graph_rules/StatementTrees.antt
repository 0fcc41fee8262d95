-- What the trees of statements make, where they fit: it leads on, and meets the rules.
use Rattle.std.proofs.Common.{◌≡◌, ℕ, ◌^◌, ◌<◌, ◌≤◌, Bool, true, List, [], ◌∷◌, map, length, Option, Some, None, refl, sym, subst, rules, arith}
use Rattle.std.specs.Prelude.{IsTrue, IfSome, ◌&&◌, nat_le}
use Rattle.std.specs.List.{AllByRecursion, list_all}
use Rattle.std.specs.Option.{option_map}
use Rattle.std.proofs.lemmas.Bool.{leb-true}
use Rattle.std.proofs.lemmas.List.{length-map}
use Rattle.fq_core.specs.declared.span.Span.{Span}
use Rattle.fq_core.specs.declared.statement_kind.StatementKind.{StatementKind}
use Rattle.c_values.specs.Kind.{is_kind}
use Rattle.c_values.specs.declared.kinds.Kind.{Kind}
use Rattle.c_values.specs.declared.operators.BinaryOp.{BinaryOp}
use Rattle.c_values.proofs.Fitting.{and_left, and_right, and_both}
use Rattle.cfa.specs.declared.parts.Operation.TheVariants.{Assert, Assume}
use Rattle.cfa.specs.declared.parts.Variable.{Variable}
use Rattle.c_typed_trees.specs.declared.expression.TypedCall.{TypedCall}
use Rattle.c_typed_trees.specs.declared.expression.TypedExpr.{TypedExpr, ind-TypedExpr, roll-TypedExpr}
use Rattle.c_typed_trees.specs.declared.expression.TypedExprForm.{TypedExprForm, the_lemmas as expression_lemmas}
use Rattle.c_typed_trees.specs.declared.expression.TypedExprForm.TheOpen.{TypedExpr-F}
use Rattle.c_typed_trees.specs.declared.expression.TypedPlace.{TypedPlace}
use Rattle.c_typed_trees.specs.declared.statement.TypedForm.{TypedForm, fold-TypedForm, roll-TypedForm, the_lemmas as statement_lemmas}
use Rattle.c_typed_trees.specs.declared.statement.TypedForm.TheOpen.{TypedForm-F, TypedGroup-F, TypedStatement-F}
use Rattle.c_typed_trees.specs.declared.statement.TypedGroup.{TypedGroup, fold-TypedGroup, roll-TypedGroup}
use Rattle.c_typed_trees.specs.declared.statement.TypedStatement.{TypedStatement, ind-TypedStatement, roll-TypedStatement}
use Rattle.c_typed_trees.specs.Fitting.{Nameable, Fit, CallFit, expression_fit, expression_fits, option_fits, place_fits, call_fit, operator_fits, operands_meet, arm_fits, arms_fit, statement_if, statement_fits, is_cell, is_variable, is_integer, is_array, is_lent, begins_within, span_fits, labels_fit}
use Rattle.c_typed_trees.specs.Fitting as fitting
use Rattle.c_lower_rules.specs.graph_of.Edges.{Lowering, stated}
use Rattle.c_lower_rules.specs.graph_of.Expressions.{Value, value_of, spot_of, calling_of}
use Rattle.c_lower_rules.specs.graph_of.Statements.{Piece, arms_row}
use Rattle.c_lower_rules.specs.graph_of.Switch.{Group, switch_row}
use Rattle.c_lower_rules.specs.graph_of.Table.{stating, tested, form_step, shape, group_of, piece}
use Rattle.c_lower_rules.proofs.graph_rules.Settings.{Setting, plain_assert, plain_assume}
use Rattle.c_lower_rules.proofs.graph_rules.Operands.{integer_variable, array_variable, variable_kind}
use Rattle.c_lower_rules.proofs.graph_rules.WaysFlows as ways_flows
use Rattle.c_lower_rules.proofs.graph_rules.WaysRows as ways
use Rattle.c_lower_rules.proofs.graph_rules.WaysSwitch as ways_switch
use Rattle.c_lower_rules.proofs.graph_rules.SitsFlows as sits_flows
use Rattle.c_lower_rules.proofs.graph_rules.SitsRows as sits
use Rattle.c_lower_rules.proofs.graph_rules.SitsBranches as sits_branches
use Rattle.c_lower_rules.proofs.graph_rules.SitsSwitch as sits_switch
use Rattle.c_lower_rules.proofs.graph_rules.SitsSwitch.{span_there}
use Rattle.c_lower_rules.proofs.graph_rules.ValueTrees.{form_fits as expression_form_fits, value_holds, spot_holds, call_holds}

-- ---- the tests of forms and groups

unfoldable pub form_fits : Nameable → TypedForm → Bool
form_fits n = fold-TypedForm Bool (Kind → Bool) Bool (fitting.statement_form n) (fitting.group_step n) (fitting.statement_step n)

unfoldable pub group_fits : Nameable → TypedGroup → Kind → Bool
group_fits n = fold-TypedGroup Bool (Kind → Bool) Bool (fitting.statement_form n) (fitting.group_step n) (fitting.statement_step n)

-- ---- what is made leads on, and meets the rules

pub record PieceHolds (c : Setting) (p : Piece) : Type 0 where
  pub ways : ways.IsPiece p
  pub sits : sits.IsPiece c p

pub record GroupHolds (c : Setting) (kind : Kind) (g : Group) : Type 0 where
  pub ways : ways_switch.IsGroup g
  pub sits : sits_switch.IsGroup c kind g

-- what a row makes, and what it declares
record RowHolds (c : Setting) (vs : List Variable) (row : Lowering) : Type 0 where
  declares : IsTrue (list_all (is_variable c.names) vs)
  ways : ways.IsLowering row
  sits : sits.IsLowering c row

-- of pieces in a row
pub record PiecesHold (c : Setting) (ps : List Piece) : Type 0 where
  pub ways : AllByRecursion ways.IsPiece ps
  pub sits : AllByRecursion (sits.IsPiece c) ps

module _ (c : Setting) where
  abbrev FormHas : TypedForm → Type 0
  FormHas f = (span : Span) → span.file < length c.graph.files → IsTrue (form_fits c.names f) → PieceHolds c (shape f span)

  abbrev GroupHas : TypedGroup → Type 0
  GroupHas g = (kind : Kind) → IsTrue (group_fits c.names g kind) → GroupHolds c kind (group_of g)

  abbrev pub Makes : TypedStatement → Type 0
  Makes s = IsTrue (statement_fits c.names s) → PieceHolds c (piece s)

  stating_holds : (kind : StatementKind) (vs : List Variable) (row : Lowering) (span : Span) → span.file < length c.graph.files → RowHolds c vs row → PieceHolds c (stating kind vs row span)
  stating_holds kind vs row span file h = record {
    ways = λ u a z n e k. h.ways (stated u span kind) a z n e k;
    sits = record { span = file; declares = h.declares; make = λ u a z n e k w at to s. h.sits (stated u span kind) a z n e k (sits.as_stated c u span kind file w) at to s };
  }

  -- a form is what its step makes
  form_is : (x : TypedForm-F TypedForm TypedGroup TypedStatement) (kind : StatementKind) (vs : List Variable) (row : Lowering) (fit : Bool)
      → shape (roll-TypedForm x) ≡ stating kind vs row → form_fits c.names (roll-TypedForm x) ≡ fit
      → (IsTrue fit → RowHolds c vs row) → FormHas (roll-TypedForm x)
  form_is x kind vs row fit e f h span file fits =
      subst (λ (m : Span → Piece). PieceHolds c (m span)) (sym e) (stating_holds kind vs row span file (h (subst IsTrue f fits)))

  -- ---- the parts

  pieces_hold : (ss : List TypedStatement) → AllByRecursion Makes ss → IsTrue (list_all (λ fits. fits) (map (statement_fits c.names) ss)) → PiecesHold c (map piece ss)
  pieces_hold [] hs f = record { ways = tt; sits = tt }
  pieces_hold (s ∷ ss) hs f =
      let fits : IsTrue (statement_fits c.names s && list_all (λ fits. fits) (map (statement_fits c.names) ss)) = f in
      let S = hs.0 (and_left _ _ fits) in
      let R = pieces_hold ss hs.1 (and_right _ _ fits) in
      record { ways = (S.ways, R.ways); sits = (S.sits, R.sits) }

  block_at : (body : List TypedStatement) → AllByRecursion Makes body → FormHas (roll-TypedForm (TypedForm-F.Block body))
  unfolding shape piece form_fits statement_fits
  block_at body h = form_is (TypedForm-F.Block body) _ _ _ _
      (let e : shape (roll-TypedForm (TypedForm-F.Block body)) ≡ form_step (TypedForm-F.Block (map piece body)) = search (rules, statement_lemmas) in e)
      (let e : form_fits c.names (roll-TypedForm (TypedForm-F.Block body)) ≡ fitting.statement_form c.names (TypedForm-F.Block (map (statement_fits c.names) body)) = search (rules, statement_lemmas) in e)
      (λ f. let B = pieces_hold body h f in record { declares = refl; ways = ways.block_is (map piece body) B.ways; sits = sits.block_is c (map piece body) B.sits })

  empty_at : FormHas (roll-TypedForm (TypedForm-F.Empty))
  unfolding shape
  empty_at = form_is (TypedForm-F.Empty) _ _ _ _ (let e : shape (roll-TypedForm (TypedForm-F.Empty)) ≡ form_step (TypedForm-F.Empty) = search (rules, statement_lemmas) in e) refl
      (λ f. record { declares = refl; ways = ways.skip_is; sits = sits.skip_is c })

  piece_if : (o : Option TypedStatement) → IfSome o Makes → IsTrue (fitting.statement_if c.names (option_map (statement_fits c.names) o)) → IfSome (option_map piece o) (PieceHolds c)
  piece_if None h f = tt
  piece_if (Some s) h f = h f

  ways_if : (o : Option Piece) → IfSome o (PieceHolds c) → IfSome o ways.IsPiece
  ways_if None h = tt
  ways_if (Some p) h = h.ways

  sits_if : (o : Option Piece) → IfSome o (PieceHolds c) → IfSome o (sits.IsPiece c)
  sits_if None h = tt
  sits_if (Some p) h = h.sits

  value_ways : (o : Option TypedExpr) → IsTrue (option_fits c.names o) → IfSome (option_map value_of o) ways_flows.IsValue
  value_ways None f = tt
  value_ways (Some x) f = (value_holds c x f).ways

  has : (x : TypedExpr) → IsTrue (expression_fits c.names x) → sits.HasValue c (value_of x)
  has x f = ((expression_fit c.names x).kind, (value_holds c x f).sits)

  value_sits : (o : Option TypedExpr) → IsTrue (option_fits c.names o) → sits.OptionHas c (option_map value_of o)
  value_sits None f = tt
  value_sits (Some x) f = has x f

  values_hold : (xs : List TypedExpr) → IsTrue (list_all (expression_fits c.names) xs) → AllByRecursion ways_flows.IsValue (map value_of xs) × AllByRecursion (sits.HasValue c) (map value_of xs)
  values_hold [] f = (tt, tt)
  values_hold (x ∷ xs) f =
      let all : IsTrue (expression_fits c.names x && list_all (expression_fits c.names) xs) = f in
      let R = values_hold xs (and_right _ _ all) in
      (((value_holds c x (and_left _ _ all)).ways, R.0), (has x (and_left _ _ all), R.1))

  -- ---- the forms

  local_at : (v : Variable) (first : Option TypedExpr) → FormHas (roll-TypedForm (TypedForm-F.Local v first))
  unfolding shape form_fits
  local_at v first = form_is (TypedForm-F.Local v first) _ _ _ _
      (let e : shape (roll-TypedForm (TypedForm-F.Local v first)) ≡ form_step (TypedForm-F.Local v first) = search (rules, statement_lemmas) in e)
      (let e : form_fits c.names (roll-TypedForm (TypedForm-F.Local v first)) ≡ fitting.statement_form c.names (TypedForm-F.Local v first) = search (rules, statement_lemmas) in e)
      (λ f.
      let all : IsTrue (is_integer c.names v && option_fits c.names first) = f in
      let own = and_left _ _ all in
      record { declares = and_both (is_variable c.names v) true (integer_variable c.names v own) refl; ways = ways.local_is v (option_map value_of first) (value_ways first (and_right _ _ all)); sits = sits.local_is c v (option_map value_of first) own (value_sits first (and_right _ _ all)) })

  -- a list that fits is short
  short_list : (o : Option ℕ) (count : ℕ) → IsTrue (begins_within c.names o count) → count ≤ 1024
  short_list None count h = absurd (cc)
  short_list (Some own) count h =
      let shorter = leb-true count own (and_left (nat_le count own) (nat_le own 1024) h) in
      let most = leb-true own 1024 (and_right (nat_le count own) (nat_le own 1024) h) in
      omega arith

  array_at : (v : Variable) (list : List TypedExpr) → FormHas (roll-TypedForm (TypedForm-F.LocalArray v list))
  unfolding shape form_fits
  array_at v list = form_is (TypedForm-F.LocalArray v list) _ _ _ _
      (let e : shape (roll-TypedForm (TypedForm-F.LocalArray v list)) ≡ form_step (TypedForm-F.LocalArray v list) = search (rules, statement_lemmas) in e)
      (let e : form_fits c.names (roll-TypedForm (TypedForm-F.LocalArray v list)) ≡ fitting.statement_form c.names (TypedForm-F.LocalArray v list) = search (rules, statement_lemmas) in e)
      (λ f.
      let all : IsTrue (is_array c.names v && list_all (expression_fits c.names) list && begins_within c.names v.length (length list)) = f in
      let front : IsTrue (is_array c.names v && list_all (expression_fits c.names) list) = and_left _ _ all in
      let own = and_left _ _ front in
      let short : length list ≤ 1024 = short_list v.length (length list) (and_right (is_array c.names v && list_all (expression_fits c.names) list) (begins_within c.names v.length (length list)) all) in
      let long = length-map list value_of in
      let few : length (map value_of list) ≤ 2 ^ 31 = omega arith in
      let V = values_hold list (and_right _ _ front) in
      record { declares = and_both (is_variable c.names v) true (array_variable c.names v own) refl; ways = ways.array_is v (map value_of list) V.0; sits = sits.array_is c v (map value_of list) own few V.1 })

  operator_is : (op : Option (BinaryOp × Kind)) (x : TypedExpr) → IsTrue (operator_fits c.names op x) → sits.OperatorFits c op (expression_fit c.names x).kind
  operator_is None x f = tt
  operator_is (Some op) x f =
      let both : IsTrue (is_kind op.1 && operands_meet op.0 op.1 (expression_fit c.names x).kind) = f in
      (and_left _ _ both, and_right _ _ both)

  assign_at : (p : TypedPlace) (op : Option (BinaryOp × Kind)) (x : TypedExpr) → FormHas (roll-TypedForm (TypedForm-F.Assign p op x))
  unfolding shape form_fits
  assign_at p op x = form_is (TypedForm-F.Assign p op x) _ _ _ _
      (let e : shape (roll-TypedForm (TypedForm-F.Assign p op x)) ≡ form_step (TypedForm-F.Assign p op x) = search (rules, statement_lemmas) in e)
      (let e : form_fits c.names (roll-TypedForm (TypedForm-F.Assign p op x)) ≡ fitting.statement_form c.names (TypedForm-F.Assign p op x) = search (rules, statement_lemmas) in e)
      (λ f.
      let all : IsTrue (place_fits c.names p && operator_fits c.names op x && expression_fits c.names x) = f in
      let both : IsTrue (place_fits c.names p && operator_fits c.names op x) = and_left _ _ all in
      let P = spot_holds c p (and_left _ _ both) in
      let X = value_holds c x (and_right _ _ all) in
      record {
        declares = refl;
        ways = ways.assign_is (spot_of p) op (value_of x) P.ways X.ways;
        sits = sits.assign_is c (spot_of p) op (value_of x) (expression_fit c.names x).kind P.sits (variable_kind c.names (spot_of p).variable P.variable) X.sits (operator_is op x (and_right _ _ both));
      })

  call_at : (q : TypedCall) → FormHas (roll-TypedForm (TypedForm-F.Call q))
  unfolding shape form_fits
  call_at q = form_is (TypedForm-F.Call q) _ _ _ _
      (let e : shape (roll-TypedForm (TypedForm-F.Call q)) ≡ form_step (TypedForm-F.Call q) = search (rules, statement_lemmas) in e)
      (let e : form_fits c.names (roll-TypedForm (TypedForm-F.Call q)) ≡ fitting.statement_form c.names (TypedForm-F.Call q) = search (rules, statement_lemmas) in e)
      (λ f. let C = call_holds c q f in record { declares = refl; ways = ways.call_is (calling_of q) C.ways; sits = sits.call_is c (calling_of q) (call_fit c.names q).result C.sits })

  label_at : (name : List ℕ) (s : TypedStatement) → Makes s → FormHas (roll-TypedForm (TypedForm-F.Label name s))
  unfolding shape piece form_fits statement_fits
  label_at name s h = form_is (TypedForm-F.Label name s) _ _ _ _
      (let e : shape (roll-TypedForm (TypedForm-F.Label name s)) ≡ form_step (TypedForm-F.Label name (piece s)) = search (rules, statement_lemmas) in e)
      (let e : form_fits c.names (roll-TypedForm (TypedForm-F.Label name s)) ≡ fitting.statement_form c.names (TypedForm-F.Label name (statement_fits c.names s)) = search (rules, statement_lemmas) in e)
      (λ f. let S = h f in record { declares = refl; ways = ways.label_is name (piece s) S.ways; sits = sits.label_is c name (piece s) S.sits })

  -- arms that hold
  abbrev arms_of : List (TypedExpr × TypedStatement) → List (Value × Piece)
  arms_of arms = map tested (map (λ (arm : TypedExpr × TypedStatement). (arm.0, piece arm.1)) arms)

  abbrev ArmsMake : List (TypedExpr × TypedStatement) → Type 0
  ArmsMake arms = AllByRecursion (λ (arm : TypedExpr × TypedStatement). Makes arm.1) arms

  abbrev arms_fits : List (TypedExpr × TypedStatement) → Bool
  arms_fits arms = list_all (arm_fits c.names) (map (λ (arm : TypedExpr × TypedStatement). (arm.0, statement_fits c.names arm.1)) arms)

  each_arm : (arms : List (TypedExpr × TypedStatement)) → ArmsMake arms → IsTrue (arms_fits arms) → AllByRecursion ways.IsArm (arms_of arms) × AllByRecursion (sits_branches.IsArm c) (arms_of arms)
  each_arm [] h f = (tt, tt)
  each_arm (arm ∷ arms) h f =
      let all : IsTrue (expression_fits c.names arm.0 && statement_fits c.names arm.1 && arms_fits arms) = f in
      let both : IsTrue (expression_fits c.names arm.0 && statement_fits c.names arm.1) = and_left _ _ all in
      let S = h.0 (and_right _ _ both) in
      let R = each_arm arms h.1 (and_right _ _ all) in
      ((((value_holds c arm.0 (and_left _ _ both)).ways, S.ways), R.0), ((has arm.0 (and_left _ _ both), S.sits), R.1))

  arms_hold : (arms : List (TypedExpr × TypedStatement)) (otherwise : Option Piece) → ArmsMake arms → IsTrue (arms_fit c.names (map (λ (arm : TypedExpr × TypedStatement). (arm.0, statement_fits c.names arm.1)) arms))
      → IfSome otherwise (PieceHolds c) → RowHolds c [] (arms_row (arms_of arms) otherwise)
  arms_hold [] otherwise h f o = absurd (cc)
  arms_hold (arm ∷ arms) otherwise h f o =
      let A = each_arm (arm ∷ arms) h f in
      record { declares = refl; ways = ways.arms_are (tested (arm.0, piece arm.1)) (arms_of arms) otherwise A.0.0 A.0.1 (ways_if otherwise o); sits = sits_branches.arms_are c (tested (arm.0, piece arm.1)) (arms_of arms) otherwise A.1.0 A.1.1 (sits_if otherwise o) }

  if_at : (arms : List (TypedExpr × TypedStatement)) (otherwise : Option TypedStatement) → ArmsMake arms → IfSome otherwise Makes → FormHas (roll-TypedForm (TypedForm-F.If arms otherwise))
  unfolding shape piece form_fits statement_fits
  if_at arms otherwise h i = form_is (TypedForm-F.If arms otherwise) _ _ _ _
      (let e : shape (roll-TypedForm (TypedForm-F.If arms otherwise)) ≡ form_step (TypedForm-F.If (map (λ (arm : TypedExpr × TypedStatement). (arm.0, piece arm.1)) arms) (option_map piece otherwise)) = search (rules, statement_lemmas) in e)
      (let e : form_fits c.names (roll-TypedForm (TypedForm-F.If arms otherwise)) ≡ fitting.statement_form c.names (TypedForm-F.If (map (λ (arm : TypedExpr × TypedStatement). (arm.0, statement_fits c.names arm.1)) arms) (option_map (statement_fits c.names) otherwise)) = search (rules, statement_lemmas) in e)
      (λ f.
      let all : IsTrue (arms_fit c.names (map (λ (arm : TypedExpr × TypedStatement). (arm.0, statement_fits c.names arm.1)) arms) && fitting.statement_if c.names (option_map (statement_fits c.names) otherwise)) = f in
      arms_hold arms (option_map piece otherwise) h (and_left _ _ all) (piece_if otherwise i (and_right _ _ all)))

  while_at : (x : TypedExpr) (s : TypedStatement) → Makes s → FormHas (roll-TypedForm (TypedForm-F.While x s))
  unfolding shape piece form_fits statement_fits
  while_at x s h = form_is (TypedForm-F.While x s) _ _ _ _
      (let e : shape (roll-TypedForm (TypedForm-F.While x s)) ≡ form_step (TypedForm-F.While x (piece s)) = search (rules, statement_lemmas) in e)
      (let e : form_fits c.names (roll-TypedForm (TypedForm-F.While x s)) ≡ fitting.statement_form c.names (TypedForm-F.While x (statement_fits c.names s)) = search (rules, statement_lemmas) in e)
      (λ f.
      let both : IsTrue (expression_fits c.names x && statement_fits c.names s) = f in
      let S = h (and_right _ _ both) in
      record { declares = refl; ways = ways.while_is (value_of x) (piece s) (value_holds c x (and_left _ _ both)).ways S.ways; sits = sits_branches.while_is c (value_of x) (piece s) (has x (and_left _ _ both)) S.sits })

  do_at : (s : TypedStatement) (x : TypedExpr) → Makes s → FormHas (roll-TypedForm (TypedForm-F.Do s x))
  unfolding shape piece form_fits statement_fits
  do_at s x h = form_is (TypedForm-F.Do s x) _ _ _ _
      (let e : shape (roll-TypedForm (TypedForm-F.Do s x)) ≡ form_step (TypedForm-F.Do (piece s) x) = search (rules, statement_lemmas) in e)
      (let e : form_fits c.names (roll-TypedForm (TypedForm-F.Do s x)) ≡ fitting.statement_form c.names (TypedForm-F.Do (statement_fits c.names s) x) = search (rules, statement_lemmas) in e)
      (λ f.
      let both : IsTrue (statement_fits c.names s && expression_fits c.names x) = f in
      let S = h (and_left _ _ both) in
      record { declares = refl; ways = ways.do_is (piece s) (value_of x) S.ways (value_holds c x (and_right _ _ both)).ways; sits = sits_branches.do_is c (piece s) (value_of x) S.sits (has x (and_right _ _ both)) })

  for_at : (first : List TypedStatement) (x : Option TypedExpr) (j : Option TypedStatement) (s : TypedStatement) → AllByRecursion Makes first → IfSome j Makes → Makes s → FormHas (roll-TypedForm (TypedForm-F.For first x j s))
  unfolding shape piece form_fits statement_fits
  for_at first x j s h i k = form_is (TypedForm-F.For first x j s) _ _ _ _
      (let e : shape (roll-TypedForm (TypedForm-F.For first x j s)) ≡ form_step (TypedForm-F.For (map piece first) x (option_map piece j) (piece s)) = search (rules, statement_lemmas) in e)
      (let e : form_fits c.names (roll-TypedForm (TypedForm-F.For first x j s)) ≡ fitting.statement_form c.names (TypedForm-F.For (map (statement_fits c.names) first) x (option_map (statement_fits c.names) j) (statement_fits c.names s)) = search (rules, statement_lemmas) in e)
      (λ f.
      let all : IsTrue (list_all (λ fits. fits) (map (statement_fits c.names) first) && option_fits c.names x && fitting.statement_if c.names (option_map (statement_fits c.names) j) && statement_fits c.names s) = f in
      let three : IsTrue (list_all (λ fits. fits) (map (statement_fits c.names) first) && option_fits c.names x && fitting.statement_if c.names (option_map (statement_fits c.names) j)) = and_left _ _ all in
      let two : IsTrue (list_all (λ fits. fits) (map (statement_fits c.names) first) && option_fits c.names x) = and_left _ _ three in
      let F = pieces_hold first h (and_left _ _ two) in
      let J = piece_if j i (and_right _ _ three) in
      let S = k (and_right _ _ all) in
      record {
        declares = refl;
        ways = ways.for_is (map piece first) (option_map value_of x) (option_map piece j) (piece s) F.ways (value_ways x (and_right _ _ two)) (ways_if (option_map piece j) J) S.ways;
        sits = sits_branches.for_is c (map piece first) (option_map value_of x) (option_map piece j) (piece s) F.sits (value_sits x (and_right _ _ two)) (sits_if (option_map piece j) J) S.sits;
      })

  -- ---- `switch`

  -- an expression that fits has a kind
  kind_known : (x : TypedExpr) → IsTrue (expression_fits c.names x) → IsTrue (is_kind (expression_fit c.names x).kind)
  unfolding expression_fit expression_form_fits
  kind_known x = ind-TypedExpr (λ f. Unit {0}) (λ q. Unit {0}) (λ y. IsTrue (expression_fits c.names y) → IsTrue (is_kind (expression_fit c.names y).kind)) (λ p. Unit {0}) (λ y z e. tt) (λ y z e. tt) (λ y z e. at y) (λ y z e. tt) x
    where
      at : (y : TypedExpr-F TypedExprForm TypedCall TypedExpr TypedPlace) → IsTrue (expression_fits c.names (roll-TypedExpr y)) → IsTrue (is_kind (expression_fit c.names (roll-TypedExpr y)).kind)
      at y h =
          let e : expression_fit c.names (roll-TypedExpr y) ≡ record { kind = y.kind; fits = is_kind y.kind && span_fits c.names y.span && expression_form_fits c.names y.form y.kind } = search (rules, expression_lemmas) in
          let all : IsTrue (is_kind y.kind && span_fits c.names y.span && expression_form_fits c.names y.form y.kind) = subst (λ (q : Fit). IsTrue q.fits) e h in
          subst (λ (q : Fit). IsTrue (is_kind q.kind)) (sym e) (and_left _ _ (and_left _ _ all))

  groups_hold : (kind : Kind) (gs : List TypedGroup) → AllByRecursion GroupHas gs → IsTrue (list_all (λ (g : Kind → Bool). g kind) (map (group_fits c.names) gs))
      → AllByRecursion ways_switch.IsGroup (map group_of gs) × AllByRecursion (sits_switch.IsGroup c kind) (map group_of gs)
  groups_hold kind [] hs f = (tt, tt)
  groups_hold kind (g ∷ gs) hs f =
      let fits : IsTrue (group_fits c.names g kind && list_all (λ (g : Kind → Bool). g kind) (map (group_fits c.names) gs)) = f in
      let G = hs.0 kind (and_left _ _ fits) in
      let R = groups_hold kind gs hs.1 (and_right _ _ fits) in
      ((G.ways, R.0), (G.sits, R.1))

  switch_holds : (x : Value) (kind : Kind) (cell : ℕ) (gs : List Group) → sits_flows.IsValue c x kind → IsTrue (is_kind kind) → IsTrue (is_cell c.names cell) → AllByRecursion (sits_switch.IsGroup c kind) gs → sits.IsLowering c (switch_row x cell gs)
  switch_holds x kind cell gs h k i hs =
      let same = sym h.same in
      sits_switch.switch_is c x cell gs (subst (sits_flows.IsValue c x) same h) (subst (λ q. IsTrue (is_kind q)) same k) i (subst (λ q. AllByRecursion (sits_switch.IsGroup c q) gs) same hs)

  switch_at : (x : TypedExpr) (cell : ℕ) (gs : List TypedGroup) → AllByRecursion GroupHas gs → FormHas (roll-TypedForm (TypedForm-F.Switch x cell gs))
  unfolding shape group_of form_fits group_fits
  switch_at x cell gs h = form_is (TypedForm-F.Switch x cell gs) _ _ _ _
      (let e : shape (roll-TypedForm (TypedForm-F.Switch x cell gs)) ≡ form_step (TypedForm-F.Switch x cell (map group_of gs)) = search (rules, statement_lemmas) in e)
      (let e : form_fits c.names (roll-TypedForm (TypedForm-F.Switch x cell gs)) ≡ fitting.statement_form c.names (TypedForm-F.Switch x cell (map (group_fits c.names) gs)) = search (rules, statement_lemmas) in e)
      (λ f.
      let kind = (expression_fit c.names x).kind in
      let all : IsTrue (expression_fits c.names x && is_cell c.names cell && list_all (λ (g : Kind → Bool). g kind) (map (group_fits c.names) gs)) = f in
      let both : IsTrue (expression_fits c.names x && is_cell c.names cell) = and_left _ _ all in
      let X = value_holds c x (and_left _ _ both) in
      let G = groups_hold kind gs h (and_right _ _ all) in
      record {
        declares = refl;
        ways = ways_switch.switch_is (value_of x) cell (map group_of gs) X.ways G.0;
        sits = switch_holds (value_of x) kind cell (map group_of gs) X.sits (kind_known x (and_left _ _ both)) (and_right _ _ both) G.1;
      })

  -- ---- jumps and tests

  break_at : FormHas (roll-TypedForm (TypedForm-F.Break))
  unfolding shape
  break_at = form_is (TypedForm-F.Break) _ _ _ _
      (let e : shape (roll-TypedForm (TypedForm-F.Break)) ≡ form_step (TypedForm-F.Break) = search (rules, statement_lemmas) in e)
      refl
      (λ f. record { declares = refl; ways = ways.break_is; sits = sits.break_is c })

  continue_at : FormHas (roll-TypedForm (TypedForm-F.Continue))
  unfolding shape
  continue_at = form_is (TypedForm-F.Continue) _ _ _ _
      (let e : shape (roll-TypedForm (TypedForm-F.Continue)) ≡ form_step (TypedForm-F.Continue) = search (rules, statement_lemmas) in e)
      refl
      (λ f. record { declares = refl; ways = ways.continue_is; sits = sits.continue_is c })

  return_at : (x : Option TypedExpr) → FormHas (roll-TypedForm (TypedForm-F.Return x))
  unfolding shape form_fits
  return_at x = form_is (TypedForm-F.Return x) _ _ _ _
      (let e : shape (roll-TypedForm (TypedForm-F.Return x)) ≡ form_step (TypedForm-F.Return x) = search (rules, statement_lemmas) in e)
      (let e : form_fits c.names (roll-TypedForm (TypedForm-F.Return x)) ≡ fitting.statement_form c.names (TypedForm-F.Return x) = search (rules, statement_lemmas) in e)
      (λ f. record { declares = refl; ways = ways.return_is (option_map value_of x) (value_ways x f); sits = sits.return_is c (option_map value_of x) (value_sits x f) })

  assert_at : (x : TypedExpr) → FormHas (roll-TypedForm (TypedForm-F.Assert x))
  unfolding shape form_fits
  assert_at x = form_is (TypedForm-F.Assert x) _ _ _ _
      (let e : shape (roll-TypedForm (TypedForm-F.Assert x)) ≡ form_step (TypedForm-F.Assert x) = search (rules, statement_lemmas) in e)
      (let e : form_fits c.names (roll-TypedForm (TypedForm-F.Assert x)) ≡ fitting.statement_form c.names (TypedForm-F.Assert x) = search (rules, statement_lemmas) in e)
      (λ f. record { declares = refl; ways = ways.test_is Assert (value_of x) (λ v. (refl, refl, refl)) (value_holds c x f).ways; sits = sits.test_is c Assert (value_of x) (plain_assert c) (has x f) })

  assume_at : (x : TypedExpr) → FormHas (roll-TypedForm (TypedForm-F.Assume x))
  unfolding shape form_fits
  assume_at x = form_is (TypedForm-F.Assume x) _ _ _ _
      (let e : shape (roll-TypedForm (TypedForm-F.Assume x)) ≡ form_step (TypedForm-F.Assume x) = search (rules, statement_lemmas) in e)
      (let e : form_fits c.names (roll-TypedForm (TypedForm-F.Assume x)) ≡ fitting.statement_form c.names (TypedForm-F.Assume x) = search (rules, statement_lemmas) in e)
      (λ f. record { declares = refl; ways = ways.test_is Assume (value_of x) (λ v. (refl, refl, refl)) (value_holds c x f).ways; sits = sits.test_is c Assume (value_of x) (plain_assume c) (has x f) })

  -- ---- groups and statements

  group_at : (x : TypedGroup-F TypedForm TypedGroup TypedStatement) → AllByRecursion Makes x.body → GroupHas (roll-TypedGroup x)
  unfolding group_of piece group_fits statement_fits
  group_at x h kind f =
      let e : group_of (roll-TypedGroup x) ≡ record { labels = x.labels; body = map piece x.body } = search (rules, statement_lemmas) in
      let fit : group_fits c.names (roll-TypedGroup x) ≡ fitting.group_step c.names (record { labels = x.labels; body = map (statement_fits c.names) x.body }) = search (rules, statement_lemmas) in
      let both : IsTrue (labels_fit c.names kind x.labels && list_all (λ fits. fits) (map (statement_fits c.names) x.body)) = subst (λ (g : Kind → Bool). IsTrue (g kind)) fit f in
      let B = pieces_hold x.body h (and_right _ _ both) in
      subst (GroupHolds c kind) (sym e) (record { ways = B.ways; sits = record { labels = and_left _ _ both; body = B.sits } })

  statement_at : (x : TypedStatement-F TypedForm TypedGroup TypedStatement) → FormHas x.form → Makes (roll-TypedStatement x)
  unfolding piece shape statement_fits form_fits
  statement_at x h f =
      let e : piece (roll-TypedStatement x) ≡ shape x.form x.span = search (rules, statement_lemmas) in
      let fit : statement_fits c.names (roll-TypedStatement x) ≡ (span_fits c.names x.span && form_fits c.names x.form) = search (rules, statement_lemmas) in
      let both : IsTrue (span_fits c.names x.span && form_fits c.names x.form) = subst IsTrue fit f in
      subst (PieceHolds c) (sym e) (h x.span (span_there c x.span (and_left _ _ both)) (and_right _ _ both))

  -- what holds of each part holds of the parts in a list
  module _ {S : Type 0} (f : S → TypedStatement) (g : (q : S) → Makes (f q)) where
    all_make : (ys : List S) → AllByRecursion Makes (map f ys)
    all_make [] = tt
    all_make (y ∷ ys) = (g y, all_make ys)

    all_arms : (ys : List (TypedExpr × S)) → ArmsMake (map (λ (arm : TypedExpr × S). (arm.0, f arm.1)) ys)
    all_arms [] = tt
    all_arms (y ∷ ys) = (g y.1, all_arms ys)

  module _ {S : Type 0} (f : S → TypedGroup) (g : (q : S) → GroupHas (f q)) where
    all_groups : (ys : List S) → AllByRecursion GroupHas (map f ys)
    all_groups [] = tt
    all_groups (y ∷ ys) = (g y, all_groups ys)

  pub statement_holds : (s : TypedStatement) → Makes s
  statement_holds s = ind-TypedStatement FormHas GroupHas Makes
      (λ x'. elim [
        | TypedForm-F.Block ys ↦ λ e. subst (λ z. FormHas (roll-TypedForm z)) e (block_at _ (all_make (λ q. q.0) (λ q. q.1) ys))
        | TypedForm-F.Empty ↦ λ e. subst (λ z. FormHas (roll-TypedForm z)) e (empty_at)
        | TypedForm-F.Local v first ↦ λ e. subst (λ z. FormHas (roll-TypedForm z)) e (local_at v first)
        | TypedForm-F.LocalArray v list ↦ λ e. subst (λ z. FormHas (roll-TypedForm z)) e (array_at v list)
        | TypedForm-F.Assign p op x ↦ λ e. subst (λ z. FormHas (roll-TypedForm z)) e (assign_at p op x)
        | TypedForm-F.Call q ↦ λ e. subst (λ z. FormHas (roll-TypedForm z)) e (call_at q)
        | TypedForm-F.Label name y ↦ λ e. subst (λ z. FormHas (roll-TypedForm z)) e (label_at name y.0 y.1)
        | TypedForm-F.If arms None ↦ λ e. subst (λ z. FormHas (roll-TypedForm z)) e (if_at _ None (all_arms (λ q. q.0) (λ q. q.1) arms) tt)
        | TypedForm-F.If arms (Some o) ↦ λ e. subst (λ z. FormHas (roll-TypedForm z)) e (if_at _ (Some o.0) (all_arms (λ q. q.0) (λ q. q.1) arms) o.1)
        | TypedForm-F.While x y ↦ λ e. subst (λ z. FormHas (roll-TypedForm z)) e (while_at x y.0 y.1)
        | TypedForm-F.Do y x ↦ λ e. subst (λ z. FormHas (roll-TypedForm z)) e (do_at y.0 x y.1)
        | TypedForm-F.For first x None y ↦ λ e. subst (λ z. FormHas (roll-TypedForm z)) e (for_at _ x None y.0 (all_make (λ q. q.0) (λ q. q.1) first) tt y.1)
        | TypedForm-F.For first x (Some j) y ↦ λ e. subst (λ z. FormHas (roll-TypedForm z)) e (for_at _ x (Some j.0) y.0 (all_make (λ q. q.0) (λ q. q.1) first) j.1 y.1)
        | TypedForm-F.Switch x cell gs ↦ λ e. subst (λ z. FormHas (roll-TypedForm z)) e (switch_at x cell _ (all_groups (λ q. q.0) (λ q. q.1) gs))
        | TypedForm-F.Break ↦ λ e. subst (λ z. FormHas (roll-TypedForm z)) e (break_at)
        | TypedForm-F.Continue ↦ λ e. subst (λ z. FormHas (roll-TypedForm z)) e (continue_at)
        | TypedForm-F.Return x ↦ λ e. subst (λ z. FormHas (roll-TypedForm z)) e (return_at x)
        | TypedForm-F.Assert x ↦ λ e. subst (λ z. FormHas (roll-TypedForm z)) e (assert_at x)
        | TypedForm-F.Assume x ↦ λ e. subst (λ z. FormHas (roll-TypedForm z)) e (assume_at x)
      ])
      (λ x' y e. subst (λ z. GroupHas (roll-TypedGroup z)) e (group_at (record { labels = y.labels; body = map (λ q. q.0) y.body }) (all_make (λ q. q.0) (λ q. q.1) y.body)))
      (λ x' y e. subst (λ z. Makes (roll-TypedStatement z)) e (statement_at (record { span = y.span; form = y.form.0 }) y.form.1)) s

  -- statements one after another
  pub statements_hold : (ss : List TypedStatement) → IsTrue (list_all (statement_fits c.names) ss) → PiecesHold c (map piece ss)
  statements_hold [] f = record { ways = tt; sits = tt }
  statements_hold (s ∷ ss) f =
      let fits : IsTrue (statement_fits c.names s && list_all (statement_fits c.names) ss) = f in
      let S = statement_holds s (and_left _ _ fits) in
      let R = statements_hold ss (and_right _ _ fits) in
      record { ways = (S.ways, R.ways); sits = (S.sits, R.sits) }
