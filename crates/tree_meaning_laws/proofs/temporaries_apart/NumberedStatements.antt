-- Rules of declarations and statements that number temporaries upward.
use Rattle.std.proofs.Common.{◌≡◌, ℕ, ◌+◌, ◌≤◌, Bool, true, false, not, List, [], ◌∷◌, map, length, Option, Some, None, refl, sym, subst, arith, rules}
use Rattle.std.specs.Prelude.{IfSome, option_map}
use Rattle.std.specs.List.{AllByRecursion}
use Rattle.fq_core.specs.declared.span.Span.{Span}
use Rattle.c_values.specs.declared.kinds.Kind.{Kind}
use Rattle.c_values.specs.declared.operators.BinaryOp.{BinaryOp}
use Rattle.c_values.specs.Kind.{int}
use Rattle.c_parse.specs.declared.expr.ExprTree.{ExprTree}
use Rattle.c_parse.specs.declared.expr.Ident.{Ident}
use Rattle.c_parse.specs.declared.statement.CaseLabel.{CaseLabel}
use Rattle.c_parse.specs.declared.statement.Declarator.{Declarator}
use Rattle.c_parse.specs.declared.statement.Initial.{Initial}
use Rattle.c_parse.specs.declared.statement.Initial.TheVariants as initials
use Rattle.c_parse.specs.declared.statement.PlaceTree.{PlaceTree}
use Rattle.c_parse.specs.declared.statement.Form.{Form, roll-Form, the_lemmas}
use Rattle.c_parse.specs.declared.statement.Form.TheOpen.{Form-F, Group-F, Statement-F}
use Rattle.c_parse.specs.declared.statement.Statement.{Statement, roll-Statement, ind-Statement}
use Rattle.c_parse.specs.declared.statement.Group.{Group, roll-Group}
use Rattle.c_parse.specs.declared.unit.Body.{Body}
use Rattle.cfa.specs.declared.parts.Variable.{Variable}
use Rattle.cfa.specs.declared.parts.VariablePlace.TheVariants as places
use Rattle.cfa.specs.Rules.{cell_count}
use Rattle.c_typed_trees.specs.declared.expression.TypedExpr.{TypedExpr}
use Rattle.c_typed_trees.specs.declared.statement.TypedStatement.{TypedStatement}
use Rattle.c_type_rules.specs.declared.scopes.Bound.{Bound}
use Rattle.c_type_rules.specs.declared.scopes.Meaning.{Meaning}
use Rattle.c_type_rules.specs.declared.scopes.Meaning.TheVariants as meanings
use Rattle.c_type_rules.specs.Kinds.{promotion}
use Rattle.c_type_rules.specs.Rule.{Rule, pure, alone_in}
use Rattle.c_type_rules.specs.Expressions.{integer, piece, converted_to, place_of}
use Rattle.c_types.specs.declared.around.Around.{Around}
use Rattle.c_types.specs.declared.parameters.Parameters.{Parameters}
use Rattle.c_types.specs.Declarations.{same_level, unused, bound_as, bind_variable, variable_of, is_array_length, length_if, length_within, length_at, cells_of, is_list_for, value_for, values_for, begun, local_rule, locals_rule}
use Rattle.c_types.specs.Statements.{in_loop, in_cases, integer_if, integer_meant, integer_named, variable_at, place_rule, step_operator, one_at, Part, GroupPart, one_of, in_turn, single, alone, arm_rule, arms_rule, last_rule, first_rule, test_rule, next_rule, unused_label, fresh, case_valued, case_rule, cases_rule, group_of, group_rule, groups_rule, return_rule, call_statement, form_rule, form_of, group, part, statement_rule, statements_typing}
use Rattle.c_types.specs.Functions.{bind_parameters, in_function, body_rule}
use Rattle.tree_meaning_laws.specs.temporaries_apart.Named.{named, place_named, option_named, group_named, statement_named, IsBelow}
use Rattle.tree_meaning_laws.proofs.temporaries_apart.Stands.{Stands, none_stands, least, then_stands, alone_stands, ListStands, TreeStands, constant_stands, whole_stands, element_stands, converted_stands}
use Rattle.tree_meaning_laws.proofs.temporaries_apart.StatementsStand.{StatementStands, StatementsStand, arm_names, optional, empty_stands, break_stands, continue_stands, block_stands, local_stands, array_stands, assigned_stands, call_statement_stands, label_stands, if_stands, while_stands, do_stands, for_stands, switch_stands, return_stands, assert_stands, assume_stands, one_stands, group_stands}
use Rattle.tree_meaning_laws.proofs.temporaries_apart.Numbered.{MeaningBelow, FoundBelow, Numbered, Same, Any, then_numbered, then_same, pure_numbered, pure_same, fault_same, expect_same, look_same, is_label_same, is_case_same, here_same, local_same, bind_same, bind_label_same, bind_case_same, after_temporary, scope_numbered, switch_numbered, alone_numbered, each_numbered, each_same, alone_same, constant_same, IsNumbered, array_same, call_numbered, tree_numbered, expression_numbered}
use Rattle.c_types_laws.proofs.typing_fits.Silent.{all_mapped}

-- ---- declarations of any scope

module _ {end from : ℕ} where
  pub unused_same : (d : Ident) → Numbered end from (Same from Any) (unused d)
  unfolding unused
  unused_same d = then_same here_same (λ level p. then_same (look_same d.name) (λ found q. expect_same 31 d.span (not (same_level level found))))

  pub variable_same : (v : Variable) → IsBelow end v → Numbered end from (Same from Any) (bind_variable v)
  unfolding bind_variable
  variable_same v h = then_same here_same (λ level p. bind_same (bound_as level v) h)

  pub length_same : (span : Span) (t : Option ExprTree) → Numbered end from (Same from Any) (length_at span t)
  unfolding length_at
  length_same span None = pure_same None tt
  length_same span (Some t) = then_same (constant_same None t) (λ n p. within n)
    where
      if_length : (n : ℕ) (b : Bool) → Numbered end from (Same from Any) (length_if span n b)
      if_length n true = pure_same (Some n) tt
      if_length n false = fault_same 34 span _ tt

      within : (n : Option ℕ) → Numbered end from (Same from Any) (length_within span n)
      within None = pure_same (Some 0) tt
      within (Some n) = if_length n (is_array_length n)

same_count : (o : Option ℕ) → cells_of o ≡ cell_count o
same_count None = refl
same_count (Some n) = refl

module _ (end : ℕ) (some : 1 ≤ end) where
  abbrev IsStatements : Rule (List TypedStatement) → Type 0
  IsStatements m = (from : ℕ) → Numbered end from (StatementsStand end from) m

  abbrev IsStatement : Rule TypedStatement → Type 0
  IsStatement m = (from : ℕ) → Numbered end from (StatementStands end from) m

  tree : (t : ExprTree) (from : ℕ) → Numbered end from (TreeStands end from) (integer (piece t))
  tree = expression_numbered end some

  -- one statement in a list
  makes : (from to : ℕ) (s : TypedStatement) → StatementStands end from to s → Numbered end to (StatementsStand end from) (pure (s ∷ []))
  makes from to s h = pure_numbered (s ∷ []) (alone_stands end from to (statement_named s) h)

  -- ---- what variables begin as

  value_numbered : (kind : Kind) (t : ExprTree) (from : ℕ) → Numbered end from (TreeStands end from) (value_for kind t)
  unfolding value_for
  value_numbered kind t from = then_numbered (tree t from) (λ a to p. pure_numbered (converted_to kind a) (converted_stands end kind a from to p))

  values_numbered : (kind : Kind) (ts : List ExprTree) (from : ℕ) → Numbered end from (ListStands named end from) (values_for kind ts)
  unfolding values_for
  values_numbered kind ts from = each_numbered end named (λ t. alone_in (value_for kind t)) (λ t p from. alone_numbered named (value_numbered kind t from)) ts (every ts) from
    where
      every : (xs : List ExprTree) → AllByRecursion (λ (t : ExprTree). Unit {0}) xs
      every [] = tt
      every (x ∷ xs) = (tt, every xs)

  begun_numbered : (span : Span) (d : Ident) (v : Variable) → IsBelow end v → (length : Option ℕ) (first : Option Initial) → IsStatement (begun span d v length first)
  begun_numbered span d v h None None from = pure_numbered _ (local_stands end span v None from from h (none_stands end from from (omega arith)))
  begun_numbered span d v h None (Some (initials.One t)) from = then_numbered (value_numbered v.kind t from) (λ a to p. pure_numbered _ (local_stands end span v (Some a) from to h p))
  begun_numbered span d v h None (Some (initials.List ts)) from =
      then_same (expect_same 33 d.span false) (λ u p. then_numbered (values_numbered v.kind ts from) (λ list to q. pure_numbered _ (empty_stands end span from to (least end from to _ q))))
  begun_numbered span d v h (Some n) None from = pure_numbered _ (array_stands end span v [] from from h (none_stands end from from (omega arith)))
  begun_numbered span d v h (Some n) (Some (initials.One t)) from =
      then_same (expect_same 33 d.span false) (λ u p. then_numbered (value_numbered v.kind t from) (λ a to q. pure_numbered _ (empty_stands end span from to (least end from to (named a) q))))
  begun_numbered span d v h (Some n) (Some (initials.List ts)) from =
      then_same (expect_same 34 d.span (is_list_for n (length ts))) (λ u p. then_numbered (values_numbered v.kind ts from) (λ list to q. pure_numbered _ (array_stands end span v list from to h q)))

  local_numbered : (span : Span) (kind : Kind) (d : Declarator) → IsStatement (local_rule span kind d)
  unfolding local_rule
  local_numbered span kind d from =
      then_same (unused_same d.name) (λ u p. then_same (length_same d.name.span d.length) (λ length q. then_same (local_same (cells_of length)) (λ cell r.
      let v = variable_of d.name.name kind length (places.Local cell) in
      let h : IsBelow end v = (let e = same_count length in omega arith) in
      then_same (variable_same v h) (λ w s. begun_numbered span d.name v h length d.first from))))

  locals_numbered : (span : Span) (kind : Kind) (ds : List Declarator) → IsStatements (locals_rule span kind ds)
  unfolding locals_rule
  locals_numbered span kind ds from = each_numbered end statement_named (λ d. alone_in (local_rule span kind d)) (λ d p from. alone_numbered statement_named (local_numbered span kind d from)) ds (every ds) from
    where
      every : (xs : List Declarator) → AllByRecursion (λ (d : Declarator). Unit {0}) xs
      every [] = tt
      every (x ∷ xs) = (tt, every xs)

  -- ---- places

  integer_same : (span : Span) (w : List ℕ) (from : ℕ) → Numbered end from (Same from (IsBelow end)) (variable_at span w)
  unfolding variable_at
  integer_same span w from = then_same (look_same w) (λ found p. of_found found p)
    where
      if_integer : (v : Variable) → IsBelow end v → (length : Option ℕ) → Numbered end from (Same from (IsBelow end)) (integer_if span v length)
      if_integer v h None = pure_same v h
      if_integer v h (Some n) = fault_same 33 span _ some

      of_meaning : (m : Meaning) → MeaningBelow end m → Numbered end from (Same from (IsBelow end)) (integer_meant span m)
      of_meaning (meanings.Variable v) h = if_integer v h v.length
      of_meaning (meanings.Constant n) h = fault_same 33 span _ some
      of_meaning (meanings.Function f) h = fault_same 33 span _ some

      of_found : (found : Option Bound) → FoundBelow end found → Numbered end from (Same from (IsBelow end)) (integer_named span found)
      of_found None h = fault_same 30 span _ some
      of_found (Some b) h = of_meaning b.meaning h

  place_numbered : (d : Ident) (index : Option ExprTree) (from : ℕ) → Numbered end from (λ to p. Stands end from to (place_named p)) (place_rule d index)
  unfolding place_rule
  place_numbered d None from = then_same (integer_same d.span d.name from) (λ v h. pure_numbered (place_of v None) (whole_stands end v from from h (omega arith)))
  place_numbered d (Some t) from = then_same (array_same end some d.span d.name from) (λ v h. then_numbered (tree t from) (λ i to p. pure_numbered (place_of v (Some i)) (element_stands end v i from to h p)))

  -- ---- labels

  label_same : (d : Ident) (from : ℕ) → Numbered end from (Same from Any) (unused_label d)
  unfolding unused_label
  label_same d from = then_same (is_label_same d.name) (λ there p. then_same (expect_same 31 d.span (not there)) (λ u q. bind_label_same d.name))

  fresh_same : (span : Span) (v : Option ℕ) (from : ℕ) → Numbered end from (Same from Any) (fresh span v)
  unfolding fresh
  fresh_same span v from = then_same (is_case_same v) (λ there p. then_same (expect_same 31 span (not there)) (λ u q. then_same (bind_case_same v) (λ w r. pure_same (span, v) tt)))

  case_same : (kind : Kind) (span : Span) (value : Option ExprTree) (from : ℕ) → Numbered end from (Same from Any) (case_rule kind span value)
  unfolding case_rule
  case_same kind span None from = fresh_same span None from
  case_same kind span (Some t) from = then_same (constant_same (Some kind) t) (λ v p. valued v)
    where
      valued : (v : Option ℕ) → Numbered end from (Same from Any) (case_valued span v)
      valued None = pure_same _ tt
      valued (Some n) = fresh_same span (Some n) from

  cases_same : (kind : Kind) (labels : List CaseLabel) (from : ℕ) → Numbered end from (Same from Any) (cases_rule kind labels)
  unfolding cases_rule
  cases_same kind labels from = each_same (λ (c : CaseLabel). alone_in (case_rule kind c.span c.value)) (λ c. alone_same (case_same kind c.span c.value from)) labels

  -- ---- parts of statements

  test_numbered : (t : Option ExprTree) (from : ℕ) → Numbered end from (λ to o. Stands end from to (option_named o)) (test_rule t)
  unfolding test_rule
  test_numbered None from = pure_numbered None (none_stands end from from (omega arith))
  test_numbered (Some t) from = then_numbered (tree t from) (λ a to p. pure_numbered (Some a) p)

  return_numbered : (result : Option Kind) (span : Span) (t : Option ExprTree) → IsStatements (return_rule result span t)
  return_numbered None span None from = makes from from _ (return_stands end span None from from (none_stands end from from (omega arith)))
  return_numbered (Some kind) span (Some t) from = then_numbered (tree t from) (λ a to p. makes from to _ (return_stands end span (Some (converted_to kind a)) from to (converted_stands end kind a from to p)))
  return_numbered None span (Some t) from =
      then_same (expect_same 29 span false) (λ u p. then_numbered (tree t from) (λ a to q. makes from to _ (empty_stands end span from to (least end from to (named a) q))))
  return_numbered (Some kind) span None from = then_same (expect_same 29 span false) (λ u p. makes from from _ (empty_stands end span from from (omega arith)))

  call_statement_numbered : (span : Span) (d : Ident) (ts : List ExprTree) → IsStatements (call_statement span d ts)
  unfolding call_statement
  call_statement_numbered span d ts from = then_numbered (call_numbered end some d.span d.name (map piece ts) (pieces ts) from) (λ c to p. makes from to _ (call_statement_stands end span c.1 from to p))
    where
      pieces : (xs : List ExprTree) → AllByRecursion (IsNumbered end some) (map piece xs)
      pieces [] = tt
      pieces (x ∷ xs) = (tree_numbered end some x, pieces xs)

  -- ---- statements

  abbrev PartNumbered : Part → Type 0
  PartNumbered p = (u : Around) → IsStatements (p.rule u)

  abbrev AreNumbered : List Part → Type 0
  AreNumbered ps = AllByRecursion PartNumbered ps

  turn_numbered : (u : Around) (ps : List Part) → AreNumbered ps → IsStatements (in_turn u ps)
  turn_numbered u ps h from = each_numbered end statement_named (λ (p : Part). p.rule u) (λ p k from. k u from) ps h from

  single_numbered : (u : Around) (p : Part) → PartNumbered p → IsStatement (single u p)
  unfolding single
  single_numbered u p h from = then_numbered (h u from) (λ ss to q. pure_numbered (one_of p.span ss) (one_stands end p.span ss from to q))

  alone_statement : (u : Around) (p : Part) → PartNumbered p → IsStatement (alone u p)
  unfolding alone
  alone_statement u p h from = scope_numbered (single_numbered u p h from)

  arm_numbered : (u : Around) (arm : ExprTree × Part) → PartNumbered arm.1 → (from : ℕ) → Numbered end from (λ to a. Stands end from to (arm_names a)) (arm_rule u arm)
  unfolding arm_rule
  arm_numbered u arm h from = then_numbered (tree arm.0 from) (λ a mid p. then_numbered (alone_statement u arm.1 h mid) (λ b to q. pure_numbered (a, b) (then_arm a b from mid to p q)))
    where
      then_arm : (a : TypedExpr) (b : TypedStatement) (from mid to : ℕ) → TreeStands end from mid a → StatementStands end mid to b → Stands end from to (arm_names (a, b))
      then_arm a b from mid to h k = then_stands end from mid to (named a) (statement_named b) h k

  arms_numbered : (u : Around) (arms : List (ExprTree × Part)) → AllByRecursion (λ (a : ExprTree × Part). PartNumbered a.1) arms → (from : ℕ) → Numbered end from (ListStands arm_names end from) (arms_rule u arms)
  arms_numbered u arms h from = each_numbered end arm_names (λ (arm : ExprTree × Part). alone_in (arm_rule u arm)) (λ arm k from. alone_numbered arm_names (arm_numbered u arm k from)) arms h from

  last_numbered : (u : Around) (o : Option Part) → IfSome o PartNumbered → (from : ℕ) → Numbered end from (λ to s. Stands end from to (optional s)) (last_rule u o)
  unfolding last_rule
  last_numbered u None h from = pure_numbered None (none_stands end from from (omega arith))
  last_numbered u (Some p) h from = then_numbered (alone_statement u p h from) (λ s to q. pure_numbered (Some s) q)

  first_numbered : (u : Around) (o : Option Part) → IfSome o PartNumbered → IsStatements (first_rule u o)
  unfolding first_rule
  first_numbered u None h from = pure_numbered [] (none_stands end from from (omega arith))
  first_numbered u (Some p) h from = h u from

  next_numbered : (u : Around) (o : Option Part) → IfSome o PartNumbered → (from : ℕ) → Numbered end from (λ to s. Stands end from to (optional s)) (next_rule u o)
  unfolding next_rule
  next_numbered u None h from = pure_numbered None (none_stands end from from (omega arith))
  next_numbered u (Some p) h from = then_numbered (single_numbered u p h from) (λ s to q. pure_numbered (Some s) q)

  abbrev GroupNumbered : GroupPart → Type 0
  GroupNumbered g = AreNumbered g.body

  group_numbered : (u : Around) (kind : Kind) (g : GroupPart) → GroupNumbered g → (from : ℕ) → Numbered end from (λ to t. Stands end from to (group_named t)) (group_rule u kind g)
  unfolding group_rule
  group_numbered u kind g h from = then_same (cases_same kind g.labels from) (λ labels p. then_numbered (turn_numbered u g.body h from) (λ body to q. pure_numbered (group_of labels body) (group_stands end labels body from to q)))

  groups_numbered : (u : Around) (kind : Kind) (gs : List GroupPart) → AllByRecursion GroupNumbered gs → (from : ℕ) → Numbered end from (ListStands group_named end from) (groups_rule u kind gs)
  groups_numbered u kind gs h from = each_numbered end group_named (λ (g : GroupPart). alone_in (group_rule u kind g)) (λ g k from. alone_numbered group_named (group_numbered u kind g k from)) gs h from

  -- ---- trees

  abbrev Shaped : Form → Type 0
  Shaped f = (u : Around) (span : Span) → IsStatements (form_of f u span)

  abbrev ShapedRule : (Around → Span → Rule (List TypedStatement)) → Type 0
  ShapedRule f = (u : Around) (span : Span) → IsStatements (f u span)

  abbrev GroupMade : Group → Type 0
  GroupMade g = GroupNumbered (group g)

  abbrev Made : Statement → Type 0
  Made s = PartNumbered (part s)

  form_is : (x : Form-F Form Group Statement) (rule : Around → Span → Rule (List TypedStatement)) → form_of (roll-Form x) ≡ rule → ShapedRule rule → Shaped (roll-Form x)
  form_is x rule e h = subst ShapedRule (sym e) h

  parts_are : (ss : List Statement) → AllByRecursion Made ss → AreNumbered (map part ss)
  parts_are [] h = tt
  parts_are (s ∷ ss) h = (h.0, parts_are ss h.1)

  some_part : (o : Option Statement) → IfSome o Made → IfSome (option_map part o) PartNumbered
  some_part None h = tt
  some_part (Some s) h = h

  block_at : (ss : List Statement) → AllByRecursion Made ss → Shaped (roll-Form (Form-F.Block ss))
  unfolding form_of part
  block_at ss h =
      form_is (Form-F.Block ss) (form_rule (Form-F.Block (map part ss))) (search (rules, the_lemmas))
      (λ u span from. then_numbered (scope_numbered (turn_numbered u (map part ss) (parts_are ss h) from)) (λ body to p. makes from to _ (block_stands end span body from to p)))

  empty_at : Shaped (roll-Form Form-F.Empty)
  unfolding form_of part
  empty_at = form_is Form-F.Empty (form_rule Form-F.Empty) (search (rules, the_lemmas)) (λ u span from. makes from from _ (empty_stands end span from from (omega arith)))

  local_at : (kind : Kind) (ds : List Declarator) → Shaped (roll-Form (Form-F.Local kind ds))
  unfolding form_of part
  local_at kind ds = form_is (Form-F.Local kind ds) (form_rule (Form-F.Local kind ds)) (search (rules, the_lemmas)) (λ u span from. locals_numbered span kind ds from)

  assign_at : (p : PlaceTree) (op : Option BinaryOp) (t : ExprTree) → Shaped (roll-Form (Form-F.Assign p op t))
  unfolding form_of part
  assign_at p op t =
      form_is (Form-F.Assign p op t) (form_rule (Form-F.Assign p op t)) (search (rules, the_lemmas))
      (λ u span from. then_numbered (place_numbered p.name p.index from) (λ place mid h. then_numbered (tree t mid) (λ a to k. makes from to _ (assigned_stands end span place op a from mid to h k))))

  step_at : (p : PlaceTree) (up : Bool) → Shaped (roll-Form (Form-F.Step p up))
  unfolding form_of part
  step_at p up =
      form_is (Form-F.Step p up) (form_rule (Form-F.Step p up)) (search (rules, the_lemmas))
      (λ u span from. then_numbered (place_numbered p.name p.index from) (λ place mid h. makes from mid _ (assigned_stands end span place (Some (step_operator up)) (one_at span) from mid mid h (constant_stands end span int 1 mid mid (omega arith)))))

  call_at : (d : Ident) (ts : List ExprTree) → Shaped (roll-Form (Form-F.Call d ts))
  unfolding form_of part
  call_at d ts = form_is (Form-F.Call d ts) (form_rule (Form-F.Call d ts)) (search (rules, the_lemmas)) (λ u span from. call_statement_numbered span d ts from)

  label_at : (d : Ident) (b : Statement) → Made b → Shaped (roll-Form (Form-F.Label d b))
  unfolding form_of part
  label_at d b h =
      form_is (Form-F.Label d b) (form_rule (Form-F.Label d (part b))) (search (rules, the_lemmas))
      (λ u span from. then_same (label_same d from) (λ v p. then_numbered (single_numbered u (part b) h from) (λ s to q. makes from to _ (label_stands end span d.name s from to q))))

  if_at : (arms : List (ExprTree × Statement)) (last : Option Statement) → AllByRecursion (λ (a : ExprTree × Statement). Made a.1) arms → IfSome last Made → Shaped (roll-Form (Form-F.If arms last))
  unfolding form_of part
  if_at arms last h k =
      form_is (Form-F.If arms last) (form_rule (Form-F.If (map (λ (a : ExprTree × Statement). (a.0, part a.1)) arms) (option_map part last))) (search (rules, the_lemmas))
      (λ u span from. then_numbered (arms_numbered u _ (pieces arms h) from) (λ typed mid p. then_numbered (last_numbered u (option_map part last) (some_part last k) mid) (λ o to q.
      makes from to _ (if_stands end span typed o from mid to p q))))
    where
      pieces : (list : List (ExprTree × Statement)) → AllByRecursion (λ (a : ExprTree × Statement). Made a.1) list → AllByRecursion (λ (a : ExprTree × Part). PartNumbered a.1) (map (λ (a : ExprTree × Statement). (a.0, part a.1)) list)
      pieces [] h = tt
      pieces (a ∷ list) h = (h.0, pieces list h.1)

  while_at : (t : ExprTree) (b : Statement) → Made b → Shaped (roll-Form (Form-F.While t b))
  unfolding form_of part
  while_at t b h =
      form_is (Form-F.While t b) (form_rule (Form-F.While t (part b))) (search (rules, the_lemmas))
      (λ u span from. then_numbered (tree t from) (λ a mid p. then_numbered (alone_statement (in_loop u) (part b) h mid) (λ s to q. makes from to _ (while_stands end span a s from mid to p q))))

  do_at : (b : Statement) (t : ExprTree) → Made b → Shaped (roll-Form (Form-F.Do b t))
  unfolding form_of part
  do_at b t h =
      form_is (Form-F.Do b t) (form_rule (Form-F.Do (part b) t)) (search (rules, the_lemmas))
      (λ u span from. then_numbered (alone_statement (in_loop u) (part b) h from) (λ s mid p. then_numbered (tree t mid) (λ a to q. makes from to _ (do_stands end span s a from mid to p q))))

  for_at : (first : Option Statement) (test : Option ExprTree) (next : Option Statement) (b : Statement) → IfSome first Made → IfSome next Made → Made b → Shaped (roll-Form (Form-F.For first test next b))
  unfolding form_of part
  for_at first test next b h k l =
      form_is (Form-F.For first test next b) (form_rule (Form-F.For (option_map part first) test (option_map part next) (part b))) (search (rules, the_lemmas))
      (λ u span from. scope_numbered (then_numbered (first_numbered u (option_map part first) (some_part first h) from) (λ f b1 p. then_numbered (test_numbered test b1) (λ t b2 q.
      then_numbered (next_numbered u (option_map part next) (some_part next k) b2) (λ n b3 r. then_numbered (alone_statement (in_loop u) (part b) l b3) (λ s to o.
      makes from to _ (for_stands end span f t n s from b1 b2 b3 to p q r o)))))))

  switch_at : (t : ExprTree) (gs : List Group) → AllByRecursion GroupMade gs → Shaped (roll-Form (Form-F.Switch t gs))
  unfolding form_of part group
  switch_at t gs h =
      form_is (Form-F.Switch t gs) (form_rule (Form-F.Switch t (map group gs))) (search (rules, the_lemmas))
      (λ u span from. after_temporary _ (then_numbered (tree t (from + 1)) (λ a mid p. then_numbered (scope_numbered (switch_numbered (groups_numbered (in_cases u) (promotion a.kind) (map group gs) (pieces gs h) mid))) (λ list to q.
      makes from to _ (switch_stands end span (converted_to (promotion a.kind) a) from list mid to (converted_stands end (promotion a.kind) a (from + 1) mid p) q)))))
    where
      pieces : (list : List Group) → AllByRecursion GroupMade list → AllByRecursion GroupNumbered (map group list)
      pieces [] h = tt
      pieces (g ∷ list) h = (h.0, pieces list h.1)

  break_at : Shaped (roll-Form Form-F.Break)
  unfolding form_of part
  break_at = form_is Form-F.Break (form_rule Form-F.Break) (search (rules, the_lemmas)) (λ u span from. then_same (expect_same 29 span u.breaks) (λ v p. makes from from _ (break_stands end span from from (omega arith))))

  continue_at : Shaped (roll-Form Form-F.Continue)
  unfolding form_of part
  continue_at = form_is Form-F.Continue (form_rule Form-F.Continue) (search (rules, the_lemmas)) (λ u span from. then_same (expect_same 29 span u.continues) (λ v p. makes from from _ (continue_stands end span from from (omega arith))))

  return_at : (t : Option ExprTree) → Shaped (roll-Form (Form-F.Return t))
  unfolding form_of part
  return_at t = form_is (Form-F.Return t) (form_rule (Form-F.Return t)) (search (rules, the_lemmas)) (λ u span from. return_numbered u.result span t from)

  assert_at : (t : ExprTree) → Shaped (roll-Form (Form-F.Assert t))
  unfolding form_of part
  assert_at t = form_is (Form-F.Assert t) (form_rule (Form-F.Assert t)) (search (rules, the_lemmas)) (λ u span from. then_numbered (tree t from) (λ a to p. makes from to _ (assert_stands end span a from to p)))

  assume_at : (t : ExprTree) → Shaped (roll-Form (Form-F.Assume t))
  unfolding form_of part
  assume_at t = form_is (Form-F.Assume t) (form_rule (Form-F.Assume t)) (search (rules, the_lemmas)) (λ u span from. then_numbered (tree t from) (λ a to p. makes from to _ (assume_stands end span a from to p)))

  group_at : (x : Group-F Form Group Statement) → AllByRecursion Made x.body → GroupMade (roll-Group x)
  unfolding form_of part group
  group_at x h = subst GroupNumbered (sym e) (parts_are x.body h)
    where
      e : group (roll-Group x) ≡ record { labels = x.labels; body = map part x.body }
      e = search (rules, the_lemmas)

  statement_at : (x : Statement-F Form Group Statement) → Shaped x.form → Made (roll-Statement x)
  unfolding form_of part
  statement_at x h = subst PartNumbered (sym e) (λ u. h u x.span)
    where
      e : part (roll-Statement x) ≡ record { span = x.span; rule = λ u. form_of x.form u x.span }
      e = search (rules, the_lemmas)

  all_arms : {S : Type 0} (f : S → Statement) → ((q : S) → Made (f q)) → (ys : List (ExprTree × S)) → AllByRecursion (λ (a : ExprTree × Statement). Made a.1) (map (λ (a : ExprTree × S). (a.0, f a.1)) ys)
  all_arms f g [] = tt
  all_arms f g (y ∷ ys) = (g y.1, all_arms f g ys)

  statement_numbered : (s : Statement) → Made s
  statement_numbered s = ind-Statement Shaped GroupMade Made (λ x. elim [
    | Form-F.Block ys ↦ λ e. subst (λ z. Shaped (roll-Form z)) e (block_at _ (all_mapped Made (λ q. q.0) (λ q. q.1) ys))
    | Form-F.Empty ↦ λ e. subst (λ z. Shaped (roll-Form z)) e empty_at
    | Form-F.Local kind ds ↦ λ e. subst (λ z. Shaped (roll-Form z)) e (local_at kind ds)
    | Form-F.Assign p op t ↦ λ e. subst (λ z. Shaped (roll-Form z)) e (assign_at p op t)
    | Form-F.Step p up ↦ λ e. subst (λ z. Shaped (roll-Form z)) e (step_at p up)
    | Form-F.Call d ts ↦ λ e. subst (λ z. Shaped (roll-Form z)) e (call_at d ts)
    | Form-F.Label d b ↦ λ e. subst (λ z. Shaped (roll-Form z)) e (label_at d b.0 b.1)
    | Form-F.If arms None ↦ λ e. subst (λ z. Shaped (roll-Form z)) e (if_at _ None (all_arms (λ q. q.0) (λ q. q.1) arms) tt)
    | Form-F.If arms (Some o) ↦ λ e. subst (λ z. Shaped (roll-Form z)) e (if_at _ (Some o.0) (all_arms (λ q. q.0) (λ q. q.1) arms) o.1)
    | Form-F.While t b ↦ λ e. subst (λ z. Shaped (roll-Form z)) e (while_at t b.0 b.1)
    | Form-F.Do b t ↦ λ e. subst (λ z. Shaped (roll-Form z)) e (do_at b.0 t b.1)
    | Form-F.For None test None b ↦ λ e. subst (λ z. Shaped (roll-Form z)) e (for_at None test None b.0 tt tt b.1)
    | Form-F.For (Some o) test None b ↦ λ e. subst (λ z. Shaped (roll-Form z)) e (for_at (Some o.0) test None b.0 o.1 tt b.1)
    | Form-F.For None test (Some n) b ↦ λ e. subst (λ z. Shaped (roll-Form z)) e (for_at None test (Some n.0) b.0 tt n.1 b.1)
    | Form-F.For (Some o) test (Some n) b ↦ λ e. subst (λ z. Shaped (roll-Form z)) e (for_at (Some o.0) test (Some n.0) b.0 o.1 n.1 b.1)
    | Form-F.Switch t gs ↦ λ e. subst (λ z. Shaped (roll-Form z)) e (switch_at t _ (all_mapped GroupMade (λ q. q.0) (λ q. q.1) gs))
    | Form-F.Break ↦ λ e. subst (λ z. Shaped (roll-Form z)) e break_at
    | Form-F.Continue ↦ λ e. subst (λ z. Shaped (roll-Form z)) e continue_at
    | Form-F.Return t ↦ λ e. subst (λ z. Shaped (roll-Form z)) e (return_at t)
    | Form-F.Assert t ↦ λ e. subst (λ z. Shaped (roll-Form z)) e (assert_at t)
    | Form-F.Assume t ↦ λ e. subst (λ z. Shaped (roll-Form z)) e (assume_at t)
  ]) (λ x y e. subst (λ z. GroupMade (roll-Group z)) e (group_at (record { labels = y.labels; body = map (λ q. q.0) y.body }) (all_mapped Made (λ q. q.0) (λ q. q.1) y.body)))
      (λ x y e. subst (λ z. Made (roll-Statement z)) e (statement_at (record { span = y.span; form = y.form.0 }) y.form.1)) s

  -- ---- bodies

  statements_numbered : (u : Around) (ss : List Statement) → IsStatements (statements_typing u ss)
  statements_numbered u ss from = each_numbered end statement_named (statement_rule u) (λ s k from. k u from) ss (every ss) from
    where
      every : (xs : List Statement) → AllByRecursion Made xs
      every [] = tt
      every (x ∷ xs) = (statement_numbered x, every xs)

  parameters_same : (vs : List Variable) → AllByRecursion (IsBelow end) vs → (from : ℕ) → Numbered end from (Same from Any) (bind_parameters vs)
  unfolding bind_parameters
  parameters_same [] h from = pure_same tt tt
  parameters_same (v ∷ vs) h from = then_same (variable_same v h.0) (λ u p. parameters_same vs h.1 from)

  pub body_numbered : (result : Option Kind) (ps : Parameters) (b : Body) → AllByRecursion (IsBelow end) ps.variables → IsStatements (body_rule result ps b)
  unfolding body_rule
  body_numbered result ps b h from = scope_numbered (then_same (parameters_same ps.variables h from) (λ u p. statements_numbered (in_function result) b.statements from))
