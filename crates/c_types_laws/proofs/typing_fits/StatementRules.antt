-- The typed statements of accepted units fit.
use Rattle.std.proofs.Common.{suc, ◌≡◌, ℕ, ◌+◌, ◌≤◌, Bool, true, false, not, List, [], ◌∷◌, ◌++◌, map, length, Option, Some, None, refl, sym, ap, subst, rules, arith}
use Rattle.std.specs.Prelude.{IsTrue, ◌&&◌, IfSome, option_map, nat_le}
use Rattle.std.specs.List.{AllByRecursion, list_all}
use Rattle.std.proofs.lemmas.Bool.{le-leb}
use Rattle.fq_core.specs.declared.span.Span.{Span}
use Rattle.c_values.specs.declared.kinds.Kind.{Kind}
use Rattle.c_values.specs.declared.operators.BinaryOp.{BinaryOp}
use Rattle.c_values.specs.Kind.{int, IsKind, is_kind, is_value}
use Rattle.c_values.proofs.Fitting.{and_left, and_right, and_both, IsValue-truth_of}
use Rattle.c_parse.specs.declared.expr.ExprTree.{ExprTree}
use Rattle.c_parse.specs.declared.expr.Ident.{Ident}
use Rattle.c_parse.specs.declared.statement.CaseLabel.{CaseLabel}
use Rattle.c_parse.specs.declared.statement.Declarator.{Declarator}
use Rattle.c_parse.specs.declared.statement.Initial.{Initial}
use Rattle.c_parse.specs.declared.statement.Initial.TheVariants as initials
use Rattle.c_parse.specs.declared.statement.PlaceTree.{PlaceTree}
use Rattle.c_parse.specs.declared.statement.Form.{Form, roll-Form, fold-Form, the_lemmas}
use Rattle.c_parse.specs.declared.statement.Form.TheOpen.{Form-F, Group-F, Statement-F}
use Rattle.c_parse.specs.declared.statement.Statement.{Statement, roll-Statement, ind-Statement}
use Rattle.c_parse.specs.declared.statement.Group.{Group, roll-Group}
use Rattle.c_types_laws.specs.tree_contents.Contents.{tree_passes, optional_passes, place_passes, initial_passes, declarator_passes, label_passes, arm_passes, arms_pass, if_there, statement_step, group_step, statement_passes, group_passes}
use Rattle.cfa.specs.declared.parts.Variable.{Variable}
use Rattle.cfa.specs.declared.parts.VariablePlace.TheVariants as places
use Rattle.cfa.specs.Graph.{result_kind_fits}
use Rattle.cfa.specs.Rules.{cell_count}
use Rattle.c_typed_trees.specs.declared.expression.TypedExpr.{TypedExpr}
use Rattle.c_typed_trees.specs.declared.expression.TypedPlace.{out-TypedPlace}
use Rattle.c_typed_trees.specs.declared.expression.TypedExprForm.{the_lemmas as typed_lemmas}
use Rattle.c_typed_trees.specs.declared.statement.TypedStatement.{TypedStatement}
use Rattle.c_typed_trees.specs.declared.statement.TypedForm.{TypedForm}
use Rattle.c_typed_trees.specs.declared.statement.TypedForm.TheVariants as forms
use Rattle.c_typed_trees.specs.Fitting.{begins_within, Nameable, is_variable, place_fits, label_fits}
use Rattle.c_type_rules.specs.declared.scopes.Bound.{Bound}
use Rattle.c_type_rules.specs.declared.scopes.Meaning.{Meaning}
use Rattle.c_type_rules.specs.declared.scopes.Meaning.TheVariants as meanings
use Rattle.c_type_rules.specs.Kinds.{promotion}
use Rattle.c_type_rules.specs.Rule.{At, pure, ◌then◌, each, Rule, alone_in}
use Rattle.c_type_rules.specs.Expressions.{integer, piece, place_of, converted_to}
use Rattle.c_types.specs.declared.around.Around.{Around}
use Rattle.c_types.specs.Declarations.{same_level, unused, variable_of, bound_as, bind_variable, is_array_length, length_if, length_within, length_at, cells_of, is_list_for, value_for, values_for, begun, local_rule, locals_rule, statement_of}
use Rattle.c_types.specs.Statements.{in_loop, in_cases, integer_if, integer_meant, integer_named, variable_at, place_rule, assigned, step_operator, one_at, Part, GroupPart, one_of, in_turn, single, alone, arm_rule, arms_rule, last_rule, first_rule, test_rule, next_rule, unused_label, fresh, case_valued, case_rule, cases_rule, group_of, group_rule, groups_rule, return_rule, call_statement, form_rule, form_of, group, part, statement_rule, statements_typing}
use Rattle.c_types_laws.proofs.typing_fits.Sound.{also_sound, is_false, test_all, all_append, MeaningFits, FoundFits, Limits, Sound, Any, then_sound, pure_sound, fault_sound, expect_sound, look_sound, is_label_sound, is_case_sound, here_sound, temporary_sound, local_sound, bind_sound, bind_label_sound, bind_case_sound, scope_sound, switch_sound, alone_sound, each_sound, weaken}
use Rattle.c_types_laws.proofs.typing_fits.Silent.{all_mapped}
use Rattle.c_types_laws.proofs.typing_fits.Fine.{Fine, promotion_is, constant_fine, integer_is, array_is, array_variable, variable_kind, whole_place, element_place, converted_fine, converted_kind, cell_is}
use Rattle.c_types_laws.proofs.typing_fits.Expressions.{number_is, place_in, TreePasses, within, ConstantIs, array_sound, call_sound, tree_sound, expression_sound, constant_sound, IsSound}
use Rattle.c_types_laws.proofs.typing_fits.Cells.{LengthIs, length_known, some_length, listed}
use Rattle.c_types_laws.proofs.typing_fits.Statements.{Fits, AllFit, group_fits, PlaceFine, ArmFine, some_of, block_fits, empty_fits, break_fits, continue_fits, local_fits, array_fits, assigned_fits, call_fits, label_fits_in, while_fits, do_fits, if_fits, for_fits, switch_fits, return_fits, assert_fits, assume_fits, one_fits, group_is}

-- ---- declarations, of any scope

module _ (n : Nameable) (l : Limits) where
  pub unused_sound : (d : Ident) → Sound n l Any (unused d)
  unfolding unused
  unused_sound d = then_sound here_sound (λ level p. then_sound (look_sound d.name) (λ found q. weaken (λ u r. tt) (expect_sound 31 d.span (not (same_level level found)))))

  pub bind_variable_sound : (v : Variable) → IsTrue (is_variable n v) → Sound n l Any (bind_variable v)
  unfolding bind_variable
  bind_variable_sound v h = then_sound here_sound (λ level p. bind_sound (bound_as level v) h)

  length_if_sound : (span : Span) (m : ℕ) (t : Bool) → Sound n l Any (length_if span m t)
  length_if_sound span m true = pure_sound (Some m) tt
  length_if_sound span m false = fault_sound 34 span (Some 0)

  length_within_sound : (span : Span) (o : Option ℕ) → Sound n l Any (length_within span o)
  length_within_sound span None = pure_sound (Some 0) tt
  length_within_sound span (Some m) = length_if_sound span m (is_array_length m)

  pub length_at_sound : (span : Span) (t : Option ExprTree) → IsTrue (optional_passes number_is (place_in n.files) t) → Sound n l Any (length_at span t)
  unfolding length_at
  length_at_sound span None p = pure_sound None tt
  length_at_sound span (Some t) p = then_sound (constant_sound n l None tt t p) (λ o h. length_within_sound span o)

pub same_count : (o : Option ℕ) → cells_of o ≡ cell_count o
same_count None = refl
same_count (Some m) = refl

-- ---- statements

module _ (n : Nameable) where
  abbrev Limit : Limits
  Limit = within n n.room.cells

  abbrev number : ℕ → Kind → Bool
  number = number_is

  abbrev place : Span → Bool
  place = place_in n.files

  tree_fine : (t : ExprTree) → TreePasses n.files t → Sound n Limit (Fine n) (integer (piece t))
  tree_fine = expression_sound n n.room.cells

  -- ---- what variables begin as

  value_sound : (kind : Kind) → IsKind kind → (t : ExprTree) → TreePasses n.files t → Sound n Limit (Fine n) (value_for kind t)
  unfolding value_for
  value_sound kind k t p = then_sound (tree_fine t p) (λ a h. pure_sound (converted_to kind a) (converted_fine n kind a k h))

  all_trees : (ts : List ExprTree) → IsTrue (list_all (tree_passes number place) ts) → AllByRecursion (TreePasses n.files) ts
  all_trees [] h = tt
  all_trees (t ∷ ts) h = (and_left (tree_passes number place t) (list_all (tree_passes number place) ts) h, all_trees ts (and_right (tree_passes number place t) (list_all (tree_passes number place) ts) h))

  values_sound : (kind : Kind) → IsKind kind → (ts : List ExprTree) → IsTrue (list_all (tree_passes number place) ts) → Sound n Limit (AllByRecursion (Fine n)) (values_for kind ts)
  unfolding values_for
  values_sound kind k ts p = each_sound (λ t. alone_in (value_for kind t)) (λ t q. alone_sound (value_sound kind k t q)) ts (all_trees ts p)

  values_count : (kind : Kind) (ts : List ExprTree) (at : At) → length (values_for kind ts at).made ≡ length ts
  unfolding values_for each ◌then◌ pure
  values_count kind [] at = refl
  values_count kind (t ∷ ts) at = ap suc (values_count kind ts _)

  -- an array begins as no more values than it has elements
  begins : (v : Variable) (m count : ℕ) → v.length ≡ Some m → IsTrue (is_array_length m) → count ≤ m → IsTrue (begins_within n v.length count)
  begins v m count e h l = subst (λ (o : Option ℕ). IsTrue (begins_within n o count)) (sym e) (and_both (nat_le count m) (nat_le m 1024) (le-leb count m l) (and_right (nat_le 1 m) (nat_le m 1024) h))

  begun_sound : (span : Span) → IsTrue (place span) → (d : Ident) (v : Variable) → IsTrue (is_variable n v) → (length : Option ℕ) → v.length ≡ length → LengthIs length → (first : Option Initial) → IsTrue (initial_passes number place first) → Sound n Limit (Fits n) (begun span d v length first)
  begun_sound span s d v h None e k None p = pure_sound _ (local_fits n span s v None (integer_is n v h e) tt)
  begun_sound span s d v h None e k (Some (initials.One t)) p = then_sound (value_sound v.kind (variable_kind n v h) t p) (λ a f. pure_sound _ (local_fits n span s v (Some a) (integer_is n v h e) f))
  begun_sound span s d v h None e k (Some (initials.List ts)) p = then_sound (expect_sound 33 d.span false) (λ u f. absurd (is_false f))
  begun_sound span s d v h (Some m) e k None p = pure_sound _ (array_fits n span s v [] (array_is n v m h e) tt (begins v m 0 e k (omega arith)))
  begun_sound span s d v h (Some m) e k (Some (initials.One t)) p = then_sound (expect_sound 33 d.span false) (λ u f. absurd (is_false f))
  begun_sound span s d v h (Some m) e k (Some (initials.List ts)) p =
      then_sound (expect_sound 34 d.span (is_list_for m (length ts))) (λ u f. then_sound {P = λ (list : List TypedExpr). AllByRecursion (Fine n) list × (length list ≡ length ts)} (also_sound (values_sound v.kind (variable_kind n v h) ts p) (λ at none. values_count v.kind ts at)) (λ list g.
      pure_sound _ (array_fits n span s v list (array_is n v m h e) g.0 (begins v m (length list) e k (let le = listed m (length ts) (some_length m k) f in let same = g.1 in omega arith)))))

  local_variable : (w : List ℕ) (kind : Kind) → IsKind kind → (length : Option ℕ) (cell : ℕ) → cell + cells_of length ≤ n.room.cells → IsTrue (is_variable n (variable_of w kind length (places.Local cell)))
  local_variable w kind k length cell h =
      and_both (is_kind kind) _ k (le-leb (cell + cell_count length) n.room.cells (let e = same_count length in omega arith))

  local_rule_sound : (span : Span) → IsTrue (place span) → (kind : Kind) → IsKind kind → (d : Declarator) → IsTrue (declarator_passes number place d) → Sound n Limit (Fits n) (local_rule span kind d)
  unfolding local_rule
  local_rule_sound span s kind k d p =
      let front = and_left (place d.name.span && optional_passes number place d.length) (initial_passes number place d.first) p in
      then_sound (unused_sound n Limit d.name) (λ u a.
      then_sound {P = λ (o : Option ℕ). Unit {0} × LengthIs o} (also_sound (length_at_sound n Limit d.name.span d.length (and_right (place d.name.span) (optional_passes number place d.length) front)) (λ at none. length_known d.name.span d.length at none)) (λ length b.
      then_sound (local_sound (cells_of length)) (λ cell c.
      let h = local_variable d.name.name kind k length cell c in
      then_sound (bind_variable_sound n Limit (variable_of d.name.name kind length (places.Local cell)) h) (λ v e.
      begun_sound span s d.name (variable_of d.name.name kind length (places.Local cell)) h length refl b.1 d.first (and_right (place d.name.span && optional_passes number place d.length) (initial_passes number place d.first) p)))))

  locals_sound : (span : Span) → IsTrue (place span) → (kind : Kind) → IsKind kind → (ds : List Declarator) → IsTrue (list_all (declarator_passes number place) ds) → Sound n Limit (AllFit n) (locals_rule span kind ds)
  unfolding locals_rule
  locals_sound span s kind k ds p = each_sound (λ d. alone_in (local_rule span kind d)) (λ d q. alone_sound (local_rule_sound span s kind k d q)) ds (test_all (declarator_passes number place) ds p)

  -- ---- places

  record IsInteger (v : Variable) : Type 0 where
    known : IsTrue (is_variable n v)
    whole : v.length ≡ None

  integer_if_sound : (span : Span) (v : Variable) (length : Option ℕ) → IsTrue (is_variable n v) → v.length ≡ length → Sound n Limit IsInteger (integer_if span v length)
  integer_if_sound span v None h e = pure_sound v (record { known = h; whole = e })
  integer_if_sound span v (Some m) h e = fault_sound 33 span _

  integer_meant_sound : (span : Span) (m : Meaning) → MeaningFits n m → Sound n Limit IsInteger (integer_meant span m)
  integer_meant_sound span (meanings.Variable v) h = integer_if_sound span v v.length h refl
  integer_meant_sound span (meanings.Constant k) h = fault_sound 33 span _
  integer_meant_sound span (meanings.Function f) h = fault_sound 33 span _

  integer_named_sound : (span : Span) (found : Option Bound) → FoundFits n found → Sound n Limit IsInteger (integer_named span found)
  integer_named_sound span None h = fault_sound 30 span _
  integer_named_sound span (Some b) h = integer_meant_sound span b.meaning h

  variable_sound : (span : Span) (w : List ℕ) → Sound n Limit IsInteger (variable_at span w)
  unfolding variable_at
  variable_sound span w = then_sound (look_sound w) (λ found p. integer_named_sound span found p)

  placed : (v : Variable) (index : Option TypedExpr) → IsTrue (place_fits n (place_of v index)) → IsKind v.kind → PlaceFine n (place_of v index)
  placed v index h k = record { fits = h; of_kind = subst (λ (x : Variable). IsKind x.kind) (sym is) k }
    where
      is : (out-TypedPlace (place_of v index)).variable ≡ v
      is = search (rules, typed_lemmas)

  place_sound : (d : Ident) (index : Option ExprTree) → IsTrue (optional_passes number place index) → Sound n Limit (PlaceFine n) (place_rule d index)
  unfolding place_rule
  place_sound d None p = then_sound (variable_sound d.span d.name) (λ v h. pure_sound (place_of v None) (placed v None (whole_place n v h.known h.whole) (variable_kind n v h.known)))
  place_sound d (Some t) p =
      then_sound (array_sound n n.room.cells d.span d.name) (λ v h. then_sound (tree_fine t p) (λ i f.
      pure_sound (place_of v (Some i)) (placed v (Some i) (element_place n v i h f) (variable_kind n v (array_variable n v h)))))

  -- ---- labels

  label_sound : (d : Ident) → Sound n Limit Any (unused_label d)
  unfolding unused_label
  label_sound d = then_sound (is_label_sound d.name) (λ there p. then_sound (expect_sound 31 d.span (not there)) (λ u q. bind_label_sound d.name))

  abbrev CaseFits : Kind → Span × Option ℕ → Type 0
  CaseFits kind l = IsTrue (label_fits n kind l)

  fresh_sound : (kind : Kind) (span : Span) (v : Option ℕ) → CaseFits kind (span, v) → Sound n Limit (CaseFits kind) (fresh span v)
  unfolding fresh
  fresh_sound kind span v h = then_sound (is_case_sound v) (λ there p. then_sound (expect_sound 31 span (not there)) (λ u q. then_sound (bind_case_sound v) (λ w r. pure_sound (span, v) h)))

  valued_sound : (kind : Kind) (span : Span) → IsTrue (place span) → (v : Option ℕ) → ConstantIs (Some kind) v → Sound n Limit (CaseFits kind) (case_valued span v)
  valued_sound kind span s None h = pure_sound (span, None) s
  valued_sound kind span s (Some v) h = fresh_sound kind span (Some v) (and_both (place span) (is_value kind v) s h)

  case_sound : (kind : Kind) → IsKind kind → (span : Span) → IsTrue (place span) → (value : Option ExprTree) → IsTrue (optional_passes number place value) → Sound n Limit (CaseFits kind) (case_rule kind span value)
  unfolding case_rule
  case_sound kind k span s None p = fresh_sound kind span None s
  case_sound kind k span s (Some t) p = then_sound (constant_sound n Limit (Some kind) k t p) (λ v h. valued_sound kind span s v h)

  cases_sound : (kind : Kind) → IsKind kind → (labels : List CaseLabel) → IsTrue (list_all (label_passes number place) labels) → Sound n Limit (AllByRecursion (CaseFits kind)) (cases_rule kind labels)
  unfolding cases_rule
  cases_sound kind k labels p =
      each_sound (λ c. alone_in (case_rule kind c.span c.value))
      (λ c q. alone_sound (case_sound kind k c.span (and_left (place c.span) (optional_passes number place c.value) q) c.value (and_right (place c.span) (optional_passes number place c.value) q)))
      labels (test_all (label_passes number place) labels p)

  -- ---- parts of statements

  test_sound : (t : Option ExprTree) → IsTrue (optional_passes number place t) → Sound n Limit (λ o. IfSome o (Fine n)) (test_rule t)
  unfolding test_rule
  test_sound None p = pure_sound None tt
  test_sound (Some t) p = then_sound (tree_fine t p) (λ a h. pure_sound (Some a) h)

  only_sound : (span : Span) (form : TypedForm) → Fits n (statement_of span form) → Sound n Limit (AllFit n) (pure (statement_of span form ∷ []))
  only_sound span form h = pure_sound (statement_of span form ∷ []) (h, tt)

  return_sound : (result : Option Kind) → IsTrue (result_kind_fits result) → (span : Span) → IsTrue (place span) → (t : Option ExprTree) → IsTrue (optional_passes number place t) → Sound n Limit (AllFit n) (return_rule result span t)
  return_sound None k span s None p = only_sound span (forms.Return None) (return_fits n span s None tt)
  return_sound (Some kind) k span s (Some t) p = then_sound (tree_fine t p) (λ a h. only_sound span (forms.Return (Some (converted_to kind a))) (return_fits n span s (Some (converted_to kind a)) (converted_fine n kind a k h)))
  return_sound None k span s (Some t) p = then_sound (expect_sound 29 span false) (λ u f. absurd (is_false f))
  return_sound (Some kind) k span s None p = then_sound (expect_sound 29 span false) (λ u f. absurd (is_false f))

  pieces : (ts : List ExprTree) → IsTrue (list_all (tree_passes number place) ts) → AllByRecursion (IsSound n n.room.cells) (map piece ts)
  pieces [] p = tt
  pieces (t ∷ ts) p = (tree_sound n n.room.cells t (and_left (tree_passes number place t) (list_all (tree_passes number place) ts) p), pieces ts (and_right (tree_passes number place t) (list_all (tree_passes number place) ts) p))

  call_statement_sound : (span : Span) → IsTrue (place span) → (d : Ident) (ts : List ExprTree) → IsTrue (list_all (tree_passes number place) ts) → Sound n Limit (AllFit n) (call_statement span d ts)
  unfolding call_statement
  call_statement_sound span s d ts p = then_sound (call_sound n n.room.cells d.span d.name (map piece ts) (pieces ts p)) (λ c h. only_sound span (forms.Call c.1) (call_fits n span s c.1 h.fits))

  -- ---- statements

  abbrev pub Surrounds : Around → Type 0
  Surrounds u = IsTrue (result_kind_fits u.result)

  pub record PartFits (p : Part) : Type 0 where
    pub span : IsTrue (place p.span)
    pub rule : (u : Around) → Surrounds u → Sound n Limit (AllFit n) (p.rule u)

  turn_sound : (u : Around) → Surrounds u → (ps : List Part) → AllByRecursion PartFits ps → Sound n Limit (AllFit n) (in_turn u ps)
  turn_sound u k ps h = each_sound (λ (p : Part). p.rule u) (λ p q. q.rule u k) ps h

  single_sound : (u : Around) → Surrounds u → (p : Part) → PartFits p → Sound n Limit (Fits n) (single u p)
  unfolding single
  single_sound u k p h = then_sound (h.rule u k) (λ list f. pure_sound (one_of p.span list) (one_fits n p.span h.span list f))

  alone_statement : (u : Around) → Surrounds u → (p : Part) → PartFits p → Sound n Limit (Fits n) (alone u p)
  unfolding alone
  alone_statement u k p h = scope_sound (single_sound u k p h)

  abbrev ArmPasses : ExprTree × Part → Type 0
  ArmPasses arm = TreePasses n.files arm.0 × PartFits arm.1

  arm_sound : (u : Around) → Surrounds u → (arm : ExprTree × Part) → ArmPasses arm → Sound n Limit (ArmFine n) (arm_rule u arm)
  unfolding arm_rule
  arm_sound u k arm h = then_sound (tree_fine arm.0 h.0) (λ test f. then_sound (alone_statement u k arm.1 h.1) (λ body g. pure_sound (test, body) (record { test = f; body = g })))

  abbrev SomeArms : List (TypedExpr × TypedStatement) → Type 0
  SomeArms arms = IsTrue (some_of arms) × AllByRecursion (ArmFine n) arms

  some_more : (xs ys : List (TypedExpr × TypedStatement)) → SomeArms xs → AllByRecursion (ArmFine n) ys → SomeArms (xs ++ ys)
  some_more [] ys h k = absurd (is_false h.0)
  some_more (x ∷ xs) ys h k = (refl, all_append (ArmFine n) (x ∷ xs) ys h.1 k)

  arms_sound : (u : Around) → Surrounds u → (arm : ExprTree × Part) (arms : List (ExprTree × Part)) → AllByRecursion ArmPasses (arm ∷ arms) → Sound n Limit SomeArms (arms_rule u (arm ∷ arms))
  unfolding each
  arms_sound u k arm arms h =
      then_sound {P = SomeArms} (then_sound (arm_sound u k arm h.0) (λ x f. pure_sound (x ∷ []) (refl, (f, tt)))) (λ xs f.
      then_sound (each_sound (λ a. alone_in (arm_rule u a)) (λ a g. alone_sound (arm_sound u k a g)) arms h.1) (λ ys g. pure_sound (xs ++ ys) (some_more xs ys f g)))

  last_sound : (u : Around) → Surrounds u → (o : Option Part) → IfSome o PartFits → Sound n Limit (λ r. IfSome r (Fits n)) (last_rule u o)
  unfolding last_rule
  last_sound u k None h = pure_sound None tt
  last_sound u k (Some p) h = then_sound (alone_statement u k p h) (λ t f. pure_sound (Some t) f)

  first_sound : (u : Around) → Surrounds u → (o : Option Part) → IfSome o PartFits → Sound n Limit (AllFit n) (first_rule u o)
  unfolding first_rule
  first_sound u k None h = pure_sound [] tt
  first_sound u k (Some p) h = h.rule u k

  next_sound : (u : Around) → Surrounds u → (o : Option Part) → IfSome o PartFits → Sound n Limit (λ r. IfSome r (Fits n)) (next_rule u o)
  unfolding next_rule
  next_sound u k None h = pure_sound None tt
  next_sound u k (Some p) h = then_sound (single_sound u k p h) (λ t f. pure_sound (Some t) f)

  pub record GroupFits (g : GroupPart) : Type 0 where
    pub labels : IsTrue (list_all (label_passes number place) g.labels)
    pub body : AllByRecursion PartFits g.body

  group_sound : (u : Around) → Surrounds u → (kind : Kind) → IsKind kind → (g : GroupPart) → GroupFits g → Sound n Limit (λ t. IsTrue (group_fits n t kind)) (group_rule u kind g)
  unfolding group_rule
  group_sound u k kind i g f =
      then_sound (cases_sound kind i g.labels f.labels) (λ labels a. then_sound (turn_sound u k g.body f.body) (λ body b. pure_sound (group_of labels body) (group_is n kind labels body a b)))

  groups_sound : (u : Around) → Surrounds u → (kind : Kind) → IsKind kind → (gs : List GroupPart) → AllByRecursion GroupFits gs → Sound n Limit (AllByRecursion (λ g. IsTrue (group_fits n g kind))) (groups_rule u kind gs)
  groups_sound u k kind i gs h = each_sound (λ g. alone_in (group_rule u kind g)) (λ g f. alone_sound (group_sound u k kind i g f)) gs h

  -- ---- trees

  abbrev form_passes : Form → Bool
  form_passes = fold-Form Bool Bool Bool (statement_step number place) (group_step number place) (λ s. place s.span && s.form)

  abbrev passes : Statement → Bool
  passes = statement_passes number place

  abbrev RuleFits : (Around → Span → Rule (List TypedStatement)) → Bool → Type 0
  RuleFits rule b = (u : Around) → Surrounds u → (span : Span) → IsTrue (place span) → IsTrue b → Sound n Limit (AllFit n) (rule u span)

  abbrev FormFits : Form → Type 0
  FormFits f = RuleFits (form_of f) (form_passes f)

  abbrev GroupMade : Group → Type 0
  GroupMade g = IsTrue (group_passes number place g) → GroupFits (group g)

  abbrev Made : Statement → Type 0
  Made s = IsTrue (passes s) → PartFits (part s)

  form_is : (x : Form-F Form Group Statement) (rule : Around → Span → Rule (List TypedStatement)) (b : Bool) → form_of (roll-Form x) ≡ rule → form_passes (roll-Form x) ≡ b → RuleFits rule b → FormFits (roll-Form x)
  form_is x rule b e g h = subst (λ r. RuleFits r (form_passes (roll-Form x))) (sym e) (subst (RuleFits rule) (sym g) h)

  parts_fit : (ss : List Statement) → AllByRecursion Made ss → IsTrue (list_all (λ b. b) (map passes ss)) → AllByRecursion PartFits (map part ss)
  parts_fit [] h p = tt
  parts_fit (s ∷ ss) h p = (h.0 (and_left (passes s) (list_all (λ b. b) (map passes ss)) p), parts_fit ss h.1 (and_right (passes s) (list_all (λ b. b) (map passes ss)) p))

  some_part : (o : Option Statement) → IfSome o Made → IsTrue (if_there number place (option_map passes o)) → IfSome (option_map part o) PartFits
  some_part None h p = tt
  some_part (Some s) h p = h p

  block_at : (ss : List Statement) → AllByRecursion Made ss → FormFits (roll-Form (Form-F.Block ss))
  unfolding form_of part statement_passes
  block_at ss h =
      form_is (Form-F.Block ss) (form_rule (Form-F.Block (map part ss))) (list_all (λ b. b) (map passes ss)) (search (rules, the_lemmas)) (search (rules, the_lemmas))
      (λ u k span s p. then_sound (scope_sound (turn_sound u k (map part ss) (parts_fit ss h p))) (λ body f. only_sound span (forms.Block body) (block_fits n span s body f)))

  empty_at : FormFits (roll-Form Form-F.Empty)
  unfolding form_of part statement_passes
  empty_at = form_is Form-F.Empty (form_rule Form-F.Empty) true (search (rules, the_lemmas)) (search (rules, the_lemmas)) (λ u k span s p. only_sound span forms.Empty (empty_fits n span s))

  local_at : (kind : Kind) (ds : List Declarator) → FormFits (roll-Form (Form-F.Local kind ds))
  unfolding form_of part statement_passes
  local_at kind ds =
      form_is (Form-F.Local kind ds) (form_rule (Form-F.Local kind ds)) (is_kind kind && list_all (declarator_passes number place) ds) (search (rules, the_lemmas)) (search (rules, the_lemmas))
      (λ u k span s p. locals_sound span s kind (and_left (is_kind kind) (list_all (declarator_passes number place) ds) p) ds (and_right (is_kind kind) (list_all (declarator_passes number place) ds) p))

  assign_at : (to : PlaceTree) (op : Option BinaryOp) (t : ExprTree) → FormFits (roll-Form (Form-F.Assign to op t))
  unfolding form_of part statement_passes
  assign_at to op t =
      form_is (Form-F.Assign to op t) (form_rule (Form-F.Assign to op t)) (place_passes number place to && tree_passes number place t) (search (rules, the_lemmas)) (search (rules, the_lemmas))
      (λ u k span s p.
      let at = and_left (place_passes number place to) (tree_passes number place t) p in
      then_sound (place_sound to.name to.index (and_right (place to.name.span) (optional_passes number place to.index) at)) (λ x f.
      then_sound (tree_fine t (and_right (place_passes number place to) (tree_passes number place t) p)) (λ a g. only_sound span (assigned x op a) (assigned_fits n span s x op a f g))))

  step_at : (to : PlaceTree) (up : Bool) → FormFits (roll-Form (Form-F.Step to up))
  unfolding form_of part statement_passes
  step_at to up =
      form_is (Form-F.Step to up) (form_rule (Form-F.Step to up)) (place_passes number place to) (search (rules, the_lemmas)) (search (rules, the_lemmas))
      (λ u k span s p. then_sound (place_sound to.name to.index (and_right (place to.name.span) (optional_passes number place to.index) p)) (λ x f.
      only_sound span (assigned x (Some (step_operator up)) (one_at span)) (assigned_fits n span s x (Some (step_operator up)) (one_at span) f (constant_fine n span s int 1 (IsValue-truth_of true)))))

  call_at : (d : Ident) (ts : List ExprTree) → FormFits (roll-Form (Form-F.Call d ts))
  unfolding form_of part statement_passes
  call_at d ts =
      form_is (Form-F.Call d ts) (form_rule (Form-F.Call d ts)) (place d.span && list_all (tree_passes number place) ts) (search (rules, the_lemmas)) (search (rules, the_lemmas))
      (λ u k span s p. call_statement_sound span s d ts (and_right (place d.span) (list_all (tree_passes number place) ts) p))

  label_at : (d : Ident) (b : Statement) → Made b → FormFits (roll-Form (Form-F.Label d b))
  unfolding form_of part statement_passes
  label_at d b h =
      form_is (Form-F.Label d b) (form_rule (Form-F.Label d (part b))) (place d.span && passes b) (search (rules, the_lemmas)) (search (rules, the_lemmas))
      (λ u k span s p. then_sound (label_sound d) (λ v f. then_sound (single_sound u k (part b) (h (and_right (place d.span) (passes b) p))) (λ t g. only_sound span (forms.Label d.name t) (label_fits_in n span s d.name t g))))

  if_at : (arms : List (ExprTree × Statement)) (last : Option Statement) → AllByRecursion (λ (a : ExprTree × Statement). Made a.1) arms → IfSome last Made → FormFits (roll-Form (Form-F.If arms last))
  unfolding form_of part statement_passes
  if_at arms last h i =
      let tests = arms_pass number place (map (λ (a : ExprTree × Statement). (a.0, passes a.1)) arms) in
      form_is (Form-F.If arms last) (form_rule (Form-F.If (map (λ (a : ExprTree × Statement). (a.0, part a.1)) arms) (option_map part last))) (tests && if_there number place (option_map passes last)) (search (rules, the_lemmas)) (search (rules, the_lemmas))
      (λ u k span s p.
      then_sound (some u k arms h (and_left tests (if_there number place (option_map passes last)) p)) (λ typed f.
      then_sound (last_sound u k (option_map part last) (some_part last i (and_right tests (if_there number place (option_map passes last)) p))) (λ x g. only_sound span (forms.If typed x) (if_fits n span s typed x f.0 f.1 g))))
    where
      fit : (list : List (ExprTree × Statement)) → AllByRecursion (λ (a : ExprTree × Statement). Made a.1) list → IsTrue (list_all (arm_passes number place) (map (λ (a : ExprTree × Statement). (a.0, passes a.1)) list))
          → AllByRecursion ArmPasses (map (λ (a : ExprTree × Statement). (a.0, part a.1)) list)
      fit [] h p = tt
      fit (a ∷ list) h p =
          let rest = list_all (arm_passes number place) (map (λ (a : ExprTree × Statement). (a.0, passes a.1)) list) in
          let here = and_left (tree_passes number place a.0 && passes a.1) rest p in
          ((and_left (tree_passes number place a.0) (passes a.1) here, h.0 (and_right (tree_passes number place a.0) (passes a.1) here)), fit list h.1 (and_right (tree_passes number place a.0 && passes a.1) rest p))

      some : (u : Around) → Surrounds u → (list : List (ExprTree × Statement)) → AllByRecursion (λ (a : ExprTree × Statement). Made a.1) list → IsTrue (arms_pass number place (map (λ (a : ExprTree × Statement). (a.0, passes a.1)) list))
          → Sound n Limit SomeArms (arms_rule u (map (λ (a : ExprTree × Statement). (a.0, part a.1)) list))
      some u k [] h p = absurd (is_false p)
      some u k (a ∷ list) h p = arms_sound u k (a.0, part a.1) (map (λ (a : ExprTree × Statement). (a.0, part a.1)) list) (fit (a ∷ list) h p)

  while_at : (t : ExprTree) (b : Statement) → Made b → FormFits (roll-Form (Form-F.While t b))
  unfolding form_of part statement_passes
  while_at t b h =
      form_is (Form-F.While t b) (form_rule (Form-F.While t (part b))) (tree_passes number place t && passes b) (search (rules, the_lemmas)) (search (rules, the_lemmas))
      (λ u k span s p. then_sound (tree_fine t (and_left (tree_passes number place t) (passes b) p)) (λ a f.
      then_sound (alone_statement (in_loop u) k (part b) (h (and_right (tree_passes number place t) (passes b) p))) (λ x g. only_sound span (forms.While a x) (while_fits n span s a x f g))))

  do_at : (b : Statement) (t : ExprTree) → Made b → FormFits (roll-Form (Form-F.Do b t))
  unfolding form_of part statement_passes
  do_at b t h =
      form_is (Form-F.Do b t) (form_rule (Form-F.Do (part b) t)) (passes b && tree_passes number place t) (search (rules, the_lemmas)) (search (rules, the_lemmas))
      (λ u k span s p. then_sound (alone_statement (in_loop u) k (part b) (h (and_left (passes b) (tree_passes number place t) p))) (λ x g.
      then_sound (tree_fine t (and_right (passes b) (tree_passes number place t) p)) (λ a f. only_sound span (forms.Do x a) (do_fits n span s x a g f))))

  for_at : (first : Option Statement) (test : Option ExprTree) (next : Option Statement) (b : Statement) → IfSome first Made → IfSome next Made → Made b → FormFits (roll-Form (Form-F.For first test next b))
  unfolding form_of part statement_passes
  for_at first test next b h i j =
      let one = if_there number place (option_map passes first) in
      let two = optional_passes number place test in
      let three = if_there number place (option_map passes next) in
      form_is (Form-F.For first test next b) (form_rule (Form-F.For (option_map part first) test (option_map part next) (part b))) (one && two && three && passes b) (search (rules, the_lemmas)) (search (rules, the_lemmas))
      (λ u k span s p.
      let front = and_left (one && two && three) (passes b) p in
      let pair = and_left (one && two) three front in
      scope_sound (then_sound (first_sound u k (option_map part first) (some_part first h (and_left one two pair))) (λ f a. then_sound (test_sound test (and_right one two pair)) (λ t c.
      then_sound (next_sound u k (option_map part next) (some_part next i (and_right (one && two) three front))) (λ x d. then_sound (alone_statement (in_loop u) k (part b) (j (and_right (one && two && three) (passes b) p))) (λ y e.
      only_sound span (forms.For f t x y) (for_fits n span s f t x y a c d e)))))))

  switch_at : (t : ExprTree) (gs : List Group) → AllByRecursion GroupMade gs → FormFits (roll-Form (Form-F.Switch t gs))
  unfolding form_of part group statement_passes group_passes
  switch_at t gs h =
      let rest = list_all (λ b. b) (map (group_passes number place) gs) in
      form_is (Form-F.Switch t gs) (form_rule (Form-F.Switch t (map group gs))) (tree_passes number place t && rest) (search (rules, the_lemmas)) (search (rules, the_lemmas))
      (λ u k span s p. then_sound temporary_sound (λ cell c. then_sound (tree_fine t (and_left (tree_passes number place t) rest p)) (λ a f.
      let kind = promotion a.kind in
      let of_kind = promotion_is a.kind f.of_kind in
      then_sound (scope_sound (switch_sound (groups_sound (in_cases u) k kind of_kind (map group gs) (fit gs h (and_right (tree_passes number place t) rest p))))) (λ list g.
      only_sound span (forms.Switch (converted_to kind a) cell list) (switch_fits n span s (converted_to kind a) cell list (converted_fine n kind a of_kind f) (cell_is n cell c)
      (subst (λ (q : Kind). AllByRecursion (λ x. IsTrue (group_fits n x q)) list) (sym (converted_kind n kind a)) g))))))
    where
      fit : (list : List Group) → AllByRecursion GroupMade list → IsTrue (list_all (λ b. b) (map (group_passes number place) list)) → AllByRecursion GroupFits (map group list)
      fit [] h p = tt
      fit (g ∷ list) h p =
          let rest = list_all (λ b. b) (map (group_passes number place) list) in
          (h.0 (and_left (group_passes number place g) rest p), fit list h.1 (and_right (group_passes number place g) rest p))

  break_at : FormFits (roll-Form Form-F.Break)
  unfolding form_of part statement_passes
  break_at = form_is Form-F.Break (form_rule Form-F.Break) true (search (rules, the_lemmas)) (search (rules, the_lemmas)) (λ u k span s p. then_sound (expect_sound 29 span u.breaks) (λ v f. only_sound span forms.Break (break_fits n span s)))

  continue_at : FormFits (roll-Form Form-F.Continue)
  unfolding form_of part statement_passes
  continue_at = form_is Form-F.Continue (form_rule Form-F.Continue) true (search (rules, the_lemmas)) (search (rules, the_lemmas)) (λ u k span s p. then_sound (expect_sound 29 span u.continues) (λ v f. only_sound span forms.Continue (continue_fits n span s)))

  return_at : (t : Option ExprTree) → FormFits (roll-Form (Form-F.Return t))
  unfolding form_of part statement_passes
  return_at t = form_is (Form-F.Return t) (form_rule (Form-F.Return t)) (optional_passes number place t) (search (rules, the_lemmas)) (search (rules, the_lemmas)) (λ u k span s p. return_sound u.result k span s t p)

  assert_at : (t : ExprTree) → FormFits (roll-Form (Form-F.Assert t))
  unfolding form_of part statement_passes
  assert_at t = form_is (Form-F.Assert t) (form_rule (Form-F.Assert t)) (tree_passes number place t) (search (rules, the_lemmas)) (search (rules, the_lemmas)) (λ u k span s p. then_sound (tree_fine t p) (λ a f. only_sound span (forms.Assert a) (assert_fits n span s a f)))

  assume_at : (t : ExprTree) → FormFits (roll-Form (Form-F.Assume t))
  unfolding form_of part statement_passes
  assume_at t = form_is (Form-F.Assume t) (form_rule (Form-F.Assume t)) (tree_passes number place t) (search (rules, the_lemmas)) (search (rules, the_lemmas)) (λ u k span s p. then_sound (tree_fine t p) (λ a f. only_sound span (forms.Assume a) (assume_fits n span s a f)))

  group_at : (x : Group-F Form Group Statement) → AllByRecursion Made x.body → GroupMade (roll-Group x)
  unfolding form_of part group statement_passes group_passes
  group_at x h p =
      let e : group (roll-Group x) ≡ record { labels = x.labels; body = map part x.body } = search (rules, the_lemmas) in
      let labels = list_all (label_passes number place) x.labels in
      let body = list_all (λ b. b) (map passes x.body) in
      let tests : group_passes number place (roll-Group x) ≡ (labels && body) = search (rules, the_lemmas) in
      let both : IsTrue (labels && body) = subst IsTrue tests p in
      subst GroupFits (sym e) (record { labels = and_left labels body both; body = parts_fit x.body h (and_right labels body both) })

  statement_at : (x : Statement-F Form Group Statement) → FormFits x.form → Made (roll-Statement x)
  unfolding form_of part statement_passes
  statement_at x h p =
      let e : part (roll-Statement x) ≡ record { span = x.span; rule = λ u. form_of x.form u x.span } = search (rules, the_lemmas) in
      let tests : passes (roll-Statement x) ≡ (place x.span && form_passes x.form) = search (rules, the_lemmas) in
      let both : IsTrue (place x.span && form_passes x.form) = subst IsTrue tests p in
      let s = and_left (place x.span) (form_passes x.form) both in
      subst PartFits (sym e) (record { span = s; rule = λ u k. h u k x.span s (and_right (place x.span) (form_passes x.form) both) })

  all_arms : {S : Type 0} (f : S → Statement) → ((q : S) → Made (f q)) → (ys : List (ExprTree × S)) → AllByRecursion (λ (a : ExprTree × Statement). Made a.1) (map (λ (a : ExprTree × S). (a.0, f a.1)) ys)
  all_arms f g = all_mapped (λ (a : ExprTree × Statement). Made a.1) (λ a. (a.0, f a.1)) (λ a. g a.1)

  statement_fit : (s : Statement) → Made s
  statement_fit s = ind-Statement FormFits GroupMade Made (λ x. elim [
    | Form-F.Block ys ↦ λ e. subst (λ z. FormFits (roll-Form z)) e (block_at _ (all_mapped Made (λ q. q.0) (λ q. q.1) ys))
    | Form-F.Empty ↦ λ e. subst (λ z. FormFits (roll-Form z)) e empty_at
    | Form-F.Local kind ds ↦ λ e. subst (λ z. FormFits (roll-Form z)) e (local_at kind ds)
    | Form-F.Assign p op t ↦ λ e. subst (λ z. FormFits (roll-Form z)) e (assign_at p op t)
    | Form-F.Step p up ↦ λ e. subst (λ z. FormFits (roll-Form z)) e (step_at p up)
    | Form-F.Call d ts ↦ λ e. subst (λ z. FormFits (roll-Form z)) e (call_at d ts)
    | Form-F.Label d b ↦ λ e. subst (λ z. FormFits (roll-Form z)) e (label_at d b.0 b.1)
    | Form-F.If arms None ↦ λ e. subst (λ z. FormFits (roll-Form z)) e (if_at _ None (all_arms (λ q. q.0) (λ q. q.1) arms) tt)
    | Form-F.If arms (Some o) ↦ λ e. subst (λ z. FormFits (roll-Form z)) e (if_at _ (Some o.0) (all_arms (λ q. q.0) (λ q. q.1) arms) o.1)
    | Form-F.While t b ↦ λ e. subst (λ z. FormFits (roll-Form z)) e (while_at t b.0 b.1)
    | Form-F.Do b t ↦ λ e. subst (λ z. FormFits (roll-Form z)) e (do_at b.0 t b.1)
    | Form-F.For None test None b ↦ λ e. subst (λ z. FormFits (roll-Form z)) e (for_at None test None b.0 tt tt b.1)
    | Form-F.For (Some o) test None b ↦ λ e. subst (λ z. FormFits (roll-Form z)) e (for_at (Some o.0) test None b.0 o.1 tt b.1)
    | Form-F.For None test (Some n) b ↦ λ e. subst (λ z. FormFits (roll-Form z)) e (for_at None test (Some n.0) b.0 tt n.1 b.1)
    | Form-F.For (Some o) test (Some n) b ↦ λ e. subst (λ z. FormFits (roll-Form z)) e (for_at (Some o.0) test (Some n.0) b.0 o.1 n.1 b.1)
    | Form-F.Switch t gs ↦ λ e. subst (λ z. FormFits (roll-Form z)) e (switch_at t _ (all_mapped GroupMade (λ q. q.0) (λ q. q.1) gs))
    | Form-F.Break ↦ λ e. subst (λ z. FormFits (roll-Form z)) e break_at
    | Form-F.Continue ↦ λ e. subst (λ z. FormFits (roll-Form z)) e continue_at
    | Form-F.Return t ↦ λ e. subst (λ z. FormFits (roll-Form z)) e (return_at t)
    | Form-F.Assert t ↦ λ e. subst (λ z. FormFits (roll-Form z)) e (assert_at t)
    | Form-F.Assume t ↦ λ e. subst (λ z. FormFits (roll-Form z)) e (assume_at t)
  ]) (λ x y e. subst (λ z. GroupMade (roll-Group z)) e (group_at (record { labels = y.labels; body = map (λ q. q.0) y.body }) (all_mapped Made (λ q. q.0) (λ q. q.1) y.body)))
      (λ x y e. subst (λ z. Made (roll-Statement z)) e (statement_at (record { span = y.span; form = y.form.0 }) y.form.1)) s

  pub statements_sound : (u : Around) → Surrounds u → (ss : List Statement) → IsTrue (list_all (statement_passes number place) ss) → Sound n Limit (AllFit n) (statements_typing u ss)
  statements_sound u k ss p = each_sound (statement_rule u) (λ s q. (statement_fit s q).rule u k) ss (test_all (statement_passes number place) ss p)
