-- The faults of statements.
use Rattle.std.proofs.Common.{◌≡◌, ℕ, Bool, true, false, not, List, [], ◌∷◌, map, Option, Some, None, refl, sym, subst, rules}
use Rattle.std.specs.Prelude.{IsTrue, ◌&&◌, IfSome, option_map}
use Rattle.std.specs.List.{AllByRecursion, list_all}
use Rattle.fq_core.specs.declared.span.Span.{Span}
use Rattle.c_values.specs.declared.kinds.Kind.{Kind}
use Rattle.c_values.specs.declared.operators.BinaryOp.{BinaryOp}
use Rattle.c_values.specs.Kind.{is_kind}
use Rattle.c_values.proofs.Fitting.{and_left, and_right}
use Rattle.c_parse.specs.declared.expr.ExprTree.{ExprTree}
use Rattle.c_parse.specs.declared.expr.Ident.{Ident}
use Rattle.c_parse.specs.declared.statement.CaseLabel.{CaseLabel}
use Rattle.c_parse.specs.declared.statement.Declarator.{Declarator}
use Rattle.c_parse.specs.declared.statement.PlaceTree.{PlaceTree}
use Rattle.c_parse.specs.declared.statement.Form.{Form, roll-Form, fold-Form, the_lemmas}
use Rattle.c_parse.specs.declared.statement.Form.TheOpen.{Form-F, Group-F, Statement-F}
use Rattle.c_parse.specs.declared.statement.Statement.{Statement, roll-Statement, ind-Statement}
use Rattle.c_parse.specs.declared.statement.Group.{Group, roll-Group}
use Rattle.c_types_laws.specs.tree_contents.Contents.{optional_passes, place_passes, declarator_passes, label_passes, arm_passes, arms_pass, if_there, statement_step, group_step, statement_passes, group_passes}
use Rattle.cfa.specs.declared.parts.Variable.{Variable}
use Rattle.c_typed_trees.specs.declared.statement.TypedStatement.{TypedStatement}
use Rattle.c_type_rules.specs.declared.scopes.Bound.{Bound}
use Rattle.c_type_rules.specs.declared.scopes.Meaning.{Meaning}
use Rattle.c_type_rules.specs.declared.scopes.Meaning.TheVariants as meanings
use Rattle.c_type_rules.specs.Kinds.{promotion}
use Rattle.c_type_rules.specs.Rule.{Rule, alone_in}
use Rattle.c_type_rules.specs.Expressions.{piece}
use Rattle.c_types.specs.declared.around.Around.{Around}
use Rattle.c_types.specs.Statements.{in_loop, in_cases, integer_if, integer_meant, integer_named, variable_at, place_rule, Part, GroupPart, in_turn, single, alone, arm_rule, arms_rule, last_rule, first_rule, test_rule, next_rule, unused_label, fresh, case_valued, case_rule, cases_rule, group_rule, groups_rule, return_rule, call_statement, form_rule, form_of, group, part, statement_rule, statements_typing}
use Rattle.c_types_laws.proofs.typing_faults.Telling.{test_all, all_mapped, Tells, then_tells, pure_tells, fault_tells, expect_tells, look_tells, is_label_tells, is_case_tells, temporary_tells, bind_label_tells, bind_case_tells, scope_tells, switch_tells, alone_tells, each_tells}
use Rattle.c_types_laws.proofs.typing_faults.Expressions.{passes as tree_fine, PieceTells, array_tells, call_tells, tree_tells, expression_tells, constant_tells}
use Rattle.c_types_laws.proofs.typing_faults.Declarations.{locals_tells}

module _ (number : ℕ → Kind → Bool) (place : Span → Bool) where
  abbrev Fine : {A : Type 0} → Rule A → Type 0
  Fine m = Tells place m

  abbrev tree : ExprTree → Bool
  tree = tree_fine number place

  abbrev optional : Option ExprTree → Bool
  optional = optional_passes number place

  -- ---- places

  variable_tells : (span : Span) → IsTrue (place span) → (w : List ℕ) → Fine (variable_at span w)
  unfolding variable_at
  variable_tells span s w = then_tells place (look_tells place w) named_tells
    where
      if_tells : (v : Variable) (length : Option ℕ) → Fine (integer_if span v length)
      if_tells v None = pure_tells place v
      if_tells v (Some n) = fault_tells place 33 span _ refl s

      meant_tells : (m : Meaning) → Fine (integer_meant span m)
      meant_tells (meanings.Variable v) = if_tells v v.length
      meant_tells (meanings.Constant n) = fault_tells place 33 span _ refl s
      meant_tells (meanings.Function f) = fault_tells place 33 span _ refl s

      named_tells : (found : Option Bound) → Fine (integer_named span found)
      named_tells None = fault_tells place 30 span _ refl s
      named_tells (Some b) = meant_tells b.meaning

  place_tells : (d : Ident) (index : Option ExprTree) → IsTrue (place d.span) → IsTrue (optional index) → Fine (place_rule d index)
  unfolding place_rule
  place_tells d None s p = then_tells place (variable_tells d.span s d.name) (λ v. pure_tells place _)
  place_tells d (Some t) s p = then_tells place (array_tells number place d.span s d.name) (λ v. then_tells place (expression_tells number place t p) (λ i. pure_tells place _))

  -- ---- labels

  label_tells : (d : Ident) → IsTrue (place d.span) → Fine (unused_label d)
  unfolding unused_label
  label_tells d s = then_tells place (is_label_tells place d.name) (λ there. then_tells place (expect_tells place 31 d.span (not there) refl s) (λ u. bind_label_tells place d.name))

  fresh_tells : (span : Span) → IsTrue (place span) → (v : Option ℕ) → Fine (fresh span v)
  unfolding fresh
  fresh_tells span s v = then_tells place (is_case_tells place v) (λ there. then_tells place (expect_tells place 31 span (not there) refl s) (λ u. then_tells place (bind_case_tells place v) (λ w. pure_tells place _)))

  valued_tells : (span : Span) → IsTrue (place span) → (v : Option ℕ) → Fine (case_valued span v)
  valued_tells span s None = pure_tells place _
  valued_tells span s (Some v) = fresh_tells span s (Some v)

  case_tells : (kind : Kind) (span : Span) → IsTrue (place span) → (value : Option ExprTree) → IsTrue (optional value) → Fine (case_rule kind span value)
  unfolding case_rule
  case_tells kind span s None p = fresh_tells span s None
  case_tells kind span s (Some t) p = then_tells place (constant_tells number place (Some kind) t p) (valued_tells span s)

  cases_tells : (kind : Kind) (labels : List CaseLabel) → IsTrue (list_all (label_passes number place) labels) → Fine (cases_rule kind labels)
  unfolding cases_rule
  cases_tells kind labels p =
      each_tells place (λ c. alone_in (case_rule kind c.span c.value))
      (λ c q. alone_tells place (case_tells kind c.span (and_left (place c.span) (optional c.value) q) c.value (and_right (place c.span) (optional c.value) q)))
      labels (test_all (label_passes number place) labels p)

  -- ---- parts of statements

  test_tells : (t : Option ExprTree) → IsTrue (optional t) → Fine (test_rule t)
  unfolding test_rule
  test_tells None p = pure_tells place None
  test_tells (Some t) p = then_tells place (expression_tells number place t p) (λ a. pure_tells place (Some a))

  return_tells : (result : Option Kind) (span : Span) → IsTrue (place span) → (t : Option ExprTree) → IsTrue (optional t) → Fine (return_rule result span t)
  return_tells None span s None p = pure_tells place _
  return_tells (Some kind) span s (Some t) p = then_tells place (expression_tells number place t p) (λ a. pure_tells place _)
  return_tells None span s (Some t) p = then_tells place (expect_tells place 29 span false refl s) (λ u. then_tells place (expression_tells number place t p) (λ a. pure_tells place _))
  return_tells (Some kind) span s None p = then_tells place (expect_tells place 29 span false refl s) (λ u. pure_tells place _)

  pieces : (ts : List ExprTree) → IsTrue (list_all tree ts) → AllByRecursion (PieceTells number place) (map piece ts)
  pieces [] p = tt
  pieces (t ∷ ts) p = (tree_tells number place t (and_left (tree t) (list_all tree ts) p), pieces ts (and_right (tree t) (list_all tree ts) p))

  call_statement_tells : (span : Span) (d : Ident) → IsTrue (place d.span) → (ts : List ExprTree) → IsTrue (list_all tree ts) → Fine (call_statement span d ts)
  unfolding call_statement
  call_statement_tells span d s ts p = then_tells place (call_tells number place d.span s d.name (map piece ts) (pieces ts p)) (λ c. pure_tells place _)

  -- ---- statements

  abbrev PartTells : Part → Type 0
  PartTells p = (u : Around) → Fine (p.rule u)

  turn_tells : (u : Around) (ps : List Part) → AllByRecursion PartTells ps → Fine (in_turn u ps)
  turn_tells u ps h = each_tells place (λ (p : Part). p.rule u) (λ p q. q u) ps h

  single_tells : (u : Around) (p : Part) → PartTells p → Fine (single u p)
  unfolding single
  single_tells u p h = then_tells place (h u) (λ list. pure_tells place _)

  alone_statement_tells : (u : Around) (p : Part) → PartTells p → Fine (alone u p)
  unfolding alone
  alone_statement_tells u p h = scope_tells place (single_tells u p h)

  abbrev ArmTells : ExprTree × Part → Type 0
  ArmTells arm = IsTrue (tree arm.0) × PartTells arm.1

  arm_tells : (u : Around) (arm : ExprTree × Part) → ArmTells arm → Fine (arm_rule u arm)
  unfolding arm_rule
  arm_tells u arm h = then_tells place (expression_tells number place arm.0 h.0) (λ test. then_tells place (alone_statement_tells u arm.1 h.1) (λ body. pure_tells place _))

  arms_tell : (u : Around) (arms : List (ExprTree × Part)) → AllByRecursion ArmTells arms → Fine (arms_rule u arms)
  arms_tell u arms h = each_tells place (λ a. alone_in (arm_rule u a)) (λ a g. alone_tells place (arm_tells u a g)) arms h

  last_tells : (u : Around) (o : Option Part) → IfSome o PartTells → Fine (last_rule u o)
  unfolding last_rule
  last_tells u None h = pure_tells place None
  last_tells u (Some p) h = then_tells place (alone_statement_tells u p h) (λ t. pure_tells place (Some t))

  first_part_tells : (u : Around) (o : Option Part) → IfSome o PartTells → Fine (first_rule u o)
  unfolding first_rule
  first_part_tells u None h = pure_tells place []
  first_part_tells u (Some p) h = h u

  next_tells : (u : Around) (o : Option Part) → IfSome o PartTells → Fine (next_rule u o)
  unfolding next_rule
  next_tells u None h = pure_tells place None
  next_tells u (Some p) h = then_tells place (single_tells u p h) (λ t. pure_tells place (Some t))

  record GroupTells (g : GroupPart) : Type 0 where
    labels : IsTrue (list_all (label_passes number place) g.labels)
    body : AllByRecursion PartTells g.body

  group_tells : (u : Around) (kind : Kind) (g : GroupPart) → GroupTells g → Fine (group_rule u kind g)
  unfolding group_rule
  group_tells u kind g f = then_tells place (cases_tells kind g.labels f.labels) (λ labels. then_tells place (turn_tells u g.body f.body) (λ body. pure_tells place _))

  groups_tell : (u : Around) (kind : Kind) (gs : List GroupPart) → AllByRecursion GroupTells gs → Fine (groups_rule u kind gs)
  groups_tell u kind gs h = each_tells place (λ g. alone_in (group_rule u kind g)) (λ g f. alone_tells place (group_tells u kind g f)) gs h

  -- ---- trees

  abbrev form_passes : Form → Bool
  form_passes = fold-Form Bool Bool Bool (statement_step number place) (group_step number place) (λ s. place s.span && s.form)

  abbrev passes : Statement → Bool
  passes = statement_passes number place

  abbrev RuleTells : (Around → Span → Rule (List TypedStatement)) → Bool → Type 0
  RuleTells rule b = (u : Around) (span : Span) → IsTrue (place span) → IsTrue b → Fine (rule u span)

  abbrev FormTells : Form → Type 0
  FormTells f = RuleTells (form_of f) (form_passes f)

  abbrev GroupMade : Group → Type 0
  GroupMade g = IsTrue (group_passes number place g) → GroupTells (group g)

  abbrev Made : Statement → Type 0
  Made s = IsTrue (passes s) → PartTells (part s)

  form_is : (x : Form-F Form Group Statement) (rule : Around → Span → Rule (List TypedStatement)) (b : Bool) → form_of (roll-Form x) ≡ rule → form_passes (roll-Form x) ≡ b → RuleTells rule b → FormTells (roll-Form x)
  form_is x rule b e g h = subst (λ r. RuleTells r (form_passes (roll-Form x))) (sym e) (subst (RuleTells rule) (sym g) h)

  parts_tell : (ss : List Statement) → AllByRecursion Made ss → IsTrue (list_all (λ b. b) (map passes ss)) → AllByRecursion PartTells (map part ss)
  parts_tell [] h p = tt
  parts_tell (s ∷ ss) h p = (h.0 (and_left (passes s) (list_all (λ b. b) (map passes ss)) p), parts_tell ss h.1 (and_right (passes s) (list_all (λ b. b) (map passes ss)) p))

  some_part : (o : Option Statement) → IfSome o Made → IsTrue (if_there number place (option_map passes o)) → IfSome (option_map part o) PartTells
  some_part None h p = tt
  some_part (Some s) h p = h p

  block_at : (ss : List Statement) → AllByRecursion Made ss → FormTells (roll-Form (Form-F.Block ss))
  unfolding form_of part statement_passes
  block_at ss h =
      form_is (Form-F.Block ss) (form_rule (Form-F.Block (map part ss))) (list_all (λ b. b) (map passes ss)) (search (rules, the_lemmas)) (search (rules, the_lemmas))
      (λ u span s p. then_tells place (scope_tells place (turn_tells u (map part ss) (parts_tell ss h p))) (λ body. pure_tells place _))

  empty_at : FormTells (roll-Form Form-F.Empty)
  unfolding form_of part statement_passes
  empty_at = form_is Form-F.Empty (form_rule Form-F.Empty) true (search (rules, the_lemmas)) (search (rules, the_lemmas)) (λ u span s p. pure_tells place _)

  local_at : (kind : Kind) (ds : List Declarator) → FormTells (roll-Form (Form-F.Local kind ds))
  unfolding form_of part statement_passes
  local_at kind ds =
      form_is (Form-F.Local kind ds) (form_rule (Form-F.Local kind ds)) (is_kind kind && list_all (declarator_passes number place) ds) (search (rules, the_lemmas)) (search (rules, the_lemmas))
      (λ u span s p. locals_tells number place span kind ds (and_right (is_kind kind) (list_all (declarator_passes number place) ds) p))

  to_tells : (to : PlaceTree) → IsTrue (place_passes number place to) → Fine (place_rule to.name to.index)
  to_tells to p = place_tells to.name to.index (and_left (place to.name.span) (optional to.index) p) (and_right (place to.name.span) (optional to.index) p)

  assign_at : (to : PlaceTree) (op : Option BinaryOp) (t : ExprTree) → FormTells (roll-Form (Form-F.Assign to op t))
  unfolding form_of part statement_passes
  assign_at to op t =
      form_is (Form-F.Assign to op t) (form_rule (Form-F.Assign to op t)) (place_passes number place to && tree t) (search (rules, the_lemmas)) (search (rules, the_lemmas))
      (λ u span s p. then_tells place (to_tells to (and_left (place_passes number place to) (tree t) p)) (λ x.
      then_tells place (expression_tells number place t (and_right (place_passes number place to) (tree t) p)) (λ a. pure_tells place _)))

  step_at : (to : PlaceTree) (up : Bool) → FormTells (roll-Form (Form-F.Step to up))
  unfolding form_of part statement_passes
  step_at to up =
      form_is (Form-F.Step to up) (form_rule (Form-F.Step to up)) (place_passes number place to) (search (rules, the_lemmas)) (search (rules, the_lemmas))
      (λ u span s p. then_tells place (to_tells to p) (λ x. pure_tells place _))

  call_at : (d : Ident) (ts : List ExprTree) → FormTells (roll-Form (Form-F.Call d ts))
  unfolding form_of part statement_passes
  call_at d ts =
      form_is (Form-F.Call d ts) (form_rule (Form-F.Call d ts)) (place d.span && list_all tree ts) (search (rules, the_lemmas)) (search (rules, the_lemmas))
      (λ u span s p. call_statement_tells span d (and_left (place d.span) (list_all tree ts) p) ts (and_right (place d.span) (list_all tree ts) p))

  label_at : (d : Ident) (b : Statement) → Made b → FormTells (roll-Form (Form-F.Label d b))
  unfolding form_of part statement_passes
  label_at d b h =
      form_is (Form-F.Label d b) (form_rule (Form-F.Label d (part b))) (place d.span && passes b) (search (rules, the_lemmas)) (search (rules, the_lemmas))
      (λ u span s p. then_tells place (label_tells d (and_left (place d.span) (passes b) p)) (λ v. then_tells place (single_tells u (part b) (h (and_right (place d.span) (passes b) p))) (λ t. pure_tells place _)))

  abbrev arm_passes_of : ExprTree × Statement → ExprTree × Bool
  arm_passes_of a = (a.0, passes a.1)

  abbrev arm_part_of : ExprTree × Statement → ExprTree × Part
  arm_part_of a = (a.0, part a.1)

  arms_of : (list : List (ExprTree × Statement)) → AllByRecursion (λ (a : ExprTree × Statement). Made a.1) list → IsTrue (list_all (arm_passes number place) (map arm_passes_of list)) → AllByRecursion ArmTells (map arm_part_of list)
  arms_of [] h p = tt
  arms_of (a ∷ list) h p =
      let rest = list_all (arm_passes number place) (map arm_passes_of list) in
      let here = and_left (tree a.0 && passes a.1) rest p in
      ((and_left (tree a.0) (passes a.1) here, h.0 (and_right (tree a.0) (passes a.1) here)), arms_of list h.1 (and_right (tree a.0 && passes a.1) rest p))

  some_arms : (list : List (ExprTree × Statement)) → AllByRecursion (λ (a : ExprTree × Statement). Made a.1) list → IsTrue (arms_pass number place (map arm_passes_of list)) → AllByRecursion ArmTells (map arm_part_of list)
  some_arms [] h p = tt
  some_arms (a ∷ list) h p = arms_of (a ∷ list) h p

  if_at : (arms : List (ExprTree × Statement)) (last : Option Statement) → AllByRecursion (λ (a : ExprTree × Statement). Made a.1) arms → IfSome last Made → FormTells (roll-Form (Form-F.If arms last))
  unfolding form_of part statement_passes
  if_at arms last h i =
      let tests = arms_pass number place (map arm_passes_of arms) in
      let end = if_there number place (option_map passes last) in
      form_is (Form-F.If arms last) (form_rule (Form-F.If (map arm_part_of arms) (option_map part last))) (tests && end) (search (rules, the_lemmas)) (search (rules, the_lemmas))
      (λ u span s p. then_tells place (arms_tell u (map arm_part_of arms) (some_arms arms h (and_left tests end p))) (λ typed.
      then_tells place (last_tells u (option_map part last) (some_part last i (and_right tests end p))) (λ x. pure_tells place _)))

  while_at : (t : ExprTree) (b : Statement) → Made b → FormTells (roll-Form (Form-F.While t b))
  unfolding form_of part statement_passes
  while_at t b h =
      form_is (Form-F.While t b) (form_rule (Form-F.While t (part b))) (tree t && passes b) (search (rules, the_lemmas)) (search (rules, the_lemmas))
      (λ u span s p. then_tells place (expression_tells number place t (and_left (tree t) (passes b) p)) (λ a.
      then_tells place (alone_statement_tells (in_loop u) (part b) (h (and_right (tree t) (passes b) p))) (λ x. pure_tells place _)))

  do_at : (b : Statement) (t : ExprTree) → Made b → FormTells (roll-Form (Form-F.Do b t))
  unfolding form_of part statement_passes
  do_at b t h =
      form_is (Form-F.Do b t) (form_rule (Form-F.Do (part b) t)) (passes b && tree t) (search (rules, the_lemmas)) (search (rules, the_lemmas))
      (λ u span s p. then_tells place (alone_statement_tells (in_loop u) (part b) (h (and_left (passes b) (tree t) p))) (λ x.
      then_tells place (expression_tells number place t (and_right (passes b) (tree t) p)) (λ a. pure_tells place _)))

  for_at : (first : Option Statement) (test : Option ExprTree) (next : Option Statement) (b : Statement) → IfSome first Made → IfSome next Made → Made b → FormTells (roll-Form (Form-F.For first test next b))
  unfolding form_of part statement_passes
  for_at first test next b h i j =
      let one = if_there number place (option_map passes first) in
      let two = optional test in
      let three = if_there number place (option_map passes next) in
      form_is (Form-F.For first test next b) (form_rule (Form-F.For (option_map part first) test (option_map part next) (part b))) (one && two && three && passes b) (search (rules, the_lemmas)) (search (rules, the_lemmas))
      (λ u span s p.
      let front = and_left (one && two && three) (passes b) p in
      let pair = and_left (one && two) three front in
      scope_tells place (then_tells place (first_part_tells u (option_map part first) (some_part first h (and_left one two pair))) (λ f. then_tells place (test_tells test (and_right one two pair)) (λ t.
      then_tells place (next_tells u (option_map part next) (some_part next i (and_right (one && two) three front))) (λ x.
      then_tells place (alone_statement_tells (in_loop u) (part b) (j (and_right (one && two && three) (passes b) p))) (λ y. pure_tells place _))))))

  groups_of : (list : List Group) → AllByRecursion GroupMade list → IsTrue (list_all (λ b. b) (map (group_passes number place) list)) → AllByRecursion GroupTells (map group list)
  groups_of [] h p = tt
  groups_of (g ∷ list) h p =
      let rest = list_all (λ b. b) (map (group_passes number place) list) in
      (h.0 (and_left (group_passes number place g) rest p), groups_of list h.1 (and_right (group_passes number place g) rest p))

  switch_at : (t : ExprTree) (gs : List Group) → AllByRecursion GroupMade gs → FormTells (roll-Form (Form-F.Switch t gs))
  unfolding form_of part group statement_passes group_passes
  switch_at t gs h =
      let rest = list_all (λ b. b) (map (group_passes number place) gs) in
      form_is (Form-F.Switch t gs) (form_rule (Form-F.Switch t (map group gs))) (tree t && rest) (search (rules, the_lemmas)) (search (rules, the_lemmas))
      (λ u span s p. then_tells place (temporary_tells place) (λ cell. then_tells place (expression_tells number place t (and_left (tree t) rest p)) (λ a.
      then_tells place (scope_tells place (switch_tells place (groups_tell (in_cases u) (promotion a.kind) (map group gs) (groups_of gs h (and_right (tree t) rest p))))) (λ list. pure_tells place _))))

  break_at : FormTells (roll-Form Form-F.Break)
  unfolding form_of part statement_passes
  break_at = form_is Form-F.Break (form_rule Form-F.Break) true (search (rules, the_lemmas)) (search (rules, the_lemmas)) (λ u span s p. then_tells place (expect_tells place 29 span u.breaks refl s) (λ v. pure_tells place _))

  continue_at : FormTells (roll-Form Form-F.Continue)
  unfolding form_of part statement_passes
  continue_at = form_is Form-F.Continue (form_rule Form-F.Continue) true (search (rules, the_lemmas)) (search (rules, the_lemmas)) (λ u span s p. then_tells place (expect_tells place 29 span u.continues refl s) (λ v. pure_tells place _))

  return_at : (t : Option ExprTree) → FormTells (roll-Form (Form-F.Return t))
  unfolding form_of part statement_passes
  return_at t = form_is (Form-F.Return t) (form_rule (Form-F.Return t)) (optional t) (search (rules, the_lemmas)) (search (rules, the_lemmas)) (λ u span s p. return_tells u.result span s t p)

  assert_at : (t : ExprTree) → FormTells (roll-Form (Form-F.Assert t))
  unfolding form_of part statement_passes
  assert_at t = form_is (Form-F.Assert t) (form_rule (Form-F.Assert t)) (tree t) (search (rules, the_lemmas)) (search (rules, the_lemmas)) (λ u span s p. then_tells place (expression_tells number place t p) (λ a. pure_tells place _))

  assume_at : (t : ExprTree) → FormTells (roll-Form (Form-F.Assume t))
  unfolding form_of part statement_passes
  assume_at t = form_is (Form-F.Assume t) (form_rule (Form-F.Assume t)) (tree t) (search (rules, the_lemmas)) (search (rules, the_lemmas)) (λ u span s p. then_tells place (expression_tells number place t p) (λ a. pure_tells place _))

  group_at : (x : Group-F Form Group Statement) → AllByRecursion Made x.body → GroupMade (roll-Group x)
  unfolding form_of part group statement_passes group_passes
  group_at x h p =
      let e : group (roll-Group x) ≡ record { labels = x.labels; body = map part x.body } = search (rules, the_lemmas) in
      let labels = list_all (label_passes number place) x.labels in
      let body = list_all (λ b. b) (map passes x.body) in
      let tests : group_passes number place (roll-Group x) ≡ (labels && body) = search (rules, the_lemmas) in
      let both : IsTrue (labels && body) = subst IsTrue tests p in
      subst GroupTells (sym e) (record { labels = and_left labels body both; body = parts_tell x.body h (and_right labels body both) })

  statement_at : (x : Statement-F Form Group Statement) → FormTells x.form → Made (roll-Statement x)
  unfolding form_of part statement_passes
  statement_at x h p =
      let e : part (roll-Statement x) ≡ record { span = x.span; rule = λ u. form_of x.form u x.span } = search (rules, the_lemmas) in
      let tests : passes (roll-Statement x) ≡ (place x.span && form_passes x.form) = search (rules, the_lemmas) in
      let both : IsTrue (place x.span && form_passes x.form) = subst IsTrue tests p in
      subst PartTells (sym e) (λ u. h u x.span (and_left (place x.span) (form_passes x.form) both) (and_right (place x.span) (form_passes x.form) both))

  all_arms : {S : Type 0} (f : S → Statement) → ((q : S) → Made (f q)) → (ys : List (ExprTree × S)) → AllByRecursion (λ (a : ExprTree × Statement). Made a.1) (map (λ (a : ExprTree × S). (a.0, f a.1)) ys)
  all_arms f g = all_mapped (λ (a : ExprTree × Statement). Made a.1) (λ a. (a.0, f a.1)) (λ a. g a.1)

  statement_tells : (s : Statement) → Made s
  statement_tells s = ind-Statement FormTells GroupMade Made (λ x. elim [
    | Form-F.Block ys ↦ λ e. subst (λ z. FormTells (roll-Form z)) e (block_at _ (all_mapped Made (λ q. q.0) (λ q. q.1) ys))
    | Form-F.Empty ↦ λ e. subst (λ z. FormTells (roll-Form z)) e empty_at
    | Form-F.Local kind ds ↦ λ e. subst (λ z. FormTells (roll-Form z)) e (local_at kind ds)
    | Form-F.Assign p op t ↦ λ e. subst (λ z. FormTells (roll-Form z)) e (assign_at p op t)
    | Form-F.Step p up ↦ λ e. subst (λ z. FormTells (roll-Form z)) e (step_at p up)
    | Form-F.Call d ts ↦ λ e. subst (λ z. FormTells (roll-Form z)) e (call_at d ts)
    | Form-F.Label d b ↦ λ e. subst (λ z. FormTells (roll-Form z)) e (label_at d b.0 b.1)
    | Form-F.If arms None ↦ λ e. subst (λ z. FormTells (roll-Form z)) e (if_at _ None (all_arms (λ q. q.0) (λ q. q.1) arms) tt)
    | Form-F.If arms (Some o) ↦ λ e. subst (λ z. FormTells (roll-Form z)) e (if_at _ (Some o.0) (all_arms (λ q. q.0) (λ q. q.1) arms) o.1)
    | Form-F.While t b ↦ λ e. subst (λ z. FormTells (roll-Form z)) e (while_at t b.0 b.1)
    | Form-F.Do b t ↦ λ e. subst (λ z. FormTells (roll-Form z)) e (do_at b.0 t b.1)
    | Form-F.For None test None b ↦ λ e. subst (λ z. FormTells (roll-Form z)) e (for_at None test None b.0 tt tt b.1)
    | Form-F.For (Some o) test None b ↦ λ e. subst (λ z. FormTells (roll-Form z)) e (for_at (Some o.0) test None b.0 o.1 tt b.1)
    | Form-F.For None test (Some n) b ↦ λ e. subst (λ z. FormTells (roll-Form z)) e (for_at None test (Some n.0) b.0 tt n.1 b.1)
    | Form-F.For (Some o) test (Some n) b ↦ λ e. subst (λ z. FormTells (roll-Form z)) e (for_at (Some o.0) test (Some n.0) b.0 o.1 n.1 b.1)
    | Form-F.Switch t gs ↦ λ e. subst (λ z. FormTells (roll-Form z)) e (switch_at t _ (all_mapped GroupMade (λ q. q.0) (λ q. q.1) gs))
    | Form-F.Break ↦ λ e. subst (λ z. FormTells (roll-Form z)) e break_at
    | Form-F.Continue ↦ λ e. subst (λ z. FormTells (roll-Form z)) e continue_at
    | Form-F.Return t ↦ λ e. subst (λ z. FormTells (roll-Form z)) e (return_at t)
    | Form-F.Assert t ↦ λ e. subst (λ z. FormTells (roll-Form z)) e (assert_at t)
    | Form-F.Assume t ↦ λ e. subst (λ z. FormTells (roll-Form z)) e (assume_at t)
  ]) (λ x y e. subst (λ z. GroupMade (roll-Group z)) e (group_at (record { labels = y.labels; body = map (λ q. q.0) y.body }) (all_mapped Made (λ q. q.0) (λ q. q.1) y.body)))
      (λ x y e. subst (λ z. Made (roll-Statement z)) e (statement_at (record { span = y.span; form = y.form.0 }) y.form.1)) s

  pub statements_tell : (u : Around) (ss : List Statement) → IsTrue (list_all passes ss) → Fine (statements_typing u ss)
  statements_tell u ss p = each_tells place (statement_rule u) (λ s q. statement_tells s q u) ss (test_all passes ss p)
