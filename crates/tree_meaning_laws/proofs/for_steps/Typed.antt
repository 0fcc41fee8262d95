-- The statements that typing makes of simple ones.
use Rattle.std.proofs.Common.{◌≡◌, ℕ, Bool, true, false, List, [], ◌∷◌, ◌++◌, map, Option, Some, None, refl, sym, subst, rules}
use Rattle.std.specs.Prelude.{◌&&◌, IsTrue, IfSome, option_map}
use Rattle.std.specs.List.{AllByRecursion}
use Rattle.c_values.proofs.Fitting.{and_left, and_right, and_both}
use Rattle.c_values.specs.declared.kinds.Kind.{Kind}
use Rattle.c_values.specs.declared.operators.BinaryOp.{BinaryOp}
use Rattle.fq_core.specs.declared.span.Span.{Span}
use Rattle.cfa.specs.declared.parts.Variable.{Variable}
use Rattle.c_parse.specs.declared.expr.ExprTree.{ExprTree}
use Rattle.c_parse.specs.declared.expr.Ident.{Ident}
use Rattle.c_parse.specs.declared.statement.Declarator.{Declarator}
use Rattle.c_parse.specs.declared.statement.Initial.{Initial}
use Rattle.c_parse.specs.declared.statement.Initial.TheVariants as initials
use Rattle.c_parse.specs.declared.statement.PlaceTree.{PlaceTree}
use Rattle.c_parse.specs.declared.statement.Form.{Form, roll-Form, the_lemmas as parse_lemmas}
use Rattle.c_parse.specs.declared.statement.Form.TheOpen.{Form-F, Group-F, Statement-F}
use Rattle.c_parse.specs.declared.statement.Group.{Group, roll-Group}
use Rattle.c_parse.specs.declared.statement.Statement.{Statement, roll-Statement, ind-Statement}
use Rattle.c_parse.specs.declared.unit.Body.{Body}
use Rattle.c_parse.specs.declared.unit.Item.{Item}
use Rattle.c_parse.specs.declared.unit.Item.TheVariants as items
use Rattle.c_parse.specs.declared.unit.Parameter.{Parameter}
use Rattle.c_typed_trees.specs.declared.expression.Callee.{Callee}
use Rattle.c_typed_trees.specs.declared.expression.TypedCall.{TypedCall}
use Rattle.c_typed_trees.specs.declared.expression.TypedExpr.{TypedExpr}
use Rattle.c_typed_trees.specs.declared.expression.TypedPlace.{TypedPlace}
use Rattle.c_typed_trees.specs.declared.statement.TypedForm.{TypedForm, the_lemmas}
use Rattle.c_typed_trees.specs.declared.statement.TypedForm.TheVariants as forms
use Rattle.c_typed_trees.specs.declared.statement.TypedGroup.{TypedGroup}
use Rattle.c_typed_trees.specs.declared.statement.TypedStatement.{TypedStatement}
use Rattle.c_typed_trees.specs.declared.unit.TypedFunction.{TypedFunction}
use Rattle.c_type_rules.specs.Rule.{At, Rule, behind, pure, ◌then◌, in_scope, in_switch, each, alone_in}
use Rattle.c_types.specs.declared.around.Around.{Around}
use Rattle.c_types.specs.declared.parameters.Parameters.{Parameters}
use Rattle.c_types.specs.declared.program.Program.{Program}
use Rattle.c_types.specs.declared.units.Parts.{Parts}
use Rattle.c_types.specs.Declarations.{statement_of, begun, local_rule, locals_rule}
use Rattle.c_types.specs.Statements.{step_operator, one_at, assigned, Part, GroupPart, one_of, in_turn, single, alone, arm_rule, arms_rule, last_rule, first_rule, next_rule, group_of, group_rule, groups_rule, only, return_rule, call_statement, form_rule, form_of, group, part, statement_rule, statements_typing, in_loop, in_cases}
use Rattle.c_types.specs.Functions.{framed, body_rule, in_function, function_of, defined_rule, function_rule}
use Rattle.c_types.specs.Units.{item_rule, items_rule, program_of, start, typed_of}
use Rattle.tree_meaning_laws.specs.statement_laws.Steps.{Stepping, within, stepping, group_stepping, all_steps, steps_if, step_if, arms_steps, groups_steps}
use Rattle.tree_meaning_laws.specs.for_steps.Simple.{Simple, inner, all_simple, if_simple, next_simple, arms_simple, groups_simple, form_simple, group_simple, simple, body_simple, item_simple, items_simple}
use Rattle.tree_meaning_laws.specs.for_steps.Laws.{HasSteps, UnitsHaveSteps}
use Rattle.tree_meaning_laws.proofs.for_steps.Derived.{items_steps}

-- ---- what rules make

-- whatever stands around, P of what is made
record Makes {A : Type 0} (P : A → Type 0) (m : Rule A) : Type 0 where
  run : (at : At) → P (m at).made

then_makes : {A B : Type 0} {P : A → Type 0} {Q : B → Type 0} {m : Rule A} {k : A → Rule B} → Makes P m → ((x : A) → P x → Makes Q (k x)) → Makes Q (m then k)
unfolding ◌then◌
then_makes {m = m} h g = record { run = λ at. (g (m at).made (h.run at)).run (behind at (m at)) }

-- whatever is made first
behind_makes : {A B : Type 0} {Q : B → Type 0} (m : Rule A) {k : A → Rule B} → ((x : A) → Makes Q (k x)) → Makes Q (m then k)
unfolding ◌then◌
behind_makes m g = record { run = λ at. (g (m at).made).run (behind at (m at)) }

pure_makes : {A : Type 0} {P : A → Type 0} (x : A) → P x → Makes P (pure x)
unfolding pure
pure_makes x p = record { run = λ at. p }

scope_makes : {A : Type 0} {P : A → Type 0} {m : Rule A} → Makes P m → Makes P (in_scope m)
unfolding in_scope
scope_makes h = record { run = λ at. h.run _ }

switch_makes : {A : Type 0} {P : A → Type 0} {m : Rule A} → Makes P m → Makes P (in_switch m)
unfolding in_switch
switch_makes h = record { run = λ at. h.run _ }

alone_makes : {A : Type 0} {P : A → Type 0} {m : Rule A} → Makes P m → Makes (AllByRecursion P) (alone_in m)
alone_makes h = then_makes h (λ x p. pure_makes (x ∷ []) (p, tt))

all_both : {A : Type 0} (P : A → Type 0) (xs ys : List A) → AllByRecursion P xs → AllByRecursion P ys → AllByRecursion P (xs ++ ys)
all_both P [] ys h k = k
all_both P (x ∷ xs) ys h k = (h.0, all_both P xs ys h.1 k)

each_makes : {X A : Type 0} {P : A → Type 0} (f : X → Rule (List A)) (xs : List X) → AllByRecursion (λ x. Makes (AllByRecursion P) (f x)) xs → Makes (AllByRecursion P) (each f xs)
unfolding each
each_makes f [] h = pure_makes [] tt
each_makes {P = P} f (x ∷ xs) h = then_makes h.0 (λ ys p. then_makes (each_makes {P = P} f xs h.1) (λ zs q. pure_makes (ys ++ zs) (all_both P ys zs p q)))

every : {X : Type 0} {P : X → Type 0} → ((x : X) → P x) → (xs : List X) → AllByRecursion P xs
every h [] = tt
every h (x ∷ xs) = (h x, every h xs)

-- ---- typed statements

abbrev Steps : TypedStatement → Type 0
Steps s = IsTrue (stepping s).steps

abbrev AllSteps : List TypedStatement → Type 0
AllSteps ss = AllByRecursion Steps ss

-- a statement alone, which is an assignment or a call
abbrev IsStep : List TypedStatement → Type 0
IsStep ss = (s : TypedStatement) × (ss ≡ s ∷ []) × IsTrue (stepping s).is_step × Steps s

all_is : (ss : List TypedStatement) → AllSteps ss → IsTrue (all_steps (map stepping ss))
all_is [] h = refl
all_is (s ∷ ss) h = and_both _ _ h.0 (all_is ss h.1)

made : (s : TypedStatement) (m : Stepping) → stepping s ≡ m → IsTrue m.steps → Steps s
made s m e h = subst (λ (q : Stepping). IsTrue q.steps) (sym e) h

only_makes : (span : Span) (f : TypedForm) → Steps (statement_of span f) → Makes AllSteps (only span f)
only_makes span f h = pure_makes (statement_of span f ∷ []) (h, tt)

module _ (span : Span) where
  block_steps : (ss : List TypedStatement) → AllSteps ss → Steps (statement_of span (forms.Block ss))
  unfolding stepping
  block_steps ss h = made _ (within (all_steps (map stepping ss))) (search (rules, the_lemmas)) (all_is ss h)

  empty_steps : Steps (statement_of span forms.Empty)
  unfolding stepping
  empty_steps = made _ (within true) (search (rules, the_lemmas)) refl

  local_steps : (v : Variable) (o : Option TypedExpr) → Steps (statement_of span (forms.Local v o))
  unfolding stepping
  local_steps v o = made _ (within true) (search (rules, the_lemmas)) refl

  array_steps : (v : Variable) (list : List TypedExpr) → Steps (statement_of span (forms.LocalArray v list))
  unfolding stepping
  array_steps v list = made _ (within true) (search (rules, the_lemmas)) refl

  assign_is : (p : TypedPlace) (op : Option (BinaryOp × Kind)) (a : TypedExpr) → stepping (statement_of span (forms.Assign p op a)) ≡ record { is_step = true; steps = true }
  unfolding stepping
  assign_is p op a = search (rules, the_lemmas)

  assigned_is : (p : TypedPlace) (op : Option BinaryOp) (a : TypedExpr) → stepping (statement_of span (assigned p op a)) ≡ record { is_step = true; steps = true }
  assigned_is p None a = assign_is p None _
  assigned_is p (Some op) a = assign_is p (Some _) _

  call_is : (c : TypedCall) → stepping (statement_of span (forms.Call c)) ≡ record { is_step = true; steps = true }
  unfolding stepping
  call_is c = search (rules, the_lemmas)

  label_steps : (w : List ℕ) (s : TypedStatement) → Steps s → Steps (statement_of span (forms.Label w s))
  unfolding stepping
  label_steps w s h = made _ (within (stepping s).steps) (search (rules, the_lemmas)) h

  if_steps : (arms : List (TypedExpr × TypedStatement)) (o : Option TypedStatement) → AllByRecursion (λ (a : TypedExpr × TypedStatement). Steps a.1) arms → IfSome o Steps → Steps (statement_of span (forms.If arms o))
  unfolding stepping
  if_steps arms o h k = made _ (within (arms_steps (map (λ (a : TypedExpr × TypedStatement). (a.0, stepping a.1)) arms) && steps_if (option_map stepping o))) (search (rules, the_lemmas)) (and_both _ _ (all arms h) (last o k))
    where
      all : (list : List (TypedExpr × TypedStatement)) → AllByRecursion (λ (a : TypedExpr × TypedStatement). Steps a.1) list → IsTrue (arms_steps (map (λ (a : TypedExpr × TypedStatement). (a.0, stepping a.1)) list))
      all [] h = refl
      all (a ∷ list) h = and_both _ _ h.0 (all list h.1)

      last : (o : Option TypedStatement) → IfSome o Steps → IsTrue (steps_if (option_map stepping o))
      last None k = refl
      last (Some s) k = k

  while_steps : (a : TypedExpr) (s : TypedStatement) → Steps s → Steps (statement_of span (forms.While a s))
  unfolding stepping
  while_steps a s h = made _ (within (stepping s).steps) (search (rules, the_lemmas)) h

  do_steps : (s : TypedStatement) (a : TypedExpr) → Steps s → Steps (statement_of span (forms.Do s a))
  unfolding stepping
  do_steps s a h = made _ (within (stepping s).steps) (search (rules, the_lemmas)) h

  for_steps : (first : List TypedStatement) (t : Option TypedExpr) (next : Option TypedStatement) (s : TypedStatement) → AllSteps first → IfSome next (λ s. IsTrue (stepping s).is_step × Steps s) → Steps s → Steps (statement_of span (forms.For first t next s))
  unfolding stepping
  for_steps first t next s h k l = made _ (within (all_steps (map stepping first) && step_if (option_map stepping next) && (stepping s).steps)) (search (rules, the_lemmas)) (and_both _ _ (and_both _ _ (all_is first h) (by next k)) l)
    where
      by : (o : Option TypedStatement) → IfSome o (λ s. IsTrue (stepping s).is_step × Steps s) → IsTrue (step_if (option_map stepping o))
      by None k = refl
      by (Some s) k = and_both _ _ k.0 k.1

  switch_steps : (a : TypedExpr) (cell : ℕ) (gs : List TypedGroup) → AllByRecursion (λ g. IsTrue (group_stepping g)) gs → Steps (statement_of span (forms.Switch a cell gs))
  unfolding stepping group_stepping
  switch_steps a cell gs h = made _ (within (groups_steps (map group_stepping gs))) (search (rules, the_lemmas)) (all gs h)
    where
      all : (list : List TypedGroup) → AllByRecursion (λ g. IsTrue (group_stepping g)) list → IsTrue (groups_steps (map group_stepping list))
      all [] h = refl
      all (g ∷ list) h = and_both _ _ h.0 (all list h.1)

  break_steps : Steps (statement_of span forms.Break)
  unfolding stepping
  break_steps = made _ (within true) (search (rules, the_lemmas)) refl

  continue_steps : Steps (statement_of span forms.Continue)
  unfolding stepping
  continue_steps = made _ (within true) (search (rules, the_lemmas)) refl

  return_steps : (o : Option TypedExpr) → Steps (statement_of span (forms.Return o))
  unfolding stepping
  return_steps o = made _ (within true) (search (rules, the_lemmas)) refl

  assert_steps : (a : TypedExpr) → Steps (statement_of span (forms.Assert a))
  unfolding stepping
  assert_steps a = made _ (within true) (search (rules, the_lemmas)) refl

  assume_steps : (a : TypedExpr) → Steps (statement_of span (forms.Assume a))
  unfolding stepping
  assume_steps a = made _ (within true) (search (rules, the_lemmas)) refl

  -- several are a block
  one_steps : (ss : List TypedStatement) → AllSteps ss → Steps (one_of span ss)
  one_steps [] h = empty_steps
  one_steps (s ∷ []) h = h.0
  one_steps (s ∷ t ∷ ss) h = block_steps (s ∷ t ∷ ss) h

group_is : (labels : List (Span × Option ℕ)) (ss : List TypedStatement) → AllSteps ss → IsTrue (group_stepping (group_of labels ss))
unfolding stepping group_stepping
group_is labels ss h = subst IsTrue (sym e) (all_is ss h)
  where
    e : group_stepping (group_of labels ss) ≡ all_steps (map stepping ss)
    e = search (rules, the_lemmas)

-- ---- declarations

begun_makes : (span : Span) (d : Ident) (v : Variable) (length : Option ℕ) (first : Option Initial) → Makes Steps (begun span d v length first)
begun_makes span d v None None = pure_makes _ (local_steps span v None)
begun_makes span d v None (Some (initials.One t)) = behind_makes _ (λ a. pure_makes _ (local_steps span v (Some a)))
begun_makes span d v None (Some (initials.List ts)) = behind_makes _ (λ u. behind_makes _ (λ list. pure_makes _ (empty_steps span)))
begun_makes span d v (Some n) None = pure_makes _ (array_steps span v [])
begun_makes span d v (Some n) (Some (initials.One t)) = behind_makes _ (λ u. behind_makes _ (λ a. pure_makes _ (empty_steps span)))
begun_makes span d v (Some n) (Some (initials.List ts)) = behind_makes _ (λ u. behind_makes _ (λ list. pure_makes _ (array_steps span v list)))

local_makes : (span : Span) (kind : Kind) (d : Declarator) → Makes Steps (local_rule span kind d)
unfolding local_rule
local_makes span kind d = behind_makes _ (λ u. behind_makes _ (λ length. behind_makes _ (λ cell. behind_makes _ (λ w. begun_makes span d.name _ length d.first))))

locals_make : (span : Span) (kind : Kind) (ds : List Declarator) → Makes AllSteps (locals_rule span kind ds)
unfolding locals_rule
locals_make span kind ds = each_makes {P = Steps} (λ d. alone_in (local_rule span kind d)) ds (every (λ d. alone_makes (local_makes span kind d)) ds)

-- ---- statements

return_makes : (result : Option Kind) (span : Span) (t : Option ExprTree) → Makes AllSteps (return_rule result span t)
return_makes None span None = only_makes span _ (return_steps span None)
return_makes (Some kind) span (Some t) = behind_makes _ (λ a. only_makes span _ (return_steps span _))
return_makes None span (Some t) = behind_makes _ (λ u. behind_makes _ (λ a. only_makes span _ (empty_steps span)))
return_makes (Some kind) span None = behind_makes _ (λ u. only_makes span _ (empty_steps span))

call_makes : (span : Span) (d : Ident) (ts : List ExprTree) → Makes IsStep (call_statement span d ts)
unfolding call_statement
call_makes span d ts = behind_makes _ (λ c. pure_makes _ (statement_of span (forms.Call c.1), refl, subst (λ (q : Stepping). IsTrue q.is_step) (sym (call_is span c.1)) refl, subst (λ (q : Stepping). IsTrue q.steps) (sym (call_is span c.1)) refl))

assigned_makes : (span : Span) (p : TypedPlace) (op : Option BinaryOp) (a : TypedExpr) → IsStep (statement_of span (assigned p op a) ∷ [])
assigned_makes span p op a = (statement_of span (assigned p op a), refl, subst (λ (q : Stepping). IsTrue q.is_step) (sym (assigned_is span p op a)) refl, subst (λ (q : Stepping). IsTrue q.steps) (sym (assigned_is span p op a)) refl)

step_all : (ss : List TypedStatement) → IsStep ss → AllSteps ss
step_all ss h = subst AllSteps (sym h.1) (h.3, tt)

abbrev PartSteps : Simple → Part → Type 0
PartSteps m p = (IsTrue m.steps → (u : Around) → Makes AllSteps (p.rule u)) × (IsTrue m.is_simple → (u : Around) → Makes IsStep (p.rule u))

abbrev RuleSteps : Simple → (Around → Span → Rule (List TypedStatement)) → Type 0
RuleSteps m f = (IsTrue m.steps → (u : Around) (span : Span) → Makes AllSteps (f u span)) × (IsTrue m.is_simple → (u : Around) (span : Span) → Makes IsStep (f u span))

abbrev FormSteps : Form → Type 0
FormSteps f = RuleSteps (form_simple f) (form_of f)

abbrev StatementSteps : Statement → Type 0
StatementSteps s = PartSteps (simple s) (part s)

abbrev GroupSteps : Group → Type 0
GroupSteps g = IsTrue (group_simple g) → (u : Around) → Makes AllSteps (in_turn u (group g).body)

single_makes : (u : Around) (p : Part) → Makes AllSteps (p.rule u) → Makes Steps (single u p)
unfolding single
single_makes u p h = then_makes h (λ ss k. pure_makes (one_of p.span ss) (one_steps p.span ss k))

single_step : (u : Around) (p : Part) → Makes IsStep (p.rule u) → Makes (λ s. IsTrue (stepping s).is_step × Steps s) (single u p)
unfolding single
single_step u p h = then_makes h (λ ss k. pure_makes (one_of p.span ss) (subst (λ (list : List TypedStatement). IsTrue (stepping (one_of p.span list)).is_step × Steps (one_of p.span list)) (sym k.1) (k.2, k.3)))

alone_steps : (u : Around) (p : Part) → Makes AllSteps (p.rule u) → Makes Steps (alone u p)
unfolding alone
alone_steps u p h = scope_makes (single_makes u p h)

no_truth : IsTrue false → ⊥
no_truth h = cc

form_is : (x : Form-F Form Group Statement) (rule : Around → Span → Rule (List TypedStatement)) (m : Simple) → form_of (roll-Form x) ≡ rule → form_simple (roll-Form x) ≡ m → RuleSteps m rule → FormSteps (roll-Form x)
form_is x rule m e f h = subst (λ r. RuleSteps (form_simple (roll-Form x)) r) (sym e) (subst (λ q. RuleSteps q rule) (sym f) h)

-- a form that is no simple one
inner_is : (x : Form-F Form Group Statement) (rule : Around → Span → Rule (List TypedStatement)) (b : Bool) → form_of (roll-Form x) ≡ rule → form_simple (roll-Form x) ≡ inner b → (IsTrue b → (u : Around) (span : Span) → Makes AllSteps (rule u span)) → FormSteps (roll-Form x)
inner_is x rule b e f h = form_is x rule (inner b) e f (h, λ is. absurd (no_truth is))

step_is : (x : Form-F Form Group Statement) (rule : Around → Span → Rule (List TypedStatement)) → form_of (roll-Form x) ≡ rule → form_simple (roll-Form x) ≡ record { is_simple = true; steps = true } → ((u : Around) (span : Span) → Makes IsStep (rule u span)) → FormSteps (roll-Form x)
step_is x rule e f h = form_is x rule (record { is_simple = true; steps = true }) e f (λ is u span. record { run = λ at. step_all _ ((h u span).run at) }, λ is u span. h u span)

turn_steps : (ss : List Statement) → AllByRecursion StatementSteps ss → IsTrue (all_simple (map simple ss)) → (u : Around) → AllByRecursion (λ p. Makes AllSteps (p.rule u)) (map part ss)
turn_steps [] h k u = tt
turn_steps (s ∷ ss) h k u = ((h.0).0 (and_left _ _ k) u, turn_steps ss h.1 (and_right _ _ k) u)

turn_makes : (ss : List Statement) → AllByRecursion StatementSteps ss → IsTrue (all_simple (map simple ss)) → (u : Around) → Makes AllSteps (in_turn u (map part ss))
turn_makes ss h k u = each_makes {P = Steps} (λ p. p.rule u) (map part ss) (turn_steps ss h k u)

block_at : (ss : List Statement) → AllByRecursion StatementSteps ss → FormSteps (roll-Form (Form-F.Block ss))
unfolding form_of part form_simple simple
block_at ss h = inner_is (Form-F.Block ss) (form_rule (Form-F.Block (map part ss))) (all_simple (map simple ss)) (search (rules, parse_lemmas)) (search (rules, parse_lemmas))
    (λ k u span. then_makes (scope_makes (turn_makes ss h k u)) (λ body b. only_makes span _ (block_steps span body b)))

empty_at : FormSteps (roll-Form Form-F.Empty)
unfolding form_of form_simple
empty_at = inner_is Form-F.Empty (form_rule Form-F.Empty) true (search (rules, parse_lemmas)) (search (rules, parse_lemmas)) (λ k u span. only_makes span _ (empty_steps span))

local_at : (kind : Kind) (ds : List Declarator) → FormSteps (roll-Form (Form-F.Local kind ds))
unfolding form_of form_simple
local_at kind ds = inner_is (Form-F.Local kind ds) (form_rule (Form-F.Local kind ds)) true (search (rules, parse_lemmas)) (search (rules, parse_lemmas)) (λ k u span. locals_make span kind ds)

assign_at : (p : PlaceTree) (op : Option BinaryOp) (t : ExprTree) → FormSteps (roll-Form (Form-F.Assign p op t))
unfolding form_of form_simple
assign_at p op t = step_is (Form-F.Assign p op t) (form_rule (Form-F.Assign p op t)) (search (rules, parse_lemmas)) (search (rules, parse_lemmas)) (λ u span. behind_makes _ (λ place. behind_makes _ (λ a. pure_makes _ (assigned_makes span place op a))))

step_at : (p : PlaceTree) (up : Bool) → FormSteps (roll-Form (Form-F.Step p up))
unfolding form_of form_simple
step_at p up = step_is (Form-F.Step p up) (form_rule (Form-F.Step p up)) (search (rules, parse_lemmas)) (search (rules, parse_lemmas)) (λ u span. behind_makes _ (λ place. pure_makes _ (assigned_makes span place (Some (step_operator up)) (one_at span))))

call_at : (d : Ident) (ts : List ExprTree) → FormSteps (roll-Form (Form-F.Call d ts))
unfolding form_of form_simple
call_at d ts = step_is (Form-F.Call d ts) (form_rule (Form-F.Call d ts)) (search (rules, parse_lemmas)) (search (rules, parse_lemmas)) (λ u span. call_makes span d ts)

label_at : (d : Ident) (b : Statement) → StatementSteps b → FormSteps (roll-Form (Form-F.Label d b))
unfolding form_of part form_simple simple
label_at d b h = inner_is (Form-F.Label d b) (form_rule (Form-F.Label d (part b))) (simple b).steps (search (rules, parse_lemmas)) (search (rules, parse_lemmas))
    (λ k u span. behind_makes _ (λ v. then_makes (single_makes u (part b) (h.0 k u)) (λ s q. only_makes span _ (label_steps span d.name s q))))

arm_makes : (u : Around) (t : ExprTree) (p : Part) → Makes AllSteps (p.rule u) → Makes (λ (a : TypedExpr × TypedStatement). Steps a.1) (arm_rule u (t, p))
unfolding arm_rule
arm_makes u t p h = behind_makes _ (λ a. then_makes (alone_steps u p h) (λ b q. pure_makes (a, b) q))

last_makes : (u : Around) (o : Option Statement) → IfSome o StatementSteps → IsTrue (if_simple (option_map simple o)) → Makes (λ s. IfSome s Steps) (last_rule u (option_map part o))
unfolding last_rule
last_makes u None h k = pure_makes None tt
last_makes u (Some s) h k = then_makes (alone_steps u (part s) (h.0 k u)) (λ t q. pure_makes (Some t) q)

abbrev arm_part : ExprTree × Statement → ExprTree × Part
arm_part a = (a.0, part a.1)

abbrev arm_simple : ExprTree × Statement → ExprTree × Simple
arm_simple a = (a.0, simple a.1)

arms_make : (u : Around) (arms : List (ExprTree × Statement)) → AllByRecursion (λ (a : ExprTree × Statement). StatementSteps a.1) arms → IsTrue (arms_simple (map arm_simple arms)) → Makes (AllByRecursion (λ (a : TypedExpr × TypedStatement). Steps a.1)) (arms_rule u (map arm_part arms))
arms_make u arms h k = each_makes {P = λ (a : TypedExpr × TypedStatement). Steps a.1} (λ arm. alone_in (arm_rule u arm)) (map arm_part arms) (all arms h k)
  where
    all : (list : List (ExprTree × Statement)) → AllByRecursion (λ (a : ExprTree × Statement). StatementSteps a.1) list → IsTrue (arms_simple (map arm_simple list)) → AllByRecursion (λ arm. Makes (AllByRecursion (λ (a : TypedExpr × TypedStatement). Steps a.1)) (alone_in (arm_rule u arm))) (map arm_part list)
    all [] h k = tt
    all (a ∷ list) h k = (alone_makes {P = λ (a : TypedExpr × TypedStatement). Steps a.1} (arm_makes u a.0 (part a.1) ((h.0).0 (and_left _ _ k) u)), all list h.1 (and_right _ _ k))

if_at : (arms : List (ExprTree × Statement)) (last : Option Statement) → AllByRecursion (λ (a : ExprTree × Statement). StatementSteps a.1) arms → IfSome last StatementSteps → FormSteps (roll-Form (Form-F.If arms last))
unfolding form_of part form_simple simple
if_at arms last h k = inner_is (Form-F.If arms last) (form_rule (Form-F.If (map arm_part arms) (option_map part last))) (arms_simple (map arm_simple arms) && if_simple (option_map simple last)) (search (rules, parse_lemmas)) (search (rules, parse_lemmas))
    (λ b u span. then_makes (arms_make u arms h (and_left (arms_simple (map arm_simple arms)) (if_simple (option_map simple last)) b)) (λ typed p. then_makes (last_makes u last k (and_right (arms_simple (map arm_simple arms)) (if_simple (option_map simple last)) b)) (λ o q. only_makes span _ (if_steps span typed o p q))))

while_at : (t : ExprTree) (b : Statement) → StatementSteps b → FormSteps (roll-Form (Form-F.While t b))
unfolding form_of part form_simple simple
while_at t b h = inner_is (Form-F.While t b) (form_rule (Form-F.While t (part b))) (simple b).steps (search (rules, parse_lemmas)) (search (rules, parse_lemmas))
    (λ k u span. behind_makes _ (λ a. then_makes (alone_steps (in_loop u) (part b) (h.0 k (in_loop u))) (λ s q. only_makes span _ (while_steps span a s q))))

do_at : (b : Statement) (t : ExprTree) → StatementSteps b → FormSteps (roll-Form (Form-F.Do b t))
unfolding form_of part form_simple simple
do_at b t h = inner_is (Form-F.Do b t) (form_rule (Form-F.Do (part b) t)) (simple b).steps (search (rules, parse_lemmas)) (search (rules, parse_lemmas))
    (λ k u span. then_makes (alone_steps (in_loop u) (part b) (h.0 k (in_loop u))) (λ s q. behind_makes _ (λ a. only_makes span _ (do_steps span s a q))))

first_makes : (u : Around) (o : Option Statement) → IfSome o StatementSteps → IsTrue (if_simple (option_map simple o)) → Makes AllSteps (first_rule u (option_map part o))
unfolding first_rule
first_makes u None h k = pure_makes [] tt
first_makes u (Some s) h k = h.0 k u

next_makes : (u : Around) (o : Option Statement) → IfSome o StatementSteps → IsTrue (next_simple (option_map simple o)) → Makes (λ s. IfSome s (λ s. IsTrue (stepping s).is_step × Steps s)) (next_rule u (option_map part o))
unfolding next_rule
next_makes u None h k = pure_makes None tt
next_makes u (Some s) h k = then_makes (single_step u (part s) (h.1 (and_left _ _ k) u)) (λ t q. pure_makes (Some t) q)

for_at : (first : Option Statement) (test : Option ExprTree) (next : Option Statement) (b : Statement) → IfSome first StatementSteps → IfSome next StatementSteps → StatementSteps b → FormSteps (roll-Form (Form-F.For first test next b))
unfolding form_of part form_simple simple
for_at first test next b h k l =
    inner_is (Form-F.For first test next b) (form_rule (Form-F.For (option_map part first) test (option_map part next) (part b))) (if_simple (option_map simple first) && next_simple (option_map simple next) && (simple b).steps) (search (rules, parse_lemmas)) (search (rules, parse_lemmas))
    (λ is u span.
    let one = if_simple (option_map simple first) in
    let two = next_simple (option_map simple next) in
    let both : IsTrue (one && two) = and_left (one && two) (simple b).steps is in
    scope_makes (then_makes (first_makes u first h (and_left one two both)) (λ f p. behind_makes _ (λ t. then_makes (next_makes u next k (and_right one two both)) (λ n q.
    then_makes (alone_steps (in_loop u) (part b) (l.0 (and_right (one && two) (simple b).steps is) (in_loop u))) (λ s r. only_makes span _ (for_steps span f t n s p q r)))))))

group_makes : (u : Around) (kind : Kind) (g : GroupPart) → Makes AllSteps (in_turn u g.body) → Makes (λ t. IsTrue (group_stepping t)) (group_rule u kind g)
unfolding group_rule
group_makes u kind g h = behind_makes _ (λ labels. then_makes h (λ body q. pure_makes (group_of labels body) (group_is labels body q)))

groups_make : (u : Around) (kind : Kind) (gs : List Group) → AllByRecursion GroupSteps gs → IsTrue (groups_simple (map group_simple gs)) → Makes (AllByRecursion (λ t. IsTrue (group_stepping t))) (groups_rule u kind (map group gs))
groups_make u kind gs h k = each_makes {P = λ t. IsTrue (group_stepping t)} (λ g. alone_in (group_rule u kind g)) (map group gs) (all gs h k)
  where
    all : (list : List Group) → AllByRecursion GroupSteps list → IsTrue (groups_simple (map group_simple list)) → AllByRecursion (λ g. Makes (AllByRecursion (λ t. IsTrue (group_stepping t))) (alone_in (group_rule u kind g))) (map group list)
    all [] h k = tt
    all (g ∷ list) h k = (alone_makes {P = λ t. IsTrue (group_stepping t)} (group_makes u kind (group g) (h.0 (and_left _ _ k) u)), all list h.1 (and_right _ _ k))

switch_at : (t : ExprTree) (gs : List Group) → AllByRecursion GroupSteps gs → FormSteps (roll-Form (Form-F.Switch t gs))
unfolding form_of part group form_simple simple group_simple
switch_at t gs h = inner_is (Form-F.Switch t gs) (form_rule (Form-F.Switch t (map group gs))) (groups_simple (map group_simple gs)) (search (rules, parse_lemmas)) (search (rules, parse_lemmas))
    (λ k u span. behind_makes _ (λ cell. behind_makes _ (λ a. then_makes (scope_makes (switch_makes (groups_make (in_cases u) _ gs h k))) (λ list q. only_makes span _ (switch_steps span _ cell list q)))))

break_at : FormSteps (roll-Form Form-F.Break)
unfolding form_of form_simple
break_at = inner_is Form-F.Break (form_rule Form-F.Break) true (search (rules, parse_lemmas)) (search (rules, parse_lemmas)) (λ k u span. behind_makes _ (λ v. only_makes span _ (break_steps span)))

continue_at : FormSteps (roll-Form Form-F.Continue)
unfolding form_of form_simple
continue_at = inner_is Form-F.Continue (form_rule Form-F.Continue) true (search (rules, parse_lemmas)) (search (rules, parse_lemmas)) (λ k u span. behind_makes _ (λ v. only_makes span _ (continue_steps span)))

return_at : (t : Option ExprTree) → FormSteps (roll-Form (Form-F.Return t))
unfolding form_of form_simple
return_at t = inner_is (Form-F.Return t) (form_rule (Form-F.Return t)) true (search (rules, parse_lemmas)) (search (rules, parse_lemmas)) (λ k u span. return_makes u.result span t)

assert_at : (t : ExprTree) → FormSteps (roll-Form (Form-F.Assert t))
unfolding form_of form_simple
assert_at t = inner_is (Form-F.Assert t) (form_rule (Form-F.Assert t)) true (search (rules, parse_lemmas)) (search (rules, parse_lemmas)) (λ k u span. behind_makes _ (λ a. only_makes span _ (assert_steps span a)))

assume_at : (t : ExprTree) → FormSteps (roll-Form (Form-F.Assume t))
unfolding form_of form_simple
assume_at t = inner_is (Form-F.Assume t) (form_rule (Form-F.Assume t)) true (search (rules, parse_lemmas)) (search (rules, parse_lemmas)) (λ k u span. behind_makes _ (λ a. only_makes span _ (assume_steps span a)))

group_at : (x : Group-F Form Group Statement) → AllByRecursion StatementSteps x.body → GroupSteps (roll-Group x)
unfolding form_of part group form_simple simple group_simple
group_at x h k u = subst (λ (g : GroupPart). Makes AllSteps (in_turn u g.body)) (sym e) (turn_makes x.body h (subst IsTrue f k) u)
  where
    e : group (roll-Group x) ≡ record { labels = x.labels; body = map part x.body }
    e = search (rules, parse_lemmas)

    f : group_simple (roll-Group x) ≡ all_simple (map simple x.body)
    f = search (rules, parse_lemmas)

statement_at : (x : Statement-F Form Group Statement) → FormSteps x.form → StatementSteps (roll-Statement x)
unfolding form_of part form_simple simple
statement_at x h = subst (λ (m : Simple). PartSteps m (part (roll-Statement x))) (sym f) (subst (PartSteps (form_simple x.form)) (sym e) (λ k u. h.0 k u x.span, λ k u. h.1 k u x.span))
  where
    e : part (roll-Statement x) ≡ record { span = x.span; rule = λ u. form_of x.form u x.span }
    e = search (rules, parse_lemmas)

    f : simple (roll-Statement x) ≡ form_simple x.form
    f = search (rules, parse_lemmas)

all_mapped : {X S : Type 0} (P : X → Type 0) (f : S → X) → ((q : S) → P (f q)) → (ys : List S) → AllByRecursion P (map f ys)
all_mapped P f g [] = tt
all_mapped P f g (y ∷ ys) = (g y, all_mapped P f g ys)

all_arms : {S : Type 0} (f : S → Statement) → ((q : S) → StatementSteps (f q)) → (ys : List (ExprTree × S)) → AllByRecursion (λ (a : ExprTree × Statement). StatementSteps a.1) (map (λ (a : ExprTree × S). (a.0, f a.1)) ys)
all_arms f g [] = tt
all_arms f g (y ∷ ys) = (g y.1, all_arms f g ys)

statement_steps : (s : Statement) → StatementSteps s
statement_steps s = ind-Statement FormSteps GroupSteps StatementSteps (λ x. elim [
  | Form-F.Block ys ↦ λ e. subst (λ z. FormSteps (roll-Form z)) e (block_at _ (all_mapped StatementSteps (λ q. q.0) (λ q. q.1) ys))
  | Form-F.Empty ↦ λ e. subst (λ z. FormSteps (roll-Form z)) e empty_at
  | Form-F.Local kind ds ↦ λ e. subst (λ z. FormSteps (roll-Form z)) e (local_at kind ds)
  | Form-F.Assign p op t ↦ λ e. subst (λ z. FormSteps (roll-Form z)) e (assign_at p op t)
  | Form-F.Step p up ↦ λ e. subst (λ z. FormSteps (roll-Form z)) e (step_at p up)
  | Form-F.Call d ts ↦ λ e. subst (λ z. FormSteps (roll-Form z)) e (call_at d ts)
  | Form-F.Label d b ↦ λ e. subst (λ z. FormSteps (roll-Form z)) e (label_at d b.0 b.1)
  | Form-F.If arms None ↦ λ e. subst (λ z. FormSteps (roll-Form z)) e (if_at _ None (all_arms (λ q. q.0) (λ q. q.1) arms) tt)
  | Form-F.If arms (Some o) ↦ λ e. subst (λ z. FormSteps (roll-Form z)) e (if_at _ (Some o.0) (all_arms (λ q. q.0) (λ q. q.1) arms) o.1)
  | Form-F.While t b ↦ λ e. subst (λ z. FormSteps (roll-Form z)) e (while_at t b.0 b.1)
  | Form-F.Do b t ↦ λ e. subst (λ z. FormSteps (roll-Form z)) e (do_at b.0 t b.1)
  | Form-F.For None test None b ↦ λ e. subst (λ z. FormSteps (roll-Form z)) e (for_at None test None b.0 tt tt b.1)
  | Form-F.For (Some o) test None b ↦ λ e. subst (λ z. FormSteps (roll-Form z)) e (for_at (Some o.0) test None b.0 o.1 tt b.1)
  | Form-F.For None test (Some n) b ↦ λ e. subst (λ z. FormSteps (roll-Form z)) e (for_at None test (Some n.0) b.0 tt n.1 b.1)
  | Form-F.For (Some o) test (Some n) b ↦ λ e. subst (λ z. FormSteps (roll-Form z)) e (for_at (Some o.0) test (Some n.0) b.0 o.1 n.1 b.1)
  | Form-F.Switch t gs ↦ λ e. subst (λ z. FormSteps (roll-Form z)) e (switch_at t _ (all_mapped GroupSteps (λ q. q.0) (λ q. q.1) gs))
  | Form-F.Break ↦ λ e. subst (λ z. FormSteps (roll-Form z)) e break_at
  | Form-F.Continue ↦ λ e. subst (λ z. FormSteps (roll-Form z)) e continue_at
  | Form-F.Return t ↦ λ e. subst (λ z. FormSteps (roll-Form z)) e (return_at t)
  | Form-F.Assert t ↦ λ e. subst (λ z. FormSteps (roll-Form z)) e (assert_at t)
  | Form-F.Assume t ↦ λ e. subst (λ z. FormSteps (roll-Form z)) e (assume_at t)
]) (λ x y e. subst (λ z. GroupSteps (roll-Group z)) e (group_at (record { labels = y.labels; body = map (λ q. q.0) y.body }) (all_mapped StatementSteps (λ q. q.0) (λ q. q.1) y.body)))
    (λ x y e. subst (λ z. StatementSteps (roll-Statement z)) e (statement_at (record { span = y.span; form = y.form.0 }) y.form.1)) s

-- ---- functions

statements_make : (u : Around) (ss : List Statement) → IsTrue (all_simple (map simple ss)) → Makes AllSteps (statements_typing u ss)
statements_make u ss k = each_makes {P = Steps} (statement_rule u) ss (all ss k)
  where
    all : (list : List Statement) → IsTrue (all_simple (map simple list)) → AllByRecursion (λ s. Makes AllSteps (statement_rule u s)) list
    all [] k = tt
    all (s ∷ list) k = ((statement_steps s).0 (and_left _ _ k) u, all list (and_right _ _ k))

body_makes : (result : Option Kind) (ps : Parameters) (b : Body) → IsTrue (all_simple (map simple b.statements)) → Makes AllSteps (body_rule result ps b)
unfolding body_rule
body_makes result ps b k = scope_makes (behind_makes _ (λ u. statements_make (in_function result) b.statements k))

framed_makes : {A : Type 0} {P : A → Type 0} (span : Span) (first : ℕ) (m : Rule A) → Makes P m → Makes (λ (q : ℕ × A). P q.1) (framed span first m)
unfolding framed
framed_makes span first m h = record { run = λ at. h.run _ }

abbrev AllHave : List TypedFunction → Type 0
AllHave fs = AllByRecursion HasSteps fs

defined_makes : (span : Span) (result : Option Kind) (d : Ident) (ps : Parameters) (body : Option Body) → IsTrue (body_simple body) → Makes AllHave (defined_rule span result d ps body)
defined_makes span result d ps None k = pure_makes [] tt
defined_makes span result d ps (Some b) k =
    then_makes {P = λ (q : ℕ × List TypedStatement). AllSteps q.1} (framed_makes {P = AllSteps} span ps.cells (body_rule result ps b) (body_makes result ps b k)) (λ made p. pure_makes (function_of span result d ps b made ∷ []) (all_is made.1 p, tt))

function_makes : (callee : Option Callee) (span : Span) (result : Option Kind) (d : Ident) (ps : List Parameter) (body : Option Body) → IsTrue (body_simple body) → Makes AllHave (function_rule callee span result d ps body)
unfolding function_rule
function_makes callee span result d ps body k = behind_makes _ (λ vs. behind_makes _ (λ u. defined_makes span result d vs body k))

-- ---- units

abbrev PartsHave : Parts → Type 0
PartsHave p = AllHave p.functions

item_makes : (p : Program) (i : Item) → IsTrue (item_simple i) → Makes PartsHave (item_rule p i)
unfolding item_rule
item_makes p (items.Function span result d ps body) k = then_makes (function_makes _ span result d ps body k) (λ fs h. pure_makes _ h)
item_makes p (items.Variables span kind list) k = behind_makes _ (λ gs. pure_makes _ tt)
item_makes p (items.Constants span list) k = behind_makes _ (λ u. pure_makes _ tt)

items_make : (p : Program) (is : List Item) → IsTrue (items_simple is) → Makes PartsHave (items_rule p is)
unfolding items_rule
items_make p [] k = pure_makes _ tt
items_make p (i ∷ is) k = then_makes (item_makes p i (and_left _ _ k)) (λ x h. then_makes (items_make p is (and_right _ _ k)) (λ y g. pure_makes _ (all_both HasSteps x.functions y.functions h g)))

pub units_have_steps : UnitsHaveSteps
unfolding typed_of
units_have_steps list ts d = (items_make (program_of list) list (items_steps d)).run start
