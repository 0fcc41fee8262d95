-- The first step of a statement, form by form.
use Rattle.std.proofs.Common.{◌≡◌, ℕ, ◌+◌, List, [], map, Option, refl, sym, ap, subst, ◌∙◌}
use Rattle.std.specs.Borrow.{Bor}
use Rattle.std.specs.Option.{option_map}
use Rattle.c_values.specs.declared.kinds.Kind.{Kind}
use Rattle.c_values.specs.declared.operators.BinaryOp.{BinaryOp}
use Rattle.cfa.specs.declared.parts.Variable.{Variable}
use Rattle.cfa.specs.declared.state.Trap.TheVariants as trap
use Rattle.c_typed_trees.specs.declared.expression.TypedCall.{TypedCall}
use Rattle.c_typed_trees.specs.declared.expression.TypedExpr.{TypedExpr}
use Rattle.c_typed_trees.specs.declared.expression.TypedPlace.{TypedPlace}
use Rattle.c_typed_trees.specs.declared.statement.TypedForm.TheVariants as forms
use Rattle.c_typed_trees.specs.declared.statement.TypedGroup.{TypedGroup}
use Rattle.c_typed_trees.specs.declared.statement.TypedStatement.{TypedStatement}
use Rattle.tree_meaning.specs.declared.machine.Machine.{Machine}
use Rattle.tree_meaning.specs.declared.task.AssignStage.TheVariants as assigning
use Rattle.tree_meaning.specs.declared.task.ArmStage.TheVariants as arm
use Rattle.tree_meaning.specs.declared.task.GroupStage.TheVariants as group
use Rattle.tree_meaning.specs.declared.task.Loop.{Loop}
use Rattle.tree_meaning.specs.declared.task.LoopStage.TheVariants as lap
use Rattle.tree_meaning.specs.declared.task.LoopStep.TheVariants as step
use Rattle.tree_meaning.specs.declared.task.LoopTest.TheVariants as test
use Rattle.tree_meaning.specs.declared.task.DoStage.TheVariants as round
use Rattle.tree_meaning.specs.declared.task.Task.{Task}
use Rattle.tree_meaning.specs.declared.task.Task.TheVariants.{Statement}
use Rattle.tree_meaning.specs.declared.task.StatementTask.TheVariants as statement
use Rattle.tree_meaning.specs.declared.task.ValueTask.TheVariants as value
use Rattle.tree_meaning.specs.declared.way.Way.{Way}
use Rattle.tree_meaning.specs.declared.way.Way.TheVariants.{GoesOn, Breaks, Continues}
use Rattle.tree_meaning.specs.Outcomes.{Store, TrapEnd, BlockedEnd, Done, Gives, ◌andthen◌, Meaning, is_true}
use Rattle.tree_meaning.specs.Loops.{passes, do_passes, test_or, step_or}
use Rattle.tree_meaning.specs.Running.{Scene, meant_in, placed_in, call_in, value_in, does_in, group_in, arm_in, assigned, FitExpression, FitExpressions, FitPlace, FitStatement, FitStatements, FitCall, FitAssign, FitArms, FitLast, FitGroups}
use Rattle.tree_meaning.specs.Statements.{then_next, block, arms, declare, declare_array, return_value, unless_false}
use Rattle.tree_meaning.specs.Switch.{Group, after_switch, groups_at, switch_on}
use Rattle.tree_meaning.specs.Tasks.{Cont, with_value, with_way, without_values, left_off, test_does, step_does, value_does, statement_does, loop_task_does, do_task_does, behind, Leads, FitDoLoop, FitLoop}
use Rattle.tree_meaning.proofs.StatementForms.{block_in, empty_in, local_in, array_in, assign_in, call_statement_in, label_in, if_in, while_in, do_in, for_in, switch_in, break_in, continue_in, return_in, assert_in, assume_in}
use Rattle.tree_meaning.proofs.StatementFits.{block_fit, local_fit, array_fit, assign_fit, call_fit_of, label_fit, arms_fit, else_fit, while_test_fit, while_body_fit, do_test_fit, do_body_fit, for_first_fit, for_test_fit, for_next_fit, for_body_fit, switch_value_fit, groups_fit, return_fit, assert_fit, assume_fit}
use Rattle.tree_meaning.proofs.Then.{then_then}

module _ (old new : List Task) (m : Machine) (s : Bor TypedStatement) where
  abbrev k : Cont
  k = behind old

  abbrev c : Scene
  c = m.scene

  abbrev leaves : Way → Store → Done Way
  leaves way s' = k (with_way m way s')

  abbrev going : Machine
  going = record { scene = m.scene; values = m.values; value = m.value; way = GoesOn; store = m.store }

  by : (made : Meaning) (m1 : Machine) → does_in c s.now ≡ made → left_off k m (made m.store) ≡ behind new m1 → Leads (Statement (statement.Do s)) old m new m1
  unfolding statement_does
  by made m1 e h = record { same = ap (λ (d : Meaning). left_off k m (d m.store)) e ∙ h }

  over : (way : Way) (m1 : Machine) → does_in c s.now ≡ (λ s'. Gives way s') → m1 ≡ with_way m way m.store → Leads (Statement (statement.Do s)) old m old m1
  unfolding statement_does
  over way m1 e h = record { same = ap (λ (d : Meaning). left_off k m (d m.store)) e ∙ ap k (sym h) }

  -- a value, and then something that the statement does with it
  valued : (x : Bor TypedExpr) (x' : TypedExpr) (next : ℕ → Store → Done Way) (t : Cont) (mid : List Task) → x.now ≡ x' → ((v : ℕ) (s' : Store) → left_off k m (next v s') ≡ t (with_value m v s'))
      → behind new ≡ value_does (value.Evaluate x) (behind mid) → behind mid ≡ t → left_off k m (value_in c x' m.store andthen next) ≡ behind new m
  unfolding value_does
  valued x x' next t mid e f h g =
      ap (λ y. left_off k m (value_in c y m.store andthen next)) (sym e) ∙ then_then leaves (value_in c x.now m.store) next ∙ ap (λ (n : ℕ → Store → Done Way). value_in c x.now m.store andthen n) (λ i v s'. f v s' i)
      ∙ (λ i. value_does (value.Evaluate x) (sym g i) m) ∙ (λ i. sym h i m)

  pub do_block : (b' : List TypedStatement) (b : Bor (List TypedStatement)) (m1 : Machine) → s.now.form ≡ forms.Block b' → b.now ≡ b' → behind new ≡ statement_does (statement.Block b) k → m1 ≡ going → Leads (Statement (statement.Do s)) old m new m1
  unfolding statement_does
  do_block b' b m1 e f h i = by _ m1 (block_in c s.now b' e) (ap (λ l. left_off k m (block (map (does_in c) l) m.store)) (sym f) ∙ ap (statement_does (statement.Block b) k) (sym i) ∙ (λ j. sym h j m1))

  pub do_empty : (m1 : Machine) → s.now.form ≡ forms.Empty → m1 ≡ with_way m GoesOn m.store → Leads (Statement (statement.Do s)) old m old m1
  do_empty m1 e h = over GoesOn m1 (empty_in c s.now e) h

  pub do_local : (v : Variable) (o : Option TypedExpr) (m1 : Machine) → s.now.form ≡ forms.Local v o → left_off k m (declare m.scene.activation v (option_map (meant_in m.scene) o) m.store) ≡ behind new m1 → Leads (Statement (statement.Do s)) old m new m1
  do_local v o m1 e h = by _ m1 (local_in c s.now v o e) h

  pub do_array : (v : Variable) (l : List TypedExpr) (xs : Bor (List TypedExpr)) (m1 : Machine) → s.now.form ≡ forms.LocalArray v l → xs.now ≡ l → left_off k m (declare_array m.scene.activation v (map (meant_in m.scene) xs.now) m.store) ≡ behind new m1
      → Leads (Statement (statement.Do s)) old m new m1
  do_array v l xs m1 e f h = by _ m1 (array_in c s.now v l e) (ap (λ q. left_off k m (declare_array m.scene.activation v (map (meant_in m.scene) q) m.store)) (sym f) ∙ h)

  pub do_assign : (p' : TypedPlace) (op : Option (BinaryOp × Kind)) (x' : TypedExpr) (p place : Bor TypedPlace) (x : Bor TypedExpr) (outer : List ℕ) (mid : List Task) (m1 : Machine) → s.now.form ≡ forms.Assign p' op x' → p.now ≡ p' → place.now ≡ p' → x.now ≡ x' → outer ≡ m.values → m1 ≡ without_values m
      → behind new ≡ value_does (value.FirstInPlace p) (behind mid) → behind mid ≡ statement_does (statement.Assign (record { place = place; operator = op; value = x }) assigning.Value outer) k → Leads (Statement (statement.Do s)) old m new m1
  unfolding statement_does value_does
  do_assign p' op x' p place x outer mid m1 e f pl g o i h n =
      by _ m1 (assign_in c s.now p' op x' e)
      (then_then leaves ((placed_in c p').first [] m.store) (λ is s1. (meant_in c x').first [] s1 andthen λ vs s2. assigned (placed_in c p') op (meant_in c x') is vs s2)
      ∙ ap (λ (q : List ℕ → Store → Done Way). (placed_in c p').first [] m.store andthen q) (λ j is s1. then_then leaves ((meant_in c x').first [] s1) (λ vs s2. assigned (placed_in c p') op (meant_in c x') is vs s2) j)
      ∙ (λ j. (placed_in c (sym f j)).first [] m.store andthen λ is s1. (meant_in c (sym g j)).first [] s1 andthen λ vs s2. assigned (placed_in c (sym pl j)) op (meant_in c (sym g j)) is vs s2 andthen leaves)
      ∙ (λ j. value_does (value.FirstInPlace p) (statement_does (statement.Assign (record { place = place; operator = op; value = x }) assigning.Value (sym o j)) k) (without_values m))
      ∙ (λ j. value_does (value.FirstInPlace p) (sym n j) (sym i j)) ∙ (λ j. sym h j m1))

  pub do_call : (q' : TypedCall) (q : Bor TypedCall) (mid : List Task) → s.now.form ≡ forms.Call q' → q.now ≡ q' → behind new ≡ value_does (value.Call q) (behind mid) → behind mid ≡ statement_does statement.GoOn k → Leads (Statement (statement.Do s)) old m new m
  unfolding statement_does value_does
  do_call q' q mid e f h g =
      by _ m (call_statement_in c s.now q' e)
      (then_then leaves (call_in c q' m.store) (λ v s'. Gives GoesOn s') ∙ ap (λ r. call_in c r m.store andthen λ v s'. leaves GoesOn s') (sym f)
      ∙ (λ j. value_does (value.Call q) (sym g j) m) ∙ (λ j. sym h j m))

  pub do_label : (name : List ℕ) (b' : TypedStatement) (b : Bor TypedStatement) → s.now.form ≡ forms.Label name b' → b.now ≡ b' → behind new ≡ statement_does (statement.Do b) k → Leads (Statement (statement.Do s)) old m new m
  unfolding statement_does
  do_label name b' b e f h = by _ m (label_in c s.now name b' e) (ap (λ q. left_off k m (does_in c q m.store)) (sym f) ∙ (λ j. sym h j m))

  pub do_if : (l : List (TypedExpr × TypedStatement)) (o : Option TypedStatement) (list : Bor (List (TypedExpr × TypedStatement))) (last : Bor (Option TypedStatement)) → s.now.form ≡ forms.If l o → list.now ≡ l → last.now ≡ o
      → behind new ≡ statement_does (statement.Arms list last arm.Test) k → Leads (Statement (statement.Do s)) old m new m
  unfolding statement_does
  do_if l o list last e f g h = by _ m (if_in c s.now l o e) ((λ j. left_off k m (arms (map (arm_in c) (sym f j)) (option_map (does_in c) (sym g j)) m.store)) ∙ (λ j. sym h j m))

  pub do_while : (t' : TypedExpr) (b' : TypedStatement) (t : Bor TypedExpr) (b : Bor TypedStatement) (n : ℕ) → s.now.form ≡ forms.While t' b' → t.now ≡ t' → b.now ≡ b' → n ≡ m.store.turns
      → behind new ≡ loop_task_does (record { test = test.When t; step = step.Nothing; body = b }) (lap.Pass n) k → Leads (Statement (statement.Do s)) old m new m
  unfolding loop_task_does
  do_while t' b' t b n e f g o h =
      by _ m (while_in c s.now t' b' e)
      ((λ j. left_off k m (passes (m.store.turns + 1) (value_in c (sym f j)) (does_in c (sym g j)) (step_does c step.Nothing) m.store)) ∙ (λ j. left_off k m (passes (sym o j + 1) (value_in c t.now) (does_in c b.now) (step_does c step.Nothing) m.store)) ∙ (λ j. sym h j m))

  pub do_do : (b' : TypedStatement) (t' : TypedExpr) (b : Bor TypedStatement) (t : Bor TypedExpr) (n : ℕ) → s.now.form ≡ forms.Do b' t' → b.now ≡ b' → t.now ≡ t' → n ≡ m.store.turns
      → behind new ≡ do_task_does (record { body = b; test = t }) (round.Pass n) k → Leads (Statement (statement.Do s)) old m new m
  unfolding do_task_does
  do_do b' t' b t n e g f o h =
      by _ m (do_in c s.now b' t' e)
      ((λ j. left_off k m (do_passes (m.store.turns + 1) (does_in c (sym g j)) (value_in c (sym f j)) m.store)) ∙ (λ j. left_off k m (do_passes (sym o j + 1) (does_in c b.now) (value_in c t.now) m.store)) ∙ (λ j. sym h j m))

  pub do_for : (f' : List TypedStatement) (t' : Option TypedExpr) (n' : Option TypedStatement) (b' b : TypedStatement) (f : Bor (List TypedStatement)) (l : Loop) (mid : List Task) (m1 : Machine) → s.now.form ≡ forms.For f' t' n' b' → f.now ≡ f'
      → ((d : Scene) → test_does d l.test ≡ test_or (option_map (value_in d) t')) → ((d : Scene) → step_does d l.step ≡ step_or (option_map (does_in d) n')) → l.body.now ≡ b → b ≡ b'
      → behind new ≡ statement_does (statement.Block f) (behind mid) → behind mid ≡ loop_task_does l lap.Begin k → m1 ≡ going → Leads (Statement (statement.Do s)) old m new m1
  unfolding statement_does loop_task_does
  do_for f' t' n' b' b f l mid m1 e ff ft fn fb bb h g i =
      by _ m1 (for_in c s.now f' t' n' b' e)
      (then_then leaves (block (map (does_in c) f') m.store) (then_next (λ s'. passes (s'.turns + 1) (test_or (option_map (value_in c) t')) (does_in c b') (step_or (option_map (does_in c) n')) s'))
      ∙ (λ j. block (map (does_in c) (sym ff j)) m.store andthen λ way s''. left_off k (with_way m way s'') (then_next (λ s'. passes (s'.turns + 1) (sym (ft c) j) (does_in c (sym (fb ∙ bb) j)) (sym (fn c) j) s') way s''))
      ∙ (λ j. statement_does (statement.Block f) (sym g j) (sym i j)) ∙ (λ j. sym h j m1))

  pub do_switch : (x' : TypedExpr) (cell : ℕ) (gs' : List TypedGroup) (x : Bor TypedExpr) (gs : Bor (List TypedGroup)) (mid : List Task) → s.now.form ≡ forms.Switch x' cell gs' → x.now ≡ x' → gs.now ≡ gs'
      → behind new ≡ value_does (value.Evaluate x) (behind mid) → behind mid ≡ statement_does (statement.Groups gs group.Find) k → Leads (Statement (statement.Do s)) old m new m
  unfolding statement_does
  do_switch x' cell gs' x gs mid e f n h g =
      by _ m (switch_in c s.now x' cell gs' e)
      (ap (λ l. left_off k m (switch_on (value_in c x') (map (group_in c) l) m.store)) (sym n)
      ∙ valued x x' (λ v s'. block (map (λ (q : Group). q.does) (groups_at v (map (group_in c) gs.now))) s' andthen after_switch) (statement_does (statement.Groups gs group.Find) k) mid f (λ v s'. refl) h g)

  pub do_break : (m1 : Machine) → s.now.form ≡ forms.Break → m1 ≡ with_way m Breaks m.store → Leads (Statement (statement.Do s)) old m old m1
  do_break m1 e h = over Breaks m1 (break_in c s.now e) h

  pub do_continue : (m1 : Machine) → s.now.form ≡ forms.Continue → m1 ≡ with_way m Continues m.store → Leads (Statement (statement.Do s)) old m old m1
  do_continue m1 e h = over Continues m1 (continue_in c s.now e) h

  pub do_return : (o : Option TypedExpr) (m1 : Machine) → s.now.form ≡ forms.Return o → left_off k m (return_value m.scene.activation (option_map (meant_in m.scene) o) m.store) ≡ behind new m1 → Leads (Statement (statement.Do s)) old m new m1
  do_return o m1 e h = by _ m1 (return_in c s.now o e) h

  pub do_assert : (x' : TypedExpr) (x : Bor TypedExpr) (mid : List Task) → s.now.form ≡ forms.Assert x' → x.now ≡ x' → behind new ≡ value_does (value.Evaluate x) (behind mid) → behind mid ≡ statement_does statement.Assert k → Leads (Statement (statement.Do s)) old m new m
  unfolding statement_does
  do_assert x' x mid e f h g = by _ m (assert_in c s.now x' e) (valued x x' (λ v s'. unless_false (TrapEnd trap.Assert) (is_true v) s') (statement_does statement.Assert k) mid f (λ v s'. refl) h g)

  pub do_assume : (x' : TypedExpr) (x : Bor TypedExpr) (mid : List Task) → s.now.form ≡ forms.Assume x' → x.now ≡ x' → behind new ≡ value_does (value.Evaluate x) (behind mid) → behind mid ≡ statement_does statement.Assume k → Leads (Statement (statement.Do s)) old m new m
  unfolding statement_does
  do_assume x' x mid e f h g = by _ m (assume_in c s.now x' e) (valued x x' (λ v s'. unless_false BlockedEnd (is_true v) s') (statement_does statement.Assume k) mid f (λ v s'. refl) h g)

-- ---- parts that fit

module _ (s : Bor TypedStatement) (fits : FitStatement s.now) where
  pub block_fits : (b' : List TypedStatement) (b : Bor (List TypedStatement)) → s.now.form ≡ forms.Block b' → b.now ≡ b' → FitStatements b.now
  block_fits b' b e h = subst FitStatements (sym h) (block_fit s.now b' e fits)

  pub array_fits : (v : Variable) (l : List TypedExpr) (xs : Bor (List TypedExpr)) → s.now.form ≡ forms.LocalArray v l → xs.now ≡ l → FitExpressions xs.now
  array_fits v l xs e h = subst FitExpressions (sym h) (array_fit s.now v l e fits)

  pub assign_fits : (p' : TypedPlace) (op : Option (BinaryOp × Kind)) (x' : TypedExpr) (p : Bor TypedPlace) (x : Bor TypedExpr) → s.now.form ≡ forms.Assign p' op x' → p.now ≡ p' → x.now ≡ x' → FitAssign p.now op x.now
  assign_fits p' op x' p x e f g = subst (λ q. FitAssign q op x.now) (sym f) (subst (λ q. FitAssign p' op q) (sym g) (assign_fit s.now p' op x' e fits))

  pub call_fits : (q' : TypedCall) (q : Bor TypedCall) → s.now.form ≡ forms.Call q' → q.now ≡ q' → FitCall q.now
  call_fits q' q e h = subst FitCall (sym h) (call_fit_of s.now q' e fits)

  pub label_fits : (name : List ℕ) (b' : TypedStatement) (b : Bor TypedStatement) → s.now.form ≡ forms.Label name b' → b.now ≡ b' → FitStatement b.now
  label_fits name b' b e h = subst FitStatement (sym h) (label_fit s.now name b' e fits)

  pub if_fits : (l : List (TypedExpr × TypedStatement)) (o : Option TypedStatement) (list : Bor (List (TypedExpr × TypedStatement))) → s.now.form ≡ forms.If l o → list.now ≡ l → FitArms list.now
  if_fits l o list e h = subst FitArms (sym h) (arms_fit s.now l o e fits)

  pub else_fits : (l : List (TypedExpr × TypedStatement)) (o : Option TypedStatement) (last : Bor (Option TypedStatement)) → s.now.form ≡ forms.If l o → last.now ≡ o → FitLast last.now
  else_fits l o last e h = subst FitLast (sym h) (else_fit s.now l o e fits)

  pub while_fits : (t' : TypedExpr) (b' : TypedStatement) (t : Bor TypedExpr) (b : Bor TypedStatement) → s.now.form ≡ forms.While t' b' → t.now ≡ t' → b.now ≡ b' → FitLoop (record { test = test.When t; step = step.Nothing; body = b })
  while_fits t' b' t b e f g = record { test = subst FitExpression (sym f) (while_test_fit s.now t' b' e fits); step = tt; body = subst FitStatement (sym g) (while_body_fit s.now t' b' e fits) }

  pub do_fits : (b' : TypedStatement) (t' : TypedExpr) (b : Bor TypedStatement) (t : Bor TypedExpr) → s.now.form ≡ forms.Do b' t' → b.now ≡ b' → t.now ≡ t' → FitDoLoop (record { body = b; test = t })
  do_fits b' t' b t e g f = record { body = subst FitStatement (sym g) (do_body_fit s.now b' t' e fits); test = subst FitExpression (sym f) (do_test_fit s.now b' t' e fits) }

  pub first_fits : (f' : List TypedStatement) (t' : Option TypedExpr) (n' : Option TypedStatement) (b' : TypedStatement) (f : Bor (List TypedStatement)) → s.now.form ≡ forms.For f' t' n' b' → f.now ≡ f' → FitStatements f.now
  first_fits f' t' n' b' f e h = subst FitStatements (sym h) (for_first_fit s.now f' t' n' b' e fits)

  pub body_fits : (f' : List TypedStatement) (t' : Option TypedExpr) (n' : Option TypedStatement) (b' : TypedStatement) (b : Bor TypedStatement) → s.now.form ≡ forms.For f' t' n' b' → b.now ≡ b' → FitStatement b.now
  body_fits f' t' n' b' b e h = subst FitStatement (sym h) (for_body_fit s.now f' t' n' b' e fits)

  pub groups_fits : (x' : TypedExpr) (cell : ℕ) (gs' : List TypedGroup) (gs : Bor (List TypedGroup)) → s.now.form ≡ forms.Switch x' cell gs' → gs.now ≡ gs' → FitGroups gs.now
  groups_fits x' cell gs' gs e h = subst FitGroups (sym h) (groups_fit s.now x' cell gs' e fits)

pub assign_place_fits : (p : TypedPlace) (op : Option (BinaryOp × Kind)) (x : TypedExpr) → FitAssign p op x → FitPlace p
assign_place_fits p op x f = record { names = f.names; fits = f.place }

pub ruleset do_laws = (
  do_block,
  do_empty,
  do_local,
  do_array,
  do_assign,
  do_call,
  do_label,
  do_if,
  do_while,
  do_do,
  do_for,
  do_switch,
  do_break,
  do_continue,
  do_return,
  do_assert,
  do_assume,
  block_fits,
  array_fits,
  assign_fits,
  call_fits,
  label_fits,
  if_fits,
  else_fits,
  while_fits,
  do_fits,
  first_fits,
  body_fits,
  groups_fits,
  local_fit,
  for_test_fit,
  for_next_fit,
  switch_value_fit,
  return_fit,
  assert_fit,
  assume_fit,
)
