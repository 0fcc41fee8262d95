-- What statements do to the state of typing, a law for each rule.
use Rattle.std.proofs.Common.{◌≡◌, Bool, List, [], ◌∷◌, map, length, Option, Some, None, refl, ap, ◌∙◌, rules}
use Rattle.std.specs.Prelude.{option_map}
use Rattle.fq_core.specs.declared.span.Span.{Span}
use Rattle.c_values.specs.declared.kinds.Kind.{Kind}
use Rattle.c_values.specs.declared.operators.BinaryOp.{BinaryOp}
use Rattle.c_parse.specs.declared.expr.ExprTree.{ExprTree}
use Rattle.c_parse.specs.declared.expr.Ident.{Ident}
use Rattle.c_parse.specs.declared.statement.Declarator.{Declarator}
use Rattle.c_parse.specs.declared.statement.PlaceTree.{PlaceTree}
use Rattle.c_parse.specs.declared.statement.Form.{Form, the_lemmas}
use Rattle.c_parse.specs.declared.statement.Form.TheVariants as form
use Rattle.c_parse.specs.declared.statement.Form.TheOpen.{Form-F}
use Rattle.c_parse.specs.declared.statement.Statement.{Statement}
use Rattle.c_parse.specs.declared.statement.Group.{Group, out-Group}
use Rattle.c_typed_trees.specs.declared.statement.TypedStatement.{TypedStatement}
use Rattle.c_typed_trees.specs.declared.statement.TypedGroup.{TypedGroup}
use Rattle.c_typed_trees.specs.declared.statement.TypedForm.TheVariants as forms
use Rattle.c_type_rules.specs.declared.typer.Typer.{Typer}
use Rattle.c_type_rules.specs.Kinds.{promotion}
use Rattle.c_type_rules.specs.Rule.{Rule, pure, ◌then◌, expect, temporary, in_scope, in_switch, each, alone_in, entered, left, with_cases, made_by, after}
use Rattle.c_type_rules.specs.Expressions.{integer, piece, converted_to}
use Rattle.c_type_rules.proofs.RuleLaws.{pure_made, pure_after, then_made, then_after, scope_made, scope_after, switch_made, switch_after, each_map}
use Rattle.c_types.specs.declared.around.Around.{Around}
use Rattle.c_types.specs.Declarations.{statement_of, locals_rule}
use Rattle.c_types.specs.Statements.{in_loop, in_cases, place_rule, assigned, step_operator, one_at, Part, GroupPart, one_of, in_turn, single, alone, arm_rule, last_rule, first_rule, test_rule, next_rule, unused_label, cases_rule, group_of, group_rule, groups_rule, only, return_rule, form_rule, form_of, group, part, statement_rule, arm_of, arms_typing, groups_typing, statements_typing, call_statement, switch_rule}

part_is : (t : Statement) → part t ≡ record { span = t.span; rule = λ u. form_of t.form u t.span }
unfolding form_of part
part_is t = search (rules, the_lemmas)

group_is : (g : Group) → group g ≡ record { labels = (out-Group g).labels; body = map part (out-Group g).body }
unfolding group part
group_is g = search (rules, the_lemmas)

module _ (u : Around) (t : Statement) (s : Typer) where
  pub single_made : made_by (single u (part t)) s ≡ one_of t.span (made_by (statement_rule u t) s)
  unfolding single
  single_made = simp (then_made, pure_made) (ap (λ (p : Part). one_of p.span (made_by (statement_rule u t) s)) (part_is t))

  pub single_after : after (single u (part t)) s ≡ after (statement_rule u t) s
  unfolding single
  single_after = simp (then_after, pure_after)

  pub alone_made : made_by (alone u (part t)) s ≡ made_by (single u (part t)) (entered s)
  unfolding alone
  alone_made = scope_made (single u (part t)) s

  pub alone_after : after (alone u (part t)) s ≡ left (length s.bound) (after (single u (part t)) (entered s))
  unfolding alone
  alone_after = scope_after (single u (part t)) s

  by_rule : (f : Form) (rule : Around → Span → Rule (List TypedStatement)) → t.form ≡ f → form_of f ≡ rule → statement_rule u t ≡ rule u t.span
  by_rule f rule e h = ap (λ (p : Part). p.rule u) (part_is t) ∙ ap (λ g. form_of g u t.span) e ∙ ap (λ (g : Around → Span → Rule (List TypedStatement)). g u t.span) h

  block_is : (list : List Statement) → t.form ≡ form.Block list → statement_rule u t ≡ (in_scope (statements_typing u list) then λ body. only t.span (forms.Block body))
  unfolding form_of part
  block_is list e =
      by_rule _ (form_rule (Form-F.Block (map part list))) e (search (rules, the_lemmas))
      ∙ ap (λ m. in_scope m then λ body. only t.span (forms.Block body)) (each_map (λ (p : Part). p.rule u) part list)

  pub block_made : (list : List Statement) → t.form ≡ form.Block list
      → made_by (statement_rule u t) s ≡ statement_of t.span (forms.Block (made_by (statements_typing u list) (entered s))) ∷ []
  block_made list e = ap (λ r. made_by r s) (block_is list e) ∙ simp (then_made, pure_made, scope_made)

  pub block_after : (list : List Statement) → t.form ≡ form.Block list
      → after (statement_rule u t) s ≡ left (length s.bound) (after (statements_typing u list) (entered s))
  block_after list e = ap (λ r. after r s) (block_is list e) ∙ simp (then_after, pure_after, scope_after)

  empty_is : t.form ≡ form.Empty → statement_rule u t ≡ only t.span forms.Empty
  unfolding form_of part
  empty_is e = by_rule _ (form_rule Form-F.Empty) e (search (rules, the_lemmas))

  pub empty_made : t.form ≡ form.Empty → made_by (statement_rule u t) s ≡ statement_of t.span forms.Empty ∷ []
  empty_made e = ap (λ r. made_by r s) (empty_is e) ∙ pure_made _ s

  pub empty_after : t.form ≡ form.Empty → after (statement_rule u t) s ≡ s
  empty_after e = ap (λ r. after r s) (empty_is e) ∙ pure_after _ s

  locals_is : (kind : Kind) (list : List Declarator) → t.form ≡ form.Local kind list → statement_rule u t ≡ locals_rule t.span kind list
  unfolding form_of part
  locals_is kind list e = by_rule _ (form_rule (Form-F.Local kind list)) e (search (rules, the_lemmas))

  pub locals_made : (kind : Kind) (list : List Declarator) → t.form ≡ form.Local kind list → made_by (statement_rule u t) s ≡ made_by (locals_rule t.span kind list) s
  locals_made kind list e = ap (λ r. made_by r s) (locals_is kind list e)

  pub locals_after : (kind : Kind) (list : List Declarator) → t.form ≡ form.Local kind list → after (statement_rule u t) s ≡ after (locals_rule t.span kind list) s
  locals_after kind list e = ap (λ r. after r s) (locals_is kind list e)

  assign_is : (p : PlaceTree) (op : Option BinaryOp) (v : ExprTree) → t.form ≡ form.Assign p op v
      → statement_rule u t ≡ (place_rule p.name p.index then λ to. integer (piece v) then λ a. only t.span (assigned to op a))
  unfolding form_of part
  assign_is p op v e = by_rule _ (form_rule (Form-F.Assign p op v)) e (search (rules, the_lemmas))

  pub assign_made : (p : PlaceTree) (op : Option BinaryOp) (v : ExprTree) → t.form ≡ form.Assign p op v
      → made_by (statement_rule u t) s ≡ (let to = made_by (place_rule p.name p.index) s in
      statement_of t.span (assigned to op (made_by (integer (piece v)) (after (place_rule p.name p.index) s))) ∷ [])
  assign_made p op v e = ap (λ r. made_by r s) (assign_is p op v e) ∙ simp (then_made, pure_made)

  pub assign_after : (p : PlaceTree) (op : Option BinaryOp) (v : ExprTree) → t.form ≡ form.Assign p op v
      → after (statement_rule u t) s ≡ after (integer (piece v)) (after (place_rule p.name p.index) s)
  assign_after p op v e = ap (λ r. after r s) (assign_is p op v e) ∙ simp (then_after, pure_after)

  step_is : (p : PlaceTree) (up : Bool) → t.form ≡ form.Step p up
      → statement_rule u t ≡ (place_rule p.name p.index then λ to. only t.span (assigned to (Some (step_operator up)) (one_at t.span)))
  unfolding form_of part
  step_is p up e = by_rule _ (form_rule (Form-F.Step p up)) e (search (rules, the_lemmas))

  pub step_made : (p : PlaceTree) (up : Bool) → t.form ≡ form.Step p up
      → made_by (statement_rule u t) s ≡ statement_of t.span (assigned (made_by (place_rule p.name p.index) s) (Some (step_operator up)) (one_at t.span)) ∷ []
  step_made p up e = ap (λ r. made_by r s) (step_is p up e) ∙ simp (then_made, pure_made)

  pub step_after : (p : PlaceTree) (up : Bool) → t.form ≡ form.Step p up → after (statement_rule u t) s ≡ after (place_rule p.name p.index) s
  step_after p up e = ap (λ r. after r s) (step_is p up e) ∙ simp (then_after, pure_after)

  call_is : (d : Ident) (ts : List ExprTree) → t.form ≡ form.Call d ts → statement_rule u t ≡ call_statement t.span d ts
  unfolding form_of part call_statement
  call_is d ts e = by_rule _ (form_rule (Form-F.Call d ts)) e (search (rules, the_lemmas))

  pub call_made : (d : Ident) (ts : List ExprTree) → t.form ≡ form.Call d ts → made_by (statement_rule u t) s ≡ made_by (call_statement t.span d ts) s
  call_made d ts e = ap (λ r. made_by r s) (call_is d ts e)

  pub call_after : (d : Ident) (ts : List ExprTree) → t.form ≡ form.Call d ts → after (statement_rule u t) s ≡ after (call_statement t.span d ts) s
  call_after d ts e = ap (λ r. after r s) (call_is d ts e)

  label_is : (d : Ident) (b : Statement) → t.form ≡ form.Label d b → statement_rule u t ≡ (unused_label d then λ v. single u (part b) then λ x. only t.span (forms.Label d.name x))
  unfolding form_of part
  label_is d b e = by_rule _ (form_rule (Form-F.Label d (part b))) e (search (rules, the_lemmas))

  pub label_made : (d : Ident) (b : Statement) → t.form ≡ form.Label d b
      → made_by (statement_rule u t) s ≡ statement_of t.span (forms.Label d.name (made_by (single u (part b)) (after (unused_label d) s))) ∷ []
  label_made d b e = ap (λ r. made_by r s) (label_is d b e) ∙ simp (then_made, pure_made)

  pub label_after : (d : Ident) (b : Statement) → t.form ≡ form.Label d b → after (statement_rule u t) s ≡ after (single u (part b)) (after (unused_label d) s)
  label_after d b e = ap (λ r. after r s) (label_is d b e) ∙ simp (then_after, pure_after)

  while_is : (test : ExprTree) (body : Statement) → t.form ≡ form.While test body
      → statement_rule u t ≡ (integer (piece test) then λ a. alone (in_loop u) (part body) then λ b. only t.span (forms.While a b))
  unfolding form_of part
  while_is test body e = by_rule _ (form_rule (Form-F.While test (part body))) e (search (rules, the_lemmas))

  pub while_made : (test : ExprTree) (body : Statement) → t.form ≡ form.While test body
      → made_by (statement_rule u t) s ≡ statement_of t.span (forms.While (made_by (integer (piece test)) s) (made_by (alone (in_loop u) (part body)) (after (integer (piece test)) s))) ∷ []
  while_made test body e = ap (λ r. made_by r s) (while_is test body e) ∙ simp (then_made, pure_made)

  pub while_after : (test : ExprTree) (body : Statement) → t.form ≡ form.While test body
      → after (statement_rule u t) s ≡ after (alone (in_loop u) (part body)) (after (integer (piece test)) s)
  while_after test body e = ap (λ r. after r s) (while_is test body e) ∙ simp (then_after, pure_after)

  do_is : (body : Statement) (test : ExprTree) → t.form ≡ form.Do body test
      → statement_rule u t ≡ (alone (in_loop u) (part body) then λ b. integer (piece test) then λ a. only t.span (forms.Do b a))
  unfolding form_of part
  do_is body test e = by_rule _ (form_rule (Form-F.Do (part body) test)) e (search (rules, the_lemmas))

  pub do_made : (body : Statement) (test : ExprTree) → t.form ≡ form.Do body test
      → made_by (statement_rule u t) s ≡ (let s1 = after (alone (in_loop u) (part body)) s in
      statement_of t.span (forms.Do (made_by (alone (in_loop u) (part body)) s) (made_by (integer (piece test)) s1)) ∷ [])
  do_made body test e = ap (λ r. made_by r s) (do_is body test e) ∙ simp (then_made, pure_made)

  pub do_after : (body : Statement) (test : ExprTree) → t.form ≡ form.Do body test
      → after (statement_rule u t) s ≡ after (integer (piece test)) (after (alone (in_loop u) (part body)) s)
  do_after body test e = ap (λ r. after r s) (do_is body test e) ∙ simp (then_after, pure_after)

  if_is : (arms : List (ExprTree × Statement)) (last : Option Statement) → t.form ≡ form.If arms last
      → statement_rule u t ≡ (each (λ (arm : ExprTree × Statement). alone_in (arm_rule u (arm_of arm))) arms then λ typed. last_rule u (option_map part last) then λ l. only t.span (forms.If typed l))
  unfolding form_of part
  if_is arms last e =
      by_rule _ (form_rule (Form-F.If (map (λ (arm : ExprTree × Statement). (arm.0, part arm.1)) arms) (option_map part last))) e (search (rules, the_lemmas))
      ∙ ap (λ m. m then λ typed. last_rule u (option_map part last) then λ l. only t.span (forms.If typed l)) (each_map (λ (arm : ExprTree × Part). alone_in (arm_rule u arm)) arm_of arms)

  if_typing : (arms : List (ExprTree × Statement)) (last : Option Statement) → t.form ≡ form.If arms last
      → statement_rule u t ≡ (arms_typing u arms then λ typed. last_rule u (option_map part last) then λ l. only t.span (forms.If typed l))
  unfolding arms_typing
  if_typing arms last e = if_is arms last e

  pub if_none_made : (arms : List (ExprTree × Statement)) (last : Option Statement) → t.form ≡ form.If arms last → last ≡ None
      → made_by (statement_rule u t) s ≡ statement_of t.span (forms.If (made_by (arms_typing u arms) s) None) ∷ []
  unfolding last_rule
  if_none_made arms last e f = ap (λ r. made_by r s) (if_typing arms last e) ∙ rw f (simp (then_made, pure_made))

  pub if_none_after : (arms : List (ExprTree × Statement)) (last : Option Statement) → t.form ≡ form.If arms last → last ≡ None
      → after (statement_rule u t) s ≡ after (arms_typing u arms) s
  unfolding last_rule
  if_none_after arms last e f = ap (λ r. after r s) (if_typing arms last e) ∙ rw f (simp (then_after, pure_after))

  pub if_some_made : (arms : List (ExprTree × Statement)) (last : Option Statement) (x : Statement) → t.form ≡ form.If arms last → last ≡ Some x
      → made_by (statement_rule u t) s ≡ statement_of t.span (forms.If (made_by (arms_typing u arms) s) (Some (made_by (alone u (part x)) (after (arms_typing u arms) s)))) ∷ []
  unfolding last_rule
  if_some_made arms last x e f = ap (λ r. made_by r s) (if_typing arms last e) ∙ rw f (simp (then_made, pure_made))

  pub if_some_after : (arms : List (ExprTree × Statement)) (last : Option Statement) (x : Statement) → t.form ≡ form.If arms last → last ≡ Some x
      → after (statement_rule u t) s ≡ after (alone u (part x)) (after (arms_typing u arms) s)
  unfolding last_rule
  if_some_after arms last x e f = ap (λ r. after r s) (if_typing arms last e) ∙ rw f (simp (then_after, pure_after))

  break_is : t.form ≡ form.Break → statement_rule u t ≡ (expect 29 t.span u.breaks then λ v. only t.span forms.Break)
  unfolding form_of part
  break_is e = by_rule _ (form_rule Form-F.Break) e (search (rules, the_lemmas))

  pub break_made : t.form ≡ form.Break → made_by (statement_rule u t) s ≡ statement_of t.span forms.Break ∷ []
  break_made e = ap (λ r. made_by r s) (break_is e) ∙ simp (then_made, pure_made)

  pub break_after : t.form ≡ form.Break → after (statement_rule u t) s ≡ after (expect 29 t.span u.breaks) s
  break_after e = ap (λ r. after r s) (break_is e) ∙ simp (then_after, pure_after)

  continue_is : t.form ≡ form.Continue → statement_rule u t ≡ (expect 29 t.span u.continues then λ v. only t.span forms.Continue)
  unfolding form_of part
  continue_is e = by_rule _ (form_rule Form-F.Continue) e (search (rules, the_lemmas))

  pub continue_made : t.form ≡ form.Continue → made_by (statement_rule u t) s ≡ statement_of t.span forms.Continue ∷ []
  continue_made e = ap (λ r. made_by r s) (continue_is e) ∙ simp (then_made, pure_made)

  pub continue_after : t.form ≡ form.Continue → after (statement_rule u t) s ≡ after (expect 29 t.span u.continues) s
  continue_after e = ap (λ r. after r s) (continue_is e) ∙ simp (then_after, pure_after)

  return_is : (value : Option ExprTree) → t.form ≡ form.Return value → statement_rule u t ≡ return_rule u.result t.span value
  unfolding form_of part
  return_is value e = by_rule _ (form_rule (Form-F.Return value)) e (search (rules, the_lemmas))

  pub return_made : (value : Option ExprTree) → t.form ≡ form.Return value → made_by (statement_rule u t) s ≡ made_by (return_rule u.result t.span value) s
  return_made value e = ap (λ r. made_by r s) (return_is value e)

  pub return_after : (value : Option ExprTree) → t.form ≡ form.Return value → after (statement_rule u t) s ≡ after (return_rule u.result t.span value) s
  return_after value e = ap (λ r. after r s) (return_is value e)

  assert_is : (test : ExprTree) → t.form ≡ form.Assert test → statement_rule u t ≡ (integer (piece test) then λ a. only t.span (forms.Assert a))
  unfolding form_of part
  assert_is test e = by_rule _ (form_rule (Form-F.Assert test)) e (search (rules, the_lemmas))

  pub assert_made : (test : ExprTree) → t.form ≡ form.Assert test → made_by (statement_rule u t) s ≡ statement_of t.span (forms.Assert (made_by (integer (piece test)) s)) ∷ []
  assert_made test e = ap (λ r. made_by r s) (assert_is test e) ∙ simp (then_made, pure_made)

  pub assert_after : (test : ExprTree) → t.form ≡ form.Assert test → after (statement_rule u t) s ≡ after (integer (piece test)) s
  assert_after test e = ap (λ r. after r s) (assert_is test e) ∙ simp (then_after, pure_after)

  assume_is : (test : ExprTree) → t.form ≡ form.Assume test → statement_rule u t ≡ (integer (piece test) then λ a. only t.span (forms.Assume a))
  unfolding form_of part
  assume_is test e = by_rule _ (form_rule (Form-F.Assume test)) e (search (rules, the_lemmas))

  pub assume_made : (test : ExprTree) → t.form ≡ form.Assume test → made_by (statement_rule u t) s ≡ statement_of t.span (forms.Assume (made_by (integer (piece test)) s)) ∷ []
  assume_made test e = ap (λ r. made_by r s) (assume_is test e) ∙ simp (then_made, pure_made)

  pub assume_after : (test : ExprTree) → t.form ≡ form.Assume test → after (statement_rule u t) s ≡ after (integer (piece test)) s
  assume_after test e = ap (λ r. after r s) (assume_is test e) ∙ simp (then_after, pure_after)

  -- ---- `for` and `switch`

  for_is : (first : Option Statement) (test : Option ExprTree) (next : Option Statement) (body : Statement) → t.form ≡ form.For first test next body
      → statement_rule u t ≡ in_scope (first_rule u (option_map part first) then λ f. test_rule test then λ c. next_rule u (option_map part next) then λ n. alone (in_loop u) (part body) then λ b. only t.span (forms.For f c n b))
  unfolding form_of part
  for_is first test next body e = by_rule _ (form_rule (Form-F.For (option_map part first) test (option_map part next) (part body))) e (search (rules, the_lemmas))

  pub for_made : (first : Option Statement) (test : Option ExprTree) (next : Option Statement) (body : Statement) → t.form ≡ form.For first test next body
      → made_by (statement_rule u t) s ≡ (let s0 = entered s in let s1 = after (first_rule u (option_map part first)) s0 in let s2 = after (test_rule test) s1 in let s3 = after (next_rule u (option_map part next)) s2 in
      statement_of t.span (forms.For (made_by (first_rule u (option_map part first)) s0) (made_by (test_rule test) s1) (made_by (next_rule u (option_map part next)) s2) (made_by (alone (in_loop u) (part body)) s3)) ∷ [])
  for_made first test next body e = ap (λ r. made_by r s) (for_is first test next body e) ∙ simp (scope_made, then_made, pure_made)

  pub for_after : (first : Option Statement) (test : Option ExprTree) (next : Option Statement) (body : Statement) → t.form ≡ form.For first test next body
      → after (statement_rule u t) s ≡ left (length s.bound) (after (alone (in_loop u) (part body)) (after (next_rule u (option_map part next)) (after (test_rule test) (after (first_rule u (option_map part first)) (entered s)))))
  for_after first test next body e = ap (λ r. after r s) (for_is first test next body e) ∙ simp (scope_after, then_after, pure_after)

  switch_is : (value : ExprTree) (gs : List Group) → t.form ≡ form.Switch value gs
      → statement_rule u t ≡ (temporary then λ cell. integer (piece value) then λ a. in_scope (in_switch (groups_rule (in_cases u) (promotion a.kind) (map group gs))) then λ list. only t.span (forms.Switch (converted_to (promotion a.kind) a) cell list))
  unfolding form_of part group
  switch_is value gs e = by_rule _ (form_rule (Form-F.Switch value (map group gs))) e (search (rules, the_lemmas))

  groups_are : (v : Around) (kind : Kind) (gs : List Group) → groups_rule v kind (map group gs) ≡ groups_typing v kind gs
  unfolding groups_typing
  groups_are v kind gs = each_map (λ (g : GroupPart). alone_in (group_rule v kind g)) group gs

  switch_typing : (value : ExprTree) (gs : List Group) → t.form ≡ form.Switch value gs
      → statement_rule u t ≡ (temporary then λ cell. integer (piece value) then λ a. in_scope (in_switch (groups_typing (in_cases u) (promotion a.kind) gs)) then λ list. only t.span (forms.Switch (converted_to (promotion a.kind) a) cell list))
  switch_typing value gs e =
      switch_is value gs e
      ∙ ap (λ (f : Kind → Rule (List TypedGroup)). temporary then λ cell. integer (piece value) then λ a. in_scope (in_switch (f (promotion a.kind))) then λ list. only t.span (forms.Switch (converted_to (promotion a.kind) a) cell list))
      (λ i kind. groups_are (in_cases u) kind gs i)

  switch_with : (value : ExprTree) (gs : List Group) → t.form ≡ form.Switch value gs
      → statement_rule u t ≡ (temporary then λ cell. integer (piece value) then λ a. switch_rule (in_cases u) (promotion a.kind) gs then λ list. only t.span (forms.Switch (converted_to (promotion a.kind) a) cell list))
  unfolding switch_rule
  switch_with value gs e = switch_typing value gs e

  pub switch_stmt_made : (value : ExprTree) (gs : List Group) → t.form ≡ form.Switch value gs
      → made_by (statement_rule u t) s ≡ (let s1 = after temporary s in let a = made_by (integer (piece value)) s1 in let s2 = after (integer (piece value)) s1 in
      statement_of t.span (forms.Switch (converted_to (promotion a.kind) a) (made_by temporary s) (made_by (switch_rule (in_cases u) (promotion a.kind) gs) s2)) ∷ [])
  switch_stmt_made value gs e = ap (λ r. made_by r s) (switch_with value gs e) ∙ simp (then_made, pure_made)

  pub switch_stmt_after : (value : ExprTree) (gs : List Group) → t.form ≡ form.Switch value gs
      → after (statement_rule u t) s ≡ (let s1 = after temporary s in let a = made_by (integer (piece value)) s1 in let s2 = after (integer (piece value)) s1 in
      after (switch_rule (in_cases u) (promotion a.kind) gs) s2)
  switch_stmt_after value gs e = ap (λ r. after r s) (switch_with value gs e) ∙ simp (then_after, pure_after)

module _ (u : Around) (kind : Kind) (gs : List Group) (s : Typer) where
  pub switch_rule_made : made_by (switch_rule u kind gs) s ≡ made_by (groups_typing u kind gs) (with_cases [] (entered s))
  unfolding switch_rule
  switch_rule_made = simp (scope_made, switch_made)

  pub switch_rule_after : after (switch_rule u kind gs) s ≡ left (length s.bound) (with_cases (entered s).cases (after (groups_typing u kind gs) (with_cases [] (entered s))))
  unfolding switch_rule
  switch_rule_after = simp (scope_after, switch_after)

pub ruleset switch_laws = (switch_rule_made, switch_rule_after)

module _ (u : Around) (s : Typer) where
  pub no_first_made : (o : Option Statement) → o ≡ None → made_by (first_rule u (option_map part o)) s ≡ []
  unfolding first_rule
  no_first_made o e = rw e (pure_made [] s)

  pub no_first_after : (o : Option Statement) → o ≡ None → after (first_rule u (option_map part o)) s ≡ s
  unfolding first_rule
  no_first_after o e = rw e (pure_after {A = List TypedStatement} [] s)

  pub first_made : (o : Option Statement) (x : Statement) → o ≡ Some x → made_by (first_rule u (option_map part o)) s ≡ made_by (statement_rule u x) s
  unfolding first_rule
  first_made o x e = rw e refl

  pub first_after : (o : Option Statement) (x : Statement) → o ≡ Some x → after (first_rule u (option_map part o)) s ≡ after (statement_rule u x) s
  unfolding first_rule
  first_after o x e = rw e refl

  pub no_next_made : (o : Option Statement) → o ≡ None → made_by (next_rule u (option_map part o)) s ≡ None
  unfolding next_rule
  no_next_made o e = rw e (pure_made None s)

  pub no_next_after : (o : Option Statement) → o ≡ None → after (next_rule u (option_map part o)) s ≡ s
  unfolding next_rule
  no_next_after o e = rw e (pure_after {A = Option TypedStatement} None s)

  pub next_made : (o : Option Statement) (x : Statement) → o ≡ Some x → made_by (next_rule u (option_map part o)) s ≡ Some (made_by (single u (part x)) s)
  unfolding next_rule
  next_made o x e = rw e (simp (then_made, pure_made))

  pub next_after : (o : Option Statement) (x : Statement) → o ≡ Some x → after (next_rule u (option_map part o)) s ≡ after (single u (part x)) s
  unfolding next_rule
  next_after o x e = rw e (simp (then_after, pure_after))

pub ruleset first_laws = (no_first_made, no_first_after, first_made, first_after)

pub ruleset next_laws = (no_next_made, no_next_after, next_made, next_after)

module _ (u : Around) (arm : ExprTree × Statement) (s : Typer) where
  pub arm_made : made_by (arm_rule u (arm_of arm)) s ≡ (made_by (integer (piece arm.0)) s, made_by (alone u (part arm.1)) (after (integer (piece arm.0)) s))
  unfolding arm_rule
  arm_made = simp (then_made, pure_made)

  pub arm_after : after (arm_rule u (arm_of arm)) s ≡ after (alone u (part arm.1)) (after (integer (piece arm.0)) s)
  unfolding arm_rule
  arm_after = simp (then_after, pure_after)

pub ruleset arm_laws = (arm_made, arm_after)

pub ruleset single_laws = (single_made, single_after)

pub ruleset alone_laws = (alone_made, alone_after)

module _ (u : Around) (kind : Kind) (g : Group) (s : Typer) where
  group_typing : group_rule u kind (group g) ≡ (cases_rule kind (out-Group g).labels then λ labels. statements_typing u (out-Group g).body then λ body. pure (group_of labels body))
  unfolding group_rule
  group_typing =
      ap (λ (p : GroupPart). cases_rule kind p.labels then λ labels. in_turn u p.body then λ body. pure (group_of labels body)) (group_is g)
      ∙ ap (λ m. cases_rule kind (out-Group g).labels then λ labels. m then λ body. pure (group_of labels body)) (each_map (λ (p : Part). p.rule u) part (out-Group g).body)

  pub group_made : made_by (group_rule u kind (group g)) s
      ≡ group_of (made_by (cases_rule kind (out-Group g).labels) s) (made_by (statements_typing u (out-Group g).body) (after (cases_rule kind (out-Group g).labels) s))
  group_made = ap (λ r. made_by r s) group_typing ∙ simp (then_made, pure_made)

  pub group_after : after (group_rule u kind (group g)) s ≡ after (statements_typing u (out-Group g).body) (after (cases_rule kind (out-Group g).labels) s)
  group_after = ap (λ r. after r s) group_typing ∙ simp (then_after, pure_after)

pub ruleset group_laws = (group_made, group_after)

pub ruleset statement_laws = (block_made, block_after, empty_made, empty_after, locals_made, locals_after, assign_made, assign_after, step_made, step_after, call_made, call_after, label_made, label_after, while_made, while_after, do_made, do_after, if_none_made, if_none_after, if_some_made, if_some_after, break_made, break_after, continue_made, continue_after, return_made, return_after, assert_made, assert_after, assume_made, assume_after, for_made, for_after, switch_stmt_made, switch_stmt_after)
