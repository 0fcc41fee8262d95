-- What statements do where a function runs, form by form.
use Rattle.std.proofs.Common.{◌≡◌, ℕ, List, [], ◌∷◌, map, Option, refl, ap, ◌∙◌, rules}
use Rattle.std.specs.Option.{option_map}
use Rattle.c_values.specs.declared.kinds.Kind.{Kind}
use Rattle.c_values.specs.declared.operators.BinaryOp.{BinaryOp}
use Rattle.cfa.specs.declared.parts.Variable.{Variable}
use Rattle.c_typed_trees.specs.declared.expression.TypedCall.{TypedCall}
use Rattle.c_typed_trees.specs.declared.expression.TypedExpr.{TypedExpr}
use Rattle.c_typed_trees.specs.declared.expression.TypedPlace.{TypedPlace}
use Rattle.c_typed_trees.specs.declared.statement.TypedForm.{TypedForm, the_lemmas}
use Rattle.c_typed_trees.specs.declared.statement.TypedForm.TheVariants as forms
use Rattle.c_typed_trees.specs.declared.statement.TypedGroup.{TypedGroup, out-TypedGroup}
use Rattle.c_typed_trees.specs.declared.statement.TypedStatement.{TypedStatement}
use Rattle.tree_meaning.specs.declared.way.Way.TheVariants.{GoesOn, Breaks, Continues}
use Rattle.tree_meaning.specs.Outcomes.{Gives, ◌andthen◌, Evaluation, Meaning, skip}
use Rattle.tree_meaning.specs.Loops.{while_loop, do_loop, for_loop}
use Rattle.tree_meaning.specs.Running.{Scene, meant_in, placed_in, call_in, value_in, does_in, group_in, arm_in}
use Rattle.tree_meaning.specs.Statements.{block, arms, assign, declare, declare_array, return_value, assert, assume}
use Rattle.tree_meaning.specs.Switch.{switch_on}
use Rattle.tree_meaning.specs.Trees.{form_does, does, group_of, calls_in}

module _ (c : Scene) where
  abbrev form_in : TypedForm → Meaning
  form_in = form_does c.unit (calls_in c.unit c.activation) c.activation

  shaped : (s : TypedStatement) → does_in c s ≡ form_in s.form
  unfolding does_in does form_does
  shaped s = search (rules, the_lemmas)

  by_form : (s : TypedStatement) (f : TypedForm) (made : Meaning) → s.form ≡ f → form_in f ≡ made → does_in c s ≡ made
  by_form s f made e h = shaped s ∙ ap form_in e ∙ h

  pub block_in : (s : TypedStatement) (body : List TypedStatement) → s.form ≡ forms.Block body → does_in c s ≡ block (map (does_in c) body)
  unfolding form_does does_in does
  block_in s body e = by_form s _ (block (map (does_in c) body)) e (search (rules, the_lemmas))

  pub empty_in : (s : TypedStatement) → s.form ≡ forms.Empty → does_in c s ≡ skip
  unfolding form_does
  empty_in s e = by_form s _ skip e (search (rules, the_lemmas))

  pub local_in : (s : TypedStatement) (v : Variable) (first : Option TypedExpr) → s.form ≡ forms.Local v first → does_in c s ≡ declare c.activation v (option_map (meant_in c) first)
  unfolding form_does meant_in
  local_in s v first e = by_form s _ (declare c.activation v (option_map (meant_in c) first)) e (search (rules, the_lemmas))

  pub array_in : (s : TypedStatement) (v : Variable) (list : List TypedExpr) → s.form ≡ forms.LocalArray v list → does_in c s ≡ declare_array c.activation v (map (meant_in c) list)
  unfolding form_does meant_in
  array_in s v list e = by_form s _ (declare_array c.activation v (map (meant_in c) list)) e (search (rules, the_lemmas))

  pub assign_in : (s : TypedStatement) (p : TypedPlace) (op : Option (BinaryOp × Kind)) (x : TypedExpr) → s.form ≡ forms.Assign p op x → does_in c s ≡ assign (placed_in c p) op (meant_in c x)
  unfolding form_does meant_in placed_in
  assign_in s p op x e = by_form s _ (assign (placed_in c p) op (meant_in c x)) e (search (rules, the_lemmas))

  pub call_statement_in : (s : TypedStatement) (q : TypedCall) → s.form ≡ forms.Call q → does_in c s ≡ (λ s'. call_in c q s' andthen λ v s''. Gives GoesOn s'')
  unfolding form_does call_in
  call_statement_in s q e = by_form s _ (λ s'. call_in c q s' andthen λ v s''. Gives GoesOn s'') e (search (rules, the_lemmas))

  pub label_in : (s : TypedStatement) (name : List ℕ) (body : TypedStatement) → s.form ≡ forms.Label name body → does_in c s ≡ does_in c body
  unfolding form_does does_in does
  label_in s name body e = by_form s _ (does_in c body) e (search (rules, the_lemmas))

  abbrev paired : TypedExpr × TypedStatement → TypedExpr × Meaning
  paired arm = (arm.0, does_in c arm.1)

  abbrev two : TypedExpr × Meaning → Evaluation × Meaning
  two arm = (value_in c arm.0, arm.1)

  each : (l : List (TypedExpr × TypedStatement)) → map two (map paired l) ≡ map (arm_in c) l
  each [] = refl
  each (x ∷ xs) = ap (λ rest. arm_in c x ∷ rest) (each xs)

  pub if_in : (s : TypedStatement) (list : List (TypedExpr × TypedStatement)) (o : Option TypedStatement) → s.form ≡ forms.If list o → does_in c s ≡ arms (map (arm_in c) list) (option_map (does_in c) o)
  unfolding form_does does_in does meant_in
  if_in s list o e =
      let whole : form_in (forms.If list o) ≡ arms (map two (map paired list)) (option_map (does_in c) o) = search (rules, the_lemmas) in
      by_form s _ (arms (map (arm_in c) list) (option_map (does_in c) o)) e (whole ∙ ap (λ (l : List (Evaluation × Meaning)). arms l (option_map (does_in c) o)) (each list))

  pub while_in : (s : TypedStatement) (test : TypedExpr) (body : TypedStatement) → s.form ≡ forms.While test body → does_in c s ≡ while_loop (value_in c test) (does_in c body)
  unfolding form_does does_in does meant_in
  while_in s test body e = by_form s _ (while_loop (value_in c test) (does_in c body)) e (search (rules, the_lemmas))

  pub do_in : (s : TypedStatement) (body : TypedStatement) (test : TypedExpr) → s.form ≡ forms.Do body test → does_in c s ≡ do_loop (does_in c body) (value_in c test)
  unfolding form_does does_in does meant_in
  do_in s body test e = by_form s _ (do_loop (does_in c body) (value_in c test)) e (search (rules, the_lemmas))

  pub for_in : (s : TypedStatement) (first : List TypedStatement) (test : Option TypedExpr) (next : Option TypedStatement) (body : TypedStatement) → s.form ≡ forms.For first test next body
      → does_in c s ≡ for_loop (map (does_in c) first) (option_map (value_in c) test) (option_map (does_in c) next) (does_in c body)
  unfolding form_does does_in does meant_in
  for_in s first test next body e = by_form s _ (for_loop (map (does_in c) first) (option_map (value_in c) test) (option_map (does_in c) next) (does_in c body)) e (search (rules, the_lemmas))

  pub switch_in : (s : TypedStatement) (x : TypedExpr) (cell : ℕ) (groups : List TypedGroup) → s.form ≡ forms.Switch x cell groups → does_in c s ≡ switch_on (value_in c x) (map (group_in c) groups)
  unfolding form_does group_in group_of meant_in
  switch_in s x cell groups e = by_form s _ (switch_on (value_in c x) (map (group_in c) groups)) e (search (rules, the_lemmas))

  pub break_in : (s : TypedStatement) → s.form ≡ forms.Break → does_in c s ≡ (λ s'. Gives Breaks s')
  unfolding form_does
  break_in s e = by_form s _ (λ s'. Gives Breaks s') e (search (rules, the_lemmas))

  pub continue_in : (s : TypedStatement) → s.form ≡ forms.Continue → does_in c s ≡ (λ s'. Gives Continues s')
  unfolding form_does
  continue_in s e = by_form s _ (λ s'. Gives Continues s') e (search (rules, the_lemmas))

  pub return_in : (s : TypedStatement) (x : Option TypedExpr) → s.form ≡ forms.Return x → does_in c s ≡ return_value c.activation (option_map (meant_in c) x)
  unfolding form_does meant_in
  return_in s x e = by_form s _ (return_value c.activation (option_map (meant_in c) x)) e (search (rules, the_lemmas))

  pub assert_in : (s : TypedStatement) (x : TypedExpr) → s.form ≡ forms.Assert x → does_in c s ≡ assert (meant_in c x)
  unfolding form_does meant_in
  assert_in s x e = by_form s _ (assert (meant_in c x)) e (search (rules, the_lemmas))

  pub assume_in : (s : TypedStatement) (x : TypedExpr) → s.form ≡ forms.Assume x → does_in c s ≡ assume (meant_in c x)
  unfolding form_does meant_in
  assume_in s x e = by_form s _ (assume (meant_in c x)) e (search (rules, the_lemmas))

  pub group_in_is : (g : TypedGroup) → group_in c g ≡ record { labels = (out-TypedGroup g).labels; does = block (map (does_in c) (out-TypedGroup g).body) }
  unfolding group_in group_of does_in does
  group_in_is g = search (rules, the_lemmas)
