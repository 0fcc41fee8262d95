-- What happens in each form of a tree, from what does in its parts.
use Rattle.std.proofs.Common.{◌≡◌, ℕ, List, map, Option, Some, None, rules}
use Rattle.std.specs.Option.{option_map}
use Rattle.fq_core.specs.declared.span.Span.{Span}
use Rattle.c_values.specs.declared.kinds.Kind.{Kind}
use Rattle.c_values.specs.declared.operators.BinaryOp.{BinaryOp}
use Rattle.c_values.specs.declared.operators.UnaryOp.{UnaryOp}
use Rattle.cfa.specs.declared.parts.Variable.{Variable}
use Rattle.c_typed_trees.specs.declared.expression.TypedCall.{TypedCall, roll-TypedCall}
use Rattle.c_typed_trees.specs.declared.expression.TypedExpr.{TypedExpr, roll-TypedExpr}
use Rattle.c_typed_trees.specs.declared.expression.TypedExprForm.{TypedExprForm, roll-TypedExprForm, the_lemmas as expression_lemmas}
use Rattle.c_typed_trees.specs.declared.expression.TypedExprForm.TheOpen.{TypedCall-F, TypedExpr-F, TypedExprForm-F}
use Rattle.c_typed_trees.specs.declared.expression.TypedPlace.{TypedPlace, roll-TypedPlace}
use Rattle.c_typed_trees.specs.declared.statement.TypedForm.{TypedForm, roll-TypedForm, the_lemmas as statement_lemmas}
use Rattle.c_typed_trees.specs.declared.statement.TypedForm.TheOpen.{TypedForm-F, TypedGroup-F, TypedStatement-F}
use Rattle.c_typed_trees.specs.declared.statement.TypedGroup.{TypedGroup, roll-TypedGroup}
use Rattle.c_typed_trees.specs.declared.statement.TypedStatement.{TypedStatement, roll-TypedStatement}
use Rattle.c_typed_trees.specs.declared.unit.Typed.{Typed}
use Rattle.tree_events.specs.Outcomes.{Meaning, At}
use Rattle.tree_meaning.specs.declared.activation.Activation.{Activation}
use Rattle.tree_events.specs.Expressions.{placed_at}
use Rattle.tree_events.specs.Statements.{block}
use Rattle.tree_events.specs.Calls.{Calls, call_of}
use Rattle.tree_events.specs.Trees.{form_step, telling_form, telling, placing, call_does, statement_form, form_does, group_of, does}

module _ (t : Typed) (calls : Calls) (a : Activation) where
  -- ---- expressions

  module _ (at : At) where
    pub constant_is : (v : ℕ) → telling_form t calls a at (roll-TypedExprForm (TypedExprForm-F.Constant v)) ≡ form_step t calls a at (TypedExprForm-F.Constant v)
    unfolding telling_form
    constant_is v = search (rules, expression_lemmas)

    pub load_is : (p : TypedPlace) → telling_form t calls a at (roll-TypedExprForm (TypedExprForm-F.Load p)) ≡ form_step t calls a at (TypedExprForm-F.Load (placing t calls a at p))
    unfolding telling_form placing
    load_is p = search (rules, expression_lemmas)

    pub convert_is : (x : TypedExpr) → telling_form t calls a at (roll-TypedExprForm (TypedExprForm-F.Convert x)) ≡ form_step t calls a at (TypedExprForm-F.Convert (telling t calls a at x))
    unfolding telling_form telling
    convert_is x = search (rules, expression_lemmas)

    pub unary_is : (op : UnaryOp) (x : TypedExpr) → telling_form t calls a at (roll-TypedExprForm (TypedExprForm-F.Unary op x)) ≡ form_step t calls a at (TypedExprForm-F.Unary op (telling t calls a at x))
    unfolding telling_form telling
    unary_is op x = search (rules, expression_lemmas)

    pub binary_is : (op : BinaryOp) (x y : TypedExpr) → telling_form t calls a at (roll-TypedExprForm (TypedExprForm-F.Binary op x y)) ≡ form_step t calls a at (TypedExprForm-F.Binary op (telling t calls a at x) (telling t calls a at y))
    unfolding telling_form telling
    binary_is op x y = search (rules, expression_lemmas)

    pub both_is : (x y : TypedExpr) (cell : ℕ) → telling_form t calls a at (roll-TypedExprForm (TypedExprForm-F.Both x y cell)) ≡ form_step t calls a at (TypedExprForm-F.Both (telling t calls a at x) (telling t calls a at y) cell)
    unfolding telling_form telling
    both_is x y cell = search (rules, expression_lemmas)

    pub either_is : (x y : TypedExpr) (cell : ℕ) → telling_form t calls a at (roll-TypedExprForm (TypedExprForm-F.Either x y cell)) ≡ form_step t calls a at (TypedExprForm-F.Either (telling t calls a at x) (telling t calls a at y) cell)
    unfolding telling_form telling
    either_is x y cell = search (rules, expression_lemmas)

    pub choice_is : (c x y : TypedExpr) (cell : ℕ) → telling_form t calls a at (roll-TypedExprForm (TypedExprForm-F.Choice c x y cell)) ≡ form_step t calls a at (TypedExprForm-F.Choice (telling t calls a at c) (telling t calls a at x) (telling t calls a at y) cell)
    unfolding telling_form telling
    choice_is c x y cell = search (rules, expression_lemmas)

    pub call_form_is : (c : TypedCall) → telling_form t calls a at (roll-TypedExprForm (TypedExprForm-F.Call c)) ≡ form_step t calls a at (TypedExprForm-F.Call (call_does t calls a at c))
    unfolding telling_form call_does
    call_form_is c = search (rules, expression_lemmas)

    pub expression_is : (x : TypedExpr-F TypedExprForm TypedCall TypedExpr TypedPlace) → telling t calls a at (roll-TypedExpr x) ≡ telling_form t calls a at x.form x.span x.kind
    unfolding telling telling_form
    expression_is x = search (rules, expression_lemmas)

    pub call_is : (x : TypedCall-F TypedExprForm TypedCall TypedExpr TypedPlace) → call_does t calls a at (roll-TypedCall x) ≡ call_of at t calls a x.callee (map (telling t calls a at) x.words) x.arrays
    unfolding call_does telling
    call_is x = search (rules, expression_lemmas)

    pub whole_is : (v : Variable) → placing t calls a at (roll-TypedPlace (record { variable = v; index = None })) ≡ placed_at a v None
    unfolding placing
    whole_is v = search (rules, expression_lemmas)

    pub element_is : (v : Variable) (i : TypedExpr) → placing t calls a at (roll-TypedPlace (record { variable = v; index = Some i })) ≡ placed_at a v (Some (telling t calls a at i))
    unfolding placing telling
    element_is v i = search (rules, expression_lemmas)

  -- ---- statements

  abbrev pub paired : TypedExpr × TypedStatement → TypedExpr × Meaning
  paired arm = (arm.0, does t calls a arm.1)

  pub block_is : (body : List TypedStatement) → form_does t calls a (roll-TypedForm (TypedForm-F.Block body)) ≡ statement_form t calls a (TypedForm-F.Block (map (does t calls a) body))
  unfolding form_does does
  block_is body = search (rules, statement_lemmas)

  pub empty_is : form_does t calls a (roll-TypedForm TypedForm-F.Empty) ≡ statement_form t calls a TypedForm-F.Empty
  unfolding form_does
  empty_is = search (rules, statement_lemmas)

  pub local_is : (v : Variable) (first : Option TypedExpr) → form_does t calls a (roll-TypedForm (TypedForm-F.Local v first)) ≡ statement_form t calls a (TypedForm-F.Local v first)
  unfolding form_does
  local_is v first = search (rules, statement_lemmas)

  pub array_is : (v : Variable) (list : List TypedExpr) → form_does t calls a (roll-TypedForm (TypedForm-F.LocalArray v list)) ≡ statement_form t calls a (TypedForm-F.LocalArray v list)
  unfolding form_does
  array_is v list = search (rules, statement_lemmas)

  pub assign_is : (p : TypedPlace) (op : Option (BinaryOp × Kind)) (x : TypedExpr) → form_does t calls a (roll-TypedForm (TypedForm-F.Assign p op x)) ≡ statement_form t calls a (TypedForm-F.Assign p op x)
  unfolding form_does
  assign_is p op x = search (rules, statement_lemmas)

  pub call_statement_is : (c : TypedCall) → form_does t calls a (roll-TypedForm (TypedForm-F.Call c)) ≡ statement_form t calls a (TypedForm-F.Call c)
  unfolding form_does
  call_statement_is c = search (rules, statement_lemmas)

  pub label_is : (name : List ℕ) (body : TypedStatement) → form_does t calls a (roll-TypedForm (TypedForm-F.Label name body)) ≡ statement_form t calls a (TypedForm-F.Label name (does t calls a body))
  unfolding form_does does
  label_is name body = search (rules, statement_lemmas)

  pub if_is : (list : List (TypedExpr × TypedStatement)) (o : Option TypedStatement) → form_does t calls a (roll-TypedForm (TypedForm-F.If list o)) ≡ statement_form t calls a (TypedForm-F.If (map paired list) (option_map (does t calls a) o))
  unfolding form_does does
  if_is list o = search (rules, statement_lemmas)

  pub while_is : (test : TypedExpr) (body : TypedStatement) → form_does t calls a (roll-TypedForm (TypedForm-F.While test body)) ≡ statement_form t calls a (TypedForm-F.While test (does t calls a body))
  unfolding form_does does
  while_is test body = search (rules, statement_lemmas)

  pub do_is : (body : TypedStatement) (test : TypedExpr) → form_does t calls a (roll-TypedForm (TypedForm-F.Do body test)) ≡ statement_form t calls a (TypedForm-F.Do (does t calls a body) test)
  unfolding form_does does
  do_is body test = search (rules, statement_lemmas)

  pub for_is : (first : List TypedStatement) (test : Option TypedExpr) (next : Option TypedStatement) (body : TypedStatement)
      → form_does t calls a (roll-TypedForm (TypedForm-F.For first test next body)) ≡ statement_form t calls a (TypedForm-F.For (map (does t calls a) first) test (option_map (does t calls a) next) (does t calls a body))
  unfolding form_does does
  for_is first test next body = search (rules, statement_lemmas)

  pub switch_is : (x : TypedExpr) (cell : ℕ) (groups : List TypedGroup) → form_does t calls a (roll-TypedForm (TypedForm-F.Switch x cell groups)) ≡ statement_form t calls a (TypedForm-F.Switch x cell (map (group_of t calls a) groups))
  unfolding form_does group_of
  switch_is x cell groups = search (rules, statement_lemmas)

  pub break_is : form_does t calls a (roll-TypedForm TypedForm-F.Break) ≡ statement_form t calls a TypedForm-F.Break
  unfolding form_does
  break_is = search (rules, statement_lemmas)

  pub continue_is : form_does t calls a (roll-TypedForm TypedForm-F.Continue) ≡ statement_form t calls a TypedForm-F.Continue
  unfolding form_does
  continue_is = search (rules, statement_lemmas)

  pub return_is : (x : Option TypedExpr) → form_does t calls a (roll-TypedForm (TypedForm-F.Return x)) ≡ statement_form t calls a (TypedForm-F.Return x)
  unfolding form_does
  return_is x = search (rules, statement_lemmas)

  pub assert_is : (x : TypedExpr) → form_does t calls a (roll-TypedForm (TypedForm-F.Assert x)) ≡ statement_form t calls a (TypedForm-F.Assert x)
  unfolding form_does
  assert_is x = search (rules, statement_lemmas)

  pub assume_is : (x : TypedExpr) → form_does t calls a (roll-TypedForm (TypedForm-F.Assume x)) ≡ statement_form t calls a (TypedForm-F.Assume x)
  unfolding form_does
  assume_is x = search (rules, statement_lemmas)

  pub group_is : (g : TypedGroup-F TypedForm TypedGroup TypedStatement) (span : Span) → group_of t calls a (roll-TypedGroup g) span ≡ record { labels = g.labels; does = block span (map (does t calls a) g.body) }
  unfolding group_of does
  group_is g span = search (rules, statement_lemmas)

  pub statement_is : (s : TypedStatement-F TypedForm TypedGroup TypedStatement) → does t calls a (roll-TypedStatement s) ≡ form_does t calls a s.form s.span
  unfolding does form_does
  statement_is s = search (rules, statement_lemmas)
