-- The meaning of each form of a tree, from those of its parts.
use Rattle.std.proofs.Common.{◌≡◌, ℕ, List, map, Option, Some, None, rules}
use Rattle.std.specs.Option.{option_map}
use Rattle.c_values.specs.declared.kinds.Kind.{Kind}
use Rattle.c_values.specs.declared.operators.BinaryOp.{BinaryOp}
use Rattle.c_values.specs.declared.operators.UnaryOp.{UnaryOp}
use Rattle.cfa.specs.declared.parts.Variable.{Variable}
use Rattle.c_typed_trees.specs.declared.expression.TypedCall.{TypedCall, roll-TypedCall}
use Rattle.c_typed_trees.specs.declared.expression.TypedExpr.{TypedExpr, roll-TypedExpr}
use Rattle.c_typed_trees.specs.declared.expression.TypedExprForm.{TypedExprForm, roll-TypedExprForm, the_lemmas as expression_lemmas}
use Rattle.c_typed_trees.specs.declared.expression.TypedExprForm.TheOpen.{TypedCall-F, TypedExpr-F, TypedExprForm-F}
use Rattle.c_typed_trees.specs.declared.expression.TypedPlace.{TypedPlace, roll-TypedPlace}
use Rattle.c_typed_trees.specs.declared.statement.TypedForm.{TypedForm, roll-TypedForm, the_lemmas as statement_lemmas}
use Rattle.c_typed_trees.specs.declared.statement.TypedForm.TheOpen.{TypedForm-F, TypedGroup-F, TypedStatement-F}
use Rattle.c_typed_trees.specs.declared.statement.TypedGroup.{TypedGroup, roll-TypedGroup}
use Rattle.c_typed_trees.specs.declared.statement.TypedStatement.{TypedStatement, roll-TypedStatement}
use Rattle.c_typed_trees.specs.declared.unit.Typed.{Typed}
use Rattle.tree_meaning.specs.Outcomes.{Meaning}
use Rattle.tree_meaning.specs.declared.activation.Activation.{Activation}
use Rattle.tree_meaning.specs.Expressions.{placed_at}
use Rattle.tree_meaning.specs.Statements.{block}
use Rattle.tree_meaning.specs.Calls.{Calls, call_of}
use Rattle.tree_meaning.specs.Trees.{form_step, meant_form, meant, placed, call_does, statement_form, form_does, group_of, does}

module _ (t : Typed) (calls : Calls) (a : Activation) where
  -- ---- expressions

  pub constant_is : (v : ℕ) → meant_form t calls a (roll-TypedExprForm (TypedExprForm-F.Constant v)) ≡ form_step t calls a (TypedExprForm-F.Constant v)
  unfolding meant_form
  constant_is v = search (rules, expression_lemmas)

  pub load_is : (p : TypedPlace) → meant_form t calls a (roll-TypedExprForm (TypedExprForm-F.Load p)) ≡ form_step t calls a (TypedExprForm-F.Load (placed t calls a p))
  unfolding meant_form placed
  load_is p = search (rules, expression_lemmas)

  pub convert_is : (x : TypedExpr) → meant_form t calls a (roll-TypedExprForm (TypedExprForm-F.Convert x)) ≡ form_step t calls a (TypedExprForm-F.Convert (meant t calls a x))
  unfolding meant_form meant
  convert_is x = search (rules, expression_lemmas)

  pub unary_is : (op : UnaryOp) (x : TypedExpr) → meant_form t calls a (roll-TypedExprForm (TypedExprForm-F.Unary op x)) ≡ form_step t calls a (TypedExprForm-F.Unary op (meant t calls a x))
  unfolding meant_form meant
  unary_is op x = search (rules, expression_lemmas)

  pub binary_is : (op : BinaryOp) (x y : TypedExpr) → meant_form t calls a (roll-TypedExprForm (TypedExprForm-F.Binary op x y)) ≡ form_step t calls a (TypedExprForm-F.Binary op (meant t calls a x) (meant t calls a y))
  unfolding meant_form meant
  binary_is op x y = search (rules, expression_lemmas)

  pub both_is : (x y : TypedExpr) (cell : ℕ) → meant_form t calls a (roll-TypedExprForm (TypedExprForm-F.Both x y cell)) ≡ form_step t calls a (TypedExprForm-F.Both (meant t calls a x) (meant t calls a y) cell)
  unfolding meant_form meant
  both_is x y cell = search (rules, expression_lemmas)

  pub either_is : (x y : TypedExpr) (cell : ℕ) → meant_form t calls a (roll-TypedExprForm (TypedExprForm-F.Either x y cell)) ≡ form_step t calls a (TypedExprForm-F.Either (meant t calls a x) (meant t calls a y) cell)
  unfolding meant_form meant
  either_is x y cell = search (rules, expression_lemmas)

  pub choice_is : (c x y : TypedExpr) (cell : ℕ) → meant_form t calls a (roll-TypedExprForm (TypedExprForm-F.Choice c x y cell)) ≡ form_step t calls a (TypedExprForm-F.Choice (meant t calls a c) (meant t calls a x) (meant t calls a y) cell)
  unfolding meant_form meant
  choice_is c x y cell = search (rules, expression_lemmas)

  pub call_form_is : (c : TypedCall) → meant_form t calls a (roll-TypedExprForm (TypedExprForm-F.Call c)) ≡ form_step t calls a (TypedExprForm-F.Call (call_does t calls a c))
  unfolding meant_form call_does
  call_form_is c = search (rules, expression_lemmas)

  pub expression_is : (x : TypedExpr-F TypedExprForm TypedCall TypedExpr TypedPlace) → meant t calls a (roll-TypedExpr x) ≡ meant_form t calls a x.form x.kind
  unfolding meant meant_form
  expression_is x = search (rules, expression_lemmas)

  pub call_is : (x : TypedCall-F TypedExprForm TypedCall TypedExpr TypedPlace) → call_does t calls a (roll-TypedCall x) ≡ call_of t calls a x.callee (map (meant t calls a) x.words) x.arrays
  unfolding call_does meant
  call_is x = search (rules, expression_lemmas)

  pub whole_is : (v : Variable) → placed t calls a (roll-TypedPlace (record { variable = v; index = None })) ≡ placed_at a v None
  unfolding placed
  whole_is v = search (rules, expression_lemmas)

  pub element_is : (v : Variable) (i : TypedExpr) → placed t calls a (roll-TypedPlace (record { variable = v; index = Some i })) ≡ placed_at a v (Some (meant t calls a i))
  unfolding placed meant
  element_is v i = search (rules, expression_lemmas)

  -- ---- statements

  abbrev pub paired : TypedExpr × TypedStatement → TypedExpr × Meaning
  paired arm = (arm.0, does t calls a arm.1)

  pub block_is : (body : List TypedStatement) → form_does t calls a (roll-TypedForm (TypedForm-F.Block body)) ≡ statement_form t calls a (TypedForm-F.Block (map (does t calls a) body))
  unfolding form_does does
  block_is body = search (rules, statement_lemmas)

  pub empty_is : form_does t calls a (roll-TypedForm TypedForm-F.Empty) ≡ statement_form t calls a TypedForm-F.Empty
  unfolding form_does
  empty_is = search (rules, statement_lemmas)

  pub local_is : (v : Variable) (first : Option TypedExpr) → form_does t calls a (roll-TypedForm (TypedForm-F.Local v first)) ≡ statement_form t calls a (TypedForm-F.Local v first)
  unfolding form_does
  local_is v first = search (rules, statement_lemmas)

  pub array_is : (v : Variable) (list : List TypedExpr) → form_does t calls a (roll-TypedForm (TypedForm-F.LocalArray v list)) ≡ statement_form t calls a (TypedForm-F.LocalArray v list)
  unfolding form_does
  array_is v list = search (rules, statement_lemmas)

  pub assign_is : (p : TypedPlace) (op : Option (BinaryOp × Kind)) (x : TypedExpr) → form_does t calls a (roll-TypedForm (TypedForm-F.Assign p op x)) ≡ statement_form t calls a (TypedForm-F.Assign p op x)
  unfolding form_does
  assign_is p op x = search (rules, statement_lemmas)

  pub call_statement_is : (c : TypedCall) → form_does t calls a (roll-TypedForm (TypedForm-F.Call c)) ≡ statement_form t calls a (TypedForm-F.Call c)
  unfolding form_does
  call_statement_is c = search (rules, statement_lemmas)

  pub label_is : (name : List ℕ) (body : TypedStatement) → form_does t calls a (roll-TypedForm (TypedForm-F.Label name body)) ≡ does t calls a body
  unfolding form_does does
  label_is name body = search (rules, statement_lemmas)

  pub if_is : (list : List (TypedExpr × TypedStatement)) (o : Option TypedStatement) → form_does t calls a (roll-TypedForm (TypedForm-F.If list o)) ≡ statement_form t calls a (TypedForm-F.If (map paired list) (option_map (does t calls a) o))
  unfolding form_does does
  if_is list o = search (rules, statement_lemmas)

  pub while_is : (test : TypedExpr) (body : TypedStatement) → form_does t calls a (roll-TypedForm (TypedForm-F.While test body)) ≡ statement_form t calls a (TypedForm-F.While test (does t calls a body))
  unfolding form_does does
  while_is test body = search (rules, statement_lemmas)

  pub do_is : (body : TypedStatement) (test : TypedExpr) → form_does t calls a (roll-TypedForm (TypedForm-F.Do body test)) ≡ statement_form t calls a (TypedForm-F.Do (does t calls a body) test)
  unfolding form_does does
  do_is body test = search (rules, statement_lemmas)

  pub for_is : (first : List TypedStatement) (test : Option TypedExpr) (next : Option TypedStatement) (body : TypedStatement)
      → form_does t calls a (roll-TypedForm (TypedForm-F.For first test next body)) ≡ statement_form t calls a (TypedForm-F.For (map (does t calls a) first) test (option_map (does t calls a) next) (does t calls a body))
  unfolding form_does does
  for_is first test next body = search (rules, statement_lemmas)

  pub switch_is : (x : TypedExpr) (cell : ℕ) (groups : List TypedGroup) → form_does t calls a (roll-TypedForm (TypedForm-F.Switch x cell groups)) ≡ statement_form t calls a (TypedForm-F.Switch x cell (map (group_of t calls a) groups))
  unfolding form_does group_of
  switch_is x cell groups = search (rules, statement_lemmas)

  pub break_is : form_does t calls a (roll-TypedForm TypedForm-F.Break) ≡ statement_form t calls a TypedForm-F.Break
  unfolding form_does
  break_is = search (rules, statement_lemmas)

  pub continue_is : form_does t calls a (roll-TypedForm TypedForm-F.Continue) ≡ statement_form t calls a TypedForm-F.Continue
  unfolding form_does
  continue_is = search (rules, statement_lemmas)

  pub return_is : (x : Option TypedExpr) → form_does t calls a (roll-TypedForm (TypedForm-F.Return x)) ≡ statement_form t calls a (TypedForm-F.Return x)
  unfolding form_does
  return_is x = search (rules, statement_lemmas)

  pub assert_is : (x : TypedExpr) → form_does t calls a (roll-TypedForm (TypedForm-F.Assert x)) ≡ statement_form t calls a (TypedForm-F.Assert x)
  unfolding form_does
  assert_is x = search (rules, statement_lemmas)

  pub assume_is : (x : TypedExpr) → form_does t calls a (roll-TypedForm (TypedForm-F.Assume x)) ≡ statement_form t calls a (TypedForm-F.Assume x)
  unfolding form_does
  assume_is x = search (rules, statement_lemmas)

  pub group_is : (g : TypedGroup-F TypedForm TypedGroup TypedStatement) → group_of t calls a (roll-TypedGroup g) ≡ record { labels = g.labels; does = block (map (does t calls a) g.body) }
  unfolding group_of does
  group_is g = search (rules, statement_lemmas)

  pub statement_is : (s : TypedStatement-F TypedForm TypedGroup TypedStatement) → does t calls a (roll-TypedStatement s) ≡ form_does t calls a s.form
  unfolding does form_does
  statement_is s = search (rules, statement_lemmas)
