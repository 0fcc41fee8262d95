-- The meanings of typed trees, form by form.
use Rattle.std.specs.Prelude.{ℕ, ◌-◌, map}
use Rattle.std.specs.Option.{option_map}
use Rattle.c_values.specs.declared.kinds.Kind.{Kind}
use Rattle.c_typed_trees.specs.declared.expression.TypedCall.{TypedCall, fold-TypedCall}
use Rattle.c_typed_trees.specs.declared.expression.TypedExpr.{TypedExpr, fold-TypedExpr}
use Rattle.c_typed_trees.specs.declared.expression.TypedExprForm.{TypedExprForm, fold-TypedExprForm}
use Rattle.c_typed_trees.specs.declared.expression.TypedExprForm.TheOpen.{TypedCall-F, TypedExpr-F, TypedExprForm-F, TypedPlace-F}
use Rattle.c_typed_trees.specs.declared.expression.TypedPlace.{TypedPlace, fold-TypedPlace}
use Rattle.c_typed_trees.specs.declared.statement.TypedForm.{TypedForm, fold-TypedForm}
use Rattle.c_typed_trees.specs.declared.statement.TypedForm.TheOpen.{TypedForm-F, TypedGroup-F, TypedStatement-F}
use Rattle.c_typed_trees.specs.declared.statement.TypedGroup.{TypedGroup, fold-TypedGroup}
use Rattle.c_typed_trees.specs.declared.statement.TypedStatement.{TypedStatement, fold-TypedStatement}
use Rattle.c_typed_trees.specs.declared.unit.Typed.{Typed}
use Rattle.c_typed_trees.specs.declared.unit.TypedFunction.{TypedFunction}
use Rattle.tree_meaning.specs.Outcomes.{Gives, ◌andthen◌, Evaluation, Meaning, skip}
use Rattle.tree_meaning.specs.declared.way.Way.TheVariants.{GoesOn, Breaks, Continues}
use Rattle.tree_meaning.specs.declared.activation.Activation.{Activation}
use Rattle.tree_meaning.specs.Expressions.{Meant, Placed, evaluate, constant_meant, convert_meant, placed_at, load_meant, unary_meant, binary_meant, part_meant, both_does, either_does, choice_does}
use Rattle.tree_meaning.specs.Statements.{block, arms, assign, declare, declare_array, return_value, assert, assume}
use Rattle.tree_meaning.specs.Loops.{while_loop, do_loop, for_loop}
use Rattle.tree_meaning.specs.Switch.{Group, switch_on}
use Rattle.tree_meaning.specs.Calls.{Calls, call_of, calling}

-- in a unit, by what calls do, in an activation
module _ (t : Typed) (calls : Calls) (a : Activation) where
  -- ---- expressions

  abbrev pub form_step : TypedExprForm-F (Kind → Meant) Evaluation Meant Placed → Kind → Meant
  form_step (TypedExprForm-F.Constant v) kind = constant_meant v kind
  form_step (TypedExprForm-F.Load p) kind = load_meant p kind
  form_step (TypedExprForm-F.Convert x) kind = convert_meant x kind
  form_step (TypedExprForm-F.Unary op x) kind = unary_meant op x kind
  form_step (TypedExprForm-F.Binary op x y) kind = binary_meant op x y kind
  form_step (TypedExprForm-F.Both x y cell) kind = part_meant (both_does (evaluate x) (evaluate y)) kind
  form_step (TypedExprForm-F.Either x y cell) kind = part_meant (either_does (evaluate x) (evaluate y)) kind
  form_step (TypedExprForm-F.Choice test x y cell) kind = part_meant (choice_does (evaluate test) (evaluate x) (evaluate y)) kind
  form_step (TypedExprForm-F.Call call) kind = part_meant call kind

  abbrev pub call_step : TypedCall-F (Kind → Meant) Evaluation Meant Placed → Evaluation
  call_step c = call_of t calls a c.callee c.words c.arrays

  abbrev pub expr_step : TypedExpr-F (Kind → Meant) Evaluation Meant Placed → Meant
  expr_step x = x.form x.kind

  abbrev pub place_step : TypedPlace-F (Kind → Meant) Evaluation Meant Placed → Placed
  place_step p = placed_at a p.variable p.index

  unfoldable pub meant_form : TypedExprForm → Kind → Meant
  meant_form = fold-TypedExprForm (Kind → Meant) Evaluation Meant Placed form_step call_step expr_step place_step

  unfoldable pub meant : TypedExpr → Meant
  meant = fold-TypedExpr (Kind → Meant) Evaluation Meant Placed form_step call_step expr_step place_step

  unfoldable pub placed : TypedPlace → Placed
  placed = fold-TypedPlace (Kind → Meant) Evaluation Meant Placed form_step call_step expr_step place_step

  unfoldable pub call_does : TypedCall → Evaluation
  call_does = fold-TypedCall (Kind → Meant) Evaluation Meant Placed form_step call_step expr_step place_step

  abbrev pub value : TypedExpr → Evaluation
  value x = evaluate (meant x)

  -- ---- statements

  abbrev pub arm_does : TypedExpr × Meaning → Evaluation × Meaning
  arm_does arm = (value arm.0, arm.1)

  abbrev pub statement_form : TypedForm-F Meaning Group Meaning → Meaning
  statement_form (TypedForm-F.Block body) = block body
  statement_form TypedForm-F.Empty = skip
  statement_form (TypedForm-F.Local v first) = declare a v (option_map meant first)
  statement_form (TypedForm-F.LocalArray v list) = declare_array a v (map meant list)
  statement_form (TypedForm-F.Assign p op x) = assign (placed p) op (meant x)
  statement_form (TypedForm-F.Call c) = λ s. call_does c s andthen λ v s'. Gives GoesOn s'
  statement_form (TypedForm-F.Label name body) = body
  statement_form (TypedForm-F.If list otherwise) = arms (map arm_does list) otherwise
  statement_form (TypedForm-F.While test body) = while_loop (value test) body
  statement_form (TypedForm-F.Do body test) = do_loop body (value test)
  statement_form (TypedForm-F.For first test next body) = for_loop first (option_map value test) next body
  statement_form (TypedForm-F.Switch x cell groups) = switch_on (value x) groups
  statement_form TypedForm-F.Break = λ s. Gives Breaks s
  statement_form TypedForm-F.Continue = λ s. Gives Continues s
  statement_form (TypedForm-F.Return x) = return_value a (option_map meant x)
  statement_form (TypedForm-F.Assert test) = assert (meant test)
  statement_form (TypedForm-F.Assume test) = assume (meant test)

  abbrev pub group_step : TypedGroup-F Meaning Group Meaning → Group
  group_step g = record { labels = g.labels; does = block g.body }

  abbrev pub statement_step : TypedStatement-F Meaning Group Meaning → Meaning
  statement_step s = s.form

  unfoldable pub form_does : TypedForm → Meaning
  form_does = fold-TypedForm Meaning Group Meaning statement_form group_step statement_step

  unfoldable pub group_of : TypedGroup → Group
  group_of = fold-TypedGroup Meaning Group Meaning statement_form group_step statement_step

  unfoldable pub does : TypedStatement → Meaning
  does = fold-TypedStatement Meaning Group Meaning statement_form group_step statement_step

-- what the statements of a function's body do
abbrev pub body_does : Typed → Calls → TypedFunction → Activation → Meaning
body_does t calls f a = block (map (does t calls a) f.body)

-- what calls do, where so many activations more may stand
abbrev pub calls_within : Typed → ℕ → Calls
calls_within t n = calling (body_does t) t.functions n

-- what calls in an activation do: at most 64 activations stand
unfoldable pub calls_in : Typed → Activation → Calls
calls_in t a = calls_within t (64 - a.depth)
