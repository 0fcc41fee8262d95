-- What happens in typed trees, form by form.
use Rattle.std.specs.Prelude.{ℕ, ◌-◌, true, map}
use Rattle.std.specs.Option.{option_map}
use Rattle.fq_core.specs.declared.span.Span.{Span}
use Rattle.fq_core.specs.declared.statement_kind.StatementKind.TheVariants as kinds
use Rattle.c_values.specs.declared.kinds.Kind.{Kind}
use Rattle.c_typed_trees.specs.declared.expression.TypedCall.{TypedCall, fold-TypedCall}
use Rattle.c_typed_trees.specs.declared.expression.TypedExpr.{TypedExpr, fold-TypedExpr}
use Rattle.c_typed_trees.specs.declared.expression.TypedExprForm.{TypedExprForm, fold-TypedExprForm}
use Rattle.c_typed_trees.specs.declared.expression.TypedExprForm.TheOpen.{TypedCall-F, TypedExpr-F, TypedExprForm-F, TypedPlace-F}
use Rattle.c_typed_trees.specs.declared.expression.TypedPlace.{TypedPlace, fold-TypedPlace}
use Rattle.c_typed_trees.specs.declared.statement.TypedForm.{TypedForm, fold-TypedForm}
use Rattle.c_typed_trees.specs.declared.statement.TypedForm.TheOpen.{TypedForm-F, TypedGroup-F, TypedStatement-F}
use Rattle.c_typed_trees.specs.declared.statement.TypedGroup.{TypedGroup, fold-TypedGroup}
use Rattle.c_typed_trees.specs.declared.statement.TypedStatement.{TypedStatement, fold-TypedStatement}
use Rattle.c_typed_trees.specs.declared.unit.Typed.{Typed}
use Rattle.c_typed_trees.specs.declared.unit.TypedFunction.{TypedFunction}
use Rattle.tree_meaning.specs.declared.way.Way.TheVariants.{Breaks, Continues}
use Rattle.tree_meaning.specs.declared.activation.Activation.{Activation}
use Rattle.tree_events.specs.Outcomes.{Meaning, Evaluation, Deciding, At, at_hand}
use Rattle.tree_events.specs.Expressions.{Telling, Placing, evaluate, constant_told, convert_told, placed_at, load_told, unary_told, binary_told, decide_both, decide_either, split_told, part_told, choice_does}
use Rattle.tree_events.specs.Statements.{block, doing, leaving, labelled, call_done, arms, assign, declare, declare_array, return_value, assert, assume}
use Rattle.tree_events.specs.Loops.{while_loop, do_loop, for_loop}
use Rattle.tree_events.specs.Switch.{Group, switch_on}
use Rattle.tree_events.specs.Calls.{Calls, call_of, calling}

-- an expression's form, by its first token and its kind
abbrev pub Formed : Type 0
Formed = Span → Kind → Telling

-- in a unit, by what calls do, in an activation
module _ (t : Typed) (calls : Calls) (a : Activation) where
  -- ---- expressions, in the statement at hand

  module _ (at : At) where
    abbrev pub form_step : TypedExprForm-F Formed Evaluation Telling Placing → Formed
    form_step (TypedExprForm-F.Constant v) span kind = constant_told at span kind v
    form_step (TypedExprForm-F.Load p) span kind = load_told at span kind p
    form_step (TypedExprForm-F.Convert x) span kind = convert_told at span kind x
    form_step (TypedExprForm-F.Unary op x) span kind = unary_told at span kind op x
    form_step (TypedExprForm-F.Binary op x y) span kind = binary_told at span kind op x y
    form_step (TypedExprForm-F.Both x y cell) span kind = split_told at span kind (decide_both x.decide y.decide)
    form_step (TypedExprForm-F.Either x y cell) span kind = split_told at span kind (decide_either x.decide y.decide)
    form_step (TypedExprForm-F.Choice test x y cell) span kind = part_told at span kind (choice_does at (test.decide true true) (evaluate x) (evaluate y))
    form_step (TypedExprForm-F.Call call) span kind = part_told at span kind call

    abbrev pub call_step : TypedCall-F Formed Evaluation Telling Placing → Evaluation
    call_step c = call_of at t calls a c.callee c.words c.arrays

    abbrev pub expr_step : TypedExpr-F Formed Evaluation Telling Placing → Telling
    expr_step x = x.form x.span x.kind

    abbrev pub place_step : TypedPlace-F Formed Evaluation Telling Placing → Placing
    place_step p = placed_at a p.variable p.index

    unfoldable pub telling_form : TypedExprForm → Formed
    telling_form = fold-TypedExprForm Formed Evaluation Telling Placing form_step call_step expr_step place_step

    unfoldable pub telling : TypedExpr → Telling
    telling = fold-TypedExpr Formed Evaluation Telling Placing form_step call_step expr_step place_step

    unfoldable pub placing : TypedPlace → Placing
    placing = fold-TypedPlace Formed Evaluation Telling Placing form_step call_step expr_step place_step

    unfoldable pub call_does : TypedCall → Evaluation
    call_does = fold-TypedCall Formed Evaluation Telling Placing form_step call_step expr_step place_step

    -- the condition of a statement is a decision by itself: whether it is true or not settles it
    abbrev pub decides : TypedExpr → Deciding
    decides x = (telling x).decide true true

    abbrev pub arm_does : TypedExpr × Meaning → Deciding × Meaning
    arm_does arm = (decides arm.0, arm.1)

  -- ---- statements

  -- a form, by the statement's first token
  abbrev pub statement_form : TypedForm-F (Span → Meaning) (Span → Group) Meaning → Span → Meaning
  statement_form (TypedForm-F.Block body) span = block span body
  statement_form TypedForm-F.Empty span = doing (at_hand span kinds.Empty)
  statement_form (TypedForm-F.Local v first) span = declare (at_hand span kinds.Decl) a v (option_map (telling (at_hand span kinds.Decl)) first)
  statement_form (TypedForm-F.LocalArray v list) span = declare_array (at_hand span kinds.Decl) a v (map (telling (at_hand span kinds.Decl)) list)
  statement_form (TypedForm-F.Assign p op x) span = assign (at_hand span kinds.Assign) (placing (at_hand span kinds.Assign) p) op (telling (at_hand span kinds.Assign) x)
  statement_form (TypedForm-F.Call c) span = call_done (at_hand span kinds.Call) (call_does (at_hand span kinds.Call) c)
  statement_form (TypedForm-F.Label name body) span = labelled (at_hand span kinds.Label) name body
  statement_form (TypedForm-F.If list otherwise) span = arms (map (arm_does (at_hand span kinds.If)) list) otherwise
  statement_form (TypedForm-F.While test body) span = while_loop (at_hand span kinds.While) (decides (at_hand span kinds.While) test) body
  statement_form (TypedForm-F.Do body test) span = do_loop (at_hand span kinds.Do) body (decides (at_hand span kinds.Do) test)
  statement_form (TypedForm-F.For first test next body) span = for_loop (at_hand span kinds.For) first (option_map (decides (at_hand span kinds.For)) test) next body
  statement_form (TypedForm-F.Switch x cell groups) span = switch_on (at_hand span kinds.Switch) (evaluate (telling (at_hand span kinds.Switch) x)) (map (λ (g : Span → Group). g span) groups)
  statement_form TypedForm-F.Break span = leaving (at_hand span kinds.Jump) Breaks
  statement_form TypedForm-F.Continue span = leaving (at_hand span kinds.Jump) Continues
  statement_form (TypedForm-F.Return x) span = return_value (at_hand span kinds.Return) a (option_map (telling (at_hand span kinds.Return)) x)
  statement_form (TypedForm-F.Assert test) span = assert (at_hand span kinds.Assert) (telling (at_hand span kinds.Assert) test)
  statement_form (TypedForm-F.Assume test) span = assume (at_hand span kinds.Assume) (telling (at_hand span kinds.Assume) test)

  -- a group of a `switch`, by the first token of the `switch`
  abbrev pub group_step : TypedGroup-F (Span → Meaning) (Span → Group) Meaning → Span → Group
  group_step g span = record { labels = g.labels; does = block span g.body }

  abbrev pub statement_step : TypedStatement-F (Span → Meaning) (Span → Group) Meaning → Meaning
  statement_step s = s.form s.span

  unfoldable pub form_does : TypedForm → Span → Meaning
  form_does = fold-TypedForm (Span → Meaning) (Span → Group) Meaning statement_form group_step statement_step

  unfoldable pub group_of : TypedGroup → Span → Group
  group_of = fold-TypedGroup (Span → Meaning) (Span → Group) Meaning statement_form group_step statement_step

  unfoldable pub does : TypedStatement → Meaning
  does = fold-TypedStatement (Span → Meaning) (Span → Group) Meaning statement_form group_step statement_step

-- what the statements of a function's body do, as a block at the function's first token
abbrev pub body_does : Typed → Calls → TypedFunction → Activation → Meaning
body_does t calls f a = block f.span (map (does t calls a) f.body)

-- what calls do, where so many activations more may stand
abbrev pub calls_within : Typed → ℕ → Calls
calls_within t n = calling (body_does t) t.functions n

-- what calls in an activation do: at most 64 activations stand
unfoldable pub calls_in : Typed → Activation → Calls
calls_in t a = calls_within t (64 - a.depth)
