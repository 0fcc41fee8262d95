-- The expressions that typed ones are, a law for each form.
use Rattle.std.proofs.Common.{◌≡◌, ℕ, Some, None, ap, ◌∙◌, rules}
use Rattle.std.specs.Prelude.{option_map}
use Rattle.c_values.specs.declared.kinds.Kind.{Kind}
use Rattle.c_values.specs.declared.operators.UnaryOp.{UnaryOp}
use Rattle.c_values.specs.declared.operators.BinaryOp.{BinaryOp}
use Rattle.cfa.specs.declared.expr.CellPlace.{CellPlace}
use Rattle.cfa.specs.declared.expr.CellPlace.TheVariants as cells
use Rattle.cfa.specs.declared.expr.Expr.{Expr}
use Rattle.cfa.specs.declared.expr.Expr.TheVariants as exprs
use Rattle.c_typed_trees.specs.declared.expression.TypedExpr.{TypedExpr}
use Rattle.c_typed_trees.specs.declared.expression.TypedExprForm.{TypedExprForm, fold-TypedExprForm, the_lemmas}
use Rattle.c_typed_trees.specs.declared.expression.TypedExprForm.TheVariants as forms
use Rattle.c_typed_trees.specs.declared.expression.TypedExprForm.TheOpen.{TypedExprForm-F}
use Rattle.c_typed_trees.specs.declared.expression.TypedPlace.{TypedPlace, out-TypedPlace}
use Rattle.c_typed_trees.specs.declared.expression.TypedCall.{TypedCall, out-TypedCall}
use Rattle.c_type_rules.specs.Values.{Valued, value_step, call_step, expr_step, place_step, place_with, cell_of, valued, expr_of, place_of_typed}

unfoldable pub form_valued : TypedExprForm → Kind → Expr
form_valued = fold-TypedExprForm (Kind → Expr) ℕ Valued CellPlace value_step call_step expr_step place_step

valued_is : (e : TypedExpr) → valued e ≡ record { kind = e.kind; expr = form_valued e.form e.kind }
unfolding form_valued valued
valued_is e = search (rules, the_lemmas)

valued_kind : (e : TypedExpr) → (valued e).kind ≡ e.kind
valued_kind e = ap (λ (v : Valued). v.kind) (valued_is e)

module _ (e : TypedExpr) where
  by_form : (f : TypedExprForm) (r : Kind → Expr) → e.form ≡ f → form_valued f ≡ r → expr_of e ≡ r e.kind
  by_form f r h g = ap (λ (v : Valued). v.expr) (valued_is e) ∙ ap (λ x. form_valued x e.kind) h ∙ ap (λ (x : Kind → Expr). x e.kind) g

  pub constant_value : (v : ℕ) → e.form ≡ forms.Constant v → expr_of e ≡ exprs.Constant v e.kind
  unfolding form_valued valued
  constant_value v h = by_form _ (value_step (TypedExprForm-F.Constant v)) h (search (rules, the_lemmas))

  pub load_value : (p : TypedPlace) → e.form ≡ forms.Load p → expr_of e ≡ exprs.Load (place_of_typed p) e.kind
  unfolding form_valued valued place_of_typed
  load_value p h = by_form _ (value_step (TypedExprForm-F.Load (place_of_typed p))) h (search (rules, the_lemmas))

  pub convert_value : (a : TypedExpr) → e.form ≡ forms.Convert a → expr_of e ≡ exprs.Convert (expr_of a) e.kind
  unfolding form_valued valued
  convert_value a h = by_form _ (value_step (TypedExprForm-F.Convert (valued a))) h (search (rules, the_lemmas))

  pub unary_value : (op : UnaryOp) (a : TypedExpr) → e.form ≡ forms.Unary op a → expr_of e ≡ exprs.Unary op (expr_of a) a.kind
  unfolding form_valued valued
  unary_value op a h =
      by_form _ (value_step (TypedExprForm-F.Unary op (valued a))) h (search (rules, the_lemmas))
      ∙ ap (λ k. exprs.Unary op (expr_of a) k) (valued_kind a)

  pub binary_value : (op : BinaryOp) (a b : TypedExpr) → e.form ≡ forms.Binary op a b → expr_of e ≡ exprs.Binary op (expr_of a) (expr_of b) a.kind
  unfolding form_valued valued
  binary_value op a b h =
      by_form _ (value_step (TypedExprForm-F.Binary op (valued a) (valued b))) h (search (rules, the_lemmas))
      ∙ ap (λ k. exprs.Binary op (expr_of a) (expr_of b) k) (valued_kind a)

  pub both_value : (a b : TypedExpr) (cell : ℕ) → e.form ≡ forms.Both a b cell → expr_of e ≡ exprs.Load (cells.Local cell) e.kind
  unfolding form_valued valued
  both_value a b cell h = by_form _ (value_step (TypedExprForm-F.Both (valued a) (valued b) cell)) h (search (rules, the_lemmas))

  pub either_value : (a b : TypedExpr) (cell : ℕ) → e.form ≡ forms.Either a b cell → expr_of e ≡ exprs.Load (cells.Local cell) e.kind
  unfolding form_valued valued
  either_value a b cell h = by_form _ (value_step (TypedExprForm-F.Either (valued a) (valued b) cell)) h (search (rules, the_lemmas))

  pub choice_value : (a b c : TypedExpr) (cell : ℕ) → e.form ≡ forms.Choice a b c cell → expr_of e ≡ exprs.Load (cells.Local cell) e.kind
  unfolding form_valued valued
  choice_value a b c cell h = by_form _ (value_step (TypedExprForm-F.Choice (valued a) (valued b) (valued c) cell)) h (search (rules, the_lemmas))

  pub call_value : (c : TypedCall) → e.form ≡ forms.Call c → expr_of e ≡ exprs.Load (cells.Local (out-TypedCall c).cell) e.kind
  unfolding form_valued valued
  call_value c h = by_form _ (value_step (TypedExprForm-F.Call (out-TypedCall c).cell)) h (search (rules, the_lemmas))

pub ruleset value_laws = (constant_value, load_value, convert_value, unary_value, binary_value, both_value, either_value, choice_value, call_value)

module _ (p : TypedPlace) where
  place_is : place_of_typed p ≡ place_with (out-TypedPlace p).variable (option_map (λ (i : Valued). i.expr) (option_map valued (out-TypedPlace p).index))
  unfolding place_of_typed valued
  place_is = search (rules, the_lemmas)

  pub variable_place : (out-TypedPlace p).index ≡ None → place_of_typed p ≡ cell_of (out-TypedPlace p).variable.place
  variable_place h = place_is ∙ ap (λ o. place_with (out-TypedPlace p).variable (option_map (λ (i : Valued). i.expr) (option_map valued o))) h

  pub element_place : (i : TypedExpr) → (out-TypedPlace p).index ≡ Some i → place_of_typed p ≡ place_with (out-TypedPlace p).variable (Some (expr_of i))
  element_place i h = place_is ∙ ap (λ o. place_with (out-TypedPlace p).variable (option_map (λ (i : Valued). i.expr) (option_map valued o))) h

pub ruleset place_laws = (variable_place, element_place)
