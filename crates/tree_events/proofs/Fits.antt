-- When the forms of expressions fit, by their parts.
use Rattle.std.proofs.Common.{◌≡◌, ℕ, Bool, map, Some, None, rules}
use Rattle.std.specs.Prelude.{◌&&◌}
use Rattle.c_values.specs.Kind.{int, is_kind}
use Rattle.c_values.specs.Operations.{unary_kind, binary_kind}
use Rattle.c_values.specs.declared.kinds.Kind.{Kind}
use Rattle.c_values.specs.declared.operators.BinaryOp.{BinaryOp}
use Rattle.c_values.specs.declared.operators.UnaryOp.{UnaryOp}
use Rattle.cfa.specs.Kinds.{same_kind}
use Rattle.cfa.specs.declared.parts.Variable.{Variable}
use Rattle.c_typed_trees.specs.declared.expression.TypedCall.{TypedCall, roll-TypedCall}
use Rattle.c_typed_trees.specs.declared.expression.TypedExpr.{TypedExpr, roll-TypedExpr}
use Rattle.c_typed_trees.specs.declared.expression.TypedExprForm.{TypedExprForm, fold-TypedExprForm, roll-TypedExprForm, the_lemmas}
use Rattle.c_typed_trees.specs.declared.expression.TypedExprForm.TheOpen.{TypedCall-F, TypedExpr-F, TypedExprForm-F}
use Rattle.c_typed_trees.specs.declared.expression.TypedPlace.{TypedPlace, roll-TypedPlace}
use Rattle.c_typed_trees.specs.Fitting.{Nameable, Fit, CallFit, span_fits, is_cell, is_integer, is_array, operands_meet, gives, in_cell, callee_fits, expression_fit, place_fits, call_fit}
use Rattle.c_typed_trees.specs.Fitting as fitting

unfoldable pub form_fits : Nameable → TypedExprForm → Kind → Bool
form_fits n = fold-TypedExprForm (Kind → Bool) CallFit Fit Bool (fitting.form_step n) (fitting.call_step n) (fitting.expr_step n) (fitting.place_step n)

-- ---- when they fit

module _ (n : Nameable) where
  pub fit_load : (p : TypedPlace) → form_fits n (roll-TypedExprForm (TypedExprForm-F.Load p)) ≡ (λ kind. place_fits n p)
  unfolding form_fits place_fits
  fit_load p = search (rules, the_lemmas)

  pub fit_convert : (x : TypedExpr) → form_fits n (roll-TypedExprForm (TypedExprForm-F.Convert x)) ≡ (λ kind. (expression_fit n x).fits)
  unfolding form_fits expression_fit
  fit_convert x = search (rules, the_lemmas)

  pub fit_unary : (op : UnaryOp) (x : TypedExpr) → form_fits n (roll-TypedExprForm (TypedExprForm-F.Unary op x)) ≡ (λ kind. (expression_fit n x).fits && same_kind kind (unary_kind op (expression_fit n x).kind))
  unfolding form_fits expression_fit
  fit_unary op x = search (rules, the_lemmas)

  pub fit_binary : (op : BinaryOp) (x y : TypedExpr) → form_fits n (roll-TypedExprForm (TypedExprForm-F.Binary op x y)) ≡ (λ kind. (expression_fit n x).fits && (expression_fit n y).fits && operands_meet op (expression_fit n x).kind (expression_fit n y).kind && same_kind kind (binary_kind op (expression_fit n x).kind))
  unfolding form_fits expression_fit
  fit_binary op x y = search (rules, the_lemmas)

  pub fit_both : (x y : TypedExpr) (cell : ℕ) → form_fits n (roll-TypedExprForm (TypedExprForm-F.Both x y cell)) ≡ (λ kind. (expression_fit n x).fits && (expression_fit n y).fits && is_cell n cell && same_kind kind int)
  unfolding form_fits expression_fit
  fit_both x y cell = search (rules, the_lemmas)

  pub fit_either : (x y : TypedExpr) (cell : ℕ) → form_fits n (roll-TypedExprForm (TypedExprForm-F.Either x y cell)) ≡ (λ kind. (expression_fit n x).fits && (expression_fit n y).fits && is_cell n cell && same_kind kind int)
  unfolding form_fits expression_fit
  fit_either x y cell = search (rules, the_lemmas)

  pub fit_choice : (t x y : TypedExpr) (cell : ℕ) → form_fits n (roll-TypedExprForm (TypedExprForm-F.Choice t x y cell))
      ≡ (λ kind. (expression_fit n t).fits && (expression_fit n x).fits && (expression_fit n y).fits && is_cell n cell && same_kind kind (expression_fit n x).kind && same_kind kind (expression_fit n y).kind)
  unfolding form_fits expression_fit
  fit_choice t x y cell = search (rules, the_lemmas)

  pub fit_call_form : (q : TypedCall) → form_fits n (roll-TypedExprForm (TypedExprForm-F.Call q)) ≡ (λ kind. (call_fit n q).fits && gives (call_fit n q).result kind)
  unfolding form_fits call_fit
  fit_call_form q = search (rules, the_lemmas)

  pub fit_expression : (x : TypedExpr-F TypedExprForm TypedCall TypedExpr TypedPlace) → expression_fit n (roll-TypedExpr x) ≡ record { kind = x.kind; fits = is_kind x.kind && span_fits n x.span && form_fits n x.form x.kind }
  unfolding expression_fit form_fits
  fit_expression x = search (rules, the_lemmas)

  pub fit_call : (x : TypedCall-F TypedExprForm TypedCall TypedExpr TypedPlace) → call_fit n (roll-TypedCall x) ≡ in_cell n x.cell (callee_fits n x.callee (map (expression_fit n) x.words) x.arrays)
  unfolding call_fit expression_fit
  fit_call x = search (rules, the_lemmas)

  pub fit_whole : (v : Variable) → place_fits n (roll-TypedPlace (record { variable = v; index = None })) ≡ is_integer n v
  unfolding place_fits
  fit_whole v = search (rules, the_lemmas)

  pub fit_element : (v : Variable) (i : TypedExpr) → place_fits n (roll-TypedPlace (record { variable = v; index = Some i })) ≡ (is_array n v && (expression_fit n i).fits)
  unfolding place_fits expression_fit
  fit_element v i = search (rules, the_lemmas)

  -- the kind of a fit is that of the expression
  pub fit_kind : (x : TypedExpr) → (expression_fit n x).kind ≡ x.kind
  unfolding expression_fit
  fit_kind x = search (rules, the_lemmas)
