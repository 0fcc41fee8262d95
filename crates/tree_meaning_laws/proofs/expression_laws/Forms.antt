-- What each form of an expression is made into, which cells it names, and when it fits, by those of its parts.
use Rattle.std.proofs.Common.{◌≡◌, ℕ, Bool, [], ◌∷◌, map, Some, None, rules}
use Rattle.std.specs.Prelude.{◌&&◌}
use Rattle.c_values.specs.Kind.{int, is_kind}
use Rattle.c_values.specs.Operations.{unary_kind, binary_kind}
use Rattle.c_values.specs.declared.kinds.Kind.{Kind}
use Rattle.c_values.specs.declared.operators.BinaryOp.{BinaryOp}
use Rattle.c_values.specs.declared.operators.UnaryOp.{UnaryOp}
use Rattle.cfa.specs.Kinds.{same_kind}
use Rattle.cfa.specs.declared.parts.Variable.{Variable}
use Rattle.c_typed_trees.specs.declared.expression.TypedCall.{TypedCall, roll-TypedCall}
use Rattle.c_typed_trees.specs.declared.expression.TypedExpr.{TypedExpr, roll-TypedExpr}
use Rattle.c_typed_trees.specs.declared.expression.TypedExprForm.{TypedExprForm, fold-TypedExprForm, roll-TypedExprForm, the_lemmas}
use Rattle.c_typed_trees.specs.declared.expression.TypedExprForm.TheOpen.{TypedCall-F, TypedExpr-F, TypedExprForm-F}
use Rattle.c_typed_trees.specs.declared.expression.TypedPlace.{TypedPlace, roll-TypedPlace}
use Rattle.c_typed_trees.specs.Fitting.{Nameable, Fit, CallFit, span_fits, is_cell, is_integer, is_array, operands_meet, gives, in_cell, callee_fits, expression_fit, place_fits, call_fit}
use Rattle.c_typed_trees.specs.Fitting as fitting
use Rattle.c_lower_rules.specs.graph_of.Expressions.{form_step, shape_of, value_of, spot_of, calling_of}
use Rattle.tree_meaning_laws.specs.temporaries_apart.Named.{Named, no_names, names_then, names_at, names_in_order, with_variables, named, place_named, call_named}
use Rattle.tree_meaning_laws.specs.temporaries_apart.Named as naming

unfoldable pub form_named : TypedExprForm → Named
form_named = fold-TypedExprForm Named Named Named Named naming.form_step naming.call_step naming.expr_step naming.place_step

unfoldable pub form_fits : Nameable → TypedExprForm → Kind → Bool
form_fits n = fold-TypedExprForm (Kind → Bool) CallFit Fit Bool (fitting.form_step n) (fitting.call_step n) (fitting.expr_step n) (fitting.place_step n)

-- ---- what is made

pub made_constant : (v : ℕ) → shape_of (roll-TypedExprForm (TypedExprForm-F.Constant v)) ≡ form_step (TypedExprForm-F.Constant v)
unfolding shape_of
made_constant v = search (rules, the_lemmas)

pub made_load : (p : TypedPlace) → shape_of (roll-TypedExprForm (TypedExprForm-F.Load p)) ≡ form_step (TypedExprForm-F.Load (spot_of p))
unfolding shape_of spot_of
made_load p = search (rules, the_lemmas)

pub made_convert : (x : TypedExpr) → shape_of (roll-TypedExprForm (TypedExprForm-F.Convert x)) ≡ form_step (TypedExprForm-F.Convert (value_of x))
unfolding shape_of value_of
made_convert x = search (rules, the_lemmas)

pub made_unary : (op : UnaryOp) (x : TypedExpr) → shape_of (roll-TypedExprForm (TypedExprForm-F.Unary op x)) ≡ form_step (TypedExprForm-F.Unary op (value_of x))
unfolding shape_of value_of
made_unary op x = search (rules, the_lemmas)

pub made_binary : (op : BinaryOp) (x y : TypedExpr) → shape_of (roll-TypedExprForm (TypedExprForm-F.Binary op x y)) ≡ form_step (TypedExprForm-F.Binary op (value_of x) (value_of y))
unfolding shape_of value_of
made_binary op x y = search (rules, the_lemmas)

pub made_both : (x y : TypedExpr) (cell : ℕ) → shape_of (roll-TypedExprForm (TypedExprForm-F.Both x y cell)) ≡ form_step (TypedExprForm-F.Both (value_of x) (value_of y) cell)
unfolding shape_of value_of
made_both x y cell = search (rules, the_lemmas)

pub made_either : (x y : TypedExpr) (cell : ℕ) → shape_of (roll-TypedExprForm (TypedExprForm-F.Either x y cell)) ≡ form_step (TypedExprForm-F.Either (value_of x) (value_of y) cell)
unfolding shape_of value_of
made_either x y cell = search (rules, the_lemmas)

pub made_choice : (t x y : TypedExpr) (cell : ℕ) → shape_of (roll-TypedExprForm (TypedExprForm-F.Choice t x y cell)) ≡ form_step (TypedExprForm-F.Choice (value_of t) (value_of x) (value_of y) cell)
unfolding shape_of value_of
made_choice t x y cell = search (rules, the_lemmas)

pub made_call_form : (q : TypedCall) → shape_of (roll-TypedExprForm (TypedExprForm-F.Call q)) ≡ form_step (TypedExprForm-F.Call (calling_of q))
unfolding shape_of calling_of
made_call_form q = search (rules, the_lemmas)

pub made_expression : (x : TypedExpr-F TypedExprForm TypedCall TypedExpr TypedPlace) → value_of (roll-TypedExpr x) ≡ record { span = x.span; kind = x.kind; pure = (shape_of x.form x.span x.kind).pure; cond = (shape_of x.form x.span x.kind).cond }
unfolding value_of shape_of
made_expression x = search (rules, the_lemmas)

pub made_call : (x : TypedCall-F TypedExprForm TypedCall TypedExpr TypedPlace) → calling_of (roll-TypedCall x) ≡ record { callee = x.callee; words = map value_of x.words; arrays = x.arrays; cell = x.cell }
unfolding calling_of value_of
made_call x = search (rules, the_lemmas)

pub made_whole : (v : Variable) → spot_of (roll-TypedPlace (record { variable = v; index = None })) ≡ record { variable = v; index = None }
unfolding spot_of
made_whole v = search (rules, the_lemmas)

pub made_element : (v : Variable) (i : TypedExpr) → spot_of (roll-TypedPlace (record { variable = v; index = Some i })) ≡ record { variable = v; index = Some (value_of i) }
unfolding spot_of value_of
made_element v i = search (rules, the_lemmas)

-- ---- the cells that are named

pub named_constant : (v : ℕ) → form_named (roll-TypedExprForm (TypedExprForm-F.Constant v)) ≡ no_names
unfolding form_named
named_constant v = search (rules, the_lemmas)

pub named_load : (p : TypedPlace) → form_named (roll-TypedExprForm (TypedExprForm-F.Load p)) ≡ place_named p
unfolding form_named place_named
named_load p = search (rules, the_lemmas)

pub named_convert : (x : TypedExpr) → form_named (roll-TypedExprForm (TypedExprForm-F.Convert x)) ≡ named x
unfolding form_named named
named_convert x = search (rules, the_lemmas)

pub named_unary : (op : UnaryOp) (x : TypedExpr) → form_named (roll-TypedExprForm (TypedExprForm-F.Unary op x)) ≡ named x
unfolding form_named named
named_unary op x = search (rules, the_lemmas)

pub named_binary : (op : BinaryOp) (x y : TypedExpr) → form_named (roll-TypedExprForm (TypedExprForm-F.Binary op x y)) ≡ names_then (named x) (named y)
unfolding form_named named
named_binary op x y = search (rules, the_lemmas)

pub named_both : (x y : TypedExpr) (cell : ℕ) → form_named (roll-TypedExprForm (TypedExprForm-F.Both x y cell)) ≡ names_at cell (names_then (named x) (named y))
unfolding form_named named
named_both x y cell = search (rules, the_lemmas)

pub named_either : (x y : TypedExpr) (cell : ℕ) → form_named (roll-TypedExprForm (TypedExprForm-F.Either x y cell)) ≡ names_at cell (names_then (named x) (named y))
unfolding form_named named
named_either x y cell = search (rules, the_lemmas)

pub named_choice : (t x y : TypedExpr) (cell : ℕ) → form_named (roll-TypedExprForm (TypedExprForm-F.Choice t x y cell)) ≡ names_at cell (names_then (named t) (names_then (named x) (named y)))
unfolding form_named named
named_choice t x y cell = search (rules, the_lemmas)

pub named_call_form : (q : TypedCall) → form_named (roll-TypedExprForm (TypedExprForm-F.Call q)) ≡ call_named q
unfolding form_named call_named
named_call_form q = search (rules, the_lemmas)

pub named_expression : (x : TypedExpr-F TypedExprForm TypedCall TypedExpr TypedPlace) → named (roll-TypedExpr x) ≡ form_named x.form
unfolding named form_named
named_expression x = search (rules, the_lemmas)

pub named_call : (x : TypedCall-F TypedExprForm TypedCall TypedExpr TypedPlace) → call_named (roll-TypedCall x) ≡ names_at x.cell (with_variables x.arrays (names_in_order (map named x.words)))
unfolding call_named named
named_call x = search (rules, the_lemmas)

pub named_whole : (v : Variable) → place_named (roll-TypedPlace (record { variable = v; index = None })) ≡ with_variables (v ∷ []) no_names
unfolding place_named
named_whole v = search (rules, the_lemmas)

pub named_element : (v : Variable) (i : TypedExpr) → place_named (roll-TypedPlace (record { variable = v; index = Some i })) ≡ with_variables (v ∷ []) (named i)
unfolding place_named named
named_element v i = search (rules, the_lemmas)

-- ---- when they fit

module _ (n : Nameable) where
  pub fit_load : (p : TypedPlace) → form_fits n (roll-TypedExprForm (TypedExprForm-F.Load p)) ≡ (λ kind. place_fits n p)
  unfolding form_fits place_fits
  fit_load p = search (rules, the_lemmas)

  pub fit_convert : (x : TypedExpr) → form_fits n (roll-TypedExprForm (TypedExprForm-F.Convert x)) ≡ (λ kind. (expression_fit n x).fits)
  unfolding form_fits expression_fit
  fit_convert x = search (rules, the_lemmas)

  pub fit_unary : (op : UnaryOp) (x : TypedExpr) → form_fits n (roll-TypedExprForm (TypedExprForm-F.Unary op x)) ≡ (λ kind. (expression_fit n x).fits && same_kind kind (unary_kind op (expression_fit n x).kind))
  unfolding form_fits expression_fit
  fit_unary op x = search (rules, the_lemmas)

  pub fit_binary : (op : BinaryOp) (x y : TypedExpr) → form_fits n (roll-TypedExprForm (TypedExprForm-F.Binary op x y)) ≡ (λ kind. (expression_fit n x).fits && (expression_fit n y).fits && operands_meet op (expression_fit n x).kind (expression_fit n y).kind && same_kind kind (binary_kind op (expression_fit n x).kind))
  unfolding form_fits expression_fit
  fit_binary op x y = search (rules, the_lemmas)

  pub fit_both : (x y : TypedExpr) (cell : ℕ) → form_fits n (roll-TypedExprForm (TypedExprForm-F.Both x y cell)) ≡ (λ kind. (expression_fit n x).fits && (expression_fit n y).fits && is_cell n cell && same_kind kind int)
  unfolding form_fits expression_fit
  fit_both x y cell = search (rules, the_lemmas)

  pub fit_either : (x y : TypedExpr) (cell : ℕ) → form_fits n (roll-TypedExprForm (TypedExprForm-F.Either x y cell)) ≡ (λ kind. (expression_fit n x).fits && (expression_fit n y).fits && is_cell n cell && same_kind kind int)
  unfolding form_fits expression_fit
  fit_either x y cell = search (rules, the_lemmas)

  pub fit_choice : (t x y : TypedExpr) (cell : ℕ) → form_fits n (roll-TypedExprForm (TypedExprForm-F.Choice t x y cell))
      ≡ (λ kind. (expression_fit n t).fits && (expression_fit n x).fits && (expression_fit n y).fits && is_cell n cell && same_kind kind (expression_fit n x).kind && same_kind kind (expression_fit n y).kind)
  unfolding form_fits expression_fit
  fit_choice t x y cell = search (rules, the_lemmas)

  pub fit_call_form : (q : TypedCall) → form_fits n (roll-TypedExprForm (TypedExprForm-F.Call q)) ≡ (λ kind. (call_fit n q).fits && gives (call_fit n q).result kind)
  unfolding form_fits call_fit
  fit_call_form q = search (rules, the_lemmas)

  pub fit_expression : (x : TypedExpr-F TypedExprForm TypedCall TypedExpr TypedPlace) → expression_fit n (roll-TypedExpr x) ≡ record { kind = x.kind; fits = is_kind x.kind && span_fits n x.span && form_fits n x.form x.kind }
  unfolding expression_fit form_fits
  fit_expression x = search (rules, the_lemmas)

  pub fit_call : (x : TypedCall-F TypedExprForm TypedCall TypedExpr TypedPlace) → call_fit n (roll-TypedCall x) ≡ in_cell n x.cell (callee_fits n x.callee (map (expression_fit n) x.words) x.arrays)
  unfolding call_fit expression_fit
  fit_call x = search (rules, the_lemmas)

  pub fit_whole : (v : Variable) → place_fits n (roll-TypedPlace (record { variable = v; index = None })) ≡ is_integer n v
  unfolding place_fits
  fit_whole v = search (rules, the_lemmas)

  pub fit_element : (v : Variable) (i : TypedExpr) → place_fits n (roll-TypedPlace (record { variable = v; index = Some i })) ≡ (is_array n v && (expression_fit n i).fits)
  unfolding place_fits expression_fit
  fit_element v i = search (rules, the_lemmas)

  -- the kind of a fit is that of the expression
  pub fit_kind : (x : TypedExpr) → (expression_fit n x).kind ≡ x.kind
  unfolding expression_fit
  fit_kind x = search (rules, the_lemmas)
