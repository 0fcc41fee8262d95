-- What expressions are, form by form.
use Rattle.std.proofs.Common.{◌≡◌, ℕ, map, Bool, true, false, Option, Some, None, refl, sym, ap, ◌∙◌, rules}
use Rattle.std.specs.Option.{option_map}
use Rattle.fq_core.specs.declared.span.Span.{Span}
use Rattle.c_values.specs.declared.kinds.Kind.{Kind}
use Rattle.c_values.specs.declared.operators.BinaryOp.{BinaryOp}
use Rattle.c_values.specs.declared.operators.UnaryOp.{UnaryOp}
use Rattle.c_values.specs.declared.operators.UnaryOp.TheVariants as unary
use Rattle.cfa.specs.declared.parts.Variable.{Variable}
use Rattle.c_typed_trees.specs.declared.expression.TypedCall.{TypedCall, out-TypedCall}
use Rattle.c_typed_trees.specs.declared.expression.TypedExpr.{TypedExpr}
use Rattle.c_typed_trees.specs.declared.expression.TypedExprForm.{TypedExprForm, out-TypedExprForm, map-TypedExprForm, the_lemmas}
use Rattle.c_typed_trees.specs.declared.expression.TypedExprForm.TheVariants as forms
use Rattle.c_typed_trees.specs.declared.expression.TypedExprForm.TheOpen.{TypedExprForm-F}
use Rattle.c_typed_trees.specs.declared.expression.TypedPlace.{TypedPlace, out-TypedPlace}
use Rattle.c_lower_rules.specs.declared.graph_of.parts.Around.{Around}
use Rattle.c_lower_rules.specs.declared.graph_of.parts.Operand.{Operand}
use Rattle.c_lower_rules.specs.graph_of.Builder.{Flow, give, ◌then◌}
use Rattle.c_lower_rules.specs.graph_of.Expressions.{Value, Spot, Calling, Shaped, form_step, shape_of, value_of, spot_of, calling_of, spot_cell, spot_index, unary_value, unary_pure, convert_pure, truth_pure, choice_pure, call_pure, both_cond, either_cond, not_cond, other_cond}
use Rattle.c_lower.specs.Operands.{constant_operand, loaded_operand, unary_operand, binary_operand}

-- an expression is what its form makes
shaped : (x : TypedExpr) → value_of x ≡ record { span = x.span; kind = x.kind; pure = (shape_of x.form x.span x.kind).pure; cond = (shape_of x.form x.span x.kind).cond }
unfolding value_of shape_of
shaped x = search (rules, the_lemmas)

pure_by : (x : TypedExpr) (f : TypedExprForm) (made : Shaped) → x.form ≡ f → shape_of f ≡ made → (value_of x).pure ≡ (made x.span x.kind).pure
pure_by x f made e h = ap (λ (v : Value). v.pure) (shaped x) ∙ ap (λ g. (shape_of g x.span x.kind).pure) e ∙ ap (λ (g : Shaped). (g x.span x.kind).pure) h

cond_by : (x : TypedExpr) (f : TypedExprForm) (made : Shaped) → x.form ≡ f → shape_of f ≡ made → (value_of x).cond ≡ (made x.span x.kind).cond
cond_by x f made e h = ap (λ (v : Value). v.cond) (shaped x) ∙ ap (λ g. (shape_of g x.span x.kind).cond) e ∙ ap (λ (g : Shaped). (g x.span x.kind).cond) h

pub own_kind : (x : TypedExpr) → (value_of x).kind ≡ x.kind
own_kind x = ap (λ (v : Value). v.kind) (shaped x)

pub own_span : (x : TypedExpr) → (value_of x).span ≡ x.span
own_span x = ap (λ (v : Value). v.span) (shaped x)

spot_is : (p : TypedPlace) → spot_of p ≡ record { variable = (out-TypedPlace p).variable; index = option_map value_of (out-TypedPlace p).index }
unfolding spot_of value_of
spot_is p = search (rules, the_lemmas)

pub own_variable : (p : TypedPlace) → (spot_of p).variable ≡ (out-TypedPlace p).variable
own_variable p = ap (λ (s : Spot). s.variable) (spot_is p)

pub calling_is : (c : TypedCall) → calling_of c ≡ (let d = out-TypedCall c in record { callee = d.callee; words = map value_of d.words; arrays = d.arrays; cell = d.cell })
unfolding calling_of value_of
calling_is c = search (rules, the_lemmas)

-- ---- values

constant_form : (n : ℕ) → shape_of (forms.Constant n) ≡ form_step (TypedExprForm-F.Constant n)
unfolding shape_of
constant_form n = search (rules, the_lemmas)

load_form : (p : TypedPlace) → shape_of (forms.Load p) ≡ form_step (TypedExprForm-F.Load (spot_of p))
unfolding shape_of spot_of
load_form p = search (rules, the_lemmas)

convert_form : (y : TypedExpr) → shape_of (forms.Convert y) ≡ form_step (TypedExprForm-F.Convert (value_of y))
unfolding shape_of value_of
convert_form y = search (rules, the_lemmas)

unary_form : (op : UnaryOp) (y : TypedExpr) → shape_of (forms.Unary op y) ≡ form_step (TypedExprForm-F.Unary op (value_of y))
unfolding shape_of value_of
unary_form op y = search (rules, the_lemmas)

binary_form : (op : BinaryOp) (y z : TypedExpr) → shape_of (forms.Binary op y z) ≡ form_step (TypedExprForm-F.Binary op (value_of y) (value_of z))
unfolding shape_of value_of
binary_form op y z = search (rules, the_lemmas)

both_form : (y z : TypedExpr) (cell : ℕ) → shape_of (forms.Both y z cell) ≡ form_step (TypedExprForm-F.Both (value_of y) (value_of z) cell)
unfolding shape_of value_of
both_form y z cell = search (rules, the_lemmas)

either_form : (y z : TypedExpr) (cell : ℕ) → shape_of (forms.Either y z cell) ≡ form_step (TypedExprForm-F.Either (value_of y) (value_of z) cell)
unfolding shape_of value_of
either_form y z cell = search (rules, the_lemmas)

choice_form : (c y z : TypedExpr) (cell : ℕ) → shape_of (forms.Choice c y z cell) ≡ form_step (TypedExprForm-F.Choice (value_of c) (value_of y) (value_of z) cell)
unfolding shape_of value_of
choice_form c y z cell = search (rules, the_lemmas)

call_form : (c : TypedCall) → shape_of (forms.Call c) ≡ form_step (TypedExprForm-F.Call (calling_of c))
unfolding shape_of calling_of
call_form c = search (rules, the_lemmas)

module _ (u : Around) (x : TypedExpr) where
  pub constant_is : (n : ℕ) → x.form ≡ forms.Constant n → (value_of x).pure u ≡ give (constant_operand n x.kind)
  constant_is n e = ap (λ (p : Around → Flow Operand). p u) (pure_by x _ (form_step (TypedExprForm-F.Constant n)) e (constant_form n))

  pub load_is : (p : TypedPlace) → x.form ≡ forms.Load p → (value_of x).pure u ≡ (spot_cell (spot_of p) u then λ c. give (loaded_operand (out-TypedPlace p).variable.name x.kind c))
  load_is p e =
      ap (λ (f : Around → Flow Operand). f u) (pure_by x _ (form_step (TypedExprForm-F.Load (spot_of p))) e (load_form p))
      ∙ ap (λ (v : Variable). spot_cell (spot_of p) u then λ c. give (loaded_operand v.name x.kind c)) (own_variable p)

  pub convert_is : (y : TypedExpr) → x.form ≡ forms.Convert y → (value_of x).pure u ≡ convert_pure (value_of y) x.kind u
  convert_is y e = ap (λ (p : Around → Flow Operand). p u) (pure_by x _ (form_step (TypedExprForm-F.Convert (value_of y))) e (convert_form y))

  -- `!` as a value is the operator
  pub unary_is : (op : UnaryOp) (y : TypedExpr) → x.form ≡ forms.Unary op y → (value_of x).pure u ≡ ((value_of y).pure u then λ v. give (unary_operand op y.kind v))
  unary_is op y e =
      ap (λ (p : Around → Flow Operand). p u) (pure_by x _ (form_step (TypedExprForm-F.Unary op (value_of y))) e (unary_form op y)) ∙ same op
      ∙ ap (λ kind. (value_of y).pure u then λ v. give (unary_operand op kind v)) (own_kind y)
    where
      same : (op : UnaryOp) → (unary_value x.span x.kind op (value_of y)).pure u ≡ unary_pure op (value_of y) u
      same unary.Not = refl
      same unary.Neg = refl
      same unary.Complement = refl

  pub binary_is : (op : BinaryOp) (y z : TypedExpr) → x.form ≡ forms.Binary op y z → (value_of x).pure u ≡ ((value_of y).pure u then λ v. (value_of z).pure u then λ w. give (binary_operand op y.kind v w))
  binary_is op y z e =
      ap (λ (p : Around → Flow Operand). p u) (pure_by x _ (form_step (TypedExprForm-F.Binary op (value_of y) (value_of z))) e (binary_form op y z))
      ∙ ap (λ kind. (value_of y).pure u then λ v. (value_of z).pure u then λ w. give (binary_operand op kind v w)) (own_kind y)

  pub both_is : (y z : TypedExpr) (cell : ℕ) → x.form ≡ forms.Both y z cell → (value_of x).pure u ≡ truth_pure (both_cond (value_of y) (value_of z)) cell x.kind u
  both_is y z cell e = ap (λ (p : Around → Flow Operand). p u) (pure_by x _ (form_step (TypedExprForm-F.Both (value_of y) (value_of z) cell)) e (both_form y z cell))

  pub either_is : (y z : TypedExpr) (cell : ℕ) → x.form ≡ forms.Either y z cell → (value_of x).pure u ≡ truth_pure (either_cond (value_of y) (value_of z)) cell x.kind u
  either_is y z cell e = ap (λ (p : Around → Flow Operand). p u) (pure_by x _ (form_step (TypedExprForm-F.Either (value_of y) (value_of z) cell)) e (either_form y z cell))

  pub choice_is : (c y z : TypedExpr) (cell : ℕ) → x.form ≡ forms.Choice c y z cell → (value_of x).pure u ≡ choice_pure (value_of c) (value_of y) (value_of z) cell x.kind u
  choice_is c y z cell e = ap (λ (p : Around → Flow Operand). p u) (pure_by x _ (form_step (TypedExprForm-F.Choice (value_of c) (value_of y) (value_of z) cell)) e (choice_form c y z cell))

  pub call_is : (c : TypedCall) → x.form ≡ forms.Call c → (value_of x).pure u ≡ call_pure (calling_of c) x.kind u
  call_is c e = ap (λ (p : Around → Flow Operand). p u) (pure_by x _ (form_step (TypedExprForm-F.Call (calling_of c))) e (call_form c))

-- ---- places

module _ (u : Around) (p : TypedPlace) where
  pub no_index_is : (out-TypedPlace p).index ≡ None → spot_cell (spot_of p) u ≡ spot_index (out-TypedPlace p).variable None u
  no_index_is e = ap (λ (s : Spot). spot_cell s u) (spot_is p) ∙ ap (λ (o : Option TypedExpr). spot_index (out-TypedPlace p).variable (option_map value_of o) u) e

  pub index_is : (i : TypedExpr) → (out-TypedPlace p).index ≡ Some i → spot_cell (spot_of p) u ≡ spot_index (out-TypedPlace p).variable (Some (value_of i)) u
  index_is i e = ap (λ (s : Spot). spot_cell s u) (spot_is p) ∙ ap (λ (o : Option TypedExpr). spot_index (out-TypedPlace p).variable (option_map value_of o) u) e

-- ---- conditions

-- what a condition takes apart
abbrev pub splits_at : {A B C D : Type 0} → TypedExprForm-F A B C D → Bool
splits_at (TypedExprForm-F.Constant n) = false
splits_at (TypedExprForm-F.Load p) = false
splits_at (TypedExprForm-F.Convert x) = false
splits_at (TypedExprForm-F.Unary unary.Not x) = true
splits_at (TypedExprForm-F.Unary unary.Neg x) = false
splits_at (TypedExprForm-F.Unary unary.Complement x) = false
splits_at (TypedExprForm-F.Binary op x y) = false
splits_at (TypedExprForm-F.Both x y cell) = true
splits_at (TypedExprForm-F.Either x y cell) = true
splits_at (TypedExprForm-F.Choice c x y cell) = false
splits_at (TypedExprForm-F.Call c) = false

abbrev pub splits : TypedExprForm → Bool
splits f = splits_at (out-TypedExprForm f)

-- a form, by its layer
layered : TypedExprForm-F TypedExprForm TypedCall TypedExpr TypedPlace → Shaped
layered l = form_step (map-TypedExprForm TypedExprForm TypedCall TypedExpr TypedPlace Shaped Calling Value Spot shape_of calling_of value_of spot_of l)

by_layer : (f : TypedExprForm) → shape_of f ≡ layered (out-TypedExprForm f)
unfolding shape_of calling_of value_of spot_of layered
by_layer f = search (rules, the_lemmas)

layer_other : (span : Span) (kind : Kind) (l : TypedExprForm-F TypedExprForm TypedCall TypedExpr TypedPlace) → splits_at l ≡ false → (layered l span kind).cond ≡ other_cond span (layered l span kind).pure
unfolding layered
layer_other span kind (TypedExprForm-F.Constant n) h = refl
layer_other span kind (TypedExprForm-F.Load p) h = refl
layer_other span kind (TypedExprForm-F.Convert x) h = refl
layer_other span kind (TypedExprForm-F.Unary unary.Not x) h = absurd (cc)
layer_other span kind (TypedExprForm-F.Unary unary.Neg x) h = refl
layer_other span kind (TypedExprForm-F.Unary unary.Complement x) h = refl
layer_other span kind (TypedExprForm-F.Binary op x y) h = refl
layer_other span kind (TypedExprForm-F.Both x y cell) h = absurd (cc)
layer_other span kind (TypedExprForm-F.Either x y cell) h = absurd (cc)
layer_other span kind (TypedExprForm-F.Choice c x y cell) h = refl
layer_other span kind (TypedExprForm-F.Call c) h = refl

module _ (x : TypedExpr) where
  pub not_is : (y : TypedExpr) → x.form ≡ forms.Unary unary.Not y → (value_of x).cond ≡ not_cond (value_of y)
  not_is y e = cond_by x _ (form_step (TypedExprForm-F.Unary unary.Not (value_of y))) e (unary_form unary.Not y)

  pub both_cond_is : (y z : TypedExpr) (cell : ℕ) → x.form ≡ forms.Both y z cell → (value_of x).cond ≡ both_cond (value_of y) (value_of z)
  both_cond_is y z cell e = cond_by x _ (form_step (TypedExprForm-F.Both (value_of y) (value_of z) cell)) e (both_form y z cell)

  pub either_cond_is : (y z : TypedExpr) (cell : ℕ) → x.form ≡ forms.Either y z cell → (value_of x).cond ≡ either_cond (value_of y) (value_of z)
  either_cond_is y z cell e = cond_by x _ (form_step (TypedExprForm-F.Either (value_of y) (value_of z) cell)) e (either_form y z cell)

  -- any other
  pub other_is : splits x.form ≡ false → (value_of x).cond ≡ other_cond x.span (value_of x).pure
  other_is h =
      ap (λ (v : Value). v.cond) (shaped x) ∙ ap (λ (g : Shaped). (g x.span x.kind).cond) (by_layer x.form) ∙ layer_other x.span x.kind (out-TypedExprForm x.form) h
      ∙ ap (λ (g : Shaped). other_cond x.span (g x.span x.kind).pure) (sym (by_layer x.form)) ∙ ap (other_cond x.span) (sym (ap (λ (v : Value). v.pure) (shaped x)))
