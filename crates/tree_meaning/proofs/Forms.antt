-- What trees mean where a function runs, form by form.
use Rattle.std.proofs.Common.{◌≡◌, ℕ, List, map, Ok, ap, ◌∙◌, rules}
use Rattle.std.specs.Option.{option_map}
use Rattle.c_values.specs.Kind.{IsValue}
use Rattle.c_values.specs.declared.kinds.Kind.{Kind}
use Rattle.c_values.specs.declared.operators.BinaryOp.{BinaryOp}
use Rattle.c_values.specs.declared.operators.UnaryOp.{UnaryOp}
use Rattle.c_typed_trees.specs.declared.expression.TypedCall.{TypedCall, out-TypedCall}
use Rattle.c_typed_trees.specs.declared.expression.TypedExpr.{TypedExpr}
use Rattle.c_typed_trees.specs.declared.expression.TypedExprForm.{TypedExprForm, the_lemmas}
use Rattle.c_typed_trees.specs.declared.expression.TypedExprForm.TheVariants as forms
use Rattle.c_typed_trees.specs.declared.expression.TypedPlace.{TypedPlace, out-TypedPlace}
use Rattle.tree_meaning.specs.Calls.{call_of}
use Rattle.tree_meaning.specs.Expressions.{Meant, constant_meant, convert_meant, placed_at, load_meant, unary_meant, binary_meant, part_meant, both_does, either_does, choice_does}
use Rattle.tree_meaning.specs.Running.{Scene, meant_in, placed_in, call_in, value_in, FitExpression}
use Rattle.tree_meaning.specs.Trees.{meant_form, meant, placed, call_does, calls_in}
use Rattle.tree_meaning.proofs.ValueKinds.{known, values_are_of_kinds}
use Rattle.tree_meaning.proofs.Fits.{fit_kind}

module _ (c : Scene) where
  abbrev form_in : TypedExprForm → Kind → Meant
  form_in = meant_form c.unit (calls_in c.unit c.activation) c.activation

  -- ---- expressions

  shaped : (x : TypedExpr) → meant_in c x ≡ form_in x.form x.kind
  unfolding meant_in meant meant_form
  shaped x = search (rules, the_lemmas)

  by_form : (x : TypedExpr) (f : TypedExprForm) (made : Kind → Meant) → x.form ≡ f → form_in f ≡ made → meant_in c x ≡ made x.kind
  by_form x f made e h = shaped x ∙ ap (λ (g : TypedExprForm). form_in g x.kind) e ∙ ap (λ (g : Kind → Meant). g x.kind) h

  pub constant_in : (x : TypedExpr) (v : ℕ) → x.form ≡ forms.Constant v → meant_in c x ≡ constant_meant v x.kind
  unfolding meant_form
  constant_in x v e = by_form x _ (constant_meant v) e (search (rules, the_lemmas))

  pub load_in : (x : TypedExpr) (p : TypedPlace) → x.form ≡ forms.Load p → meant_in c x ≡ load_meant (placed_in c p) x.kind
  unfolding meant_form placed_in placed
  load_in x p e = by_form x _ (load_meant (placed_in c p)) e (search (rules, the_lemmas))

  pub convert_in : (x y : TypedExpr) → x.form ≡ forms.Convert y → meant_in c x ≡ convert_meant (meant_in c y) x.kind
  unfolding meant_form meant_in meant
  convert_in x y e = by_form x _ (convert_meant (meant_in c y)) e (search (rules, the_lemmas))

  pub unary_in : (x y : TypedExpr) (op : UnaryOp) → x.form ≡ forms.Unary op y → meant_in c x ≡ unary_meant op (meant_in c y) x.kind
  unfolding meant_form meant_in meant
  unary_in x y op e = by_form x _ (unary_meant op (meant_in c y)) e (search (rules, the_lemmas))

  pub binary_in : (x y z : TypedExpr) (op : BinaryOp) → x.form ≡ forms.Binary op y z → meant_in c x ≡ binary_meant op (meant_in c y) (meant_in c z) x.kind
  unfolding meant_form meant_in meant
  binary_in x y z op e = by_form x _ (binary_meant op (meant_in c y) (meant_in c z)) e (search (rules, the_lemmas))

  pub both_in : (x y z : TypedExpr) (cell : ℕ) → x.form ≡ forms.Both y z cell → meant_in c x ≡ part_meant (both_does (value_in c y) (value_in c z)) x.kind
  unfolding meant_form meant_in meant
  both_in x y z cell e = by_form x _ (part_meant (both_does (value_in c y) (value_in c z))) e (search (rules, the_lemmas))

  pub either_in : (x y z : TypedExpr) (cell : ℕ) → x.form ≡ forms.Either y z cell → meant_in c x ≡ part_meant (either_does (value_in c y) (value_in c z)) x.kind
  unfolding meant_form meant_in meant
  either_in x y z cell e = by_form x _ (part_meant (either_does (value_in c y) (value_in c z))) e (search (rules, the_lemmas))

  pub choice_in : (x w y z : TypedExpr) (cell : ℕ) → x.form ≡ forms.Choice w y z cell → meant_in c x ≡ part_meant (choice_does (value_in c w) (value_in c y) (value_in c z)) x.kind
  unfolding meant_form meant_in meant
  choice_in x w y z cell e = by_form x _ (part_meant (choice_does (value_in c w) (value_in c y) (value_in c z))) e (search (rules, the_lemmas))

  pub call_form_in : (x : TypedExpr) (q : TypedCall) → x.form ≡ forms.Call q → meant_in c x ≡ part_meant (call_in c q) x.kind
  unfolding meant_form call_in call_does
  call_form_in x q e = by_form x _ (part_meant (call_in c q)) e (search (rules, the_lemmas))

  -- ---- places

  pub place_in : (p : TypedPlace) → placed_in c p ≡ placed_at c.activation (out-TypedPlace p).variable (option_map (meant_in c) (out-TypedPlace p).index)
  unfolding placed_in placed meant_in meant
  place_in p = search (rules, the_lemmas)

  -- ---- calls

  pub calling_in : (q : TypedCall) → call_in c q ≡ (let d = out-TypedCall q in call_of c.unit (calls_in c.unit c.activation) c.activation d.callee (map (meant_in c) d.words) d.arrays)
  unfolding call_in call_does meant_in meant
  calling_in q = search (rules, the_lemmas)

  -- ---- kinds

  pub own_kind : (x : TypedExpr) → FitExpression x → (meant_in c x).kind ≡ x.kind
  unfolding meant_in
  own_kind x f = (known f.names c.unit (calls_in c.unit c.activation) c.activation x f.fits).kind ∙ fit_kind f.names x

  pub value_kind : (x : TypedExpr) (vs cells : List ℕ) (v : ℕ) → FitExpression x → (meant_in c x).rest vs cells ≡ Ok v → IsValue x.kind v
  unfolding meant_in
  value_kind x vs cells v f e = values_are_of_kinds f.names c.unit (calls_in c.unit c.activation) c.activation x vs cells v f.fits e
