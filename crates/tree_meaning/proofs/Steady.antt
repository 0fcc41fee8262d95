-- An expression's kind, how many outermost parts it has, and its rest do not depend on what calls do.
use Rattle.std.proofs.Common.{◌≡◌, ℕ, ◌+◌, drop, Option, Some, None, Ok, refl, sym, subst}
use Rattle.std.specs.Prelude.{IfSome}
use Rattle.c_values.specs.Kind.{converted}
use Rattle.c_values.specs.Operations.{unary_value}
use Rattle.c_values.specs.declared.kinds.Kind.{Kind}
use Rattle.c_values.specs.declared.operators.BinaryOp.{BinaryOp}
use Rattle.c_values.specs.declared.operators.UnaryOp.{UnaryOp}
use Rattle.cfa.specs.Values.{after_value}
use Rattle.cfa.specs.declared.parts.Variable.{Variable}
use Rattle.c_typed_trees.specs.declared.expression.TypedCall.{TypedCall}
use Rattle.c_typed_trees.specs.declared.expression.TypedExpr.{TypedExpr, ind-TypedExpr, roll-TypedExpr}
use Rattle.c_typed_trees.specs.declared.expression.TypedExprForm.{TypedExprForm, roll-TypedExprForm}
use Rattle.c_typed_trees.specs.declared.expression.TypedExprForm.TheOpen.{TypedExpr-F, TypedExprForm-F, TypedPlace-F}
use Rattle.c_typed_trees.specs.declared.expression.TypedPlace.{TypedPlace, map-TypedPlace, roll-TypedPlace}
use Rattle.c_typed_trees.specs.declared.unit.Typed.{Typed}
use Rattle.tree_meaning.specs.declared.activation.Activation.{Activation}
use Rattle.tree_meaning.specs.Activations.{element_at, read}
use Rattle.tree_meaning.specs.Expressions.{Meant, Placed, operated, placed_at}
use Rattle.tree_meaning.specs.Calls.{Calls}
use Rattle.tree_meaning.specs.Trees.{meant_form, meant, placed}
use Rattle.tree_meaning.specs.Laws.{RestsAreSteady, SameRest}
use Rattle.tree_meaning.proofs.TreeForms.{constant_is, load_is, convert_is, unary_is, binary_is, both_is, either_is, choice_is, call_form_is, expression_is, whole_is, element_is}

pub record SamePlace (p p' : Placed) : Type 0 where
  pub parts : p.parts ≡ p'.parts
  pub cell : p.cell ≡ p'.cell

module _ (t t' : Typed) (calls calls' : Calls) (a : Activation) where
  abbrev low : TypedExpr → Meant
  low = meant t calls a

  abbrev high : TypedExpr → Meant
  high = meant t' calls' a

  abbrev FormSteady : TypedExprForm → Type 0
  FormSteady f = (kind : Kind) → SameRest (meant_form t calls a f kind) (meant_form t' calls' a f kind)

  abbrev ValueSteady : TypedExpr → Type 0
  ValueSteady x = SameRest (low x) (high x)

  abbrev PlaceSteady : TypedPlace → Type 0
  PlaceSteady p = SamePlace (placed t calls a p) (placed t' calls' a p)

  form_is : (x : TypedExprForm-F TypedExprForm TypedCall TypedExpr TypedPlace) (m m' : Kind → Meant) → meant_form t calls a (roll-TypedExprForm x) ≡ m → meant_form t' calls' a (roll-TypedExprForm x) ≡ m' → ((kind : Kind) → SameRest (m kind) (m' kind)) → FormSteady (roll-TypedExprForm x)
  form_is x m m' e f h kind = subst (λ (g : Kind → Meant). SameRest (g kind) (meant_form t' calls' a (roll-TypedExprForm x) kind)) (sym e) (subst (λ (g : Kind → Meant). SameRest (m kind) (g kind)) (sym f) (h kind))

  constant_at : (v : ℕ) → FormSteady (roll-TypedExprForm (TypedExprForm-F.Constant v))
  constant_at v = form_is (TypedExprForm-F.Constant v) _ _ (constant_is t calls a v) (constant_is t' calls' a v) (λ kind. record { kind = refl; parts = refl; rest = refl })

  load_at : (p : TypedPlace) → PlaceSteady p → FormSteady (roll-TypedExprForm (TypedExprForm-F.Load p))
  load_at p h =
      form_is (TypedExprForm-F.Load p) _ _ (load_is t calls a p) (load_is t' calls' a p)
      (λ kind. record { kind = refl; parts = h.parts; rest = λ i vs cells. after_value (h.cell i vs cells) (λ cell. Ok (read cells kind cell)) })

  convert_at : (x : TypedExpr) → ValueSteady x → FormSteady (roll-TypedExprForm (TypedExprForm-F.Convert x))
  convert_at x h =
      form_is (TypedExprForm-F.Convert x) _ _ (convert_is t calls a x) (convert_is t' calls' a x)
      (λ kind. record { kind = refl; parts = h.parts; rest = λ i vs cells. after_value (h.rest i vs cells) (λ v. Ok (converted (h.kind i) kind v)) })

  unary_at : (op : UnaryOp) (x : TypedExpr) → ValueSteady x → FormSteady (roll-TypedExprForm (TypedExprForm-F.Unary op x))
  unary_at op x h =
      form_is (TypedExprForm-F.Unary op x) _ _ (unary_is t calls a op x) (unary_is t' calls' a op x)
      (λ kind. record { kind = refl; parts = h.parts; rest = λ i vs cells. after_value (h.rest i vs cells) (λ v. Ok (unary_value op (h.kind i) v)) })

  binary_at : (op : BinaryOp) (x y : TypedExpr) → ValueSteady x → ValueSteady y → FormSteady (roll-TypedExprForm (TypedExprForm-F.Binary op x y))
  binary_at op x y h g =
      form_is (TypedExprForm-F.Binary op x y) _ _ (binary_is t calls a op x y) (binary_is t' calls' a op x y)
      (λ kind. record {
        kind = refl;
        parts = λ i. h.parts i + g.parts i;
        rest = λ i vs cells. after_value (h.rest i vs cells) (λ v. after_value (g.rest i (drop (h.parts i) vs) cells) (λ w. operated op (h.kind i) (g.kind i) v w));
      })

  both_at : (x y : TypedExpr) (cell : ℕ) → FormSteady (roll-TypedExprForm (TypedExprForm-F.Both x y cell))
  both_at x y cell = form_is (TypedExprForm-F.Both x y cell) _ _ (both_is t calls a x y cell) (both_is t' calls' a x y cell) (λ kind. record { kind = refl; parts = refl; rest = refl })

  either_at : (x y : TypedExpr) (cell : ℕ) → FormSteady (roll-TypedExprForm (TypedExprForm-F.Either x y cell))
  either_at x y cell = form_is (TypedExprForm-F.Either x y cell) _ _ (either_is t calls a x y cell) (either_is t' calls' a x y cell) (λ kind. record { kind = refl; parts = refl; rest = refl })

  choice_at : (c x y : TypedExpr) (cell : ℕ) → FormSteady (roll-TypedExprForm (TypedExprForm-F.Choice c x y cell))
  choice_at c x y cell = form_is (TypedExprForm-F.Choice c x y cell) _ _ (choice_is t calls a c x y cell) (choice_is t' calls' a c x y cell) (λ kind. record { kind = refl; parts = refl; rest = refl })

  call_at : (c : TypedCall) → FormSteady (roll-TypedExprForm (TypedExprForm-F.Call c))
  call_at c = form_is (TypedExprForm-F.Call c) _ _ (call_form_is t calls a c) (call_form_is t' calls' a c) (λ kind. record { kind = refl; parts = refl; rest = refl })

  whole_at : (v : Variable) → PlaceSteady (roll-TypedPlace (record { variable = v; index = None }))
  whole_at v =
      subst (λ (p : Placed). SamePlace p (placed t' calls' a (roll-TypedPlace (record { variable = v; index = None })))) (sym (whole_is t calls a v))
      (subst (λ (p : Placed). SamePlace (placed_at a v None) p) (sym (whole_is t' calls' a v)) (record { parts = refl; cell = refl }))

  element_place : (v : Variable) (i : TypedExpr) → ValueSteady i → PlaceSteady (roll-TypedPlace (record { variable = v; index = Some i }))
  element_place v i h =
      subst (λ (p : Placed). SamePlace p (placed t' calls' a (roll-TypedPlace (record { variable = v; index = Some i })))) (sym (element_is t calls a v i))
      (subst (λ (p : Placed). SamePlace (placed_at a v (Some (low i))) p) (sym (element_is t' calls' a v i)) (record { parts = h.parts; cell = λ j vs cells. after_value (h.rest j vs cells) (λ k. element_at a v (h.kind j) k) }))

  place_at : (x : TypedPlace-F TypedExprForm TypedCall TypedExpr TypedPlace) → IfSome x.index ValueSteady → PlaceSteady (roll-TypedPlace x)
  place_at x h = by x.variable x.index h
    where
      by : (v : Variable) (o : Option TypedExpr) → IfSome o ValueSteady → PlaceSteady (roll-TypedPlace (record { variable = v; index = o }))
      by v None h = whole_at v
      by v (Some i) h = element_place v i h

  place_given : (y : TypedPlace-F ((f : TypedExprForm) × FormSteady f) ((q : TypedCall) × Unit {0}) ((x : TypedExpr) × ValueSteady x) ((p : TypedPlace) × PlaceSteady p))
      → PlaceSteady (roll-TypedPlace (map-TypedPlace _ _ _ _ TypedExprForm TypedCall TypedExpr TypedPlace (λ q. q.0) (λ q. q.0) (λ q. q.0) (λ q. q.0) y))
  place_given y = place_at _ (index y.variable y.index)
    where
      index : (v : Variable) (o : Option ((x : TypedExpr) × ValueSteady x))
          → IfSome (map-TypedPlace ((f : TypedExprForm) × FormSteady f) ((q : TypedCall) × Unit {0}) ((x : TypedExpr) × ValueSteady x) ((p : TypedPlace) × PlaceSteady p) TypedExprForm TypedCall TypedExpr TypedPlace (λ q. q.0) (λ q. q.0) (λ q. q.0) (λ q. q.0) (record { variable = v; index = o })).index ValueSteady
      index v None = tt
      index v (Some q) = q.1

  expression_at : (x : TypedExpr-F TypedExprForm TypedCall TypedExpr TypedPlace) → FormSteady x.form → ValueSteady (roll-TypedExpr x)
  expression_at x h = subst (λ (m : Meant). SameRest m (high (roll-TypedExpr x))) (sym (expression_is t calls a x)) (subst (λ (m : Meant). SameRest (meant_form t calls a x.form x.kind) m) (sym (expression_is t' calls' a x)) (h x.kind))

  pub value_steady : (x : TypedExpr) → ValueSteady x
  value_steady x = ind-TypedExpr FormSteady (λ (q : TypedCall). Unit {0}) ValueSteady PlaceSteady
      (λ x'. elim [
        | TypedExprForm-F.Constant v ↦ λ e. subst (λ z. FormSteady (roll-TypedExprForm z)) e (constant_at v)
        | TypedExprForm-F.Load p ↦ λ e. subst (λ z. FormSteady (roll-TypedExprForm z)) e (load_at p.0 p.1)
        | TypedExprForm-F.Convert y ↦ λ e. subst (λ z. FormSteady (roll-TypedExprForm z)) e (convert_at y.0 y.1)
        | TypedExprForm-F.Unary op y ↦ λ e. subst (λ z. FormSteady (roll-TypedExprForm z)) e (unary_at op y.0 y.1)
        | TypedExprForm-F.Binary op y z' ↦ λ e. subst (λ z. FormSteady (roll-TypedExprForm z)) e (binary_at op y.0 z'.0 y.1 z'.1)
        | TypedExprForm-F.Both y z' cell ↦ λ e. subst (λ z. FormSteady (roll-TypedExprForm z)) e (both_at y.0 z'.0 cell)
        | TypedExprForm-F.Either y z' cell ↦ λ e. subst (λ z. FormSteady (roll-TypedExprForm z)) e (either_at y.0 z'.0 cell)
        | TypedExprForm-F.Choice c y z' cell ↦ λ e. subst (λ z. FormSteady (roll-TypedExprForm z)) e (choice_at c.0 y.0 z'.0 cell)
        | TypedExprForm-F.Call q ↦ λ e. subst (λ z. FormSteady (roll-TypedExprForm z)) e (call_at q.0)
      ])
      (λ x' y e. tt)
      (λ x' y e. subst (λ z. ValueSteady (roll-TypedExpr z)) e (expression_at (record { span = y.span; kind = y.kind; form = y.form.0 }) y.form.1))
      (λ x' y e. subst (λ z. PlaceSteady (roll-TypedPlace z)) e (place_given y)) x

pub rests_are_steady : RestsAreSteady
rests_are_steady t t' calls calls' a x = value_steady t t' calls calls' a x
