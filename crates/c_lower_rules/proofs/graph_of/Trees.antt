-- What the trees of expressions make stands in an order.
use Rattle.std.proofs.Common.{◌≡◌, ℕ, List, [], ◌∷◌, map, Option, Some, None, sym, subst, rules}
use Rattle.std.specs.Prelude.{IfSome}
use Rattle.std.specs.List.{AllByRecursion}
use Rattle.std.specs.Option.{option_map}
use Rattle.fq_core.specs.declared.span.Span.{Span}
use Rattle.c_values.specs.declared.kinds.Kind.{Kind}
use Rattle.c_values.specs.declared.operators.BinaryOp.{BinaryOp}
use Rattle.c_values.specs.declared.operators.UnaryOp.{UnaryOp}
use Rattle.cfa.specs.declared.parts.Variable.{Variable}
use Rattle.c_typed_trees.specs.declared.expression.Callee.{Callee}
use Rattle.c_typed_trees.specs.declared.expression.TypedCall.{TypedCall, ind-TypedCall, roll-TypedCall}
use Rattle.c_typed_trees.specs.declared.expression.TypedExpr.{TypedExpr, ind-TypedExpr, roll-TypedExpr}
use Rattle.c_typed_trees.specs.declared.expression.TypedExprForm.{TypedExprForm, roll-TypedExprForm, the_lemmas as expression_lemmas}
use Rattle.c_typed_trees.specs.declared.expression.TypedExprForm.TheOpen.{TypedExpr-F, TypedExprForm-F, TypedPlace-F}
use Rattle.c_typed_trees.specs.declared.expression.TypedPlace.{TypedPlace, ind-TypedPlace, map-TypedPlace, roll-TypedPlace}
use Rattle.c_lower_rules.specs.graph_of.Expressions.{Calling, Shaped, both_cond, either_cond, shape_of, value_of, spot_of, calling_of, form_step}
use Rattle.c_lower_rules.proofs.graph_of.Flows.{IsValue, IsSpot, give_is, load_is, convert_is, unary_value_is, binary_is, truth_is, both_is, either_is, choice_is, call_pure_is, unsplit_is}

abbrev FormHas : TypedExprForm → Type 0
FormHas f = (span : Span) (kind : Kind) → IsValue (shape_of f span kind)

abbrev CallHas : TypedCall → Type 0
CallHas c = AllByRecursion IsValue (calling_of c).words

abbrev pub ValueHas : TypedExpr → Type 0
ValueHas x = IsValue (value_of x)

abbrev PlaceHas : TypedPlace → Type 0
PlaceHas p = IsSpot (spot_of p)

-- a form is what its step makes
form_is : (x : TypedExprForm-F TypedExprForm TypedCall TypedExpr TypedPlace) (made : Shaped) → shape_of (roll-TypedExprForm x) ≡ made → ((span : Span) (kind : Kind) → IsValue (made span kind)) → FormHas (roll-TypedExprForm x)
form_is x made e h = subst (λ (m : Shaped). (span : Span) (kind : Kind) → IsValue (m span kind)) (sym e) h

constant_at : (n : ℕ) → FormHas (roll-TypedExprForm (TypedExprForm-F.Constant n))
unfolding shape_of
constant_at n = form_is (TypedExprForm-F.Constant n) (form_step (TypedExprForm-F.Constant n)) (search (rules, expression_lemmas)) (λ span kind. unsplit_is span kind _ (λ u. give_is _ u.depth))

load_at : (p : TypedPlace) → PlaceHas p → FormHas (roll-TypedExprForm (TypedExprForm-F.Load p))
unfolding shape_of spot_of
load_at p h = form_is (TypedExprForm-F.Load p) (form_step (TypedExprForm-F.Load (spot_of p))) (search (rules, expression_lemmas)) (λ span kind. unsplit_is span kind _ (load_is (spot_of p) kind h))

convert_at : (x : TypedExpr) → ValueHas x → FormHas (roll-TypedExprForm (TypedExprForm-F.Convert x))
unfolding shape_of value_of
convert_at x h = form_is (TypedExprForm-F.Convert x) (form_step (TypedExprForm-F.Convert (value_of x))) (search (rules, expression_lemmas)) (λ span kind. unsplit_is span kind _ (convert_is (value_of x) kind h.pure))

unary_at : (op : UnaryOp) (x : TypedExpr) → ValueHas x → FormHas (roll-TypedExprForm (TypedExprForm-F.Unary op x))
unfolding shape_of value_of
unary_at op x h = form_is (TypedExprForm-F.Unary op x) (form_step (TypedExprForm-F.Unary op (value_of x))) (search (rules, expression_lemmas)) (λ span kind. unary_value_is span kind op (value_of x) h)

binary_at : (op : BinaryOp) (x y : TypedExpr) → ValueHas x → ValueHas y → FormHas (roll-TypedExprForm (TypedExprForm-F.Binary op x y))
unfolding shape_of value_of
binary_at op x y h i = form_is (TypedExprForm-F.Binary op x y) (form_step (TypedExprForm-F.Binary op (value_of x) (value_of y))) (search (rules, expression_lemmas)) (λ span kind. unsplit_is span kind _ (binary_is op (value_of x) (value_of y) h.pure i.pure))

both_at : (x y : TypedExpr) (cell : ℕ) → ValueHas x → ValueHas y → FormHas (roll-TypedExprForm (TypedExprForm-F.Both x y cell))
unfolding shape_of value_of
both_at x y cell h i =
    let c = both_is (value_of x) (value_of y) h.cond i.cond in
    form_is (TypedExprForm-F.Both x y cell) (form_step (TypedExprForm-F.Both (value_of x) (value_of y) cell)) (search (rules, expression_lemmas)) (λ span kind. record { pure = truth_is (both_cond (value_of x) (value_of y)) cell kind c; cond = c })

either_at : (x y : TypedExpr) (cell : ℕ) → ValueHas x → ValueHas y → FormHas (roll-TypedExprForm (TypedExprForm-F.Either x y cell))
unfolding shape_of value_of
either_at x y cell h i =
    let c = either_is (value_of x) (value_of y) h.cond i.cond in
    form_is (TypedExprForm-F.Either x y cell) (form_step (TypedExprForm-F.Either (value_of x) (value_of y) cell)) (search (rules, expression_lemmas)) (λ span kind. record { pure = truth_is (either_cond (value_of x) (value_of y)) cell kind c; cond = c })

choice_at : (c x y : TypedExpr) (cell : ℕ) → ValueHas c → ValueHas x → ValueHas y → FormHas (roll-TypedExprForm (TypedExprForm-F.Choice c x y cell))
unfolding shape_of value_of
choice_at c x y cell g h i = form_is (TypedExprForm-F.Choice c x y cell) (form_step (TypedExprForm-F.Choice (value_of c) (value_of x) (value_of y) cell)) (search (rules, expression_lemmas))
    (λ span kind. unsplit_is span kind _ (choice_is (value_of c) (value_of x) (value_of y) cell kind g.cond h.pure i.pure))

call_form_at : (c : TypedCall) → CallHas c → FormHas (roll-TypedExprForm (TypedExprForm-F.Call c))
unfolding shape_of calling_of
call_form_at c h = form_is (TypedExprForm-F.Call c) (form_step (TypedExprForm-F.Call (calling_of c))) (search (rules, expression_lemmas)) (λ span kind. unsplit_is span kind _ (call_pure_is (calling_of c) kind h))

-- ---- calls, places and expressions

pub values_are : (xs : List TypedExpr) → AllByRecursion ValueHas xs → AllByRecursion IsValue (map value_of xs)
values_are [] h = tt
values_are (x ∷ xs) h = (h.0, values_are xs h.1)

pub value_is : (o : Option TypedExpr) → IfSome o ValueHas → IfSome (option_map value_of o) IsValue
value_is None h = tt
value_is (Some x) h = h

call_at : (callee : Callee) (words : List TypedExpr) (arrays : List Variable) (cell : ℕ) → AllByRecursion ValueHas words → CallHas (roll-TypedCall (record { callee = callee; words = words; arrays = arrays; cell = cell }))
unfolding calling_of value_of
call_at callee words arrays cell h = subst (λ (c : Calling). AllByRecursion IsValue c.words) (sym e) (values_are words h)
  where
    e : calling_of (roll-TypedCall (record { callee = callee; words = words; arrays = arrays; cell = cell })) ≡ record { callee = callee; words = map value_of words; arrays = arrays; cell = cell }
    e = search (rules, expression_lemmas)

place_at : (z : TypedPlace-F TypedExprForm TypedCall TypedExpr TypedPlace) → IfSome z.index ValueHas → PlaceHas (roll-TypedPlace z)
unfolding spot_of value_of
place_at z h = subst IsSpot (sym e) (value_is z.index h)
  where
    e : spot_of (roll-TypedPlace z) ≡ record { variable = z.variable; index = option_map value_of z.index }
    e = search (rules, expression_lemmas)

expression_at : (x : TypedExpr-F TypedExprForm TypedCall TypedExpr TypedPlace) → FormHas x.form → ValueHas (roll-TypedExpr x)
unfolding value_of shape_of
expression_at x h = subst IsValue (sym e) (record { pure = (h x.span x.kind).pure; cond = (h x.span x.kind).cond })
  where
    e : value_of (roll-TypedExpr x) ≡ record { span = x.span; kind = x.kind; pure = (shape_of x.form x.span x.kind).pure; cond = (shape_of x.form x.span x.kind).cond }
    e = search (rules, expression_lemmas)

-- a place whose index is given with what holds of it
place_has : (y : TypedPlace-F ((f : TypedExprForm) × FormHas f) ((c : TypedCall) × CallHas c) ((x : TypedExpr) × ValueHas x) ((p : TypedPlace) × PlaceHas p))
    → PlaceHas (roll-TypedPlace (map-TypedPlace _ _ _ _ TypedExprForm TypedCall TypedExpr TypedPlace (λ q. q.0) (λ q. q.0) (λ q. q.0) (λ q. q.0) y))
place_has y = place_at _ (index y.variable y.index)
  where
    index : (v : Variable) (o : Option ((x : TypedExpr) × ValueHas x))
        → IfSome (map-TypedPlace ((f : TypedExprForm) × FormHas f) ((c : TypedCall) × CallHas c) ((x : TypedExpr) × ValueHas x) ((p : TypedPlace) × PlaceHas p) TypedExprForm TypedCall TypedExpr TypedPlace (λ q. q.0) (λ q. q.0) (λ q. q.0) (λ q. q.0) (record { variable = v; index = o })).index ValueHas
    index v None = tt
    index v (Some q) = q.1

module _ {S : Type 0} (f : S → TypedExpr) (g : (q : S) → ValueHas (f q)) where
  all_have : (ys : List S) → AllByRecursion ValueHas (map f ys)
  all_have [] = tt
  all_have (y ∷ ys) = (g y, all_have ys)

pub is_value : (x : TypedExpr) → ValueHas x
is_value x = ind-TypedExpr FormHas CallHas ValueHas PlaceHas
    (λ x'. elim [
      | TypedExprForm-F.Constant n ↦ λ e. subst (λ z. FormHas (roll-TypedExprForm z)) e (constant_at n)
      | TypedExprForm-F.Load p ↦ λ e. subst (λ z. FormHas (roll-TypedExprForm z)) e (load_at p.0 p.1)
      | TypedExprForm-F.Convert y ↦ λ e. subst (λ z. FormHas (roll-TypedExprForm z)) e (convert_at y.0 y.1)
      | TypedExprForm-F.Unary op y ↦ λ e. subst (λ z. FormHas (roll-TypedExprForm z)) e (unary_at op y.0 y.1)
      | TypedExprForm-F.Binary op y z' ↦ λ e. subst (λ z. FormHas (roll-TypedExprForm z)) e (binary_at op y.0 z'.0 y.1 z'.1)
      | TypedExprForm-F.Both y z' cell ↦ λ e. subst (λ z. FormHas (roll-TypedExprForm z)) e (both_at y.0 z'.0 cell y.1 z'.1)
      | TypedExprForm-F.Either y z' cell ↦ λ e. subst (λ z. FormHas (roll-TypedExprForm z)) e (either_at y.0 z'.0 cell y.1 z'.1)
      | TypedExprForm-F.Choice c y z' cell ↦ λ e. subst (λ z. FormHas (roll-TypedExprForm z)) e (choice_at c.0 y.0 z'.0 cell c.1 y.1 z'.1)
      | TypedExprForm-F.Call c ↦ λ e. subst (λ z. FormHas (roll-TypedExprForm z)) e (call_form_at c.0 c.1)
    ])
    (λ x' y e. subst (λ z. CallHas (roll-TypedCall z)) e (call_at y.callee _ y.arrays y.cell (all_have (λ q. q.0) (λ q. q.1) y.words)))
    (λ x' y e. subst (λ z. ValueHas (roll-TypedExpr z)) e (expression_at (record { span = y.span; kind = y.kind; form = y.form.0 }) y.form.1))
    (λ x' y e. subst (λ z. PlaceHas (roll-TypedPlace z)) e (place_has y)) x

-- ---- calls and places by themselves

pub is_spot : (p : TypedPlace) → IsSpot (spot_of p)
is_spot p = ind-TypedPlace (λ f. Unit {0}) (λ c. Unit {0}) (λ x. Unit {0}) PlaceHas (λ x y e. tt) (λ x y e. tt) (λ x y e. tt) (λ x y e. place_at x (index x.index)) p
  where
    index : (o : Option TypedExpr) → IfSome o ValueHas
    index None = tt
    index (Some x) = is_value x

pub is_call : (c : TypedCall) → AllByRecursion IsValue (calling_of c).words
is_call c = ind-TypedCall (λ f. Unit {0}) CallHas (λ x. Unit {0}) (λ p. Unit {0}) (λ x y e. tt) (λ x y e. call_at x.callee x.words x.arrays x.cell (words x.words)) (λ x y e. tt) (λ x y e. tt) c
  where
    words : (xs : List TypedExpr) → AllByRecursion ValueHas xs
    words [] = tt
    words (x ∷ xs) = (is_value x, words xs)
