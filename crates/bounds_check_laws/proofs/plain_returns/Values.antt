-- The edges of expressions return into plain cells alone.
use Rattle.std.proofs.Common.{◌≡◌, ℕ, ◌+◌, true, false, List, [], ◌∷◌, ◌++◌, map, Option, Some, None, refl, sym, subst, inr, rules}
use Rattle.std.specs.Prelude.{IfSome}
use Rattle.std.specs.List.{AllByRecursion}
use Rattle.std.specs.Option.{option_map}
use Rattle.fq_core.specs.declared.span.Span.{Span}
use Rattle.c_values.specs.Kind.{int}
use Rattle.c_values.specs.declared.kinds.Kind.{Kind}
use Rattle.c_values.specs.declared.operators.BinaryOp.{BinaryOp}
use Rattle.c_values.specs.declared.operators.UnaryOp.{UnaryOp}
use Rattle.c_values.specs.declared.operators.UnaryOp.TheVariants as unary
use Rattle.cfa.specs.declared.expr.CellPlace.{CellPlace}
use Rattle.cfa.specs.declared.expr.CellPlace.TheVariants as place
use Rattle.cfa.specs.declared.expr.Expr.{Expr}
use Rattle.cfa.specs.declared.expr.Expr.TheVariants as expr
use Rattle.cfa.specs.declared.parts.Operation.TheVariants.{Call, Return}
use Rattle.cfa.specs.declared.parts.Variable.{Variable}
use Rattle.c_typed_trees.specs.declared.expression.Callee.{Callee}
use Rattle.c_typed_trees.specs.declared.expression.Callee.TheVariants.{Defined, Input}
use Rattle.c_typed_trees.specs.declared.expression.TypedCall.{TypedCall, ind-TypedCall, roll-TypedCall}
use Rattle.c_typed_trees.specs.declared.expression.TypedExpr.{TypedExpr, ind-TypedExpr, roll-TypedExpr}
use Rattle.c_typed_trees.specs.declared.expression.TypedExprForm.{TypedExprForm, roll-TypedExprForm, the_lemmas as expression_lemmas}
use Rattle.c_typed_trees.specs.declared.expression.TypedExprForm.TheOpen.{TypedExpr-F, TypedExprForm-F, TypedPlace-F}
use Rattle.c_typed_trees.specs.declared.expression.TypedPlace.{TypedPlace, ind-TypedPlace, map-TypedPlace, roll-TypedPlace}
use Rattle.c_lower_rules.specs.graph_of.Builder.{Builder, Flow, node, give, ◌then◌, ending}
use Rattle.c_lower_rules.specs.graph_of.Edges.{deciding, entry_of, exit_of, guard, guards, node_at, node_here, put, step}
use Rattle.c_lower_rules.specs.declared.graph_of.parts.Around.{Around}
use Rattle.c_lower_rules.specs.declared.graph_of.parts.Operand.{Operand}
use Rattle.c_lower_rules.specs.declared.graph_of.parts.Target.{Target}
use Rattle.c_lower_rules.specs.graph_of.Expressions.{Calling, Shaped, Spot, Value, binary_pure, both_cond, call_edges, call_pure, calling_of, cell_of, choice_pure, convert_pure, either_cond, element_of, form_step, load_pure, other_cond, part_row, shape_of, spot_cell, spot_index, spot_of, truth_pure, unary_pure, unary_value, value_of, words_in_order, array_of, reads_of}
use Rattle.bounds_check_laws.specs.ending_laws.Asking.{IsPlain}
use Rattle.bounds_check_laws.proofs.plain_returns.Flows.{Plain, PlainFlow, ending_is, give_is, in_order_is, then_is}

abbrev pub PlainPure : {A : Type 0} → (Around → Flow A) → Type 0
PlainPure x = (u : Around) → PlainFlow (x u)

abbrev pub PlainCond : (Around → ℕ → ℕ → ℕ → Builder) → Type 0
PlainCond c = (u : Around) (a t f : ℕ) → Plain (c u a t f)

pub record IsPlainValue (x : Value) : Type 0 where
  pub pure : PlainPure x.pure
  pub cond : PlainCond x.cond

abbrev pub ArePlainValues : List Value → Type 0
ArePlainValues xs = AllByRecursion IsPlainValue xs

abbrev pub IsPlainSpot : Spot → Type 0
IsPlainSpot p = IfSome p.index IsPlainValue

-- ---- places, words and calls

pub spot_is : (v : Variable) (o : Option Value) → IfSome o IsPlainValue → PlainPure (spot_index v o)
spot_is v None h u = give_is {A = Target} (record { place = cell_of v.place; reads = [] })
spot_is v (Some index) h u =
    then_is (index.pure u) (λ i. give (let t : Target = record { place = element_of v i.value; reads = i.reads } in t)) (h.pure u) (λ i. give_is {A = Target} (record { place = element_of v i.value; reads = i.reads }))

pub words_are : (xs : List Value) → ArePlainValues xs → PlainPure (words_in_order xs)
words_are [] h u = give_is {A = List Operand} []
words_are (x ∷ xs) h u =
    then_is (x.pure u) (λ v. words_in_order xs u then λ vs. give (v ∷ vs)) (h.0.pure u)
    (λ v. then_is (words_in_order xs u) (λ vs. give (v ∷ vs)) (words_are xs h.1 u) (λ vs. give_is {A = List Operand} (v ∷ vs)))

-- no edge, or one that doesn't return
abbrev pub none : (n e k : ℕ) → Unit {0}
none n e k = tt

abbrev pub one : (n e k : ℕ) → Unit {0} × Unit {0}
one n e k = (tt, tt)

pub call_edges_are : (c : Callee) (arrays : List Variable) (u : Around) (words : List Operand) (dest : Option CellPlace) (a z : ℕ) → IsPlain dest → Plain (call_edges c arrays u words dest a z)
call_edges_are (Defined i) arrays u words dest a z plain n e k =
    in_order_is
    (step u (Call i (map (λ (w : Operand). w.value) words) (map (λ (v : Variable). array_of v.place) arrays)) [] (reads_of words arrays) a (entry_of i) ∷ step u (Return e dest) [] [] (exit_of i) z ∷ [])
    (one, ((λ x y w. (plain, tt)), tt)) n e k
call_edges_are (Input i) arrays u words dest a z plain n e k = (tt, tt)

-- ---- conditions

guards_are : (u : Around) (span : Span) (test : Expr) (reads : List (List ℕ)) (a t f : ℕ) → Plain (guards u span test reads a t f)
guards_are u span test reads a t f n e k = in_order_is (guard u span test reads true a t ∷ guard u span test reads false a f ∷ []) (one, (one, tt)) n e k

other_is : (span : Span) (x : Around → Flow Operand) → PlainPure x → PlainCond (other_cond span x)
other_is span x h u a t f = ending_is (x u) (λ v n. guards u span v.value v.reads n t f) (h u) (λ v n. guards_are u span v.value v.reads n t f) a

both_is : (x y : Value) → IsPlainValue x → IsPlainValue y → PlainCond (both_cond x y)
both_is x y hx hy u a t f m e k = in_order_is (node (node_at u y.span) ∷ x.cond u a m f ∷ y.cond u m t f ∷ []) (none, (hx.cond u a m f, (hy.cond u m t f, tt))) m e k

either_is : (x y : Value) → IsPlainValue x → IsPlainValue y → PlainCond (either_cond x y)
either_is x y hx hy u a t f m e k = in_order_is (node (node_at u y.span) ∷ x.cond u a t m ∷ y.cond u m t f ∷ []) (none, (hx.cond u a t m, (hy.cond u m t f, tt))) m e k

-- ---- values

unsplit_is : (span : Span) (kind : Kind) (x : Around → Flow Operand) → PlainPure x → IsPlainValue (record { span = span; kind = kind; pure = x; cond = other_cond span x })
unsplit_is span kind x h = record { pure = h; cond = other_is span x h }

truth_is : (c : Around → ℕ → ℕ → ℕ → Builder) (cell : ℕ) (kind : Kind) → PlainCond c → PlainPure (truth_pure c cell kind)
truth_is c cell kind h u a n e k =
    in_order_is
    (node_here u ∷ node_here u ∷ node_here u ∷ c (deciding u n (n + 1)) a n (n + 1) ∷ put u cell (expr.Constant 1 int) [] n (n + 2) ∷ put u cell (expr.Constant 0 int) [] (n + 1) (n + 2) ∷ [])
    (none, (none, (none, (h (deciding u n (n + 1)) a n (n + 1), (one, (one, tt)))))) n e k

part_is : (x : Value) (cell : ℕ) (u : Around) (a m : ℕ) → IsPlainValue x → Plain (part_row x cell u a m)
part_is x cell u a m h = ending_is (x.pure u) (λ v b. put u cell v.value v.reads b m) (h.pure u) (λ v b. one) a

choice_is : (c x y : Value) (cell : ℕ) (kind : Kind) → IsPlainValue c → IsPlainValue x → IsPlainValue y → PlainPure (choice_pure c x y cell kind)
choice_is c x y cell kind hc hx hy u a n e k =
    in_order_is (node_here u ∷ node_here u ∷ node_here u ∷ c.cond (deciding u n (n + 1)) a n (n + 1) ∷ part_row x cell u n (n + 2) ∷ part_row y cell u (n + 1) (n + 2) ∷ [])
    (none, (none, (none, (hc.cond (deciding u n (n + 1)) a n (n + 1), (part_is x cell u n (n + 2) hx, (part_is y cell u (n + 1) (n + 2) hy, tt)))))) n e k

call_is : (c : Calling) (kind : Kind) → ArePlainValues c.words → PlainPure (call_pure c kind)
call_is c kind h u a n e k =
    let P : IsPlain (Some (place.Local c.cell)) = (c.cell, inr refl) in
    in_order_is (node_here u ∷ ending (words_in_order c.words u) (λ ws b. call_edges c.callee c.arrays u ws (Some (place.Local c.cell)) b n) a ∷ [])
    (none, (ending_is (words_in_order c.words u) (λ ws b. call_edges c.callee c.arrays u ws (Some (place.Local c.cell)) b n) (words_are c.words h u) (λ ws b. call_edges_are c.callee c.arrays u ws (Some (place.Local c.cell)) b n P) a, tt)) n e k

-- a flow, and what is made of what it gives
pub gives_is : {A B : Type 0} (x : Flow A) (f : A → B) → PlainFlow x → PlainFlow (x then λ v. give (f v))
gives_is x f h = then_is x (λ v. give (f v)) h (λ v. give_is (f v))

load_is : (p : Spot) (kind : Kind) → IsPlainSpot p → PlainPure (load_pure p kind)
load_is p kind h u = gives_is (spot_cell p u) (λ c. let o : Operand = record { value = expr.Load c.place kind; reads = p.variable.name ∷ c.reads } in o) (spot_is p.variable p.index h u)

convert_is : (x : Value) (kind : Kind) → IsPlainValue x → PlainPure (convert_pure x kind)
convert_is x kind h u = gives_is (x.pure u) (λ v. let o : Operand = record { value = expr.Convert v.value kind; reads = v.reads } in o) (h.pure u)

unary_is : (op : UnaryOp) (x : Value) → IsPlainValue x → PlainPure (unary_pure op x)
unary_is op x h u = gives_is (x.pure u) (λ v. let o : Operand = record { value = expr.Unary op v.value x.kind; reads = v.reads } in o) (h.pure u)

binary_is : (op : BinaryOp) (x y : Value) → IsPlainValue x → IsPlainValue y → PlainPure (binary_pure op x y)
binary_is op x y hx hy u =
    then_is (x.pure u) (λ v. y.pure u then λ w. give (let o : Operand = record { value = expr.Binary op v.value w.value x.kind; reads = v.reads ++ w.reads } in o)) (hx.pure u)
    (λ v. gives_is (y.pure u) (λ w. let o : Operand = record { value = expr.Binary op v.value w.value x.kind; reads = v.reads ++ w.reads } in o) (hy.pure u))

unary_value_is : (span : Span) (kind : Kind) (op : UnaryOp) (x : Value) → IsPlainValue x → IsPlainValue (unary_value span kind op x)
unary_value_is span kind unary.Not x h = record { pure = unary_is unary.Not x h; cond = λ u a t f. h.cond u a f t }
unary_value_is span kind unary.Neg x h = unsplit_is span kind (unary_pure unary.Neg x) (unary_is unary.Neg x h)
unary_value_is span kind unary.Complement x h = unsplit_is span kind (unary_pure unary.Complement x) (unary_is unary.Complement x h)

-- ---- the trees

abbrev FormHas : TypedExprForm → Type 0
FormHas f = (span : Span) (kind : Kind) → IsPlainValue (shape_of f span kind)

abbrev CallHas : TypedCall → Type 0
CallHas c = ArePlainValues (calling_of c).words

abbrev ValueHas : TypedExpr → Type 0
ValueHas x = IsPlainValue (value_of x)

abbrev PlaceHas : TypedPlace → Type 0
PlaceHas p = IsPlainSpot (spot_of p)

form_is : (x : TypedExprForm-F TypedExprForm TypedCall TypedExpr TypedPlace) (made : Shaped) → shape_of (roll-TypedExprForm x) ≡ made → ((span : Span) (kind : Kind) → IsPlainValue (made span kind)) → FormHas (roll-TypedExprForm x)
form_is x made e h span kind = subst (λ (m : Shaped). IsPlainValue (m span kind)) (sym e) (h span kind)

constant_at : (n : ℕ) → FormHas (roll-TypedExprForm (TypedExprForm-F.Constant n))
unfolding shape_of
constant_at n = form_is (TypedExprForm-F.Constant n) (form_step (TypedExprForm-F.Constant n)) (search (rules, expression_lemmas)) (λ span kind. unsplit_is span kind (λ u. give (let o : Operand = record { value = expr.Constant n kind; reads = [] } in o)) (λ u. give_is {A = Operand} (record { value = expr.Constant n kind; reads = [] })))

load_at : (p : TypedPlace) → PlaceHas p → FormHas (roll-TypedExprForm (TypedExprForm-F.Load p))
unfolding shape_of spot_of
load_at p h = form_is (TypedExprForm-F.Load p) (form_step (TypedExprForm-F.Load (spot_of p))) (search (rules, expression_lemmas)) (λ span kind. unsplit_is span kind (load_pure (spot_of p) kind) (load_is (spot_of p) kind h))

convert_at : (x : TypedExpr) → ValueHas x → FormHas (roll-TypedExprForm (TypedExprForm-F.Convert x))
unfolding shape_of value_of
convert_at x h = form_is (TypedExprForm-F.Convert x) (form_step (TypedExprForm-F.Convert (value_of x))) (search (rules, expression_lemmas)) (λ span kind. unsplit_is span kind (convert_pure (value_of x) kind) (convert_is (value_of x) kind h))

unary_at : (op : UnaryOp) (x : TypedExpr) → ValueHas x → FormHas (roll-TypedExprForm (TypedExprForm-F.Unary op x))
unfolding shape_of value_of
unary_at op x h = form_is (TypedExprForm-F.Unary op x) (form_step (TypedExprForm-F.Unary op (value_of x))) (search (rules, expression_lemmas)) (λ span kind. unary_value_is span kind op (value_of x) h)

binary_at : (op : BinaryOp) (x y : TypedExpr) → ValueHas x → ValueHas y → FormHas (roll-TypedExprForm (TypedExprForm-F.Binary op x y))
unfolding shape_of value_of
binary_at op x y h i = form_is (TypedExprForm-F.Binary op x y) (form_step (TypedExprForm-F.Binary op (value_of x) (value_of y))) (search (rules, expression_lemmas)) (λ span kind. unsplit_is span kind (binary_pure op (value_of x) (value_of y)) (binary_is op (value_of x) (value_of y) h i))

both_at : (x y : TypedExpr) (cell : ℕ) → ValueHas x → ValueHas y → FormHas (roll-TypedExprForm (TypedExprForm-F.Both x y cell))
unfolding shape_of value_of
both_at x y cell h i = form_is (TypedExprForm-F.Both x y cell) (form_step (TypedExprForm-F.Both (value_of x) (value_of y) cell)) (search (rules, expression_lemmas))
    (λ span kind. let c = both_is (value_of x) (value_of y) h i in record { pure = truth_is (both_cond (value_of x) (value_of y)) cell kind c; cond = c })

either_at : (x y : TypedExpr) (cell : ℕ) → ValueHas x → ValueHas y → FormHas (roll-TypedExprForm (TypedExprForm-F.Either x y cell))
unfolding shape_of value_of
either_at x y cell h i = form_is (TypedExprForm-F.Either x y cell) (form_step (TypedExprForm-F.Either (value_of x) (value_of y) cell)) (search (rules, expression_lemmas))
    (λ span kind. let c = either_is (value_of x) (value_of y) h i in record { pure = truth_is (either_cond (value_of x) (value_of y)) cell kind c; cond = c })

choice_at : (t x y : TypedExpr) (cell : ℕ) → ValueHas t → ValueHas x → ValueHas y → FormHas (roll-TypedExprForm (TypedExprForm-F.Choice t x y cell))
unfolding shape_of value_of
choice_at t x y cell g h i = form_is (TypedExprForm-F.Choice t x y cell) (form_step (TypedExprForm-F.Choice (value_of t) (value_of x) (value_of y) cell)) (search (rules, expression_lemmas))
    (λ span kind. unsplit_is span kind (choice_pure (value_of t) (value_of x) (value_of y) cell kind) (choice_is (value_of t) (value_of x) (value_of y) cell kind g h i))

call_form_at : (q : TypedCall) → CallHas q → FormHas (roll-TypedExprForm (TypedExprForm-F.Call q))
unfolding shape_of calling_of
call_form_at q h = form_is (TypedExprForm-F.Call q) (form_step (TypedExprForm-F.Call (calling_of q))) (search (rules, expression_lemmas)) (λ span kind. unsplit_is span kind (call_pure (calling_of q) kind) (call_is (calling_of q) kind h))

-- ---- calls, places and expressions

words_hold : (xs : List TypedExpr) → AllByRecursion ValueHas xs → ArePlainValues (map value_of xs)
words_hold [] h = tt
words_hold (x ∷ xs) h = (h.0, words_hold xs h.1)

call_at : (callee : Callee) (words : List TypedExpr) (arrays : List Variable) (cell : ℕ) → AllByRecursion ValueHas words → CallHas (roll-TypedCall (record { callee = callee; words = words; arrays = arrays; cell = cell }))
unfolding calling_of value_of
call_at callee words arrays cell h = subst (λ (q : Calling). ArePlainValues q.words) (sym e) (words_hold words h)
  where
    e : calling_of (roll-TypedCall (record { callee = callee; words = words; arrays = arrays; cell = cell })) ≡ record { callee = callee; words = map value_of words; arrays = arrays; cell = cell }
    e = search (rules, expression_lemmas)

index_holds : (o : Option TypedExpr) → IfSome o ValueHas → IfSome (option_map value_of o) IsPlainValue
index_holds None h = tt
index_holds (Some x) h = h

place_at : (z : TypedPlace-F TypedExprForm TypedCall TypedExpr TypedPlace) → IfSome z.index ValueHas → PlaceHas (roll-TypedPlace z)
unfolding spot_of value_of
place_at z h = subst IsPlainSpot (sym e) (index_holds z.index h)
  where
    e : spot_of (roll-TypedPlace z) ≡ record { variable = z.variable; index = option_map value_of z.index }
    e = search (rules, expression_lemmas)

expression_at : (x : TypedExpr-F TypedExprForm TypedCall TypedExpr TypedPlace) → FormHas x.form → ValueHas (roll-TypedExpr x)
unfolding value_of shape_of
expression_at x h = subst IsPlainValue (sym e) (record { pure = (h x.span x.kind).pure; cond = (h x.span x.kind).cond })
  where
    e : value_of (roll-TypedExpr x) ≡ record { span = x.span; kind = x.kind; pure = (shape_of x.form x.span x.kind).pure; cond = (shape_of x.form x.span x.kind).cond }
    e = search (rules, expression_lemmas)

place_has : (y : TypedPlace-F ((f : TypedExprForm) × FormHas f) ((q : TypedCall) × CallHas q) ((x : TypedExpr) × ValueHas x) ((p : TypedPlace) × PlaceHas p))
    → PlaceHas (roll-TypedPlace (map-TypedPlace _ _ _ _ TypedExprForm TypedCall TypedExpr TypedPlace (λ q. q.0) (λ q. q.0) (λ q. q.0) (λ q. q.0) y))
place_has y = place_at _ (index y.variable y.index)
  where
    index : (v : Variable) (o : Option ((x : TypedExpr) × ValueHas x))
        → IfSome (map-TypedPlace ((f : TypedExprForm) × FormHas f) ((q : TypedCall) × CallHas q) ((x : TypedExpr) × ValueHas x) ((p : TypedPlace) × PlaceHas p) TypedExprForm TypedCall TypedExpr TypedPlace (λ q. q.0) (λ q. q.0) (λ q. q.0) (λ q. q.0) (record { variable = v; index = o })).index ValueHas
    index v None = tt
    index v (Some q) = q.1

module _ {S : Type 0} (f : S → TypedExpr) (g : (q : S) → ValueHas (f q)) where
  all_have : (ys : List S) → AllByRecursion ValueHas (map f ys)
  all_have [] = tt
  all_have (y ∷ ys) = (g y, all_have ys)

pub value_is : (x : TypedExpr) → ValueHas x
value_is x = ind-TypedExpr FormHas CallHas ValueHas PlaceHas
    (λ x'. elim [
      | TypedExprForm-F.Constant n ↦ λ e. subst (λ z. FormHas (roll-TypedExprForm z)) e (constant_at n)
      | TypedExprForm-F.Load p ↦ λ e. subst (λ z. FormHas (roll-TypedExprForm z)) e (load_at p.0 p.1)
      | TypedExprForm-F.Convert y ↦ λ e. subst (λ z. FormHas (roll-TypedExprForm z)) e (convert_at y.0 y.1)
      | TypedExprForm-F.Unary op y ↦ λ e. subst (λ z. FormHas (roll-TypedExprForm z)) e (unary_at op y.0 y.1)
      | TypedExprForm-F.Binary op y z' ↦ λ e. subst (λ z. FormHas (roll-TypedExprForm z)) e (binary_at op y.0 z'.0 y.1 z'.1)
      | TypedExprForm-F.Both y z' cell ↦ λ e. subst (λ z. FormHas (roll-TypedExprForm z)) e (both_at y.0 z'.0 cell y.1 z'.1)
      | TypedExprForm-F.Either y z' cell ↦ λ e. subst (λ z. FormHas (roll-TypedExprForm z)) e (either_at y.0 z'.0 cell y.1 z'.1)
      | TypedExprForm-F.Choice t y z' cell ↦ λ e. subst (λ z. FormHas (roll-TypedExprForm z)) e (choice_at t.0 y.0 z'.0 cell t.1 y.1 z'.1)
      | TypedExprForm-F.Call q ↦ λ e. subst (λ z. FormHas (roll-TypedExprForm z)) e (call_form_at q.0 q.1)
    ])
    (λ x' y e. subst (λ z. CallHas (roll-TypedCall z)) e (call_at y.callee _ y.arrays y.cell (all_have (λ q. q.0) (λ q. q.1) y.words)))
    (λ x' y e. subst (λ z. ValueHas (roll-TypedExpr z)) e (expression_at (record { span = y.span; kind = y.kind; form = y.form.0 }) y.form.1))
    (λ x' y e. subst (λ z. PlaceHas (roll-TypedPlace z)) e (place_has y)) x

-- ---- calls and places by themselves

pub place_is : (p : TypedPlace) → PlaceHas p
place_is p = ind-TypedPlace (λ f. Unit {0}) (λ q. Unit {0}) (λ x. Unit {0}) PlaceHas (λ x y e. tt) (λ x y e. tt) (λ x y e. tt) (λ x y e. place_at x (index x.index)) p
  where
    index : (o : Option TypedExpr) → IfSome o ValueHas
    index None = tt
    index (Some x) = value_is x

pub calling_is : (q : TypedCall) → CallHas q
calling_is q = ind-TypedCall (λ f. Unit {0}) CallHas (λ x. Unit {0}) (λ p. Unit {0}) (λ x y e. tt) (λ x y e. call_at x.callee x.words x.arrays x.cell (words x.words)) (λ x y e. tt) (λ x y e. tt) q
  where
    words : (xs : List TypedExpr) → AllByRecursion ValueHas xs
    words [] = tt
    words (x ∷ xs) = (value_is x, words xs)
