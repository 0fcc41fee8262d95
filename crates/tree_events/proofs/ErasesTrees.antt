-- Events left out, trees that fit do what tree_meaning says.
use Rattle.std.proofs.Common.{◌≡◌, ℕ, zero, suc, ◌-◌, Bool, true, List, [], ◌∷◌, map, Option, Some, None, Ok, refl, sym, ap, subst}
use Rattle.std.specs.Prelude.{IsTrue, IfSome, ◌&&◌, slice_get}
use Rattle.std.specs.List.{AllByRecursion, list_all}
use Rattle.std.specs.Option.{option_map}
use Rattle.fq_core.specs.declared.span.Span.{Span}
use Rattle.fq_core.specs.declared.statement_kind.StatementKind.TheVariants as kinds
use Rattle.c_values.specs.Kind.{int, is_kind, IsValue}
use Rattle.c_values.specs.declared.kinds.Kind.{Kind}
use Rattle.c_values.specs.declared.operators.BinaryOp.{BinaryOp}
use Rattle.c_values.specs.declared.operators.UnaryOp.{UnaryOp}
use Rattle.c_values.proofs.Fitting.{and_left, and_right}
use Rattle.cfa.specs.Each.{matched}
use Rattle.cfa.specs.declared.parts.Variable.{Variable}
use Rattle.cfa.specs.declared.state.Trap.TheVariants as trap
use Rattle.c_typed_trees.specs.Fitting.{Nameable, Fit, span_fits, is_array, is_integer, is_cell, operator_fits, option_fits, arms_fit, arm_fits, statement_if, labels_fit, callee_fits, defined_fits, word_fits, word_kinds, expression_fit, expression_fits, place_fits, call_fit, statement_fits}
use Rattle.c_typed_trees.specs.declared.expression.Callee.{Callee}
use Rattle.c_typed_trees.specs.declared.expression.Callee.TheVariants.{Defined, Input as InputCallee}
use Rattle.c_typed_trees.specs.declared.expression.TypedCall.{TypedCall, roll-TypedCall, ind-TypedCall}
use Rattle.c_typed_trees.specs.declared.expression.TypedExpr.{TypedExpr, ind-TypedExpr, roll-TypedExpr}
use Rattle.c_typed_trees.specs.declared.expression.TypedExprForm.{TypedExprForm, roll-TypedExprForm}
use Rattle.c_typed_trees.specs.declared.expression.TypedExprForm.TheOpen.{TypedCall-F, TypedExpr-F, TypedExprForm-F, TypedPlace-F}
use Rattle.c_typed_trees.specs.declared.expression.TypedPlace.{TypedPlace, ind-TypedPlace, map-TypedPlace, roll-TypedPlace}
use Rattle.c_typed_trees.specs.declared.statement.TypedForm.{TypedForm, roll-TypedForm}
use Rattle.c_typed_trees.specs.declared.statement.TypedForm.TheOpen.{TypedForm-F, TypedGroup-F, TypedStatement-F}
use Rattle.c_typed_trees.specs.declared.statement.TypedGroup.{TypedGroup, roll-TypedGroup}
use Rattle.c_typed_trees.specs.declared.statement.TypedStatement.{TypedStatement, ind-TypedStatement, roll-TypedStatement}
use Rattle.c_typed_trees.specs.declared.unit.Typed.{Typed}
use Rattle.c_typed_trees.specs.declared.unit.TypedFunction.{TypedFunction}
use Rattle.tree_meaning.specs.Outcomes.{Store, TrapEnd, BlockedEnd, Done, Gives}
use Rattle.tree_meaning.specs.Outcomes as outcomes
use Rattle.tree_meaning.specs.declared.way.Way.TheVariants.{Breaks, Continues}
use Rattle.tree_meaning.specs.declared.activation.Activation.{Activation}
use Rattle.tree_meaning.specs.Expressions.{Meant, Placed}
use Rattle.tree_meaning.specs.Expressions as expressions
use Rattle.tree_meaning.specs.Statements as statements
use Rattle.tree_meaning.specs.Switch as switch
use Rattle.tree_meaning.specs.Calls as calling
use Rattle.tree_meaning.specs.Trees as trees
use Rattle.tree_meaning.specs.Running.{FitUnit}
use Rattle.tree_meaning.specs.Ends.{run_end, first_activation, first_store}
use Rattle.tree_meaning.specs.Ends as ending
use Rattle.tree_meaning.proofs.TreeForms as plainly
use Rattle.tree_meaning.proofs.ValueKinds.{known, same_kind_is}
use Rattle.tree_meaning.proofs.StatementFits.{body_fit}
use Rattle.tree_events.specs.Outcomes.{Meaning, Evaluation, At, at_hand}
use Rattle.tree_events.specs.Expressions.{Telling, Placing, evaluate, placed_at, decide_both, decide_either, choice_does}
use Rattle.tree_events.specs.Statements.{block}
use Rattle.tree_events.specs.Switch.{Group}
use Rattle.tree_events.specs.Calls.{Calls, call_of}
use Rattle.tree_events.specs.Calls as told
use Rattle.tree_events.specs.Trees.{Formed, telling_form, telling, placing, call_does, decides, arm_does, form_does, group_of, does, body_does, calls_in}
use Rattle.tree_events.specs.Runs.{end_if}
use Rattle.tree_events.specs.Laws.{EndsAreThose}
use Rattle.tree_events.proofs.Fits as Fits
use Rattle.tree_events.proofs.StatementFits as Statements
use Rattle.tree_events.proofs.TreeForms as forms
use Rattle.tree_events.proofs.Erases.{Erases, Decides, Erased, PlaceErased, turn_done, evaluate_erases, constant_erased, convert_erased, load_erased, unary_erased, binary_erased, part_erased, split_erased, both_truths, either_truths, both_decides, either_decides, choice_erases, whole_erased, element_erased}
use Rattle.tree_events.proofs.ErasesRows.{AllErased, CallsErase, defined_erases, answer_erases, RowErases, block_erases, doing_erases, leaving_erases, labelled_erases, call_done_erases, ArmsErase, OptionErases, arms_erase, assign_erases, OptionErased, declare_erases, array_erases, return_erases, tested_erases, while_erases, do_erases, OptionDecides, for_erases, GroupErased, GroupsErased, switch_erases, run_erases}

module _ (n : Nameable) (t : Typed) (a : Activation) (calls : Calls) (plain : calling.Calls) (erase : CallsErase calls plain) where
  abbrev low : At → TypedExpr → Telling
  low at = telling t calls a at

  abbrev high : TypedExpr → Meant
  high = trees.meant t plain a

  -- ---- expressions

  abbrev FormErased : TypedExprForm → Type 0
  FormErased f = (at : At) (span : Span) (kind : Kind) → IsTrue (Fits.form_fits n f kind) → Erased (telling_form t calls a at f span kind) (trees.meant_form t plain a f kind)

  abbrev ValueErased : TypedExpr → Type 0
  ValueErased x = (at : At) → IsTrue (expression_fits n x) → Erased (low at x) (high x)

  abbrev PlaceIs : TypedPlace → Type 0
  PlaceIs p = (at : At) → IsTrue (place_fits n p) → PlaceErased (placing t calls a at p) (trees.placed t plain a p)

  abbrev CallErased : TypedCall → Type 0
  CallErased q = (at : At) → IsTrue (call_fit n q).fits → Erases (call_does t calls a at q) (trees.call_does t plain a q)

  form_is : (x : TypedExprForm-F TypedExprForm TypedCall TypedExpr TypedPlace) (m : At → Formed) (p : Kind → Meant) (fits : Kind → Bool) → ((at : At) → telling_form t calls a at (roll-TypedExprForm x) ≡ m at) → trees.meant_form t plain a (roll-TypedExprForm x) ≡ p
      → Fits.form_fits n (roll-TypedExprForm x) ≡ fits → ((at : At) (span : Span) (kind : Kind) → IsTrue (fits kind) → Erased (m at span kind) (p kind)) → FormErased (roll-TypedExprForm x)
  form_is x m p fits e f g h at span kind is =
      subst (λ (q : Formed). Erased (q span kind) (trees.meant_form t plain a (roll-TypedExprForm x) kind)) (sym (e at))
      (subst (λ (q : Kind → Meant). Erased (m at span kind) (q kind)) (sym f) (h at span kind (subst (λ (q : Kind → Bool). IsTrue (q kind)) g is)))

  constant_at : (v : ℕ) → FormErased (roll-TypedExprForm (TypedExprForm-F.Constant v))
  constant_at v = form_is (TypedExprForm-F.Constant v) _ _ _ (λ at. forms.constant_is t calls a at v) (plainly.constant_is t plain a v) refl (λ at span kind is. constant_erased at span v kind)

  load_at : (p : TypedPlace) → PlaceIs p → FormErased (roll-TypedExprForm (TypedExprForm-F.Load p))
  load_at p h = form_is (TypedExprForm-F.Load p) _ _ _ (λ at. forms.load_is t calls a at p) (plainly.load_is t plain a p) (Fits.fit_load n p) (λ at span kind is. load_erased at span _ _ kind (h at is))

  convert_at : (x : TypedExpr) → ValueErased x → FormErased (roll-TypedExprForm (TypedExprForm-F.Convert x))
  convert_at x h = form_is (TypedExprForm-F.Convert x) _ _ _ (λ at. forms.convert_is t calls a at x) (plainly.convert_is t plain a x) (Fits.fit_convert n x) (λ at span kind is. convert_erased at span (low at x) (high x) kind (h at is))

  values_of : (x : TypedExpr) → IsTrue (expression_fits n x) → (vs cells : List ℕ) (v : ℕ) → (high x).rest vs cells ≡ Ok v → IsValue (high x).kind v
  values_of x fits vs cells v e = let k = known n t plain a x fits in subst (λ q. IsValue q v) (sym k.kind) (k.values vs cells v e)

  unary_at : (op : UnaryOp) (x : TypedExpr) → ValueErased x → FormErased (roll-TypedExprForm (TypedExprForm-F.Unary op x))
  unary_at op x h = form_is (TypedExprForm-F.Unary op x) _ _ _ (λ at. forms.unary_is t calls a at op x) (plainly.unary_is t plain a op x) (Fits.fit_unary n op x)
      (λ at span kind is. let f = and_left _ _ is in unary_erased at span op (low at x) (high x) kind (values_of x f) (h at f))

  binary_at : (op : BinaryOp) (x y : TypedExpr) → ValueErased x → ValueErased y → FormErased (roll-TypedExprForm (TypedExprForm-F.Binary op x y))
  binary_at op x y h g = form_is (TypedExprForm-F.Binary op x y) _ _ _ (λ at. forms.binary_is t calls a at op x y) (plainly.binary_is t plain a op x y) (Fits.fit_binary n op x y)
      (λ at span kind is. let both = and_left _ _ (and_left _ _ is) in binary_erased at span op (low at x) (low at y) (high x) (high y) kind (h at (and_left _ _ both)) (g at (and_right _ _ both)))

  both_at : (x y : TypedExpr) (cell : ℕ) → ValueErased x → ValueErased y → FormErased (roll-TypedExprForm (TypedExprForm-F.Both x y cell))
  both_at x y cell h g = form_is (TypedExprForm-F.Both x y cell) _ _ _ (λ at. forms.both_is t calls a at x y cell) (plainly.both_is t plain a x y cell) (Fits.fit_both n x y cell)
      (λ at span kind is.
      let both = and_left _ _ (and_left _ _ is) in
      let l = h at (and_left _ _ both) in
      let r = g at (and_right _ _ both) in
      split_erased at span (decide_both (low at x).decide (low at y).decide) (expressions.both_does (expressions.evaluate (high x)) (expressions.evaluate (high y))) kind (same_kind_is kind int (and_right _ _ is))
      (both_truths at span (expressions.evaluate (high x)) (expressions.evaluate (high y))) (both_decides at span (low at x).decide (low at y).decide (expressions.evaluate (high x)) (expressions.evaluate (high y)) l.decide r.decide))

  either_at : (x y : TypedExpr) (cell : ℕ) → ValueErased x → ValueErased y → FormErased (roll-TypedExprForm (TypedExprForm-F.Either x y cell))
  either_at x y cell h g = form_is (TypedExprForm-F.Either x y cell) _ _ _ (λ at. forms.either_is t calls a at x y cell) (plainly.either_is t plain a x y cell) (Fits.fit_either n x y cell)
      (λ at span kind is.
      let both = and_left _ _ (and_left _ _ is) in
      let l = h at (and_left _ _ both) in
      let r = g at (and_right _ _ both) in
      split_erased at span (decide_either (low at x).decide (low at y).decide) (expressions.either_does (expressions.evaluate (high x)) (expressions.evaluate (high y))) kind (same_kind_is kind int (and_right _ _ is))
      (either_truths at span (expressions.evaluate (high x)) (expressions.evaluate (high y))) (either_decides at span (low at x).decide (low at y).decide (expressions.evaluate (high x)) (expressions.evaluate (high y)) l.decide r.decide))

  of : (at : At) (x : TypedExpr) → Erased (low at x) (high x) → Erases (evaluate (low at x)) (expressions.evaluate (high x))
  of at x h = evaluate_erases (low at x) (high x) h

  choice_at : (c x y : TypedExpr) (cell : ℕ) → ValueErased c → ValueErased x → ValueErased y → FormErased (roll-TypedExprForm (TypedExprForm-F.Choice c x y cell))
  choice_at c x y cell h g k = form_is (TypedExprForm-F.Choice c x y cell) _ _ _ (λ at. forms.choice_is t calls a at c x y cell) (plainly.choice_is t plain a c x y cell) (Fits.fit_choice n c x y cell)
      (λ at span kind is.
      let three = and_left _ _ (and_left _ _ (and_left _ _ is)) in
      let both = and_left _ _ three in
      part_erased at span (choice_does at ((low at c).decide true true) (evaluate (low at x)) (evaluate (low at y))) (expressions.choice_does (expressions.evaluate (high c)) (expressions.evaluate (high x)) (expressions.evaluate (high y))) kind
      (choice_erases at span ((low at c).decide true true) (evaluate (low at x)) (evaluate (low at y)) (expressions.evaluate (high c)) (expressions.evaluate (high x)) (expressions.evaluate (high y))
      ((h at (and_left _ _ both)).decide true true) (of at x (g at (and_right _ _ both))) (of at y (k at (and_right _ _ three)))))

  call_form_at : (q : TypedCall) → CallErased q → FormErased (roll-TypedExprForm (TypedExprForm-F.Call q))
  call_form_at q h = form_is (TypedExprForm-F.Call q) _ _ _ (λ at. forms.call_form_is t calls a at q) (plainly.call_form_is t plain a q) (Fits.fit_call_form n q)
      (λ at span kind is. part_erased at span (call_does t calls a at q) (trees.call_does t plain a q) kind (h at (and_left _ _ is)))

  -- the words of a call that fits
  words_erased : (at : At) (xs : List TypedExpr) (ks : List Kind) → AllByRecursion ValueErased xs → IsTrue (matched (word_fits n) (map (expression_fit n) xs) ks) → AllErased (map (low at) xs) (map high xs)
  words_erased at [] ks h f = tt
  words_erased at (x ∷ xs) [] h f = absurd cc
  words_erased at (x ∷ xs) (k ∷ ks) h f = (h.0 at (and_left _ _ (and_left _ _ f)), words_erased at xs ks h.1 (and_right _ _ f))

  call_shaped : (at : At) (callee : Callee) (xs : List TypedExpr) (arrays : List Variable) → AllByRecursion ValueErased xs → IsTrue (callee_fits n callee (map (expression_fit n) xs) arrays).fits
      → Erases (call_of at t calls a callee (map (low at) xs) arrays) (calling.call_of t plain a callee (map high xs) arrays)
  call_shaped at (InputCallee i) xs arrays h f = answer_erases at i (slice_get t.inputs i)
  call_shaped at (Defined i) xs arrays h f = defined_erases at calls plain erase a i (map (low at) xs) (map high xs) arrays (by (slice_get n.functions i) f)
    where
      by : (o : Option TypedFunction) → IsTrue (defined_fits n o (map (expression_fit n) xs) arrays).fits → AllErased (map (low at) xs) (map high xs)
      by None f = absurd cc
      by (Some g) f = words_erased at xs (word_kinds g) h (and_left _ _ f)

  call_at : (x : TypedCall-F TypedExprForm TypedCall TypedExpr TypedPlace) → AllByRecursion ValueErased x.words → CallErased (roll-TypedCall x)
  call_at x h at f =
      subst (λ (m : Evaluation). Erases m (trees.call_does t plain a (roll-TypedCall x))) (sym (forms.call_is t calls a at x))
      (subst (λ (p : outcomes.Evaluation). Erases (call_of at t calls a x.callee (map (low at) x.words) x.arrays) p) (sym (plainly.call_is t plain a x))
      (call_shaped at x.callee x.words x.arrays h (and_left _ _ (subst (λ q. IsTrue q.fits) (Fits.fit_call n x) f))))

  whole_at : (v : Variable) → PlaceIs (roll-TypedPlace (record { variable = v; index = None }))
  whole_at v at f =
      subst (λ (m : Placing). PlaceErased m (trees.placed t plain a (roll-TypedPlace (record { variable = v; index = None })))) (sym (forms.whole_is t calls a at v))
      (subst (λ (p : Placed). PlaceErased (placed_at a v None) p) (sym (plainly.whole_is t plain a v)) (whole_erased a v))

  element_at : (v : Variable) (i : TypedExpr) → ValueErased i → PlaceIs (roll-TypedPlace (record { variable = v; index = Some i }))
  element_at v i h at f =
      subst (λ (m : Placing). PlaceErased m (trees.placed t plain a (roll-TypedPlace (record { variable = v; index = Some i })))) (sym (forms.element_is t calls a at v i))
      (subst (λ (p : Placed). PlaceErased (placed_at a v (Some (low at i))) p) (sym (plainly.element_is t plain a v i))
      (element_erased a v (low at i) (high i) (h at (and_right (is_array n v) (expression_fit n i).fits (subst IsTrue (Fits.fit_element n v i) f)))))

  place_at : (x : TypedPlace-F TypedExprForm TypedCall TypedExpr TypedPlace) → IfSome x.index ValueErased → PlaceIs (roll-TypedPlace x)
  place_at x h = by x.variable x.index h
    where
      by : (v : Variable) (o : Option TypedExpr) → IfSome o ValueErased → PlaceIs (roll-TypedPlace (record { variable = v; index = o }))
      by v None h = whole_at v
      by v (Some i) h = element_at v i h

  place_given : (y : TypedPlace-F ((f : TypedExprForm) × FormErased f) ((q : TypedCall) × CallErased q) ((x : TypedExpr) × ValueErased x) ((p : TypedPlace) × PlaceIs p))
      → PlaceIs (roll-TypedPlace (map-TypedPlace _ _ _ _ TypedExprForm TypedCall TypedExpr TypedPlace (λ q. q.0) (λ q. q.0) (λ q. q.0) (λ q. q.0) y))
  place_given y = place_at _ (index y.variable y.index)
    where
      index : (v : Variable) (o : Option ((x : TypedExpr) × ValueErased x))
          → IfSome (map-TypedPlace ((f : TypedExprForm) × FormErased f) ((q : TypedCall) × CallErased q) ((x : TypedExpr) × ValueErased x) ((p : TypedPlace) × PlaceIs p) TypedExprForm TypedCall TypedExpr TypedPlace (λ q. q.0) (λ q. q.0) (λ q. q.0) (λ q. q.0) (record { variable = v; index = o })).index ValueErased
      index v None = tt
      index v (Some q) = q.1

  expression_at : (x : TypedExpr-F TypedExprForm TypedCall TypedExpr TypedPlace) → FormErased x.form → ValueErased (roll-TypedExpr x)
  expression_at x h at fits =
      let all : IsTrue (is_kind x.kind && span_fits n x.span && Fits.form_fits n x.form x.kind) = subst (λ (q : Fit). IsTrue q.fits) (Fits.fit_expression n x) fits in
      subst (λ (m : Telling). Erased m (high (roll-TypedExpr x))) (sym (forms.expression_is t calls a at x))
      (subst (λ (p : Meant). Erased (telling_form t calls a at x.form x.span x.kind) p) (sym (plainly.expression_is t plain a x)) (h at x.span x.kind (and_right _ _ all)))

  module _ {S : Type 0} (f : S → TypedExpr) (g : (q : S) → ValueErased (f q)) where
    all_values : (ys : List S) → AllByRecursion ValueErased (map f ys)
    all_values [] = tt
    all_values (y ∷ ys) = (g y, all_values ys)

  pub value_erased : (x : TypedExpr) → ValueErased x
  value_erased x = ind-TypedExpr FormErased CallErased ValueErased PlaceIs
      (λ x'. elim [
        | TypedExprForm-F.Constant v ↦ λ e. subst (λ z. FormErased (roll-TypedExprForm z)) e (constant_at v)
        | TypedExprForm-F.Load p ↦ λ e. subst (λ z. FormErased (roll-TypedExprForm z)) e (load_at p.0 p.1)
        | TypedExprForm-F.Convert y ↦ λ e. subst (λ z. FormErased (roll-TypedExprForm z)) e (convert_at y.0 y.1)
        | TypedExprForm-F.Unary op y ↦ λ e. subst (λ z. FormErased (roll-TypedExprForm z)) e (unary_at op y.0 y.1)
        | TypedExprForm-F.Binary op y z' ↦ λ e. subst (λ z. FormErased (roll-TypedExprForm z)) e (binary_at op y.0 z'.0 y.1 z'.1)
        | TypedExprForm-F.Both y z' cell ↦ λ e. subst (λ z. FormErased (roll-TypedExprForm z)) e (both_at y.0 z'.0 cell y.1 z'.1)
        | TypedExprForm-F.Either y z' cell ↦ λ e. subst (λ z. FormErased (roll-TypedExprForm z)) e (either_at y.0 z'.0 cell y.1 z'.1)
        | TypedExprForm-F.Choice c y z' cell ↦ λ e. subst (λ z. FormErased (roll-TypedExprForm z)) e (choice_at c.0 y.0 z'.0 cell c.1 y.1 z'.1)
        | TypedExprForm-F.Call q ↦ λ e. subst (λ z. FormErased (roll-TypedExprForm z)) e (call_form_at q.0 q.1)
      ])
      (λ x' y e. subst (λ z. CallErased (roll-TypedCall z)) e (call_at (record { callee = y.callee; words = map (λ q. q.0) y.words; arrays = y.arrays; cell = y.cell }) (all_values (λ q. q.0) (λ q. q.1) y.words)))
      (λ x' y e. subst (λ z. ValueErased (roll-TypedExpr z)) e (expression_at (record { span = y.span; kind = y.kind; form = y.form.0 }) y.form.1))
      (λ x' y e. subst (λ z. PlaceIs (roll-TypedPlace z)) e (place_given y)) x

  values_erased : (at : At) (xs : List TypedExpr) → IsTrue (list_all (expression_fits n) xs) → AllErased (map (low at) xs) (map high xs)
  values_erased at [] f = tt
  values_erased at (x ∷ xs) f = (value_erased x at (and_left _ _ f), values_erased at xs (and_right _ _ f))

  option_erased : (at : At) (o : Option TypedExpr) → IsTrue (option_fits n o) → OptionErased (option_map (low at) o) (option_map high o)
  option_erased at None f = tt
  option_erased at (Some x) f = value_erased x at f

  decides_of : (at : At) (x : TypedExpr) → IsTrue (expression_fits n x) → Decides (decides t calls a at x) (trees.value t plain a x)
  decides_of at x f = (value_erased x at f).decide true true

  test_decides : (at : At) (o : Option TypedExpr) → IsTrue (option_fits n o) → OptionDecides (option_map (decides t calls a at) o) (option_map (trees.value t plain a) o)
  test_decides at None f = tt
  test_decides at (Some x) f = decides_of at x f

  place_erased : (p : TypedPlace) → PlaceIs p
  place_erased p = ind-TypedPlace (λ (f : TypedExprForm). Unit {0}) (λ (q : TypedCall). Unit {0}) (λ (x : TypedExpr). Unit {0}) PlaceIs (λ x y e. tt) (λ x y e. tt) (λ x y e. tt) (λ x y e. place_at x (index x.index)) p
    where
      index : (o : Option TypedExpr) → IfSome o ValueErased
      index None = tt
      index (Some x) = value_erased x

  call_erased : (q : TypedCall) → CallErased q
  call_erased q = ind-TypedCall (λ (f : TypedExprForm). Unit {0}) CallErased (λ (x : TypedExpr). Unit {0}) (λ (p : TypedPlace). Unit {0}) (λ x y e. tt) (λ x y e. call_at x (words x.words)) (λ x y e. tt) (λ x y e. tt) q
    where
      words : (xs : List TypedExpr) → AllByRecursion ValueErased xs
      words [] = tt
      words (x ∷ xs) = (value_erased x, words xs)

  -- ---- statements

  abbrev below : TypedStatement → Meaning
  below = does t calls a

  abbrev above : TypedStatement → outcomes.Meaning
  above = trees.does t plain a

  abbrev DoesErase : TypedForm → Type 0
  DoesErase f = (span : Span) → IsTrue (Statements.form_fits n f) → Erases (form_does t calls a f span) (trees.form_does t plain a f)

  abbrev StatementErases : TypedStatement → Type 0
  StatementErases s = IsTrue (statement_fits n s) → Erases (below s) (above s)

  abbrev GroupErases : TypedGroup → Type 0
  GroupErases g = (span : Span) (kind : Kind) → IsTrue (Statements.group_fits n g kind) → GroupErased (group_of t calls a g span) (trees.group_of t plain a g)

  does_is : (x : TypedForm-F TypedForm TypedGroup TypedStatement) (m : Span → Meaning) (p : outcomes.Meaning) (fits : Bool) → form_does t calls a (roll-TypedForm x) ≡ m → trees.form_does t plain a (roll-TypedForm x) ≡ p → Statements.form_fits n (roll-TypedForm x) ≡ fits
      → ((span : Span) → IsTrue fits → Erases (m span) p) → DoesErase (roll-TypedForm x)
  does_is x m p fits e f g h span is =
      subst (λ (q : Span → Meaning). Erases (q span) (trees.form_does t plain a (roll-TypedForm x))) (sym e) (subst (λ (q : outcomes.Meaning). Erases (m span) q) (sym f) (h span (subst IsTrue g is)))

  row_erases : (ss : List TypedStatement) → AllByRecursion StatementErases ss → IsTrue (list_all (λ fits. fits) (map (statement_fits n) ss)) → RowErases (map below ss) (map above ss)
  row_erases [] h f = tt
  row_erases (s ∷ ss) h f = (h.0 (and_left _ _ f), row_erases ss h.1 (and_right _ _ f))

  block_at : (body : List TypedStatement) → AllByRecursion StatementErases body → DoesErase (roll-TypedForm (TypedForm-F.Block body))
  block_at body h = does_is (TypedForm-F.Block body) _ _ _ (forms.block_is t calls a body) (plainly.block_is t plain a body) (Statements.fit_block n body) (λ span f. block_erases span (map below body) (map above body) (row_erases body h f))

  empty_at : DoesErase (roll-TypedForm TypedForm-F.Empty)
  empty_at = does_is TypedForm-F.Empty _ _ _ (forms.empty_is t calls a) (plainly.empty_is t plain a) (Statements.fit_empty n) (λ span f. doing_erases (at_hand span kinds.Empty))

  local_at : (v : Variable) (first : Option TypedExpr) → DoesErase (roll-TypedForm (TypedForm-F.Local v first))
  local_at v first = does_is (TypedForm-F.Local v first) _ _ _ (forms.local_is t calls a v first) (plainly.local_is t plain a v first) (Statements.fit_local n v first)
      (λ span f. declare_erases (at_hand span kinds.Decl) a v _ _ (option_erased (at_hand span kinds.Decl) first (and_right (is_integer n v) (option_fits n first) f)))

  array_at : (v : Variable) (list : List TypedExpr) → DoesErase (roll-TypedForm (TypedForm-F.LocalArray v list))
  array_at v list = does_is (TypedForm-F.LocalArray v list) _ _ _ (forms.array_is t calls a v list) (plainly.array_is t plain a v list) (Statements.fit_array n v list)
      (λ span f. array_erases (at_hand span kinds.Decl) a v _ _ (values_erased (at_hand span kinds.Decl) list (and_right (is_array n v) (list_all (expression_fits n) list) (and_left _ _ f))))

  assign_at : (p : TypedPlace) (op : Option (BinaryOp × Kind)) (x : TypedExpr) → DoesErase (roll-TypedForm (TypedForm-F.Assign p op x))
  assign_at p op x = does_is (TypedForm-F.Assign p op x) _ _ _ (forms.assign_is t calls a p op x) (plainly.assign_is t plain a p op x) (Statements.fit_assign n p op x)
      (λ span f.
      let at = at_hand span kinds.Assign in
      assign_erases at (placing t calls a at p) (trees.placed t plain a p) op (low at x) (high x) (place_erased p at (and_left (place_fits n p) (operator_fits n op x) (and_left (place_fits n p && operator_fits n op x) (expression_fits n x) f)))
      (value_erased x at (and_right (place_fits n p && operator_fits n op x) (expression_fits n x) f)))

  call_statement_at : (q : TypedCall) → DoesErase (roll-TypedForm (TypedForm-F.Call q))
  call_statement_at q = does_is (TypedForm-F.Call q) _ _ _ (forms.call_statement_is t calls a q) (plainly.call_statement_is t plain a q) (Statements.fit_call n q)
      (λ span f. call_done_erases (at_hand span kinds.Call) (call_does t calls a (at_hand span kinds.Call) q) (trees.call_does t plain a q) (call_erased q (at_hand span kinds.Call) f))

  label_at : (name : List ℕ) (body : TypedStatement) → StatementErases body → DoesErase (roll-TypedForm (TypedForm-F.Label name body))
  label_at name body h = does_is (TypedForm-F.Label name body) _ _ _ (forms.label_is t calls a name body) (plainly.label_is t plain a name body) (Statements.fit_label n name body)
      (λ span f. labelled_erases (at_hand span kinds.Label) name (below body) (above body) (h f))

  abbrev ArmStatements : List (TypedExpr × TypedStatement) → Type 0
  ArmStatements list = AllByRecursion (λ (arm : TypedExpr × TypedStatement). StatementErases arm.1) list

  arms_of : (at : At) (list : List (TypedExpr × TypedStatement)) → ArmStatements list → IsTrue (list_all (arm_fits n) (map (Statements.arms_by (statement_fits n)) list))
      → ArmsErase (map (arm_does t calls a at) (map (forms.paired t calls a) list)) (map (trees.arm_does t plain a) (map (plainly.paired t plain a) list))
  arms_of at [] h f = tt
  arms_of at (arm ∷ list) h f = ((decides_of at arm.0 (and_left _ _ (and_left _ _ f)), h.0 (and_right _ _ (and_left _ _ f))), arms_of at list h.1 (and_right _ _ f))

  arms_if : (at : At) (list : List (TypedExpr × TypedStatement)) → ArmStatements list → IsTrue (arms_fit n (map (Statements.arms_by (statement_fits n)) list))
      → ArmsErase (map (arm_does t calls a at) (map (forms.paired t calls a) list)) (map (trees.arm_does t plain a) (map (plainly.paired t plain a) list))
  arms_if at [] h f = absurd cc
  arms_if at (arm ∷ list) h f = arms_of at (arm ∷ list) h f

  last_of : (o : Option TypedStatement) → IfSome o StatementErases → IsTrue (statement_if n (option_map (statement_fits n) o)) → OptionErases (option_map below o) (option_map above o)
  last_of None h f = tt
  last_of (Some s) h f = h f

  if_at : (list : List (TypedExpr × TypedStatement)) (o : Option TypedStatement) → ArmStatements list → IfSome o StatementErases → DoesErase (roll-TypedForm (TypedForm-F.If list o))
  if_at list o h k = does_is (TypedForm-F.If list o) _ _ _ (forms.if_is t calls a list o) (plainly.if_is t plain a list o) (Statements.fit_if n list o)
      (λ span f.
      let front = arms_fit n (map (Statements.arms_by (statement_fits n)) list) in
      let back = statement_if n (option_map (statement_fits n) o) in
      arms_erase _ _ (option_map below o) (option_map above o) (arms_if (at_hand span kinds.If) list h (and_left front back f)) (last_of o k (and_right front back f)))

  while_at : (test : TypedExpr) (body : TypedStatement) → StatementErases body → DoesErase (roll-TypedForm (TypedForm-F.While test body))
  while_at test body h = does_is (TypedForm-F.While test body) _ _ _ (forms.while_is t calls a test body) (plainly.while_is t plain a test body) (Statements.fit_while n test body)
      (λ span f.
      let at = at_hand span kinds.While in
      while_erases at (decides t calls a at test) (trees.value t plain a test) (below body) (above body) (decides_of at test (and_left (expression_fits n test) (statement_fits n body) f)) (h (and_right (expression_fits n test) (statement_fits n body) f)))

  do_at : (body : TypedStatement) (test : TypedExpr) → StatementErases body → DoesErase (roll-TypedForm (TypedForm-F.Do body test))
  do_at body test h = does_is (TypedForm-F.Do body test) _ _ _ (forms.do_is t calls a body test) (plainly.do_is t plain a body test) (Statements.fit_do n body test)
      (λ span f.
      let at = at_hand span kinds.Do in
      do_erases at (decides t calls a at test) (trees.value t plain a test) (below body) (above body) (decides_of at test (and_right (statement_fits n body) (expression_fits n test) f)) (h (and_left (statement_fits n body) (expression_fits n test) f)))

  for_at : (first : List TypedStatement) (test : Option TypedExpr) (next : Option TypedStatement) (body : TypedStatement) → AllByRecursion StatementErases first → IfSome next StatementErases → StatementErases body → DoesErase (roll-TypedForm (TypedForm-F.For first test next body))
  for_at first test next body h k g = does_is (TypedForm-F.For first test next body) _ _ _ (forms.for_is t calls a first test next body) (plainly.for_is t plain a first test next body) (Statements.fit_for n first test next body)
      (λ span f.
      let at = at_hand span kinds.For in
      let f1 = list_all (λ (fits : Bool). fits) (map (statement_fits n) first) in
      let f2 = option_fits n test in
      let f3 = statement_if n (option_map (statement_fits n) next) in
      let f4 = statement_fits n body in
      let three : IsTrue (f1 && f2 && f3) = and_left (f1 && f2 && f3) f4 f in
      let both : IsTrue (f1 && f2) = and_left (f1 && f2) f3 three in
      for_erases at (map below first) (map above first) (option_map (decides t calls a at) test) (option_map (trees.value t plain a) test) (option_map below next) (option_map above next) (below body) (above body)
      (row_erases first h (and_left f1 f2 both)) (test_decides at test (and_right f1 f2 both)) (last_of next k (and_right (f1 && f2) f3 three)) (g (and_right (f1 && f2 && f3) f4 f)))

  groups_of : (span : Span) (kind : Kind) (gs : List TypedGroup) → AllByRecursion GroupErases gs → IsTrue (list_all (λ (g : Kind → Bool). g kind) (map (Statements.group_fits n) gs))
      → GroupsErased (map (λ (g : Span → Group). g span) (map (group_of t calls a) gs)) (map (trees.group_of t plain a) gs)
  groups_of span kind [] h f = tt
  groups_of span kind (g ∷ gs) h f = (h.0 span kind (and_left _ _ f), groups_of span kind gs h.1 (and_right _ _ f))

  switch_at : (x : TypedExpr) (cell : ℕ) (gs : List TypedGroup) → AllByRecursion GroupErases gs → DoesErase (roll-TypedForm (TypedForm-F.Switch x cell gs))
  switch_at x cell gs h = does_is (TypedForm-F.Switch x cell gs) _ _ _ (forms.switch_is t calls a x cell gs) (plainly.switch_is t plain a x cell gs) (Statements.fit_switch n x cell gs)
      (λ span f.
      let at = at_hand span kinds.Switch in
      let fx = expression_fits n x in
      let fg = list_all (λ (g : Kind → Bool). g (expression_fit n x).kind) (map (Statements.group_fits n) gs) in
      let both : IsTrue (fx && is_cell n cell) = and_left (fx && is_cell n cell) fg f in
      switch_erases at (evaluate (low at x)) (expressions.evaluate (high x)) _ _ (of at x (value_erased x at (and_left fx (is_cell n cell) both))) (groups_of span (expression_fit n x).kind gs h (and_right (fx && is_cell n cell) fg f)))

  break_at : DoesErase (roll-TypedForm TypedForm-F.Break)
  break_at = does_is TypedForm-F.Break _ _ _ (forms.break_is t calls a) (plainly.break_is t plain a) (Statements.fit_break n) (λ span f. leaving_erases (at_hand span kinds.Jump) Breaks)

  continue_at : DoesErase (roll-TypedForm TypedForm-F.Continue)
  continue_at = does_is TypedForm-F.Continue _ _ _ (forms.continue_is t calls a) (plainly.continue_is t plain a) (Statements.fit_continue n) (λ span f. leaving_erases (at_hand span kinds.Jump) Continues)

  return_at : (x : Option TypedExpr) → DoesErase (roll-TypedForm (TypedForm-F.Return x))
  return_at x = does_is (TypedForm-F.Return x) _ _ _ (forms.return_is t calls a x) (plainly.return_is t plain a x) (Statements.fit_return n x)
      (λ span f. return_erases (at_hand span kinds.Return) a _ _ (option_erased (at_hand span kinds.Return) x f))

  assert_at : (x : TypedExpr) → DoesErase (roll-TypedForm (TypedForm-F.Assert x))
  assert_at x = does_is (TypedForm-F.Assert x) _ _ _ (forms.assert_is t calls a x) (plainly.assert_is t plain a x) (Statements.fit_assert n x)
      (λ span f. tested_erases (at_hand span kinds.Assert) (TrapEnd trap.Assert) (low (at_hand span kinds.Assert) x) (high x) (value_erased x (at_hand span kinds.Assert) f))

  assume_at : (x : TypedExpr) → DoesErase (roll-TypedForm (TypedForm-F.Assume x))
  assume_at x = does_is (TypedForm-F.Assume x) _ _ _ (forms.assume_is t calls a x) (plainly.assume_is t plain a x) (Statements.fit_assume n x)
      (λ span f. tested_erases (at_hand span kinds.Assume) BlockedEnd (low (at_hand span kinds.Assume) x) (high x) (value_erased x (at_hand span kinds.Assume) f))

  group_at : (g : TypedGroup-F TypedForm TypedGroup TypedStatement) → AllByRecursion StatementErases g.body → GroupErases (roll-TypedGroup g)
  group_at g h span kind f =
      let fits : IsTrue (labels_fit n kind g.labels && list_all (λ fits. fits) (map (statement_fits n) g.body)) = subst (λ (q : Kind → Bool). IsTrue (q kind)) (Statements.fit_group n g) f in
      subst (λ (q : Group). GroupErased q (trees.group_of t plain a (roll-TypedGroup g))) (sym (forms.group_is t calls a g span))
      (subst (λ (q : switch.Group). GroupErased (record { labels = g.labels; does = block span (map below g.body) }) q) (sym (plainly.group_is t plain a g))
      (refl, block_erases span (map below g.body) (map above g.body) (row_erases g.body h (and_right _ _ fits))))

  statement_at : (s : TypedStatement-F TypedForm TypedGroup TypedStatement) → DoesErase s.form → StatementErases (roll-TypedStatement s)
  statement_at s h f =
      let fits : IsTrue (span_fits n s.span && Statements.form_fits n s.form) = subst IsTrue (Statements.fit_statement n s) f in
      subst (λ (q : Meaning). Erases q (above (roll-TypedStatement s))) (sym (forms.statement_is t calls a s))
      (subst (λ (q : outcomes.Meaning). Erases (form_does t calls a s.form s.span) q) (sym (plainly.statement_is t plain a s)) (h s.span (and_right _ _ fits)))

  module _ {S : Type 0} (f : S → TypedStatement) (g : (q : S) → StatementErases (f q)) where
    all_statements : (ys : List S) → AllByRecursion StatementErases (map f ys)
    all_statements [] = tt
    all_statements (y ∷ ys) = (g y, all_statements ys)

    all_arms : (ys : List (TypedExpr × S)) → ArmStatements (map (λ (arm : TypedExpr × S). (arm.0, f arm.1)) ys)
    all_arms [] = tt
    all_arms (y ∷ ys) = (g y.1, all_arms ys)

  module _ {S : Type 0} (f : S → TypedGroup) (g : (q : S) → GroupErases (f q)) where
    all_groups : (ys : List S) → AllByRecursion GroupErases (map f ys)
    all_groups [] = tt
    all_groups (y ∷ ys) = (g y, all_groups ys)

  statement_erases : (s : TypedStatement) → StatementErases s
  statement_erases s = ind-TypedStatement DoesErase GroupErases StatementErases
      (λ x'. elim [
        | TypedForm-F.Block ys ↦ λ e. subst (λ z. DoesErase (roll-TypedForm z)) e (block_at _ (all_statements (λ q. q.0) (λ q. q.1) ys))
        | TypedForm-F.Empty ↦ λ e. subst (λ z. DoesErase (roll-TypedForm z)) e empty_at
        | TypedForm-F.Local v first ↦ λ e. subst (λ z. DoesErase (roll-TypedForm z)) e (local_at v first)
        | TypedForm-F.LocalArray v list ↦ λ e. subst (λ z. DoesErase (roll-TypedForm z)) e (array_at v list)
        | TypedForm-F.Assign p op x ↦ λ e. subst (λ z. DoesErase (roll-TypedForm z)) e (assign_at p op x)
        | TypedForm-F.Call q ↦ λ e. subst (λ z. DoesErase (roll-TypedForm z)) e (call_statement_at q)
        | TypedForm-F.Label name y ↦ λ e. subst (λ z. DoesErase (roll-TypedForm z)) e (label_at name y.0 y.1)
        | TypedForm-F.If arms None ↦ λ e. subst (λ z. DoesErase (roll-TypedForm z)) e (if_at _ None (all_arms (λ q. q.0) (λ q. q.1) arms) tt)
        | TypedForm-F.If arms (Some o) ↦ λ e. subst (λ z. DoesErase (roll-TypedForm z)) e (if_at _ (Some o.0) (all_arms (λ q. q.0) (λ q. q.1) arms) o.1)
        | TypedForm-F.While x y ↦ λ e. subst (λ z. DoesErase (roll-TypedForm z)) e (while_at x y.0 y.1)
        | TypedForm-F.Do y x ↦ λ e. subst (λ z. DoesErase (roll-TypedForm z)) e (do_at y.0 x y.1)
        | TypedForm-F.For first x None y ↦ λ e. subst (λ z. DoesErase (roll-TypedForm z)) e (for_at _ x None y.0 (all_statements (λ q. q.0) (λ q. q.1) first) tt y.1)
        | TypedForm-F.For first x (Some j) y ↦ λ e. subst (λ z. DoesErase (roll-TypedForm z)) e (for_at _ x (Some j.0) y.0 (all_statements (λ q. q.0) (λ q. q.1) first) j.1 y.1)
        | TypedForm-F.Switch x cell gs ↦ λ e. subst (λ z. DoesErase (roll-TypedForm z)) e (switch_at x cell _ (all_groups (λ q. q.0) (λ q. q.1) gs))
        | TypedForm-F.Break ↦ λ e. subst (λ z. DoesErase (roll-TypedForm z)) e break_at
        | TypedForm-F.Continue ↦ λ e. subst (λ z. DoesErase (roll-TypedForm z)) e continue_at
        | TypedForm-F.Return x ↦ λ e. subst (λ z. DoesErase (roll-TypedForm z)) e (return_at x)
        | TypedForm-F.Assert x ↦ λ e. subst (λ z. DoesErase (roll-TypedForm z)) e (assert_at x)
        | TypedForm-F.Assume x ↦ λ e. subst (λ z. DoesErase (roll-TypedForm z)) e (assume_at x)
      ])
      (λ x' y e. subst (λ z. GroupErases (roll-TypedGroup z)) e (group_at (record { labels = y.labels; body = map (λ q. q.0) y.body }) (all_statements (λ q. q.0) (λ q. q.1) y.body)))
      (λ x' y e. subst (λ z. StatementErases (roll-TypedStatement z)) e (statement_at (record { span = y.span; form = y.form.0 }) y.form.1)) s

  pub body_erases : (place : Span) (ss : List TypedStatement) → IsTrue (list_all (statement_fits n) ss) → Erases (block place (map below ss)) (statements.block (map above ss))
  body_erases place ss f = block_erases place (map below ss) (map above ss) (rows ss f)
    where
      rows : (xs : List TypedStatement) → IsTrue (list_all (statement_fits n) xs) → RowErases (map below xs) (map above xs)
      rows [] f = tt
      rows (x ∷ xs) f = (statement_erases x (and_left _ _ f), rows xs (and_right _ _ f))

-- ---- the law

function_erases : (t : Typed) (i : ℕ) (g : TypedFunction) → slice_get t.functions i ≡ Some g → FitUnit t → (calls : Calls) (plain : calling.Calls) → CallsErase calls plain → (a : Activation) → Erases (body_does t calls g a) (trees.body_does t plain g a)
function_erases t i g e f calls plain erase a = let b = body_fit t i g e f in body_erases b.names t a calls plain erase g.span g.body b.fits

calling_erases : (t : Typed) → FitUnit t → (k : ℕ) → CallsErase (told.calling (body_does t) t.functions k) (calling.calling (trees.body_does t) t.functions k)
unfolding told.calling calling.calling
calling_erases t f zero at callee a words s = refl
calling_erases t f (suc k) at callee a words s =
    turn_done s.turns s _ (λ s'. calling.run_function (trees.body_does t) t.functions (calling.calling (trees.body_does t) t.functions k) (slice_get t.functions callee) a words s')
    (run_erases (body_does t) (trees.body_does t) t.functions (told.calling (body_does t) t.functions k) (calling.calling (trees.body_does t) t.functions k) at callee (slice_get t.functions callee)
    (λ g e b. function_erases t callee g e f (told.calling (body_does t) t.functions k) (calling.calling (trees.body_does t) t.functions k) (calling_erases t f k) b) a words)

calls_erase : (t : Typed) → FitUnit t → (a : Activation) → CallsErase (calls_in t a) (trees.calls_in t a)
unfolding calls_in trees.calls_in
calls_erase t f a = calling_erases t f (64 - a.depth)

pub ends_are_those : EndsAreThose
ends_are_those t entry input turns f = by (slice_get t.functions entry) refl
  where
    by : (o : Option TypedFunction) → slice_get t.functions entry ≡ o → end_if t o input turns ≡ ending.end_if t o input turns
    by None e = refl
    by (Some g) e =
        let a = first_activation t g in
        ap (run_end t g) (function_erases t entry g e f (calls_in t a) (trees.calls_in t a) (calls_erase t f a) a (first_store t g input turns))
