-- With more turns the same happens first in a tree, and where there were enough, the same is done.
use Rattle.std.proofs.Common.{◌≡◌, ◌≢◌, ℕ, ◌+◌, ◌-◌, ◌<◌, true, List, [], ◌∷◌, ◌++◌, map, Option, Some, None, refl, sym, ap, subst, ◌∙◌, arith}
use Rattle.std.specs.Prelude.{IfSome, slice_get}
use Rattle.std.specs.List.{AllByRecursion}
use Rattle.std.specs.Option.{option_map}
use Rattle.std.proofs.lemmas.List.{append-nil}
use Rattle.fq_core.specs.declared.span.Span.{Span}
use Rattle.fq_core.specs.declared.statement_kind.StatementKind.TheVariants as kinds
use Rattle.c_values.specs.declared.kinds.Kind.{Kind}
use Rattle.c_values.specs.declared.operators.BinaryOp.{BinaryOp}
use Rattle.c_values.specs.declared.operators.UnaryOp.{UnaryOp}
use Rattle.c_meaning.specs.declared.input.Input.{Input}
use Rattle.cfa.specs.declared.parts.Variable.{Variable}
use Rattle.cfa.specs.declared.state.Trap.TheVariants as trap
use Rattle.c_typed_trees.specs.declared.expression.TypedCall.{TypedCall, roll-TypedCall, ind-TypedCall}
use Rattle.c_typed_trees.specs.declared.expression.TypedExpr.{TypedExpr, ind-TypedExpr, roll-TypedExpr}
use Rattle.c_typed_trees.specs.declared.expression.TypedExprForm.{TypedExprForm, roll-TypedExprForm}
use Rattle.c_typed_trees.specs.declared.expression.TypedExprForm.TheOpen.{TypedCall-F, TypedExpr-F, TypedExprForm-F, TypedPlace-F}
use Rattle.c_typed_trees.specs.declared.expression.TypedPlace.{TypedPlace, ind-TypedPlace, map-TypedPlace, roll-TypedPlace}
use Rattle.c_typed_trees.specs.declared.statement.TypedForm.{TypedForm, roll-TypedForm}
use Rattle.c_typed_trees.specs.declared.statement.TypedForm.TheOpen.{TypedForm-F, TypedGroup-F, TypedStatement-F}
use Rattle.c_typed_trees.specs.declared.statement.TypedGroup.{TypedGroup, roll-TypedGroup}
use Rattle.c_typed_trees.specs.declared.statement.TypedStatement.{TypedStatement, ind-TypedStatement, roll-TypedStatement}
use Rattle.c_typed_trees.specs.declared.unit.Typed.{Typed}
use Rattle.c_typed_trees.specs.declared.unit.TypedFunction.{TypedFunction}
use Rattle.tree_events.specs.declared.edge_events.event.Event.{Event}
use Rattle.tree_meaning.specs.declared.ends.TreeEnd.TheVariants as ends
use Rattle.tree_meaning.specs.declared.way.Way.{Way}
use Rattle.tree_meaning.specs.declared.way.Way.TheVariants.{GoesOn, Breaks, Continues}
use Rattle.tree_meaning.specs.declared.activation.Activation.{Activation}
use Rattle.tree_meaning.specs.Outcomes.{TrapEnd, BlockedEnd, Done, Gives, Ends, OutOfTurns}
use Rattle.tree_meaning.specs.Ends.{first_activation, first_store, run_end}
use Rattle.tree_events.specs.Outcomes.{Told, Meaning, Evaluation, At, at_hand}
use Rattle.tree_events.specs.Expressions.{Telling, Placing, evaluate, placed_at, decide_both, decide_either, choice_does}
use Rattle.tree_events.specs.Statements.{block}
use Rattle.tree_events.specs.Switch.{Group}
use Rattle.tree_events.specs.Calls.{Calls, call_of}
use Rattle.tree_events.specs.Trees.{Formed, telling_form, telling, placing, call_does, decides, arm_does, form_does, group_of, does, body_does, calls_in}
use Rattle.tree_events.specs.Runs.{function_told, events_if, end_if}
use Rattle.tree_events.specs.Laws.{MoreTurnsTellMore, EnoughTurnsTellAll}
use Rattle.tree_events.proofs.TreeForms as forms
use Rattle.tree_events.proofs.Grows.{GrownBy, Grown, Grows, TellingGrow, PlacingGrow, evaluate_grows, constant_grows, convert_grows, whole_grows, element_grows, load_grows, unary_grows, binary_grows, part_grows, split_grows, both_grows, either_grows, choice_grows, AllGrow, CallsGrow, call_grows, RowGrows, block_grows, leaving_grows, labelled_grows, call_done_grows, ArmsGrow, OptionGrows, arms_grow, assign_grows, OptionTelling, declare_grows, array_grows, return_grows, tested_grows, while_grows, do_grows, for_grows, GroupGrow, GroupsGrow, switch_grows, BodiesGrow, calling_grows}

module _ (d : ℕ) (t : Typed) (a : Activation) (n n' : ℕ) (calls calls' : Calls) (grow : CallsGrow d n n' calls calls') where
  abbrev low : At → TypedExpr → Telling
  low at = telling t calls a at

  abbrev high : At → TypedExpr → Telling
  high at = telling t calls' a at

  -- ---- expressions

  abbrev FormGrows : TypedExprForm → Type 0
  FormGrows f = (at : At) (span : Span) (kind : Kind) → TellingGrow d n n' (telling_form t calls a at f span kind) (telling_form t calls' a at f span kind)

  abbrev ValueGrows : TypedExpr → Type 0
  ValueGrows x = (at : At) → TellingGrow d n n' (low at x) (high at x)

  abbrev PlaceGrows : TypedPlace → Type 0
  PlaceGrows p = (at : At) → PlacingGrow d n n' (placing t calls a at p) (placing t calls' a at p)

  abbrev CallGrows : TypedCall → Type 0
  CallGrows q = (at : At) → Grows d n n' (call_does t calls a at q) (call_does t calls' a at q)

  form_is : (x : TypedExprForm-F TypedExprForm TypedCall TypedExpr TypedPlace) (m m' : At → Formed) → ((at : At) → telling_form t calls a at (roll-TypedExprForm x) ≡ m at) → ((at : At) → telling_form t calls' a at (roll-TypedExprForm x) ≡ m' at)
      → ((at : At) (span : Span) (kind : Kind) → TellingGrow d n n' (m at span kind) (m' at span kind)) → FormGrows (roll-TypedExprForm x)
  form_is x m m' e f h at span kind =
      subst (λ (q : Formed). TellingGrow d n n' (q span kind) (telling_form t calls' a at (roll-TypedExprForm x) span kind)) (sym (e at))
      (subst (λ (q : Formed). TellingGrow d n n' (m at span kind) (q span kind)) (sym (f at)) (h at span kind))

  constant_at : (v : ℕ) → FormGrows (roll-TypedExprForm (TypedExprForm-F.Constant v))
  constant_at v = form_is (TypedExprForm-F.Constant v) _ _ (λ at. forms.constant_is t calls a at v) (λ at. forms.constant_is t calls' a at v) (λ at span kind. constant_grows d n n' at span v kind)

  load_at : (p : TypedPlace) → PlaceGrows p → FormGrows (roll-TypedExprForm (TypedExprForm-F.Load p))
  load_at p h = form_is (TypedExprForm-F.Load p) _ _ (λ at. forms.load_is t calls a at p) (λ at. forms.load_is t calls' a at p) (λ at span kind. load_grows d n n' at span _ _ kind (h at))

  convert_at : (x : TypedExpr) → ValueGrows x → FormGrows (roll-TypedExprForm (TypedExprForm-F.Convert x))
  convert_at x h = form_is (TypedExprForm-F.Convert x) _ _ (λ at. forms.convert_is t calls a at x) (λ at. forms.convert_is t calls' a at x) (λ at span kind. convert_grows d n n' at span (low at x) (high at x) kind (h at))

  unary_at : (op : UnaryOp) (x : TypedExpr) → ValueGrows x → FormGrows (roll-TypedExprForm (TypedExprForm-F.Unary op x))
  unary_at op x h = form_is (TypedExprForm-F.Unary op x) _ _ (λ at. forms.unary_is t calls a at op x) (λ at. forms.unary_is t calls' a at op x) (λ at span kind. unary_grows d n n' at span op (low at x) (high at x) kind (h at))

  binary_at : (op : BinaryOp) (x y : TypedExpr) → ValueGrows x → ValueGrows y → FormGrows (roll-TypedExprForm (TypedExprForm-F.Binary op x y))
  binary_at op x y h g = form_is (TypedExprForm-F.Binary op x y) _ _ (λ at. forms.binary_is t calls a at op x y) (λ at. forms.binary_is t calls' a at op x y)
      (λ at span kind. binary_grows d n n' at span op (low at x) (high at x) (low at y) (high at y) kind (h at) (g at))

  both_at : (x y : TypedExpr) (cell : ℕ) → ValueGrows x → ValueGrows y → FormGrows (roll-TypedExprForm (TypedExprForm-F.Both x y cell))
  both_at x y cell h g = form_is (TypedExprForm-F.Both x y cell) _ _ (λ at. forms.both_is t calls a at x y cell) (λ at. forms.both_is t calls' a at x y cell)
      (λ at span kind. split_grows d n n' at span (decide_both (low at x).decide (low at y).decide) (decide_both (high at x).decide (high at y).decide) kind
      (both_grows d n n' at span (low at x).decide (high at x).decide (low at y).decide (high at y).decide (h at).decide (g at).decide))

  either_at : (x y : TypedExpr) (cell : ℕ) → ValueGrows x → ValueGrows y → FormGrows (roll-TypedExprForm (TypedExprForm-F.Either x y cell))
  either_at x y cell h g = form_is (TypedExprForm-F.Either x y cell) _ _ (λ at. forms.either_is t calls a at x y cell) (λ at. forms.either_is t calls' a at x y cell)
      (λ at span kind. split_grows d n n' at span (decide_either (low at x).decide (low at y).decide) (decide_either (high at x).decide (high at y).decide) kind
      (either_grows d n n' at span (low at x).decide (high at x).decide (low at y).decide (high at y).decide (h at).decide (g at).decide))

  choice_at : (c x y : TypedExpr) (cell : ℕ) → ValueGrows c → ValueGrows x → ValueGrows y → FormGrows (roll-TypedExprForm (TypedExprForm-F.Choice c x y cell))
  choice_at c x y cell h g k = form_is (TypedExprForm-F.Choice c x y cell) _ _ (λ at. forms.choice_is t calls a at c x y cell) (λ at. forms.choice_is t calls' a at c x y cell)
      (λ at span kind. part_grows d n n' at span (choice_does at ((low at c).decide true true) (evaluate (low at x)) (evaluate (low at y))) (choice_does at ((high at c).decide true true) (evaluate (high at x)) (evaluate (high at y))) kind
      (choice_grows d n n' at span ((low at c).decide true true) ((high at c).decide true true) (evaluate (low at x)) (evaluate (high at x)) (evaluate (low at y)) (evaluate (high at y)) ((h at).decide true true)
      (evaluate_grows d n n' (low at x) (high at x) (g at)) (evaluate_grows d n n' (low at y) (high at y) (k at))))

  call_form_at : (q : TypedCall) → CallGrows q → FormGrows (roll-TypedExprForm (TypedExprForm-F.Call q))
  call_form_at q h = form_is (TypedExprForm-F.Call q) _ _ (λ at. forms.call_form_is t calls a at q) (λ at. forms.call_form_is t calls' a at q) (λ at span kind. part_grows d n n' at span (call_does t calls a at q) (call_does t calls' a at q) kind (h at))

  words_grow : (at : At) (xs : List TypedExpr) → AllByRecursion ValueGrows xs → AllGrow d n n' (map (low at) xs) (map (high at) xs)
  words_grow at [] h = tt
  words_grow at (x ∷ xs) h = (h.0 at, words_grow at xs h.1)

  call_at : (x : TypedCall-F TypedExprForm TypedCall TypedExpr TypedPlace) → AllByRecursion ValueGrows x.words → CallGrows (roll-TypedCall x)
  call_at x h at =
      subst (λ (m : Evaluation). Grows d n n' m (call_does t calls' a at (roll-TypedCall x))) (sym (forms.call_is t calls a at x))
      (subst (λ (m : Evaluation). Grows d n n' (call_of at t calls a x.callee (map (low at) x.words) x.arrays) m) (sym (forms.call_is t calls' a at x))
      (call_grows d n n' at t calls calls' grow a x.callee (map (low at) x.words) (map (high at) x.words) x.arrays (words_grow at x.words h)))

  whole_at : (v : Variable) → PlaceGrows (roll-TypedPlace (record { variable = v; index = None }))
  whole_at v at =
      subst (λ (p : Placing). PlacingGrow d n n' p (placing t calls' a at (roll-TypedPlace (record { variable = v; index = None })))) (sym (forms.whole_is t calls a at v))
      (subst (λ (p : Placing). PlacingGrow d n n' (placed_at a v None) p) (sym (forms.whole_is t calls' a at v)) (whole_grows d n n' a v))

  element_at : (v : Variable) (i : TypedExpr) → ValueGrows i → PlaceGrows (roll-TypedPlace (record { variable = v; index = Some i }))
  element_at v i h at =
      subst (λ (p : Placing). PlacingGrow d n n' p (placing t calls' a at (roll-TypedPlace (record { variable = v; index = Some i })))) (sym (forms.element_is t calls a at v i))
      (subst (λ (p : Placing). PlacingGrow d n n' (placed_at a v (Some (low at i))) p) (sym (forms.element_is t calls' a at v i)) (element_grows d n n' a v (low at i) (high at i) (h at)))

  place_at : (x : TypedPlace-F TypedExprForm TypedCall TypedExpr TypedPlace) → IfSome x.index ValueGrows → PlaceGrows (roll-TypedPlace x)
  place_at x h = by x.variable x.index h
    where
      by : (v : Variable) (o : Option TypedExpr) → IfSome o ValueGrows → PlaceGrows (roll-TypedPlace (record { variable = v; index = o }))
      by v None h = whole_at v
      by v (Some i) h = element_at v i h

  place_given : (y : TypedPlace-F ((f : TypedExprForm) × FormGrows f) ((q : TypedCall) × CallGrows q) ((x : TypedExpr) × ValueGrows x) ((p : TypedPlace) × PlaceGrows p))
      → PlaceGrows (roll-TypedPlace (map-TypedPlace _ _ _ _ TypedExprForm TypedCall TypedExpr TypedPlace (λ q. q.0) (λ q. q.0) (λ q. q.0) (λ q. q.0) y))
  place_given y = place_at _ (index y.variable y.index)
    where
      index : (v : Variable) (o : Option ((x : TypedExpr) × ValueGrows x))
          → IfSome (map-TypedPlace ((f : TypedExprForm) × FormGrows f) ((q : TypedCall) × CallGrows q) ((x : TypedExpr) × ValueGrows x) ((p : TypedPlace) × PlaceGrows p) TypedExprForm TypedCall TypedExpr TypedPlace (λ q. q.0) (λ q. q.0) (λ q. q.0) (λ q. q.0) (record { variable = v; index = o })).index ValueGrows
      index v None = tt
      index v (Some q) = q.1

  expression_at : (x : TypedExpr-F TypedExprForm TypedCall TypedExpr TypedPlace) → FormGrows x.form → ValueGrows (roll-TypedExpr x)
  expression_at x h at =
      subst (λ (m : Telling). TellingGrow d n n' m (high at (roll-TypedExpr x))) (sym (forms.expression_is t calls a at x))
      (subst (λ (m : Telling). TellingGrow d n n' (telling_form t calls a at x.form x.span x.kind) m) (sym (forms.expression_is t calls' a at x)) (h at x.span x.kind))

  module _ {S : Type 0} (f : S → TypedExpr) (g : (q : S) → ValueGrows (f q)) where
    all_values : (ys : List S) → AllByRecursion ValueGrows (map f ys)
    all_values [] = tt
    all_values (y ∷ ys) = (g y, all_values ys)

  pub value_grows : (x : TypedExpr) → ValueGrows x
  value_grows x = ind-TypedExpr FormGrows CallGrows ValueGrows PlaceGrows
      (λ x'. elim [
        | TypedExprForm-F.Constant v ↦ λ e. subst (λ z. FormGrows (roll-TypedExprForm z)) e (constant_at v)
        | TypedExprForm-F.Load p ↦ λ e. subst (λ z. FormGrows (roll-TypedExprForm z)) e (load_at p.0 p.1)
        | TypedExprForm-F.Convert y ↦ λ e. subst (λ z. FormGrows (roll-TypedExprForm z)) e (convert_at y.0 y.1)
        | TypedExprForm-F.Unary op y ↦ λ e. subst (λ z. FormGrows (roll-TypedExprForm z)) e (unary_at op y.0 y.1)
        | TypedExprForm-F.Binary op y z' ↦ λ e. subst (λ z. FormGrows (roll-TypedExprForm z)) e (binary_at op y.0 z'.0 y.1 z'.1)
        | TypedExprForm-F.Both y z' cell ↦ λ e. subst (λ z. FormGrows (roll-TypedExprForm z)) e (both_at y.0 z'.0 cell y.1 z'.1)
        | TypedExprForm-F.Either y z' cell ↦ λ e. subst (λ z. FormGrows (roll-TypedExprForm z)) e (either_at y.0 z'.0 cell y.1 z'.1)
        | TypedExprForm-F.Choice c y z' cell ↦ λ e. subst (λ z. FormGrows (roll-TypedExprForm z)) e (choice_at c.0 y.0 z'.0 cell c.1 y.1 z'.1)
        | TypedExprForm-F.Call q ↦ λ e. subst (λ z. FormGrows (roll-TypedExprForm z)) e (call_form_at q.0 q.1)
      ])
      (λ x' y e. subst (λ z. CallGrows (roll-TypedCall z)) e (call_at (record { callee = y.callee; words = map (λ q. q.0) y.words; arrays = y.arrays; cell = y.cell }) (all_values (λ q. q.0) (λ q. q.1) y.words)))
      (λ x' y e. subst (λ z. ValueGrows (roll-TypedExpr z)) e (expression_at (record { span = y.span; kind = y.kind; form = y.form.0 }) y.form.1))
      (λ x' y e. subst (λ z. PlaceGrows (roll-TypedPlace z)) e (place_given y)) x

  values_grow : (at : At) (xs : List TypedExpr) → AllGrow d n n' (map (low at) xs) (map (high at) xs)
  values_grow at [] = tt
  values_grow at (x ∷ xs) = (value_grows x at, values_grow at xs)

  option_grows : (at : At) (o : Option TypedExpr) → OptionTelling d n n' (option_map (low at) o) (option_map (high at) o)
  option_grows at None = tt
  option_grows at (Some x) = value_grows x at

  decides_grow : (at : At) (x : TypedExpr) → Grows d n n' (decides t calls a at x) (decides t calls' a at x)
  decides_grow at x = (value_grows x at).decide true true

  test_grows : (at : At) (o : Option TypedExpr) → OptionGrows d n n' (option_map (decides t calls a at) o) (option_map (decides t calls' a at) o)
  test_grows at None = tt
  test_grows at (Some x) = decides_grow at x

  place_grows : (p : TypedPlace) → PlaceGrows p
  place_grows p = ind-TypedPlace (λ (f : TypedExprForm). Unit {0}) (λ (q : TypedCall). Unit {0}) (λ (x : TypedExpr). Unit {0}) PlaceGrows (λ x y e. tt) (λ x y e. tt) (λ x y e. tt) (λ x y e. place_at x (index x.index)) p
    where
      index : (o : Option TypedExpr) → IfSome o ValueGrows
      index None = tt
      index (Some x) = value_grows x

  does_call : (q : TypedCall) → CallGrows q
  does_call q = ind-TypedCall (λ (f : TypedExprForm). Unit {0}) CallGrows (λ (x : TypedExpr). Unit {0}) (λ (p : TypedPlace). Unit {0}) (λ x y e. tt) (λ x y e. call_at x (words x.words)) (λ x y e. tt) (λ x y e. tt) q
    where
      words : (xs : List TypedExpr) → AllByRecursion ValueGrows xs
      words [] = tt
      words (x ∷ xs) = (value_grows x, words xs)

  -- ---- statements

  abbrev below : TypedStatement → Meaning
  below = does t calls a

  abbrev above : TypedStatement → Meaning
  above = does t calls' a

  abbrev DoesGrow : TypedForm → Type 0
  DoesGrow f = (span : Span) → Grows d n n' (form_does t calls a f span) (form_does t calls' a f span)

  abbrev StatementGrows : TypedStatement → Type 0
  StatementGrows s = Grows d n n' (below s) (above s)

  abbrev GroupGrows : TypedGroup → Type 0
  GroupGrows g = (span : Span) → GroupGrow d n n' (group_of t calls a g span) (group_of t calls' a g span)

  does_is : (x : TypedForm-F TypedForm TypedGroup TypedStatement) (m m' : Span → Meaning) → form_does t calls a (roll-TypedForm x) ≡ m → form_does t calls' a (roll-TypedForm x) ≡ m' → ((span : Span) → Grows d n n' (m span) (m' span)) → DoesGrow (roll-TypedForm x)
  does_is x m m' e f h span = subst (λ (q : Span → Meaning). Grows d n n' (q span) (form_does t calls' a (roll-TypedForm x) span)) (sym e) (subst (λ (q : Span → Meaning). Grows d n n' (m span) (q span)) (sym f) (h span))

  row_grows : (ss : List TypedStatement) → AllByRecursion StatementGrows ss → RowGrows d n n' (map below ss) (map above ss)
  row_grows [] h = tt
  row_grows (s ∷ ss) h = (h.0, row_grows ss h.1)

  block_at : (body : List TypedStatement) → AllByRecursion StatementGrows body → DoesGrow (roll-TypedForm (TypedForm-F.Block body))
  block_at body h = does_is (TypedForm-F.Block body) _ _ (forms.block_is t calls a body) (forms.block_is t calls' a body) (λ span. block_grows d n n' span (map below body) (map above body) (row_grows body h))

  empty_at : DoesGrow (roll-TypedForm TypedForm-F.Empty)
  empty_at = does_is TypedForm-F.Empty _ _ (forms.empty_is t calls a) (forms.empty_is t calls' a) (λ span. leaving_grows d n n' (at_hand span kinds.Empty) GoesOn)

  local_at : (v : Variable) (first : Option TypedExpr) → DoesGrow (roll-TypedForm (TypedForm-F.Local v first))
  local_at v first = does_is (TypedForm-F.Local v first) _ _ (forms.local_is t calls a v first) (forms.local_is t calls' a v first)
      (λ span. declare_grows d n n' (at_hand span kinds.Decl) a v (option_map (low (at_hand span kinds.Decl)) first) (option_map (high (at_hand span kinds.Decl)) first) (option_grows (at_hand span kinds.Decl) first))

  array_at : (v : Variable) (list : List TypedExpr) → DoesGrow (roll-TypedForm (TypedForm-F.LocalArray v list))
  array_at v list = does_is (TypedForm-F.LocalArray v list) _ _ (forms.array_is t calls a v list) (forms.array_is t calls' a v list)
      (λ span. array_grows d n n' (at_hand span kinds.Decl) a v (map (low (at_hand span kinds.Decl)) list) (map (high (at_hand span kinds.Decl)) list) (values_grow (at_hand span kinds.Decl) list))

  assign_at : (p : TypedPlace) (op : Option (BinaryOp × Kind)) (x : TypedExpr) → DoesGrow (roll-TypedForm (TypedForm-F.Assign p op x))
  assign_at p op x = does_is (TypedForm-F.Assign p op x) _ _ (forms.assign_is t calls a p op x) (forms.assign_is t calls' a p op x)
      (λ span. let at = at_hand span kinds.Assign in assign_grows d n n' at (placing t calls a at p) (placing t calls' a at p) op (low at x) (high at x) (place_grows p at) (value_grows x at))

  call_statement_at : (q : TypedCall) → DoesGrow (roll-TypedForm (TypedForm-F.Call q))
  call_statement_at q = does_is (TypedForm-F.Call q) _ _ (forms.call_statement_is t calls a q) (forms.call_statement_is t calls' a q)
      (λ span. let at = at_hand span kinds.Call in call_done_grows d n n' at (call_does t calls a at q) (call_does t calls' a at q) (does_call q at))

  label_at : (name : List ℕ) (body : TypedStatement) → StatementGrows body → DoesGrow (roll-TypedForm (TypedForm-F.Label name body))
  label_at name body h = does_is (TypedForm-F.Label name body) _ _ (forms.label_is t calls a name body) (forms.label_is t calls' a name body) (λ span. labelled_grows d n n' (at_hand span kinds.Label) name (below body) (above body) h)

  abbrev ArmStatements : List (TypedExpr × TypedStatement) → Type 0
  ArmStatements list = AllByRecursion (λ (arm : TypedExpr × TypedStatement). StatementGrows arm.1) list

  arms_of : (at : At) (list : List (TypedExpr × TypedStatement)) → ArmStatements list → ArmsGrow d n n' (map (arm_does t calls a at) (map (forms.paired t calls a) list)) (map (arm_does t calls' a at) (map (forms.paired t calls' a) list))
  arms_of at [] h = tt
  arms_of at (arm ∷ list) h = ((decides_grow at arm.0, h.0), arms_of at list h.1)

  last_of : (o : Option TypedStatement) → IfSome o StatementGrows → OptionGrows d n n' (option_map below o) (option_map above o)
  last_of None h = tt
  last_of (Some s) h = h

  if_at : (list : List (TypedExpr × TypedStatement)) (o : Option TypedStatement) → ArmStatements list → IfSome o StatementGrows → DoesGrow (roll-TypedForm (TypedForm-F.If list o))
  if_at list o h k = does_is (TypedForm-F.If list o) _ _ (forms.if_is t calls a list o) (forms.if_is t calls' a list o) (λ span. arms_grow d n n' _ _ (option_map below o) (option_map above o) (arms_of (at_hand span kinds.If) list h) (last_of o k))

  while_at : (test : TypedExpr) (body : TypedStatement) → StatementGrows body → DoesGrow (roll-TypedForm (TypedForm-F.While test body))
  while_at test body h = does_is (TypedForm-F.While test body) _ _ (forms.while_is t calls a test body) (forms.while_is t calls' a test body)
      (λ span. let at = at_hand span kinds.While in while_grows d n n' at (decides t calls a at test) (decides t calls' a at test) (below body) (above body) (decides_grow at test) h)

  do_at : (body : TypedStatement) (test : TypedExpr) → StatementGrows body → DoesGrow (roll-TypedForm (TypedForm-F.Do body test))
  do_at body test h = does_is (TypedForm-F.Do body test) _ _ (forms.do_is t calls a body test) (forms.do_is t calls' a body test)
      (λ span. let at = at_hand span kinds.Do in do_grows d n n' at (decides t calls a at test) (decides t calls' a at test) (below body) (above body) (decides_grow at test) h)

  for_at : (first : List TypedStatement) (test : Option TypedExpr) (next : Option TypedStatement) (body : TypedStatement) → AllByRecursion StatementGrows first → IfSome next StatementGrows → StatementGrows body → DoesGrow (roll-TypedForm (TypedForm-F.For first test next body))
  for_at first test next body h k g = does_is (TypedForm-F.For first test next body) _ _ (forms.for_is t calls a first test next body) (forms.for_is t calls' a first test next body)
      (λ span.
      let at = at_hand span kinds.For in
      for_grows d n n' at (map below first) (map above first) (option_map (decides t calls a at) test) (option_map (decides t calls' a at) test) (option_map below next) (option_map above next) (below body) (above body) (row_grows first h) (test_grows at test) (last_of next k) g)

  groups_of : (span : Span) (gs : List TypedGroup) → AllByRecursion GroupGrows gs → GroupsGrow d n n' (map (λ (g : Span → Group). g span) (map (group_of t calls a) gs)) (map (λ (g : Span → Group). g span) (map (group_of t calls' a) gs))
  groups_of span [] h = tt
  groups_of span (g ∷ gs) h = (h.0 span, groups_of span gs h.1)

  switch_at : (x : TypedExpr) (cell : ℕ) (gs : List TypedGroup) → AllByRecursion GroupGrows gs → DoesGrow (roll-TypedForm (TypedForm-F.Switch x cell gs))
  switch_at x cell gs h = does_is (TypedForm-F.Switch x cell gs) _ _ (forms.switch_is t calls a x cell gs) (forms.switch_is t calls' a x cell gs)
      (λ span. let at = at_hand span kinds.Switch in switch_grows d n n' at (evaluate (low at x)) (evaluate (high at x)) _ _ (evaluate_grows d n n' (low at x) (high at x) (value_grows x at)) (groups_of span gs h))

  break_at : DoesGrow (roll-TypedForm TypedForm-F.Break)
  break_at = does_is TypedForm-F.Break _ _ (forms.break_is t calls a) (forms.break_is t calls' a) (λ span. leaving_grows d n n' (at_hand span kinds.Jump) Breaks)

  continue_at : DoesGrow (roll-TypedForm TypedForm-F.Continue)
  continue_at = does_is TypedForm-F.Continue _ _ (forms.continue_is t calls a) (forms.continue_is t calls' a) (λ span. leaving_grows d n n' (at_hand span kinds.Jump) Continues)

  return_at : (x : Option TypedExpr) → DoesGrow (roll-TypedForm (TypedForm-F.Return x))
  return_at x = does_is (TypedForm-F.Return x) _ _ (forms.return_is t calls a x) (forms.return_is t calls' a x)
      (λ span. let at = at_hand span kinds.Return in return_grows d n n' at a (option_map (low at) x) (option_map (high at) x) (option_grows at x))

  assert_at : (x : TypedExpr) → DoesGrow (roll-TypedForm (TypedForm-F.Assert x))
  assert_at x = does_is (TypedForm-F.Assert x) _ _ (forms.assert_is t calls a x) (forms.assert_is t calls' a x)
      (λ span. let at = at_hand span kinds.Assert in tested_grows d n n' at (TrapEnd trap.Assert) (low at x) (high at x) (value_grows x at))

  assume_at : (x : TypedExpr) → DoesGrow (roll-TypedForm (TypedForm-F.Assume x))
  assume_at x = does_is (TypedForm-F.Assume x) _ _ (forms.assume_is t calls a x) (forms.assume_is t calls' a x)
      (λ span. let at = at_hand span kinds.Assume in tested_grows d n n' at BlockedEnd (low at x) (high at x) (value_grows x at))

  group_at : (g : TypedGroup-F TypedForm TypedGroup TypedStatement) → AllByRecursion StatementGrows g.body → GroupGrows (roll-TypedGroup g)
  group_at g h span =
      subst (λ (q : Group). GroupGrow d n n' q (group_of t calls' a (roll-TypedGroup g) span)) (sym (forms.group_is t calls a g span))
      (subst (λ (q : Group). GroupGrow d n n' (record { labels = g.labels; does = block span (map below g.body) }) q) (sym (forms.group_is t calls' a g span)) (refl, block_grows d n n' span (map below g.body) (map above g.body) (row_grows g.body h)))

  statement_at : (s : TypedStatement-F TypedForm TypedGroup TypedStatement) → DoesGrow s.form → StatementGrows (roll-TypedStatement s)
  statement_at s h =
      subst (λ (q : Meaning). Grows d n n' q (above (roll-TypedStatement s))) (sym (forms.statement_is t calls a s)) (subst (λ (q : Meaning). Grows d n n' (form_does t calls a s.form s.span) q) (sym (forms.statement_is t calls' a s)) (h s.span))

  module _ {S : Type 0} (f : S → TypedStatement) (g : (q : S) → StatementGrows (f q)) where
    all_statements : (ys : List S) → AllByRecursion StatementGrows (map f ys)
    all_statements [] = tt
    all_statements (y ∷ ys) = (g y, all_statements ys)

    all_arms : (ys : List (TypedExpr × S)) → ArmStatements (map (λ (arm : TypedExpr × S). (arm.0, f arm.1)) ys)
    all_arms [] = tt
    all_arms (y ∷ ys) = (g y.1, all_arms ys)

  module _ {S : Type 0} (f : S → TypedGroup) (g : (q : S) → GroupGrows (f q)) where
    all_groups : (ys : List S) → AllByRecursion GroupGrows (map f ys)
    all_groups [] = tt
    all_groups (y ∷ ys) = (g y, all_groups ys)

  statement_grows : (s : TypedStatement) → StatementGrows s
  statement_grows s = ind-TypedStatement DoesGrow GroupGrows StatementGrows
      (λ x'. elim [
        | TypedForm-F.Block ys ↦ λ e. subst (λ z. DoesGrow (roll-TypedForm z)) e (block_at _ (all_statements (λ q. q.0) (λ q. q.1) ys))
        | TypedForm-F.Empty ↦ λ e. subst (λ z. DoesGrow (roll-TypedForm z)) e empty_at
        | TypedForm-F.Local v first ↦ λ e. subst (λ z. DoesGrow (roll-TypedForm z)) e (local_at v first)
        | TypedForm-F.LocalArray v list ↦ λ e. subst (λ z. DoesGrow (roll-TypedForm z)) e (array_at v list)
        | TypedForm-F.Assign p op x ↦ λ e. subst (λ z. DoesGrow (roll-TypedForm z)) e (assign_at p op x)
        | TypedForm-F.Call q ↦ λ e. subst (λ z. DoesGrow (roll-TypedForm z)) e (call_statement_at q)
        | TypedForm-F.Label name y ↦ λ e. subst (λ z. DoesGrow (roll-TypedForm z)) e (label_at name y.0 y.1)
        | TypedForm-F.If arms None ↦ λ e. subst (λ z. DoesGrow (roll-TypedForm z)) e (if_at _ None (all_arms (λ q. q.0) (λ q. q.1) arms) tt)
        | TypedForm-F.If arms (Some o) ↦ λ e. subst (λ z. DoesGrow (roll-TypedForm z)) e (if_at _ (Some o.0) (all_arms (λ q. q.0) (λ q. q.1) arms) o.1)
        | TypedForm-F.While x y ↦ λ e. subst (λ z. DoesGrow (roll-TypedForm z)) e (while_at x y.0 y.1)
        | TypedForm-F.Do y x ↦ λ e. subst (λ z. DoesGrow (roll-TypedForm z)) e (do_at y.0 x y.1)
        | TypedForm-F.For first x None y ↦ λ e. subst (λ z. DoesGrow (roll-TypedForm z)) e (for_at _ x None y.0 (all_statements (λ q. q.0) (λ q. q.1) first) tt y.1)
        | TypedForm-F.For first x (Some j) y ↦ λ e. subst (λ z. DoesGrow (roll-TypedForm z)) e (for_at _ x (Some j.0) y.0 (all_statements (λ q. q.0) (λ q. q.1) first) j.1 y.1)
        | TypedForm-F.Switch x cell gs ↦ λ e. subst (λ z. DoesGrow (roll-TypedForm z)) e (switch_at x cell _ (all_groups (λ q. q.0) (λ q. q.1) gs))
        | TypedForm-F.Break ↦ λ e. subst (λ z. DoesGrow (roll-TypedForm z)) e break_at
        | TypedForm-F.Continue ↦ λ e. subst (λ z. DoesGrow (roll-TypedForm z)) e continue_at
        | TypedForm-F.Return x ↦ λ e. subst (λ z. DoesGrow (roll-TypedForm z)) e (return_at x)
        | TypedForm-F.Assert x ↦ λ e. subst (λ z. DoesGrow (roll-TypedForm z)) e (assert_at x)
        | TypedForm-F.Assume x ↦ λ e. subst (λ z. DoesGrow (roll-TypedForm z)) e (assume_at x)
      ])
      (λ x' y e. subst (λ z. GroupGrows (roll-TypedGroup z)) e (group_at (record { labels = y.labels; body = map (λ q. q.0) y.body }) (all_statements (λ q. q.0) (λ q. q.1) y.body)))
      (λ x' y e. subst (λ z. StatementGrows (roll-TypedStatement z)) e (statement_at (record { span = y.span; form = y.form.0 }) y.form.1)) s

  pub body_grows : (place : Span) (ss : List TypedStatement) → Grows d n n' (block place (map below ss)) (block place (map above ss))
  body_grows place ss = block_grows d n n' place (map below ss) (map above ss) (row_grows ss (every ss))
    where
      every : (xs : List TypedStatement) → AllByRecursion StatementGrows xs
      every [] = tt
      every (x ∷ xs) = (statement_grows x, every xs)

-- ---- the laws

bodies_grow : (d : ℕ) (t : Typed) → BodiesGrow d (body_does t)
bodies_grow d t n n' calls calls' h f a = body_grows d t a n n' calls calls' h f.span f.body

calls_grow : (d : ℕ) (t : Typed) (a : Activation) (n n' : ℕ) → CallsGrow d n n' (calls_in t a) (calls_in t a)
unfolding calls_in
calls_grow d t a n n' = calling_grows d (body_does t) t.functions (bodies_grow d t) (64 - a.depth) n n'

function_grows : (t : Typed) (f : TypedFunction) (input : Input) (turns d : ℕ) → Grown d turns (function_told t f input turns) (function_told t f input (turns + d))
function_grows t f input turns d =
    let n = turns + 1 in
    let n' = turns + d + 1 in
    let a = first_activation t f in
    let s = first_store t f input turns in
    let less : turns < n = omega arith in
    let also : turns + d < n' = omega arith in
    bodies_grow d t n n' (calls_in t a) (calls_in t a) (calls_grow d t a n n') f a s (less, also)

more_events : (d turns : ℕ) (x y : Told Way) → Grown d turns x y → (rest : List Event) × (y.events ≡ x.events ++ rest)
more_events d turns x y h = by x.done h
  where
    none : (q : Done Way) → y ≡ record { events = x.events; done = q } → (rest : List Event) × (y.events ≡ x.events ++ rest)
    none q e = ([], ap (λ (z : Told Way). z.events) e ∙ sym (append-nil x.events))

    by : (q : Done Way) → GrownBy d turns x.events q y → (rest : List Event) × (y.events ≡ x.events ++ rest)
    by (Gives way s) h = none _ h.0
    by (Ends end) h = none _ h
    by OutOfTurns h = h

all_events : (t : Typed) (f : TypedFunction) (d turns : ℕ) (x y : Told Way) → Grown d turns x y → run_end t f x.done ≢ ends.OutOfTurns → y.events ≡ x.events
all_events t f d turns x y h is = by x.done h is
  where
    by : (q : Done Way) → GrownBy d turns x.events q y → run_end t f q ≢ ends.OutOfTurns → y.events ≡ x.events
    by (Gives way s) h is = ap (λ (z : Told Way). z.events) h.0
    by (Ends end) h is = ap (λ (z : Told Way). z.events) h
    by OutOfTurns h is = absurd (is refl)

pub more_turns_tell_more : MoreTurnsTellMore
more_turns_tell_more t entry input turns d = by (slice_get t.functions entry)
  where
    by : (o : Option TypedFunction) → (rest : List Event) × (events_if t o input (turns + d) ≡ events_if t o input turns ++ rest)
    by None = ([], refl)
    by (Some f) = more_events d turns _ _ (function_grows t f input turns d)

pub enough_turns_tell_all : EnoughTurnsTellAll
enough_turns_tell_all t entry input turns d is = by (slice_get t.functions entry) is
  where
    by : (o : Option TypedFunction) → end_if t o input turns ≢ ends.OutOfTurns → events_if t o input (turns + d) ≡ events_if t o input turns
    by None is = refl
    by (Some f) is = all_events t f d turns _ _ (function_grows t f input turns d) is
