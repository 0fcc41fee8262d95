-- With more turns a tree does the same, if there were enough.
use Rattle.std.proofs.Common.{◌≡◌, ◌≢◌, ℕ, ◌+◌, ◌-◌, ◌<◌, List, [], ◌∷◌, map, Option, Some, None, refl, sym, ap, subst, arith}
use Rattle.std.specs.Prelude.{IfSome, slice_get}
use Rattle.std.specs.List.{AllByRecursion}
use Rattle.std.specs.Option.{option_map}
use Rattle.c_values.specs.declared.kinds.Kind.{Kind}
use Rattle.c_values.specs.declared.operators.BinaryOp.{BinaryOp}
use Rattle.c_values.specs.declared.operators.UnaryOp.{UnaryOp}
use Rattle.c_meaning.specs.declared.input.Input.{Input}
use Rattle.cfa.specs.declared.parts.Variable.{Variable}
use Rattle.cfa.specs.declared.state.Trap.TheVariants as trap
use Rattle.c_typed_trees.specs.declared.expression.TypedCall.{TypedCall, roll-TypedCall, ind-TypedCall}
use Rattle.c_typed_trees.specs.declared.expression.TypedExpr.{TypedExpr, ind-TypedExpr, roll-TypedExpr}
use Rattle.c_typed_trees.specs.declared.expression.TypedExprForm.{TypedExprForm, roll-TypedExprForm}
use Rattle.c_typed_trees.specs.declared.expression.TypedExprForm.TheOpen.{TypedCall-F, TypedExpr-F, TypedExprForm-F, TypedPlace-F}
use Rattle.c_typed_trees.specs.declared.expression.TypedPlace.{TypedPlace, ind-TypedPlace, map-TypedPlace, roll-TypedPlace}
use Rattle.c_typed_trees.specs.declared.statement.TypedForm.{TypedForm, roll-TypedForm}
use Rattle.c_typed_trees.specs.declared.statement.TypedForm.TheOpen.{TypedForm-F, TypedGroup-F, TypedStatement-F}
use Rattle.c_typed_trees.specs.declared.statement.TypedGroup.{TypedGroup, roll-TypedGroup}
use Rattle.c_typed_trees.specs.declared.statement.TypedStatement.{TypedStatement, ind-TypedStatement, roll-TypedStatement}
use Rattle.c_typed_trees.specs.declared.unit.Typed.{Typed}
use Rattle.c_typed_trees.specs.declared.unit.TypedFunction.{TypedFunction}
use Rattle.tree_meaning.specs.declared.ends.TreeEnd.TheVariants as ends
use Rattle.tree_meaning.specs.Outcomes.{TrapEnd, BlockedEnd, Done, Gives, Ends, OutOfTurns, Evaluation, Meaning}
use Rattle.tree_meaning.specs.declared.way.Way.{Way}
use Rattle.tree_meaning.specs.declared.way.Way.TheVariants.{GoesOn, Breaks, Continues}
use Rattle.tree_meaning.specs.declared.activation.Activation.{Activation}
use Rattle.tree_meaning.specs.Expressions.{Meant, Placed, evaluate, both_does, either_does, choice_does, placed_at}
use Rattle.tree_meaning.specs.Statements.{block}
use Rattle.tree_meaning.specs.Switch.{Group}
use Rattle.tree_meaning.specs.Calls.{Calls, call_of}
use Rattle.tree_meaning.specs.Trees.{meant_form, meant, placed, call_does, value, arm_does, form_does, group_of, does, body_does, calls_in}
use Rattle.tree_meaning.specs.Ends.{first_activation, first_store, run_end, function_end, end_if}
use Rattle.tree_meaning.specs.Laws.{TurnsSuffice}
use Rattle.tree_meaning.proofs.Grows.{more, Grown, Grows, give_grows, MeantGrow, PlacedGrow, evaluate_grows, constant_grows, convert_grows, whole_grows, element_grows, load_grows, unary_grows, binary_grows, part_grows, both_grows, either_grows, choice_grows, AllGrow, CallsGrow, call_grows, RowGrows, block_grows, ArmsGrow, OptionGrows, arms_grow, assign_grows, OptionMeant, declare_grows, array_grows, return_grows, tested_grows, call_statement_grows, while_grows, do_grows, for_grows, GroupGrow, GroupsGrow, switch_grows, BodiesGrow, calling_grows}
use Rattle.tree_meaning.proofs.TreeForms.{constant_is, load_is, convert_is, unary_is, binary_is, both_is, either_is, choice_is, call_form_is, expression_is, call_is, whole_is, element_is, paired, block_is, empty_is, local_is, array_is, assign_is, call_statement_is, label_is, if_is, while_is, do_is, for_is, switch_is, break_is, continue_is, return_is, assert_is, assume_is, group_is, statement_is}

module _ (d : ℕ) (t : Typed) (a : Activation) (n n' : ℕ) (calls calls' : Calls) (grow : CallsGrow d n n' calls calls') where
  abbrev low : TypedExpr → Meant
  low = meant t calls a

  abbrev high : TypedExpr → Meant
  high = meant t calls' a

  abbrev Same : Meant → Meant → Type 0
  Same = MeantGrow d n n'

  -- ---- expressions

  abbrev FormGrows : TypedExprForm → Type 0
  FormGrows f = (kind : Kind) → Same (meant_form t calls a f kind) (meant_form t calls' a f kind)

  abbrev ValueGrows : TypedExpr → Type 0
  ValueGrows x = Same (low x) (high x)

  abbrev PlaceGrows : TypedPlace → Type 0
  PlaceGrows p = PlacedGrow d n n' (placed t calls a p) (placed t calls' a p)

  abbrev CallGrows : TypedCall → Type 0
  CallGrows c = Grows d n n' (call_does t calls a c) (call_does t calls' a c)

  form_is : (x : TypedExprForm-F TypedExprForm TypedCall TypedExpr TypedPlace) (m m' : Kind → Meant) → meant_form t calls a (roll-TypedExprForm x) ≡ m → meant_form t calls' a (roll-TypedExprForm x) ≡ m'
      → ((kind : Kind) → Same (m kind) (m' kind)) → FormGrows (roll-TypedExprForm x)
  form_is x m m' e f h kind = subst (λ (g : Kind → Meant). Same (g kind) (meant_form t calls' a (roll-TypedExprForm x) kind)) (sym e) (subst (λ (g : Kind → Meant). Same (m kind) (g kind)) (sym f) (h kind))

  constant_at : (v : ℕ) → FormGrows (roll-TypedExprForm (TypedExprForm-F.Constant v))
  constant_at v = form_is (TypedExprForm-F.Constant v) _ _ (constant_is t calls a v) (constant_is t calls' a v) (λ kind. constant_grows d n n' v kind)

  load_at : (p : TypedPlace) → PlaceGrows p → FormGrows (roll-TypedExprForm (TypedExprForm-F.Load p))
  load_at p h = form_is (TypedExprForm-F.Load p) _ _ (load_is t calls a p) (load_is t calls' a p) (λ kind. load_grows d n n' (placed t calls a p) (placed t calls' a p) kind h)

  convert_at : (x : TypedExpr) → ValueGrows x → FormGrows (roll-TypedExprForm (TypedExprForm-F.Convert x))
  convert_at x h = form_is (TypedExprForm-F.Convert x) _ _ (convert_is t calls a x) (convert_is t calls' a x) (λ kind. convert_grows d n n' (low x) (high x) kind h)

  unary_at : (op : UnaryOp) (x : TypedExpr) → ValueGrows x → FormGrows (roll-TypedExprForm (TypedExprForm-F.Unary op x))
  unary_at op x h = form_is (TypedExprForm-F.Unary op x) _ _ (unary_is t calls a op x) (unary_is t calls' a op x) (λ kind. unary_grows d n n' op (low x) (high x) kind h)

  binary_at : (op : BinaryOp) (x y : TypedExpr) → ValueGrows x → ValueGrows y → FormGrows (roll-TypedExprForm (TypedExprForm-F.Binary op x y))
  binary_at op x y h k = form_is (TypedExprForm-F.Binary op x y) _ _ (binary_is t calls a op x y) (binary_is t calls' a op x y) (λ kind. binary_grows d n n' op (low x) (high x) (low y) (high y) kind h k)

  abbrev of : (x : TypedExpr) → ValueGrows x → Grows d n n' (value t calls a x) (value t calls' a x)
  of x h = evaluate_grows d n n' (low x) (high x) h

  both_at : (x y : TypedExpr) (cell : ℕ) → ValueGrows x → ValueGrows y → FormGrows (roll-TypedExprForm (TypedExprForm-F.Both x y cell))
  both_at x y cell h k =
      form_is (TypedExprForm-F.Both x y cell) _ _ (both_is t calls a x y cell) (both_is t calls' a x y cell)
      (λ kind. part_grows d n n' (both_does (evaluate (low x)) (evaluate (low y))) (both_does (evaluate (high x)) (evaluate (high y))) kind (both_grows d n n' (evaluate (low x)) (evaluate (high x)) (evaluate (low y)) (evaluate (high y)) (of x h) (of y k)))

  either_at : (x y : TypedExpr) (cell : ℕ) → ValueGrows x → ValueGrows y → FormGrows (roll-TypedExprForm (TypedExprForm-F.Either x y cell))
  either_at x y cell h k =
      form_is (TypedExprForm-F.Either x y cell) _ _ (either_is t calls a x y cell) (either_is t calls' a x y cell)
      (λ kind. part_grows d n n' (either_does (evaluate (low x)) (evaluate (low y))) (either_does (evaluate (high x)) (evaluate (high y))) kind (either_grows d n n' (evaluate (low x)) (evaluate (high x)) (evaluate (low y)) (evaluate (high y)) (of x h) (of y k)))

  choice_at : (c x y : TypedExpr) (cell : ℕ) → ValueGrows c → ValueGrows x → ValueGrows y → FormGrows (roll-TypedExprForm (TypedExprForm-F.Choice c x y cell))
  choice_at c x y cell g h k =
      form_is (TypedExprForm-F.Choice c x y cell) _ _ (choice_is t calls a c x y cell) (choice_is t calls' a c x y cell)
      (λ kind. part_grows d n n' (choice_does (evaluate (low c)) (evaluate (low x)) (evaluate (low y))) (choice_does (evaluate (high c)) (evaluate (high x)) (evaluate (high y))) kind
      (choice_grows d n n' (evaluate (low c)) (evaluate (high c)) (evaluate (low x)) (evaluate (high x)) (evaluate (low y)) (evaluate (high y)) (of c g) (of x h) (of y k)))

  call_form_at : (c : TypedCall) → CallGrows c → FormGrows (roll-TypedExprForm (TypedExprForm-F.Call c))
  call_form_at c h = form_is (TypedExprForm-F.Call c) _ _ (call_form_is t calls a c) (call_form_is t calls' a c) (λ kind. part_grows d n n' (call_does t calls a c) (call_does t calls' a c) kind h)

  words_grow : (xs : List TypedExpr) → AllByRecursion ValueGrows xs → AllGrow d n n' (map low xs) (map high xs)
  words_grow [] h = tt
  words_grow (x ∷ xs) h = (h.0, words_grow xs h.1)

  call_at : (x : TypedCall-F TypedExprForm TypedCall TypedExpr TypedPlace) → AllByRecursion ValueGrows x.words → CallGrows (roll-TypedCall x)
  call_at x h =
      subst (λ (m : Evaluation). Grows d n n' m (call_does t calls' a (roll-TypedCall x))) (sym (call_is t calls a x))
      (subst (λ (m : Evaluation). Grows d n n' (call_of t calls a x.callee (map low x.words) x.arrays) m) (sym (call_is t calls' a x))
      (call_grows d n n' t calls calls' grow a x.callee (map low x.words) (map high x.words) x.arrays (words_grow x.words h)))

  whole_at : (v : Variable) → PlaceGrows (roll-TypedPlace (record { variable = v; index = None }))
  whole_at v =
      subst (λ (p : Placed). PlacedGrow d n n' p (placed t calls' a (roll-TypedPlace (record { variable = v; index = None })))) (sym (whole_is t calls a v))
      (subst (λ (p : Placed). PlacedGrow d n n' (placed_at a v None) p) (sym (whole_is t calls' a v)) (whole_grows d n n' a v))

  element_at : (v : Variable) (i : TypedExpr) → ValueGrows i → PlaceGrows (roll-TypedPlace (record { variable = v; index = Some i }))
  element_at v i h =
      subst (λ (p : Placed). PlacedGrow d n n' p (placed t calls' a (roll-TypedPlace (record { variable = v; index = Some i })))) (sym (element_is t calls a v i))
      (subst (λ (p : Placed). PlacedGrow d n n' (placed_at a v (Some (low i))) p) (sym (element_is t calls' a v i)) (element_grows d n n' a v (low i) (high i) h))

  place_at : (x : TypedPlace-F TypedExprForm TypedCall TypedExpr TypedPlace) → IfSome x.index ValueGrows → PlaceGrows (roll-TypedPlace x)
  place_at x h = by x.variable x.index h
    where
      by : (v : Variable) (o : Option TypedExpr) → IfSome o ValueGrows → PlaceGrows (roll-TypedPlace (record { variable = v; index = o }))
      by v None h = whole_at v
      by v (Some i) h = element_at v i h

  place_given : (y : TypedPlace-F ((f : TypedExprForm) × FormGrows f) ((q : TypedCall) × CallGrows q) ((x : TypedExpr) × ValueGrows x) ((p : TypedPlace) × PlaceGrows p))
      → PlaceGrows (roll-TypedPlace (map-TypedPlace _ _ _ _ TypedExprForm TypedCall TypedExpr TypedPlace (λ q. q.0) (λ q. q.0) (λ q. q.0) (λ q. q.0) y))
  place_given y = place_at _ (index y.variable y.index)
    where
      index : (v : Variable) (o : Option ((x : TypedExpr) × ValueGrows x))
          → IfSome (map-TypedPlace ((f : TypedExprForm) × FormGrows f) ((q : TypedCall) × CallGrows q) ((x : TypedExpr) × ValueGrows x) ((p : TypedPlace) × PlaceGrows p) TypedExprForm TypedCall TypedExpr TypedPlace (λ q. q.0) (λ q. q.0) (λ q. q.0) (λ q. q.0) (record { variable = v; index = o })).index ValueGrows
      index v None = tt
      index v (Some q) = q.1

  expression_at : (x : TypedExpr-F TypedExprForm TypedCall TypedExpr TypedPlace) → FormGrows x.form → ValueGrows (roll-TypedExpr x)
  expression_at x h =
      subst (λ (m : Meant). Same m (high (roll-TypedExpr x))) (sym (expression_is t calls a x)) (subst (λ (m : Meant). Same (meant_form t calls a x.form x.kind) m) (sym (expression_is t calls' a x)) (h x.kind))

  module _ {S : Type 0} (f : S → TypedExpr) (g : (q : S) → ValueGrows (f q)) where
    all_values : (ys : List S) → AllByRecursion ValueGrows (map f ys)
    all_values [] = tt
    all_values (y ∷ ys) = (g y, all_values ys)

  value_grows : (x : TypedExpr) → ValueGrows x
  value_grows x = ind-TypedExpr FormGrows CallGrows ValueGrows PlaceGrows
      (λ x'. elim [
        | TypedExprForm-F.Constant v ↦ λ e. subst (λ z. FormGrows (roll-TypedExprForm z)) e (constant_at v)
        | TypedExprForm-F.Load p ↦ λ e. subst (λ z. FormGrows (roll-TypedExprForm z)) e (load_at p.0 p.1)
        | TypedExprForm-F.Convert y ↦ λ e. subst (λ z. FormGrows (roll-TypedExprForm z)) e (convert_at y.0 y.1)
        | TypedExprForm-F.Unary op y ↦ λ e. subst (λ z. FormGrows (roll-TypedExprForm z)) e (unary_at op y.0 y.1)
        | TypedExprForm-F.Binary op y z' ↦ λ e. subst (λ z. FormGrows (roll-TypedExprForm z)) e (binary_at op y.0 z'.0 y.1 z'.1)
        | TypedExprForm-F.Both y z' cell ↦ λ e. subst (λ z. FormGrows (roll-TypedExprForm z)) e (both_at y.0 z'.0 cell y.1 z'.1)
        | TypedExprForm-F.Either y z' cell ↦ λ e. subst (λ z. FormGrows (roll-TypedExprForm z)) e (either_at y.0 z'.0 cell y.1 z'.1)
        | TypedExprForm-F.Choice c y z' cell ↦ λ e. subst (λ z. FormGrows (roll-TypedExprForm z)) e (choice_at c.0 y.0 z'.0 cell c.1 y.1 z'.1)
        | TypedExprForm-F.Call q ↦ λ e. subst (λ z. FormGrows (roll-TypedExprForm z)) e (call_form_at q.0 q.1)
      ])
      (λ x' y e. subst (λ z. CallGrows (roll-TypedCall z)) e (call_at (record { callee = y.callee; words = map (λ q. q.0) y.words; arrays = y.arrays; cell = y.cell }) (all_values (λ q. q.0) (λ q. q.1) y.words)))
      (λ x' y e. subst (λ z. ValueGrows (roll-TypedExpr z)) e (expression_at (record { span = y.span; kind = y.kind; form = y.form.0 }) y.form.1))
      (λ x' y e. subst (λ z. PlaceGrows (roll-TypedPlace z)) e (place_given y)) x

  values_grow : (xs : List TypedExpr) → AllGrow d n n' (map low xs) (map high xs)
  values_grow [] = tt
  values_grow (x ∷ xs) = (value_grows x, values_grow xs)

  option_grows : (o : Option TypedExpr) → OptionMeant d n n' (option_map low o) (option_map high o)
  option_grows None = tt
  option_grows (Some x) = value_grows x

  test_grows : (o : Option TypedExpr) → OptionGrows d n n' (option_map (value t calls a) o) (option_map (value t calls' a) o)
  test_grows None = tt
  test_grows (Some x) = of x (value_grows x)

  place_grows : (p : TypedPlace) → PlaceGrows p
  place_grows p = ind-TypedPlace (λ (f : TypedExprForm). Unit {0}) (λ (q : TypedCall). Unit {0}) (λ (x : TypedExpr). Unit {0}) PlaceGrows (λ x y e. tt) (λ x y e. tt) (λ x y e. tt) (λ x y e. place_at x (index x.index)) p
    where
      index : (o : Option TypedExpr) → IfSome o ValueGrows
      index None = tt
      index (Some x) = value_grows x

  does_call : (c : TypedCall) → CallGrows c
  does_call c = ind-TypedCall (λ (f : TypedExprForm). Unit {0}) CallGrows (λ (x : TypedExpr). Unit {0}) (λ (p : TypedPlace). Unit {0}) (λ x y e. tt) (λ x y e. call_at x (words x.words)) (λ x y e. tt) (λ x y e. tt) c
    where
      words : (xs : List TypedExpr) → AllByRecursion ValueGrows xs
      words [] = tt
      words (x ∷ xs) = (value_grows x, words xs)

  -- ---- statements

  abbrev below : TypedStatement → Meaning
  below = does t calls a

  abbrev above : TypedStatement → Meaning
  above = does t calls' a

  abbrev DoesGrow : TypedForm → Type 0
  DoesGrow f = Grows d n n' (form_does t calls a f) (form_does t calls' a f)

  abbrev StatementGrows : TypedStatement → Type 0
  StatementGrows s = Grows d n n' (below s) (above s)

  abbrev GroupGrows : TypedGroup → Type 0
  GroupGrows g = GroupGrow d n n' (group_of t calls a g) (group_of t calls' a g)

  does_is : (x : TypedForm-F TypedForm TypedGroup TypedStatement) (m m' : Meaning) → form_does t calls a (roll-TypedForm x) ≡ m → form_does t calls' a (roll-TypedForm x) ≡ m' → Grows d n n' m m' → DoesGrow (roll-TypedForm x)
  does_is x m m' e f h = subst (λ (q : Meaning). Grows d n n' q (form_does t calls' a (roll-TypedForm x))) (sym e) (subst (λ (q : Meaning). Grows d n n' m q) (sym f) h)

  row_grows : (ss : List TypedStatement) → AllByRecursion StatementGrows ss → RowGrows d n n' (map below ss) (map above ss)
  row_grows [] h = tt
  row_grows (s ∷ ss) h = (h.0, row_grows ss h.1)

  block_at : (body : List TypedStatement) → AllByRecursion StatementGrows body → DoesGrow (roll-TypedForm (TypedForm-F.Block body))
  block_at body h = does_is (TypedForm-F.Block body) _ _ (block_is t calls a body) (block_is t calls' a body) (block_grows d n n' (map below body) (map above body) (row_grows body h))

  empty_at : DoesGrow (roll-TypedForm TypedForm-F.Empty)
  empty_at = does_is TypedForm-F.Empty _ _ (empty_is t calls a) (empty_is t calls' a) (give_grows d n n' GoesOn)

  local_at : (v : Variable) (first : Option TypedExpr) → DoesGrow (roll-TypedForm (TypedForm-F.Local v first))
  local_at v first = does_is (TypedForm-F.Local v first) _ _ (local_is t calls a v first) (local_is t calls' a v first) (declare_grows d n n' a v (option_map low first) (option_map high first) (option_grows first))

  array_at : (v : Variable) (list : List TypedExpr) → DoesGrow (roll-TypedForm (TypedForm-F.LocalArray v list))
  array_at v list = does_is (TypedForm-F.LocalArray v list) _ _ (array_is t calls a v list) (array_is t calls' a v list) (array_grows d n n' a v (map low list) (map high list) (values_grow list))

  assign_at : (p : TypedPlace) (op : Option (BinaryOp × Kind)) (x : TypedExpr) → DoesGrow (roll-TypedForm (TypedForm-F.Assign p op x))
  assign_at p op x =
      does_is (TypedForm-F.Assign p op x) _ _ (assign_is t calls a p op x) (assign_is t calls' a p op x)
      (assign_grows d n n' (placed t calls a p) (placed t calls' a p) op (low x) (high x) (place_grows p) (value_grows x))

  call_statement_at : (c : TypedCall) → DoesGrow (roll-TypedForm (TypedForm-F.Call c))
  call_statement_at c =
      does_is (TypedForm-F.Call c) _ _ (call_statement_is t calls a c) (call_statement_is t calls' a c) (call_statement_grows d n n' (call_does t calls a c) (call_does t calls' a c) (does_call c))

  label_at : (name : List ℕ) (body : TypedStatement) → StatementGrows body → DoesGrow (roll-TypedForm (TypedForm-F.Label name body))
  label_at name body h = does_is (TypedForm-F.Label name body) _ _ (label_is t calls a name body) (label_is t calls' a name body) h

  abbrev ArmStatements : List (TypedExpr × TypedStatement) → Type 0
  ArmStatements list = AllByRecursion (λ (arm : TypedExpr × TypedStatement). StatementGrows arm.1) list

  arms_of : (list : List (TypedExpr × TypedStatement)) → ArmStatements list → ArmsGrow d n n' (map (arm_does t calls a) (map (paired t calls a) list)) (map (arm_does t calls' a) (map (paired t calls' a) list))
  arms_of [] h = tt
  arms_of (arm ∷ list) h = ((of arm.0 (value_grows arm.0), h.0), arms_of list h.1)

  last_of : (o : Option TypedStatement) → IfSome o StatementGrows → OptionGrows d n n' (option_map below o) (option_map above o)
  last_of None h = tt
  last_of (Some s) h = h

  if_at : (list : List (TypedExpr × TypedStatement)) (o : Option TypedStatement) → ArmStatements list → IfSome o StatementGrows → DoesGrow (roll-TypedForm (TypedForm-F.If list o))
  if_at list o h k = does_is (TypedForm-F.If list o) _ _ (if_is t calls a list o) (if_is t calls' a list o) (arms_grow d n n' _ _ (option_map below o) (option_map above o) (arms_of list h) (last_of o k))

  while_at : (test : TypedExpr) (body : TypedStatement) → StatementGrows body → DoesGrow (roll-TypedForm (TypedForm-F.While test body))
  while_at test body h =
      does_is (TypedForm-F.While test body) _ _ (while_is t calls a test body) (while_is t calls' a test body)
      (while_grows d n n' (value t calls a test) (value t calls' a test) (below body) (above body) (of test (value_grows test)) h)

  do_at : (body : TypedStatement) (test : TypedExpr) → StatementGrows body → DoesGrow (roll-TypedForm (TypedForm-F.Do body test))
  do_at body test h =
      does_is (TypedForm-F.Do body test) _ _ (do_is t calls a body test) (do_is t calls' a body test)
      (do_grows d n n' (value t calls a test) (value t calls' a test) (below body) (above body) (of test (value_grows test)) h)

  for_at : (first : List TypedStatement) (test : Option TypedExpr) (next : Option TypedStatement) (body : TypedStatement) → AllByRecursion StatementGrows first → IfSome next StatementGrows → StatementGrows body → DoesGrow (roll-TypedForm (TypedForm-F.For first test next body))
  for_at first test next body h k g =
      does_is (TypedForm-F.For first test next body) _ _ (for_is t calls a first test next body) (for_is t calls' a first test next body)
      (for_grows d n n' (map below first) (map above first) (option_map (value t calls a) test) (option_map (value t calls' a) test) (option_map below next) (option_map above next) (below body) (above body)
      (row_grows first h) (test_grows test) (last_of next k) g)

  groups_of : (gs : List TypedGroup) → AllByRecursion GroupGrows gs → GroupsGrow d n n' (map (group_of t calls a) gs) (map (group_of t calls' a) gs)
  groups_of [] h = tt
  groups_of (g ∷ gs) h = (h.0, groups_of gs h.1)

  switch_at : (x : TypedExpr) (cell : ℕ) (gs : List TypedGroup) → AllByRecursion GroupGrows gs → DoesGrow (roll-TypedForm (TypedForm-F.Switch x cell gs))
  switch_at x cell gs h =
      does_is (TypedForm-F.Switch x cell gs) _ _ (switch_is t calls a x cell gs) (switch_is t calls' a x cell gs)
      (switch_grows d n n' (value t calls a x) (value t calls' a x) (map (group_of t calls a) gs) (map (group_of t calls' a) gs) (of x (value_grows x)) (groups_of gs h))

  break_at : DoesGrow (roll-TypedForm TypedForm-F.Break)
  break_at = does_is TypedForm-F.Break _ _ (break_is t calls a) (break_is t calls' a) (give_grows d n n' Breaks)

  continue_at : DoesGrow (roll-TypedForm TypedForm-F.Continue)
  continue_at = does_is TypedForm-F.Continue _ _ (continue_is t calls a) (continue_is t calls' a) (give_grows d n n' Continues)

  return_at : (x : Option TypedExpr) → DoesGrow (roll-TypedForm (TypedForm-F.Return x))
  return_at x = does_is (TypedForm-F.Return x) _ _ (return_is t calls a x) (return_is t calls' a x) (return_grows d n n' a (option_map low x) (option_map high x) (option_grows x))

  assert_at : (x : TypedExpr) → DoesGrow (roll-TypedForm (TypedForm-F.Assert x))
  assert_at x = does_is (TypedForm-F.Assert x) _ _ (assert_is t calls a x) (assert_is t calls' a x) (tested_grows d n n' (TrapEnd trap.Assert) (low x) (high x) (value_grows x))

  assume_at : (x : TypedExpr) → DoesGrow (roll-TypedForm (TypedForm-F.Assume x))
  assume_at x = does_is (TypedForm-F.Assume x) _ _ (assume_is t calls a x) (assume_is t calls' a x) (tested_grows d n n' BlockedEnd (low x) (high x) (value_grows x))

  group_at : (g : TypedGroup-F TypedForm TypedGroup TypedStatement) → AllByRecursion StatementGrows g.body → GroupGrows (roll-TypedGroup g)
  group_at g h =
      subst (λ (q : Group). GroupGrow d n n' q (group_of t calls' a (roll-TypedGroup g))) (sym (group_is t calls a g))
      (subst (λ (q : Group). GroupGrow d n n' (record { labels = g.labels; does = block (map below g.body) }) q) (sym (group_is t calls' a g)) (refl, block_grows d n n' (map below g.body) (map above g.body) (row_grows g.body h)))

  statement_at : (s : TypedStatement-F TypedForm TypedGroup TypedStatement) → DoesGrow s.form → StatementGrows (roll-TypedStatement s)
  statement_at s h =
      subst (λ (q : Meaning). Grows d n n' q (above (roll-TypedStatement s))) (sym (statement_is t calls a s)) (subst (λ (q : Meaning). Grows d n n' (form_does t calls a s.form) q) (sym (statement_is t calls' a s)) h)

  module _ {S : Type 0} (f : S → TypedStatement) (g : (q : S) → StatementGrows (f q)) where
    all_statements : (ys : List S) → AllByRecursion StatementGrows (map f ys)
    all_statements [] = tt
    all_statements (y ∷ ys) = (g y, all_statements ys)

    all_arms : (ys : List (TypedExpr × S)) → ArmStatements (map (λ (arm : TypedExpr × S). (arm.0, f arm.1)) ys)
    all_arms [] = tt
    all_arms (y ∷ ys) = (g y.1, all_arms ys)

  module _ {S : Type 0} (f : S → TypedGroup) (g : (q : S) → GroupGrows (f q)) where
    all_groups : (ys : List S) → AllByRecursion GroupGrows (map f ys)
    all_groups [] = tt
    all_groups (y ∷ ys) = (g y, all_groups ys)

  statement_grows : (s : TypedStatement) → StatementGrows s
  statement_grows s = ind-TypedStatement DoesGrow GroupGrows StatementGrows
      (λ x'. elim [
        | TypedForm-F.Block ys ↦ λ e. subst (λ z. DoesGrow (roll-TypedForm z)) e (block_at _ (all_statements (λ q. q.0) (λ q. q.1) ys))
        | TypedForm-F.Empty ↦ λ e. subst (λ z. DoesGrow (roll-TypedForm z)) e empty_at
        | TypedForm-F.Local v first ↦ λ e. subst (λ z. DoesGrow (roll-TypedForm z)) e (local_at v first)
        | TypedForm-F.LocalArray v list ↦ λ e. subst (λ z. DoesGrow (roll-TypedForm z)) e (array_at v list)
        | TypedForm-F.Assign p op x ↦ λ e. subst (λ z. DoesGrow (roll-TypedForm z)) e (assign_at p op x)
        | TypedForm-F.Call q ↦ λ e. subst (λ z. DoesGrow (roll-TypedForm z)) e (call_statement_at q)
        | TypedForm-F.Label name y ↦ λ e. subst (λ z. DoesGrow (roll-TypedForm z)) e (label_at name y.0 y.1)
        | TypedForm-F.If arms None ↦ λ e. subst (λ z. DoesGrow (roll-TypedForm z)) e (if_at _ None (all_arms (λ q. q.0) (λ q. q.1) arms) tt)
        | TypedForm-F.If arms (Some o) ↦ λ e. subst (λ z. DoesGrow (roll-TypedForm z)) e (if_at _ (Some o.0) (all_arms (λ q. q.0) (λ q. q.1) arms) o.1)
        | TypedForm-F.While x y ↦ λ e. subst (λ z. DoesGrow (roll-TypedForm z)) e (while_at x y.0 y.1)
        | TypedForm-F.Do y x ↦ λ e. subst (λ z. DoesGrow (roll-TypedForm z)) e (do_at y.0 x y.1)
        | TypedForm-F.For first x None y ↦ λ e. subst (λ z. DoesGrow (roll-TypedForm z)) e (for_at _ x None y.0 (all_statements (λ q. q.0) (λ q. q.1) first) tt y.1)
        | TypedForm-F.For first x (Some j) y ↦ λ e. subst (λ z. DoesGrow (roll-TypedForm z)) e (for_at _ x (Some j.0) y.0 (all_statements (λ q. q.0) (λ q. q.1) first) j.1 y.1)
        | TypedForm-F.Switch x cell gs ↦ λ e. subst (λ z. DoesGrow (roll-TypedForm z)) e (switch_at x cell _ (all_groups (λ q. q.0) (λ q. q.1) gs))
        | TypedForm-F.Break ↦ λ e. subst (λ z. DoesGrow (roll-TypedForm z)) e break_at
        | TypedForm-F.Continue ↦ λ e. subst (λ z. DoesGrow (roll-TypedForm z)) e continue_at
        | TypedForm-F.Return x ↦ λ e. subst (λ z. DoesGrow (roll-TypedForm z)) e (return_at x)
        | TypedForm-F.Assert x ↦ λ e. subst (λ z. DoesGrow (roll-TypedForm z)) e (assert_at x)
        | TypedForm-F.Assume x ↦ λ e. subst (λ z. DoesGrow (roll-TypedForm z)) e (assume_at x)
      ])
      (λ x' y e. subst (λ z. GroupGrows (roll-TypedGroup z)) e (group_at (record { labels = y.labels; body = map (λ q. q.0) y.body }) (all_statements (λ q. q.0) (λ q. q.1) y.body)))
      (λ x' y e. subst (λ z. StatementGrows (roll-TypedStatement z)) e (statement_at (record { span = y.span; form = y.form.0 }) y.form.1)) s

  pub body_grows : (ss : List TypedStatement) → Grows d n n' (block (map below ss)) (block (map above ss))
  body_grows ss = block_grows d n n' (map below ss) (map above ss) (row_grows ss (every ss))
    where
      every : (xs : List TypedStatement) → AllByRecursion StatementGrows xs
      every [] = tt
      every (x ∷ xs) = (statement_grows x, every xs)

-- ---- the law

bodies_grow : (d : ℕ) (t : Typed) → BodiesGrow d (body_does t)
bodies_grow d t n n' calls calls' h f a = body_grows d t a n n' calls calls' h f.body

calls_grow : (d : ℕ) (t : Typed) (a : Activation) (n n' : ℕ) → CallsGrow d n n' (calls_in t a) (calls_in t a)
unfolding calls_in
calls_grow d t a n n' = calling_grows d (body_does t) t.functions (bodies_grow d t) (64 - a.depth) n n'

grown_end : (t : Typed) (f : TypedFunction) (d turns : ℕ) (x y : Done Way) → Grown d turns x y → run_end t f x ≢ ends.OutOfTurns → run_end t f y ≡ run_end t f x
grown_end t f d turns (Gives way s) y h is = ap (run_end t f) h.0
grown_end t f d turns (Ends end) y h is = ap (run_end t f) h
grown_end t f d turns OutOfTurns y h is = absurd (is refl)

function_grows : (t : Typed) (f : TypedFunction) (input : Input) (turns d : ℕ) → function_end t f input turns ≢ ends.OutOfTurns → function_end t f input (turns + d) ≡ function_end t f input turns
function_grows t f input turns d is =
    let n = turns + 1 in
    let n' = turns + d + 1 in
    let a = first_activation t f in
    let s = first_store t f input turns in
    let less : turns < n = omega arith in
    let also : turns + d < n' = omega arith in
    let grown = bodies_grow d t n n' (calls_in t a) (calls_in t a) (calls_grow d t a n n') f a s (less, also) in
    grown_end t f d turns (body_does t (calls_in t a) f a s) (body_does t (calls_in t a) f a (more d s)) grown is

pub turns_suffice : TurnsSuffice
turns_suffice t entry input turns d is = by (slice_get t.functions entry) is
  where
    by : (o : Option TypedFunction) → end_if t o input turns ≢ ends.OutOfTurns → end_if t o input (turns + d) ≡ end_if t o input turns
    by None is = refl
    by (Some f) is = function_grows t f input turns d is
