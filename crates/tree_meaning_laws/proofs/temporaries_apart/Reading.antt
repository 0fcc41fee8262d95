-- The values of typed expressions over two lists that hold the same in the cells of variables.
use Rattle.std.proofs.Common.{◌≡◌, ℕ, ◌+◌, ◌<◌, ◌≤◌, ◌^◌, Bool, true, false, List, [], ◌∷◌, ◌++◌, length, Option, Some, None, refl, sym, ap, subst, ◌∙◌, arith, rules, pos, inl, inr}
use Rattle.std.specs.Prelude.{Result, Ok, Err, IsTrue, ◌&&◌, cond, slice_get, slice_index, IfSome, not}
use Rattle.std.specs.List.{AllByRecursion}
use Rattle.std.specs.Option.{is_none}
use Rattle.std.proofs.lemmas.Bool.{eqb-true, leb-true}
use Rattle.fq_core.specs.declared.span.Span.{Span}
use Rattle.c_values.specs.declared.kinds.Kind.{Kind}
use Rattle.c_values.specs.declared.operators.UnaryOp.{UnaryOp}
use Rattle.c_values.specs.declared.operators.BinaryOp.{BinaryOp}
use Rattle.c_values.specs.Kind.{IsValue, is_kind, converted, wrapped}
use Rattle.c_values.specs.Operations.{unary_kind, unary_value, binary_kind}
use Rattle.c_values.proofs.Fitting.{and_left, and_right}
use Rattle.cfa.specs.declared.expr.ArrayPlace.{ArrayPlace}
use Rattle.cfa.specs.declared.expr.CellPlace.{CellPlace, the_lemmas as cell_lemmas}
use Rattle.cfa.specs.declared.expr.CellPlace.TheVariants as cells
use Rattle.cfa.specs.declared.expr.Expr.{Expr}
use Rattle.cfa.specs.declared.expr.Expr.TheVariants as exprs
use Rattle.cfa.specs.declared.parts.Variable.{Variable}
use Rattle.cfa.specs.declared.parts.VariablePlace.{VariablePlace}
use Rattle.cfa.specs.declared.parts.VariablePlace.TheVariants as places
use Rattle.cfa.specs.declared.state.Frame.{Frame}
use Rattle.cfa.specs.declared.state.Trap.{Trap}
use Rattle.cfa.specs.declared.state.Trap.TheVariants as trap
use Rattle.cfa.specs.Graph.{variable_fits}
use Rattle.cfa.specs.Kinds.{same_kind}
use Rattle.cfa.specs.Rules.{Room, is_length, expr_fits, place_fits as cell_fits}
use Rattle.cfa.specs.Values.{Valued as Outcome, is_index, after_value, array_start, element_at, operator_outcome, valued as outcome, value_of, cell_of}
use Rattle.cfa.proofs.ExprRules.{convert_operand, unary_operand, binary_left, binary_right, load_place, element_index, element_array, evaluated_at, comes_to}
use Rattle.cfa.proofs.Indexes.{indexes_of_elements}
use Rattle.c_meaning.specs.Storage.{HasRoom}
use Rattle.c_meaning.proofs.Elements.{array_within}
use Rattle.c_typed_trees.specs.declared.expression.TypedCall.{TypedCall, fold-TypedCall, roll-TypedCall}
use Rattle.c_typed_trees.specs.declared.expression.TypedExpr.{TypedExpr, ind-TypedExpr, roll-TypedExpr}
use Rattle.c_typed_trees.specs.declared.expression.TypedExprForm.{TypedExprForm, roll-TypedExprForm, the_lemmas}
use Rattle.c_typed_trees.specs.declared.expression.TypedExprForm.TheOpen.{TypedCall-F, TypedExpr-F, TypedExprForm-F, TypedPlace-F}
use Rattle.c_typed_trees.specs.declared.expression.TypedPlace.{TypedPlace, map-TypedPlace, roll-TypedPlace}
use Rattle.c_typed_trees.specs.Fitting.{Nameable, Fit, span_fits, is_variable, is_array, is_lent, operands_meet, expression_fit, place_fits}
use Rattle.c_type_rules.specs.Expressions.{typed}
use Rattle.c_type_rules.specs.Values.{array_of, cell_of as own_cell, length_or_none, Valued, valued, expr_of, place_of_typed, value_step, call_step, expr_step, place_step}
use Rattle.tree_meaning_laws.specs.temporaries_apart.Named.{Named, no_names, names_then, with_variables, named, place_named, IsBelow, PlaceBelow}
use Rattle.tree_meaning_laws.proofs.temporaries_apart.Stands.{all_front, all_behind}
use Rattle.tree_meaning_laws.specs.temporaries_apart.Reads.{outermost, place_outermost, IsOwn, outer_step, outer_call, outer_expr, outer_place}

-- ---- lists

length_is : (o : Option ℕ) (n : ℕ) → IsTrue (is_length o n) → o ≡ Some n
length_is None n h = absurd cc
length_is (Some m) n h = ap Some (eqb-true m n h)

none_is : (o : Option ℕ) → IsTrue (is_none o) → o ≡ None
none_is None h = refl
none_is (Some n) h = absurd cc

some_value : (e : ℕ) (n : ℕ) → (let r : Result ℕ Trap = Ok e in r) ≡ Ok n → e ≡ n
some_value e n h = cc

-- ---- the cells of variables are own cells

module _ (room : Room) (frame : Frame) (xs : List ℕ) (end : ℕ) (has : HasRoom (record { cells = xs; frame = frame; room = room })) where
  -- an integer's cell
  pub integer_own : (place : VariablePlace) → IsTrue (variable_fits room None place) → PlaceBelow end None place → IsTrue (not (is_lent place)) → (cell : ℕ) → cell_of xs frame (own_cell place) ≡ Ok cell → IsOwn room frame end cell
  unfolding cell_of
  integer_own (places.Global first) h k l cell e =
      let is : cell_of xs frame (cells.Global first) ≡ Ok first = search (rules, cell_lemmas) in
      let same = some_value first cell (sym is ∙ e) in
      let lies = leb-true (first + 1) room.globals h in
      let within : cell < room.globals = omega arith in
      inl within
  integer_own (places.Local first) h k l cell e =
      let is : cell_of xs frame (cells.Local first) ≡ Ok (frame.base + first) = search (rules, cell_lemmas) in
      let same = some_value (frame.base + first) cell (sym is ∙ e) in
      let within : first < end = omega arith in
      inr (inl (first, within, sym same))
  integer_own (places.Lent parameter) h k l cell e = absurd cc

  -- an element's cell
  pub element_own : (place : VariablePlace) (length index : ℕ) → IsTrue (variable_fits room (Some length) place) → PlaceBelow end (Some length) place → index < length → IsOwn room frame end (array_start xs frame (array_of place) + index)
  element_own (places.Global first) length index h k l =
      let lies = leb-true (first + length) room.globals h in
      let within : first + index < room.globals = omega arith in
      inl within
  element_own (places.Local first) length index h k l =
      let within : first + index < end = omega arith in
      let same : frame.base + first + index ≡ frame.base + (first + index) = omega arith in
      inr (inl (first + index, within, same))
  element_own (places.Lent parameter) length index h k l = inr (inr (parameter, length, index, length_is (slice_get room.arrays parameter) length h, l, refl))

-- ---- places and expressions

module _ (n : Nameable) (frame : Frame) (xs ys : List ℕ) (end : ℕ) (has : HasRoom (record { cells = xs; frame = frame; room = n.room })) (own : (cell : ℕ) → IsOwn n.room frame end cell → slice_index xs cell ≡ slice_index ys cell) where
  abbrev pub SameAt : ℕ → Type 0
  SameAt cell = slice_index xs (frame.base + cell) ≡ slice_index ys (frame.base + cell)

  -- the place's cell is the same over both, and holds the same
  record PlaceSame (q : CellPlace) : Type 0 where
    cell : cell_of xs frame q ≡ cell_of ys frame q
    holds : (c : ℕ) → cell_of xs frame q ≡ Ok c → slice_index xs c ≡ slice_index ys c

  abbrev pub ValueSame : Expr → Type 0
  ValueSame x = outcome xs frame x ≡ outcome ys frame x

  pub record Can (e : TypedExpr) : Type 0 where
    pub fits : IsTrue (expression_fit n e).fits
    pub meets : IsTrue (expr_fits n.room (expr_of e))
    pub below : AllByRecursion (IsBelow end) (named e).variables
    pub outer : AllByRecursion SameAt (outermost e)

  abbrev pub Reads : TypedExpr → Type 0
  Reads e = Can e → ValueSame (expr_of e)

  abbrev FormReads : TypedExprForm → Type 0
  FormReads f = (span : Span) (kind : Kind) → Reads (typed span kind f)

  abbrev PlaceReads : TypedPlace → Type 0
  PlaceReads p = IsTrue (place_fits n p) → IsTrue (cell_fits n.room (place_of_typed p)) → AllByRecursion (IsBelow end) (place_named p).variables → AllByRecursion SameAt (place_outermost p) → PlaceSame (place_of_typed p)

  -- ---- loads

  loaded : (q : CellPlace) (kind : Kind) → PlaceSame q → ValueSame (exprs.Load q kind)
  unfolding outcome cell_of
  loaded q kind h = is xs ∙ by (cell_of xs frame q) refl ∙ sym (is ys)
    where
      is : (zs : List ℕ) → outcome zs frame (exprs.Load q kind) ≡ record { kind = kind; value = after_value (cell_of zs frame q) (λ c. Ok (wrapped kind (pos (slice_index zs c)))) }
      is zs = search (rules, cell_lemmas)

      read : List ℕ → Result ℕ Trap → Outcome
      read zs r = record { kind = kind; value = after_value r (λ c. Ok (wrapped kind (pos (slice_index zs c)))) }

      at_cell : (r : Result ℕ Trap) → ((c : ℕ) → r ≡ Ok c → slice_index xs c ≡ slice_index ys c) → read xs r ≡ read ys r
      at_cell (Ok c) k = ap (λ w. record { kind = kind; value = Ok (wrapped kind (pos w)) }) (k c refl)
      at_cell (Err t) k = refl

      by : (r : Result ℕ Trap) → cell_of xs frame q ≡ r → read xs (cell_of xs frame q) ≡ read ys (cell_of ys frame q)
      by r e = at_cell (cell_of xs frame q) h.holds ∙ ap (read ys) h.cell

  temporary_same : (cell : ℕ) (kind : Kind) → SameAt cell → ValueSame (exprs.Load (cells.Local cell) kind)
  unfolding cell_of
  temporary_same cell kind h = loaded (cells.Local cell) kind (record { cell = is xs ∙ sym (is ys); holds = λ c e. (let same = some_value (frame.base + cell) c (sym (is xs) ∙ e) in subst (λ i. slice_index xs i ≡ slice_index ys i) same h) })
    where
      is : (zs : List ℕ) → cell_of zs frame (cells.Local cell) ≡ Ok (frame.base + cell)
      is zs = search (rules, cell_lemmas)

  -- ---- places

  same_cell : (place : VariablePlace) → cell_of xs frame (own_cell place) ≡ cell_of ys frame (own_cell place)
  unfolding cell_of
  same_cell (places.Global first) = search (rules, cell_lemmas)
  same_cell (places.Local first) = search (rules, cell_lemmas)
  same_cell (places.Lent parameter) = search (rules, cell_lemmas)

  integer_same : (place : VariablePlace) → IsTrue (variable_fits n.room None place) → PlaceBelow end None place → IsTrue (not (is_lent place)) → PlaceSame (own_cell place)
  integer_same place h k l = record { cell = same_cell place; holds = λ c e. own c (integer_own n.room frame xs end has place h k l c e) }

  -- an index that names an element is below the length
  below_length : (a : ArrayPlace) (length : ℕ) (kind : Kind) (index c : ℕ) → length ≤ 2 ^ 63 → IsValue kind index → element_at xs frame a length kind index ≡ Ok c → (index < length) × (array_start xs frame a + index ≡ c)
  below_length a length kind index c small of_kind e = by (is_index length kind index) refl e
    where
      by : (t : Bool) → is_index length kind index ≡ t → cond t (Ok (array_start xs frame a + index)) (Err trap.Index) ≡ Ok c → (index < length) × (array_start xs frame a + index ≡ c)
      by true is e = ((indexes_of_elements length index kind small of_kind).0 is, some_value (array_start xs frame a + index) c e)
      by false is e = absurd cc

  element_is : (index : Expr) (m : ℕ) (a : ArrayPlace) (zs : List ℕ) → cell_of zs frame (cells.Element a index m) ≡ after_value (value_of zs frame index) (λ v. element_at zs frame a m (outcome zs frame index).kind v)
  unfolding cell_of outcome
  element_is index m a zs = search (rules, cell_lemmas)

  element_holds : (place : VariablePlace) (m : ℕ) → m ≤ 2 ^ 63 → (index : Expr) → IsTrue (expr_fits n.room index) → IsTrue (variable_fits n.room (Some m) place) → PlaceBelow end (Some m) place
      → (r : Result ℕ Trap) → r ≡ value_of xs frame index → (c : ℕ) → after_value r (λ v. element_at xs frame (array_of place) m (outcome xs frame index).kind v) ≡ Ok c → slice_index xs c ≡ slice_index ys c
  element_holds place m small index fits h k (Err t) is c e = absurd cc
  element_holds place m small index fits h k (Ok v) is c e =
      let kind = (outcome xs frame index).kind in
      let of_kind : IsValue kind v = subst (λ q. IsValue q v) (sym (evaluated_at n.room xs frame index fits)) (comes_to n.room xs frame index (Ok v) fits is) in
      let there = below_length (array_of place) m kind v c small of_kind e in
      subst (λ i. slice_index xs i ≡ slice_index ys i) there.1 (own (array_start xs frame (array_of place) + v) (element_own n.room frame xs end has place m v h k there.0))

  element_some : (place : VariablePlace) (m : ℕ) → IsTrue (variable_fits n.room (Some m) place) → PlaceBelow end (Some m) place → (index : Expr) → IsTrue (cell_fits n.room (cells.Element (array_of place) index m)) → ValueSame index
      → PlaceSame (cells.Element (array_of place) index m)
  element_some place m h k index meets same =
      let a = array_of place in
      let fits = element_index n.room a index m meets in
      let whole = array_within (record { cells = xs; frame = frame; room = n.room }) a m has (element_array n.room a index m meets) in
      let few = has.few in
      let small : m ≤ 2 ^ 63 = omega arith in
      record {
        cell = element_is index m a xs ∙ ap (λ (w : Outcome). after_value w.value (λ v. element_at xs frame a m w.kind v)) same ∙ sym (element_is index m a ys);
        holds = λ c e. element_holds place m small index fits h k (value_of xs frame index) refl c (sym (element_is index m a xs) ∙ e);
      }

  element_same : (place : VariablePlace) (o : Option ℕ) → IsTrue (variable_fits n.room o place) → IsTrue (not (is_none o)) → PlaceBelow end o place → (index : Expr) → IsTrue (cell_fits n.room (cells.Element (array_of place) index (length_or_none o)))
      → ValueSame index → PlaceSame (cells.Element (array_of place) index (length_or_none o))
  element_same place None h some k index meets same = absurd cc
  element_same place (Some m) h some k index meets same = element_some place m h k index meets same

  -- ---- forms

  -- what a form asks of its parts
  abbrev FormFits : Span → Kind → Bool → Bool
  FormFits span kind form = is_kind kind && span_fits n span && form

  form_fits : (e : TypedExpr) (span : Span) (kind : Kind) (form : Bool) → expression_fit n e ≡ record { kind = kind; fits = FormFits span kind form } → IsTrue (expression_fit n e).fits → IsTrue form
  form_fits e span kind form is h = and_right (is_kind kind && span_fits n span) form (subst (λ (f : Fit). IsTrue f.fits) is h)

  form_meets : (e : TypedExpr) (kind : Kind) (x : Expr) → valued e ≡ record { kind = kind; expr = x } → IsTrue (expr_fits n.room (expr_of e)) → IsTrue (expr_fits n.room x)
  form_meets e kind x is h = subst (λ (v : Valued). IsTrue (expr_fits n.room v.expr)) is h

  form_same : (e : TypedExpr) (kind : Kind) (x : Expr) → valued e ≡ record { kind = kind; expr = x } → ValueSame x → ValueSame (expr_of e)
  form_same e kind x is h = subst (λ (v : Valued). ValueSame v.expr) (sym is) h

  form_below : (e : TypedExpr) (m : Named) → named e ≡ m → AllByRecursion (IsBelow end) (named e).variables → AllByRecursion (IsBelow end) m.variables
  form_below e m is h = subst (λ (q : Named). AllByRecursion (IsBelow end) q.variables) is h

  form_outer : (e : TypedExpr) (cs : List ℕ) → outermost e ≡ cs → AllByRecursion SameAt (outermost e) → AllByRecursion SameAt cs
  form_outer e cs is h = subst (AllByRecursion SameAt) is h

  constant_at : (v : ℕ) → FormReads (roll-TypedExprForm (TypedExprForm-F.Constant v))
  unfolding valued outcome
  constant_at v span kind can = form_same (typed span kind (roll-TypedExprForm (TypedExprForm-F.Constant v))) kind (exprs.Constant v kind) (search (rules, the_lemmas)) (is xs ∙ sym (is ys))
    where
      is : (zs : List ℕ) → outcome zs frame (exprs.Constant v kind) ≡ record { kind = kind; value = Ok v }
      is zs = search (rules, cell_lemmas)

  load_at : (p : TypedPlace) → PlaceReads p → FormReads (roll-TypedExprForm (TypedExprForm-F.Load p))
  unfolding valued place_of_typed expression_fit place_fits named place_named outermost place_outermost
  load_at p h span kind can =
      let e = typed span kind (roll-TypedExprForm (TypedExprForm-F.Load p)) in
      let is : valued e ≡ record { kind = kind; expr = exprs.Load (place_of_typed p) kind } = search (rules, the_lemmas) in
      let fits = form_fits e span kind (place_fits n p) (search (rules, the_lemmas)) can.fits in
      let meets = load_place n.room (place_of_typed p) kind (form_meets e kind (exprs.Load (place_of_typed p) kind) is can.meets) in
      let below = form_below e (place_named p) (search (rules, the_lemmas)) can.below in
      let outer = form_outer e (place_outermost p) (search (rules, the_lemmas)) can.outer in
      form_same e kind (exprs.Load (place_of_typed p) kind) is (loaded (place_of_typed p) kind (h fits meets below outer))

  convert_at : (a : TypedExpr) → Reads a → FormReads (roll-TypedExprForm (TypedExprForm-F.Convert a))
  unfolding valued expression_fit named outermost outcome
  convert_at a h span kind can =
      let e = typed span kind (roll-TypedExprForm (TypedExprForm-F.Convert a)) in
      let is : valued e ≡ record { kind = kind; expr = exprs.Convert (expr_of a) kind } = search (rules, the_lemmas) in
      let fits = form_fits e span kind (expression_fit n a).fits (search (rules, the_lemmas)) can.fits in
      let meets = convert_operand n.room (expr_of a) kind (form_meets e kind (exprs.Convert (expr_of a) kind) is can.meets) in
      let below = form_below e (named a) (search (rules, the_lemmas)) can.below in
      let outer = form_outer e (outermost a) (search (rules, the_lemmas)) can.outer in
      let same = h (record { fits = fits; meets = meets; below = below; outer = outer }) in
      form_same e kind (exprs.Convert (expr_of a) kind) is (comes xs ∙ ap comes_of same ∙ sym (comes ys))
    where
      comes_of : Outcome → Outcome
      comes_of w = record { kind = kind; value = after_value w.value (λ v. Ok (converted w.kind kind v)) }

      comes : (zs : List ℕ) → outcome zs frame (exprs.Convert (expr_of a) kind) ≡ comes_of (outcome zs frame (expr_of a))
      comes zs = search (rules, cell_lemmas)

  unary_at : (op : UnaryOp) (a : TypedExpr) → Reads a → FormReads (roll-TypedExprForm (TypedExprForm-F.Unary op a))
  unfolding valued expression_fit named outermost outcome
  unary_at op a h span kind can =
      let e = typed span kind (roll-TypedExprForm (TypedExprForm-F.Unary op a)) in
      let x = exprs.Unary op (expr_of a) (valued a).kind in
      let is : valued e ≡ record { kind = kind; expr = x } = search (rules, the_lemmas) in
      let form = (expression_fit n a).fits && same_kind kind (unary_kind op (expression_fit n a).kind) in
      let fits = and_left (expression_fit n a).fits (same_kind kind (unary_kind op (expression_fit n a).kind)) (form_fits e span kind form (search (rules, the_lemmas)) can.fits) in
      let meets = unary_operand n.room op (expr_of a) (valued a).kind (form_meets e kind x is can.meets) in
      let below = form_below e (named a) (search (rules, the_lemmas)) can.below in
      let outer = form_outer e (outermost a) (search (rules, the_lemmas)) can.outer in
      let same = h (record { fits = fits; meets = meets; below = below; outer = outer }) in
      form_same e kind x is (comes xs ∙ ap comes_of same ∙ sym (comes ys))
    where
      comes_of : Outcome → Outcome
      comes_of w = record { kind = unary_kind op (valued a).kind; value = after_value w.value (λ v. Ok (unary_value op (valued a).kind v)) }

      comes : (zs : List ℕ) → outcome zs frame (exprs.Unary op (expr_of a) (valued a).kind) ≡ comes_of (outcome zs frame (expr_of a))
      comes zs = search (rules, cell_lemmas)

  binary_at : (op : BinaryOp) (a b : TypedExpr) → Reads a → Reads b → FormReads (roll-TypedExprForm (TypedExprForm-F.Binary op a b))
  unfolding valued expression_fit named outermost outcome
  binary_at op a b h k span kind can =
      let e = typed span kind (roll-TypedExprForm (TypedExprForm-F.Binary op a b)) in
      let x = exprs.Binary op (expr_of a) (expr_of b) (valued a).kind in
      let is : valued e ≡ record { kind = kind; expr = x } = search (rules, the_lemmas) in
      let l = expression_fit n a in
      let r = expression_fit n b in
      let form = l.fits && r.fits && operands_meet op l.kind r.kind && same_kind kind (binary_kind op l.kind) in
      let fits = form_fits e span kind form (search (rules, the_lemmas)) can.fits in
      let both = and_left (l.fits && r.fits) (operands_meet op l.kind r.kind) (and_left (l.fits && r.fits && operands_meet op l.kind r.kind) (same_kind kind (binary_kind op l.kind)) fits) in
      let meets = form_meets e kind x is can.meets in
      let below = form_below e (names_then (named a) (named b)) (search (rules, the_lemmas)) can.below in
      let outer = form_outer e (outermost a ++ outermost b) (search (rules, the_lemmas)) can.outer in
      let left : ValueSame (expr_of a) = h (record {
        fits = and_left l.fits r.fits both;
        meets = binary_left n.room op (expr_of a) (expr_of b) (valued a).kind meets;
        below = all_front (IsBelow end) (named a).variables (named b).variables below;
        outer = all_front SameAt (outermost a) (outermost b) outer;
      }) in
      let right : ValueSame (expr_of b) = k (record {
        fits = and_right l.fits r.fits both;
        meets = binary_right n.room op (expr_of a) (expr_of b) (valued a).kind meets;
        below = all_behind (IsBelow end) (named a).variables (named b).variables below;
        outer = all_behind SameAt (outermost a) (outermost b) outer;
      }) in
      form_same e kind x is (comes xs ∙ ap (λ w. comes_of w (outcome xs frame (expr_of b))) left ∙ ap (comes_of (outcome ys frame (expr_of a))) right ∙ sym (comes ys))
    where
      comes_of : Outcome → Outcome → Outcome
      comes_of w v = record { kind = binary_kind op (valued a).kind; value = after_value w.value (λ i. after_value v.value (λ j. operator_outcome xs frame op (valued a).kind v.kind i j)) }

      comes : (zs : List ℕ) → outcome zs frame (exprs.Binary op (expr_of a) (expr_of b) (valued a).kind) ≡ comes_of (outcome zs frame (expr_of a)) (outcome zs frame (expr_of b))
      comes zs = search (rules, cell_lemmas)

  -- a form whose value lies in a temporary
  temporary_at : (e : TypedExpr) (cell : ℕ) (kind : Kind) → valued e ≡ record { kind = kind; expr = exprs.Load (cells.Local cell) kind } → outermost e ≡ cell ∷ [] → Reads e
  temporary_at e cell kind is only can = form_same e kind (exprs.Load (cells.Local cell) kind) is (temporary_same cell kind (form_outer e (cell ∷ []) only can.outer).0)

  both_at : (a b : TypedExpr) (cell : ℕ) → FormReads (roll-TypedExprForm (TypedExprForm-F.Both a b cell))
  unfolding valued outermost
  both_at a b cell span kind = temporary_at (typed span kind (roll-TypedExprForm (TypedExprForm-F.Both a b cell))) cell kind (search (rules, the_lemmas)) (search (rules, the_lemmas))

  either_at : (a b : TypedExpr) (cell : ℕ) → FormReads (roll-TypedExprForm (TypedExprForm-F.Either a b cell))
  unfolding valued outermost
  either_at a b cell span kind = temporary_at (typed span kind (roll-TypedExprForm (TypedExprForm-F.Either a b cell))) cell kind (search (rules, the_lemmas)) (search (rules, the_lemmas))

  choice_at : (c a b : TypedExpr) (cell : ℕ) → FormReads (roll-TypedExprForm (TypedExprForm-F.Choice c a b cell))
  unfolding valued outermost
  choice_at c a b cell span kind = temporary_at (typed span kind (roll-TypedExprForm (TypedExprForm-F.Choice c a b cell))) cell kind (search (rules, the_lemmas)) (search (rules, the_lemmas))

  -- a call's cell is the same to both folds
  abbrev CallReads : TypedCall → Type 0
  CallReads c = fold-TypedCall (List ℕ) ℕ (List ℕ) (List ℕ) outer_step outer_call outer_expr outer_place c ≡ fold-TypedCall (Kind → Expr) ℕ Valued CellPlace value_step call_step expr_step place_step c

  call_is : (x : TypedCall-F TypedExprForm TypedCall TypedExpr TypedPlace) → CallReads (roll-TypedCall x)
  call_is x = a ∙ sym b
    where
      a : fold-TypedCall (List ℕ) ℕ (List ℕ) (List ℕ) outer_step outer_call outer_expr outer_place (roll-TypedCall x) ≡ x.cell
      a = search (rules, the_lemmas)

      b : fold-TypedCall (Kind → Expr) ℕ Valued CellPlace value_step call_step expr_step place_step (roll-TypedCall x) ≡ x.cell
      b = search (rules, the_lemmas)

  call_at : (c : TypedCall) → CallReads c → FormReads (roll-TypedExprForm (TypedExprForm-F.Call c))
  unfolding valued outermost
  call_at c h span kind =
      temporary_at (typed span kind (roll-TypedExprForm (TypedExprForm-F.Call c))) (fold-TypedCall (Kind → Expr) ℕ Valued CellPlace value_step call_step expr_step place_step c) kind (search (rules, the_lemmas))
      (is ∙ ap (λ cell. cell ∷ []) h)
    where
      is : outermost (typed span kind (roll-TypedExprForm (TypedExprForm-F.Call c))) ≡ fold-TypedCall (List ℕ) ℕ (List ℕ) (List ℕ) outer_step outer_call outer_expr outer_place c ∷ []
      is = search (rules, the_lemmas)

  -- ---- places

  whole : (v : Variable) → PlaceReads (roll-TypedPlace (record { variable = v; index = None }))
  unfolding place_fits place_of_typed place_named
  whole v fits meets below outer =
      let p = roll-TypedPlace (record { variable = v; index = None }) in
      let e : place_fits n p ≡ (is_variable n v && is_none v.length && not (is_lent v.place)) = search (rules, the_lemmas) in
      let f : place_of_typed p ≡ own_cell v.place = search (rules, the_lemmas) in
      let g : place_named p ≡ with_variables (v ∷ []) no_names = search (rules, the_lemmas) in
      let h = subst IsTrue e fits in
      let a = and_left (is_variable n v && is_none v.length) (not (is_lent v.place)) h in
      let none = none_is v.length (and_right (is_variable n v) (is_none v.length) a) in
      let lies = and_right (is_kind v.kind) (variable_fits n.room v.length v.place) (and_left (is_variable n v) (is_none v.length) a) in
      let under = (subst (λ (m : Named). AllByRecursion (IsBelow end) m.variables) g below).0 in
      subst PlaceSame (sym f) (integer_same v.place (subst (λ o. IsTrue (variable_fits n.room o v.place)) none lies) (subst (λ o. PlaceBelow end o v.place) none under) (and_right (is_variable n v && is_none v.length) (not (is_lent v.place)) h))

  indexed : (v : Variable) (i : TypedExpr) → Reads i → PlaceReads (roll-TypedPlace (record { variable = v; index = Some i }))
  unfolding place_fits expression_fit place_of_typed valued place_named named place_outermost outermost
  indexed v i k fits meets below outer =
      let p = roll-TypedPlace (record { variable = v; index = Some i }) in
      let q = cells.Element (array_of v.place) (expr_of i) (length_or_none v.length) in
      let e : place_fits n p ≡ (is_array n v && (expression_fit n i).fits) = search (rules, the_lemmas) in
      let f : place_of_typed p ≡ q = search (rules, the_lemmas) in
      let g : place_named p ≡ with_variables (v ∷ []) (named i) = search (rules, the_lemmas) in
      let o : place_outermost p ≡ outermost i = search (rules, the_lemmas) in
      let h = subst IsTrue e fits in
      let there = and_left (is_array n v) (expression_fit n i).fits h in
      let lies = and_right (is_kind v.kind) (variable_fits n.room v.length v.place) (and_left (is_variable n v) (not (is_none v.length)) there) in
      let all = subst (λ (m : Named). AllByRecursion (IsBelow end) m.variables) g below in
      let element : IsTrue (cell_fits n.room q) = subst (λ (z : CellPlace). IsTrue (cell_fits n.room z)) f meets in
      let same : ValueSame (expr_of i) = k (record {
        fits = and_right (is_array n v) (expression_fit n i).fits h;
        meets = element_index n.room (array_of v.place) (expr_of i) (length_or_none v.length) element;
        below = all.1;
        outer = subst (AllByRecursion SameAt) o outer;
      }) in
      subst PlaceSame (sym f) (element_same v.place v.length lies (and_right (is_variable n v) (not (is_none v.length)) there) all.0 (expr_of i) element same)

  -- ---- trees

  place_at : (x : TypedPlace-F TypedExprForm TypedCall TypedExpr TypedPlace) → IfSome x.index Reads → PlaceReads (roll-TypedPlace x)
  place_at x h = by x.variable x.index h
    where
      by : (v : Variable) (o : Option TypedExpr) → IfSome o Reads → PlaceReads (roll-TypedPlace (record { variable = v; index = o }))
      by v None h = whole v
      by v (Some i) h = indexed v i h

  -- a place whose index is given with what holds of it
  place_given : (y : TypedPlace-F ((f : TypedExprForm) × FormReads f) ((q : TypedCall) × CallReads q) ((x : TypedExpr) × Reads x) ((p : TypedPlace) × PlaceReads p))
      → PlaceReads (roll-TypedPlace (map-TypedPlace _ _ _ _ TypedExprForm TypedCall TypedExpr TypedPlace (λ q. q.0) (λ q. q.0) (λ q. q.0) (λ q. q.0) y))
  place_given y = place_at _ (index y.variable y.index)
    where
      index : (v : Variable) (o : Option ((x : TypedExpr) × Reads x))
          → IfSome (map-TypedPlace ((f : TypedExprForm) × FormReads f) ((q : TypedCall) × CallReads q) ((x : TypedExpr) × Reads x) ((p : TypedPlace) × PlaceReads p) TypedExprForm TypedCall TypedExpr TypedPlace (λ q. q.0) (λ q. q.0) (λ q. q.0) (λ q. q.0) (record { variable = v; index = o })).index Reads
      index v None = tt
      index v (Some q) = q.1

  expression_at : (x : TypedExpr-F TypedExprForm TypedCall TypedExpr TypedPlace) → FormReads x.form → Reads (roll-TypedExpr x)
  expression_at x h = h x.span x.kind

  pub reads : (e : TypedExpr) → Reads e
  reads e = ind-TypedExpr FormReads CallReads Reads PlaceReads
      (λ x'. elim [
        | TypedExprForm-F.Constant v ↦ λ e. subst (λ z. FormReads (roll-TypedExprForm z)) e (constant_at v)
        | TypedExprForm-F.Load p ↦ λ e. subst (λ z. FormReads (roll-TypedExprForm z)) e (load_at p.0 p.1)
        | TypedExprForm-F.Convert y ↦ λ e. subst (λ z. FormReads (roll-TypedExprForm z)) e (convert_at y.0 y.1)
        | TypedExprForm-F.Unary op y ↦ λ e. subst (λ z. FormReads (roll-TypedExprForm z)) e (unary_at op y.0 y.1)
        | TypedExprForm-F.Binary op y z' ↦ λ e. subst (λ z. FormReads (roll-TypedExprForm z)) e (binary_at op y.0 z'.0 y.1 z'.1)
        | TypedExprForm-F.Both y z' cell ↦ λ e. subst (λ z. FormReads (roll-TypedExprForm z)) e (both_at y.0 z'.0 cell)
        | TypedExprForm-F.Either y z' cell ↦ λ e. subst (λ z. FormReads (roll-TypedExprForm z)) e (either_at y.0 z'.0 cell)
        | TypedExprForm-F.Choice t y z' cell ↦ λ e. subst (λ z. FormReads (roll-TypedExprForm z)) e (choice_at t.0 y.0 z'.0 cell)
        | TypedExprForm-F.Call q ↦ λ e. subst (λ z. FormReads (roll-TypedExprForm z)) e (call_at q.0 q.1)
      ])
      (λ x' y e. call_is x')
      (λ x' y e. subst (λ z. Reads (roll-TypedExpr z)) e (expression_at (record { span = y.span; kind = y.kind; form = y.form.0 }) y.form.1))
      (λ x' y e. subst (λ z. PlaceReads (roll-TypedPlace z)) e (place_given y)) e
