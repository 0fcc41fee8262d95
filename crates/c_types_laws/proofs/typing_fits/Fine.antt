-- Typed expressions that fit, form by form: each fits with its kind, what it is as a constant is a value of its kind, and
-- what it is as an expression of the automaton meets the rules with its kind.
use Rattle.std.proofs.Common.{◌≡◌, ℕ, ◌<◌, Bool, true, false, length, Option, Some, None, refl, sym, ap, subst, ◌∙◌, rules, ◌+◌, arith}
use Rattle.std.specs.Prelude.{nat_lt, nat_le, IsTrue, ◌&&◌, ◌||◌, not, cond, ◌==◌}
use Rattle.std.specs.Option.{is_none, is_some}
use Rattle.std.proofs.lemmas.Bool.{lt-ltb, leb-true}
use Rattle.std.proofs.lemmas.Bool.Decides.{Decides-eqb}
use Rattle.fq_core.specs.declared.span.Span.{Span}
use Rattle.c_values.specs.declared.kinds.Kind.{Kind}
use Rattle.c_values.specs.declared.operators.UnaryOp.{UnaryOp}
use Rattle.c_values.specs.declared.operators.UnaryOp.TheVariants as unaries
use Rattle.c_values.specs.declared.operators.BinaryOp.{BinaryOp}
use Rattle.c_values.specs.Kind.{int, IsKind, is_kind, is_value, IsValue, converted, promoted, common}
use Rattle.c_values.specs.Operations.{unary_kind, binary_kind, unary_value, binary_value, is_shift, is_comparison}
use Rattle.c_values.proofs.Consequences.{promotions, common_kinds, unary_values_are_values, binary_values_are_values}
use Rattle.c_values.proofs.Fitting.{and_left, and_right, and_both, IsValue-converted, IsValue-truth_of}
use Rattle.c_values.proofs.Sums.{kind_of}
use Rattle.cfa.specs.declared.parts.Variable.{Variable}
use Rattle.cfa.specs.declared.parts.VariablePlace.{VariablePlace}
use Rattle.cfa.specs.declared.parts.VariablePlace.TheVariants as places
use Rattle.cfa.specs.Kinds.{same_kind, same_sign}
use Rattle.cfa.specs.Graph.{variable_fits}
use Rattle.cfa.specs.Rules.{Room, has_kind, right_fits, kind_if, array_fits as array_lies, checked_kind, place_fits as cell_fits}
use Rattle.cfa.specs.declared.expr.ArrayPlace.{ArrayPlace}
use Rattle.cfa.specs.declared.expr.CellPlace.{CellPlace, the_lemmas as expr_lemmas}
use Rattle.cfa.specs.declared.expr.CellPlace.TheVariants as cells
use Rattle.cfa.specs.declared.expr.Expr.{Expr}
use Rattle.cfa.specs.declared.expr.Expr.TheVariants as exprs
use Rattle.c_typed_trees.specs.declared.expression.TypedExpr.{TypedExpr}
use Rattle.c_typed_trees.specs.declared.expression.TypedExprForm.{TypedExprForm, the_lemmas}
use Rattle.c_typed_trees.specs.declared.expression.TypedExprForm.TheVariants as forms
use Rattle.c_typed_trees.specs.declared.expression.TypedCall.{TypedCall, fold-TypedCall}
use Rattle.c_typed_trees.specs.Fitting.{Nameable, Fit, span_fits, is_variable, is_integer, is_array, is_cell, is_lent, operands_meet, gives, expression_fit, expression_fits, place_fits, call_fit}
use Rattle.c_type_rules.specs.declared.constants.Folded.{Folded}
use Rattle.c_type_rules.specs.declared.constants.Folded.TheVariants.{Varying, Undefined, Value}
use Rattle.c_type_rules.specs.Constants.{Part, value_if, value_if_any, converted_folded, unary_folded, is_operation, operation_folded, binary_folded, truth_folded, both_folded, either_folded, choice_folded, part_of, folded}
use Rattle.c_type_rules.specs.Kinds.{promotion, operand_kind, left_kind, right_kind, meeting}
use Rattle.c_type_rules.specs.Expressions.{typed, converted_to, unary_of, binary_of, place_of, load_of, choice_of}
use Rattle.c_type_rules.specs.Values.{array_of, cell_of, length_or_none, Valued, value_step, call_step, expr_step, place_step, valued, expr_of, place_of_typed}
use Rattle.c_types_laws.proofs.typing_fits.Sound.{is_false}

-- ---- kinds

signs_same : (a b : Bool) → IsTrue (same_sign a b) → a ≡ b
signs_same true true h = refl
signs_same true false h = absurd (is_false h)
signs_same false true h = absurd (is_false h)
signs_same false false h = refl

pub same_is : (a b : Kind) → IsTrue (same_kind a b) → a ≡ b
same_is a b h =
    let e = (Decides-eqb a.width b.width).0 (and_left (a.width == b.width) (same_sign a.signed b.signed) h) in
    let f = signs_same a.signed b.signed (and_right (a.width == b.width) (same_sign a.signed b.signed) h) in
    λ i. record { width = e i; signed = f i }

equal_sign : (s : Bool) → IsTrue (same_sign s s)
equal_sign true = refl
equal_sign false = refl

pub kind_same : (a b : Kind) → a ≡ b → IsTrue (same_kind a b)
kind_same a b e = subst (λ k. IsTrue (same_kind a k)) e (and_both (a.width == a.width) (same_sign a.signed a.signed) ((Decides-eqb a.width a.width).1 refl) (equal_sign a.signed))

chosen : {X : Type 0} (P : X → Type 0) (t : Bool) (a b : X) → (IsTrue t → P a) → P b → P (cond t a b)
chosen P true a b h k = h refl
chosen P false a b h k = k

pub promotion_is : (k : Kind) → IsKind k → IsKind (promotion k)
unfolding promotion
promotion_is k h = chosen IsKind (is_kind k) (promoted k) k (λ t. (promotions k h).0) h

pub meeting_is : (a b : Kind) → IsKind a → IsKind b → IsKind (meeting a b)
unfolding meeting
meeting_is a b h k = chosen IsKind (is_kind a && is_kind b) (common a b) a (λ t. (common_kinds a b h k).0) h

operand_is : (op : UnaryOp) (k : Kind) → IsKind k → IsKind (operand_kind op k)
operand_is unaries.Not k h = h
operand_is unaries.Neg k h = promotion_is k h
operand_is unaries.Complement k h = promotion_is k h

unary_is : (op : UnaryOp) (k : Kind) → IsKind k → IsKind (unary_kind op k)
unary_is unaries.Not k h = refl
unary_is unaries.Neg k h = h
unary_is unaries.Complement k h = h

pub left_is : (op : BinaryOp) (a b : Kind) → IsKind a → IsKind b → IsKind (left_kind op a b)
left_is op a b h k = chosen IsKind (is_shift op) (promotion a) (meeting a b) (λ t. promotion_is a h) (meeting_is a b h k)

pub right_is : (op : BinaryOp) (a b : Kind) → IsKind a → IsKind b → IsKind (right_kind op a b)
right_is op a b h k = chosen IsKind (is_shift op) (promotion b) (meeting a b) (λ t. promotion_is b k) (meeting_is a b h k)

binary_is : (op : BinaryOp) (k : Kind) → IsKind k → IsKind (binary_kind op k)
binary_is op k h = chosen IsKind (is_comparison op) int k (λ t. refl) h

-- but for a shift both operands have one kind
pub kinds_meet : (op : BinaryOp) (a b x y : Kind) → x ≡ left_kind op a b → y ≡ right_kind op a b → IsTrue (operands_meet op x y)
kinds_meet op a b x y e f = subst (λ k. IsTrue (operands_meet op k y)) (sym e) (subst (λ k. IsTrue (operands_meet op (left_kind op a b) k)) (sym f) (meet (is_shift op)))
  where
    meet : (s : Bool) → IsTrue (s || same_kind (cond s (promotion b) (meeting a b)) (cond s (promotion a) (meeting a b)))
    meet true = refl
    meet false = kind_same (meeting a b) (meeting a b) refl

-- ---- constants

abbrev pub ValueOf : Kind → Folded → Type 0
ValueOf kind Varying = Unit {0}
ValueOf kind Undefined = Unit {0}
ValueOf kind (Value v) = IsValue kind v

value_if_is : (kind : Kind) (t : Bool) (v : ℕ) → (IsTrue t → IsValue kind v) → ValueOf kind (value_if t v)
value_if_is kind t v h = chosen (ValueOf kind) t (Value v) Undefined h tt

converted_value : (from to : Kind) (f : Folded) → IsKind to → ValueOf to (converted_folded from to f)
converted_value from to Varying k = tt
converted_value from to Undefined k = tt
converted_value from to (Value v) k = value_if_is to (is_value from v && is_kind to) (converted from to v) (λ t. IsValue-converted from to v k)

unary_valued : (op : UnaryOp) (kind : Kind) (f : Folded) → ValueOf (unary_kind op kind) (unary_folded op kind f)
unary_valued op kind Varying = tt
unary_valued op kind Undefined = tt
unary_valued op kind (Value v) = value_if_is (unary_kind op kind) (is_value kind v) (unary_value op kind v) (λ t. unary_values_are_values op kind v t)

if_any_is : (kind : Kind) (o : Option ℕ) → ((v : ℕ) → o ≡ Some v → IsValue kind v) → ValueOf kind (value_if_any o)
if_any_is kind None h = tt
if_any_is kind (Some v) h = h v refl

same_unless : (s : Bool) (right kind : Kind) → IsTrue (s || same_kind right kind) → s ≡ false → right ≡ kind
same_unless true right kind h e = absurd (is_false (sym e))
same_unless false right kind h e = same_is right kind h

operation_valued : (op : BinaryOp) (kind right : Kind) (v w : ℕ) → ValueOf (binary_kind op kind) (operation_folded op kind right v w)
operation_valued op kind right v w =
    chosen (ValueOf (binary_kind op kind)) (is_operation op kind right v w) (value_if_any (binary_value op kind right v w)) Undefined
    (λ t.
    let values = and_left (is_value kind v && is_value right w) (is_shift op || same_kind right kind) t in
    if_any_is (binary_kind op kind) (binary_value op kind right v w) (λ x e.
    binary_values_are_values op kind right v w x (and_left (is_value kind v) (is_value right w) values) (and_right (is_value kind v) (is_value right w) values)
    (same_unless (is_shift op) right kind (and_right (is_value kind v && is_value right w) (is_shift op || same_kind right kind) t)) e)) tt

binary_valued : (op : BinaryOp) (kind right : Kind) (f g : Folded) → ValueOf (binary_kind op kind) (binary_folded op kind right f g)
binary_valued op kind right Varying g = tt
binary_valued op kind right Undefined Varying = tt
binary_valued op kind right Undefined Undefined = tt
binary_valued op kind right Undefined (Value w) = tt
binary_valued op kind right (Value v) Varying = tt
binary_valued op kind right (Value v) Undefined = tt
binary_valued op kind right (Value v) (Value w) = operation_valued op kind right v w

truth_valued : (f : Folded) → ValueOf int (truth_folded f)
truth_valued Varying = tt
truth_valued Undefined = tt
truth_valued (Value v) = IsValue-truth_of (not (v == 0))

both_valued : (f g : Folded) → ValueOf int (both_folded f g)
both_valued Varying g = tt
both_valued Undefined Varying = tt
both_valued Undefined Undefined = tt
both_valued Undefined (Value w) = tt
both_valued (Value v) Varying = tt
both_valued (Value v) Undefined = chosen (ValueOf int) (v == 0) (Value 0) (truth_folded Undefined) (λ t. IsValue-truth_of false) tt
both_valued (Value v) (Value w) = chosen (ValueOf int) (v == 0) (Value 0) (truth_folded (Value w)) (λ t. IsValue-truth_of false) (truth_valued (Value w))

either_valued : (f g : Folded) → ValueOf int (either_folded f g)
either_valued Varying g = tt
either_valued Undefined Varying = tt
either_valued Undefined Undefined = tt
either_valued Undefined (Value w) = tt
either_valued (Value v) Varying = tt
either_valued (Value v) Undefined = chosen (ValueOf int) (v == 0) (truth_folded Undefined) (Value 1) (λ t. tt) (IsValue-truth_of true)
either_valued (Value v) (Value w) = chosen (ValueOf int) (v == 0) (truth_folded (Value w)) (Value 1) (λ t. truth_valued (Value w)) (IsValue-truth_of true)

choice_valued : (kind : Kind) (f g h : Folded) → ValueOf kind g → ValueOf kind h → ValueOf kind (choice_folded f g h)
choice_valued kind Varying g h p q = tt
choice_valued kind Undefined Varying h p q = tt
choice_valued kind Undefined Undefined Varying p q = tt
choice_valued kind Undefined Undefined Undefined p q = tt
choice_valued kind Undefined Undefined (Value w) p q = tt
choice_valued kind Undefined (Value v) Varying p q = tt
choice_valued kind Undefined (Value v) Undefined p q = tt
choice_valued kind Undefined (Value v) (Value w) p q = tt
choice_valued kind (Value u) Varying h p q = tt
choice_valued kind (Value u) Undefined Varying p q = tt
choice_valued kind (Value u) Undefined Undefined p q = chosen (ValueOf kind) (u == 0) Undefined Undefined (λ t. tt) tt
choice_valued kind (Value u) Undefined (Value w) p q = chosen (ValueOf kind) (u == 0) (Value w) Undefined (λ t. q) tt
choice_valued kind (Value u) (Value v) Varying p q = tt
choice_valued kind (Value u) (Value v) Undefined p q = chosen (ValueOf kind) (u == 0) Undefined (Value v) (λ t. tt) p
choice_valued kind (Value u) (Value v) (Value w) p q = chosen (ValueOf kind) (u == 0) (Value w) (Value v) (λ t. q) p

-- ---- the rules for expressions of the automaton

kind_true : (b : Bool) (k : Kind) → IsTrue b → kind_if b k ≡ Some k
kind_true true k h = refl
kind_true false k h = absurd (is_false h)

has_own : (o : Option Kind) (own kind : Kind) → o ≡ Some own → own ≡ kind → IsTrue (has_kind o kind)
has_own o own kind e f = subst (λ (p : Option Kind). IsTrue (has_kind p kind)) (sym e) (kind_same own kind f)

has_any : (o : Option Kind) (own : Kind) → o ≡ Some own → IsTrue (is_some o)
has_any o own e = subst (λ (p : Option Kind). IsTrue (is_some p)) (sym e) refl

right_own : (op : BinaryOp) (o : Option Kind) (own kind : Kind) → o ≡ Some own → IsTrue (operands_meet op kind own) → IsTrue (right_fits op o kind)
right_own op o own kind e h = subst (λ (p : Option Kind). IsTrue (right_fits op p kind)) (sym e) (by (is_shift op) h)
  where
    by : (t : Bool) → IsTrue (t || same_kind own kind) → IsTrue (cond t true (same_kind own kind))
    by true h = refl
    by false h = h

module _ (room : Room) where
  constant_meets : (v : ℕ) (kind : Kind) → IsTrue (is_value kind v) → checked_kind room (exprs.Constant v kind) ≡ Some kind
  unfolding checked_kind
  constant_meets v kind h = is ∙ kind_true (is_value kind v) kind h
    where
      is : checked_kind room (exprs.Constant v kind) ≡ kind_if (is_value kind v) kind
      is = search (rules, expr_lemmas)

  convert_meets : (a : Expr) (own kind : Kind) → checked_kind room a ≡ Some own → IsKind kind → checked_kind room (exprs.Convert a kind) ≡ Some kind
  unfolding checked_kind
  convert_meets a own kind h k = is ∙ kind_true (is_some (checked_kind room a) && is_kind kind) kind (and_both (is_some (checked_kind room a)) (is_kind kind) (has_any (checked_kind room a) own h) k)
    where
      is : checked_kind room (exprs.Convert a kind) ≡ kind_if (is_some (checked_kind room a) && is_kind kind) kind
      is = search (rules, expr_lemmas)

  unary_meets : (op : UnaryOp) (a : Expr) (own kind : Kind) → checked_kind room a ≡ Some own → own ≡ kind → checked_kind room (exprs.Unary op a kind) ≡ Some (unary_kind op kind)
  unfolding checked_kind
  unary_meets op a own kind h e = is ∙ kind_true (has_kind (checked_kind room a) kind) (unary_kind op kind) (has_own (checked_kind room a) own kind h e)
    where
      is : checked_kind room (exprs.Unary op a kind) ≡ kind_if (has_kind (checked_kind room a) kind) (unary_kind op kind)
      is = search (rules, expr_lemmas)

  binary_meets : (op : BinaryOp) (a b : Expr) (left right kind : Kind) → checked_kind room a ≡ Some left → left ≡ kind → checked_kind room b ≡ Some right → IsTrue (operands_meet op kind right) → checked_kind room (exprs.Binary op a b kind) ≡ Some (binary_kind op kind)
  unfolding checked_kind
  binary_meets op a b left right kind h e k m =
      is ∙ kind_true (has_kind (checked_kind room a) kind && right_fits op (checked_kind room b) kind) (binary_kind op kind)
      (and_both (has_kind (checked_kind room a) kind) _ (has_own (checked_kind room a) left kind h e) (right_own op (checked_kind room b) right kind k m))
    where
      is : checked_kind room (exprs.Binary op a b kind) ≡ kind_if (has_kind (checked_kind room a) kind && right_fits op (checked_kind room b) kind) (binary_kind op kind)
      is = search (rules, expr_lemmas)

  load_meets : (p : CellPlace) (kind : Kind) → IsTrue (cell_fits room p) → IsKind kind → checked_kind room (exprs.Load p kind) ≡ Some kind
  unfolding checked_kind cell_fits
  load_meets p kind h k = is ∙ kind_true (cell_fits room p && is_kind kind) kind (and_both (cell_fits room p) (is_kind kind) h k)
    where
      is : checked_kind room (exprs.Load p kind) ≡ kind_if (cell_fits room p && is_kind kind) kind
      is = search (rules, expr_lemmas)

  pub frame_cell : (cell : ℕ) → IsTrue (nat_lt cell room.cells) → IsTrue (cell_fits room (cells.Local cell))
  unfolding checked_kind cell_fits
  frame_cell cell h = subst IsTrue (sym is) h
    where
      is : cell_fits room (cells.Local cell) ≡ nat_lt cell room.cells
      is = search (rules, expr_lemmas)

  global_cell : (cell : ℕ) → IsTrue (nat_lt cell room.globals) → IsTrue (cell_fits room (cells.Global cell))
  unfolding checked_kind cell_fits
  global_cell cell h = subst IsTrue (sym is) h
    where
      is : cell_fits room (cells.Global cell) ≡ nat_lt cell room.globals
      is = search (rules, expr_lemmas)

  element_cell : (array : ArrayPlace) (index : Expr) (own : Kind) (length : ℕ) → checked_kind room index ≡ Some own → IsTrue (array_lies room array length) → IsTrue (cell_fits room (cells.Element array index length))
  unfolding checked_kind cell_fits
  element_cell array index own length h k = subst IsTrue (sym is) (and_both (is_some (checked_kind room index)) (array_lies room array length) (has_any (checked_kind room index) own h) k)
    where
      is : cell_fits room (cells.Element array index length) ≡ (is_some (checked_kind room index) && array_lies room array length)
      is = search (rules, expr_lemmas)

  below : (a b : ℕ) → IsTrue (nat_le (a + 1) b) → IsTrue (nat_lt a b)
  below a b h = lt-ltb a b (let l = leb-true (a + 1) b h in omega arith)

  -- the cell of an integer, and the cells of an array
  whole_lies : (place : VariablePlace) → IsTrue (variable_fits room None place) → IsTrue (cell_fits room (cell_of place))
  whole_lies (places.Global cell) h = global_cell cell (below cell room.globals h)
  whole_lies (places.Local cell) h = frame_cell cell (below cell room.cells h)
  whole_lies (places.Lent parameter) h = absurd (is_false h)

  array_there : (place : VariablePlace) (length : ℕ) → IsTrue (variable_fits room (Some length) place) → IsTrue (array_lies room (array_of place) length)
  array_there (places.Global first) length h = h
  array_there (places.Local first) length h = h
  array_there (places.Lent parameter) length h = h

-- ---- what fits

pub record Fine (n : Nameable) (e : TypedExpr) : Type 0 where
  pub fits : IsTrue (expression_fits n e)
  pub kind_is : (expression_fit n e).kind ≡ e.kind
  pub of_kind : IsKind e.kind
  pub place : IsTrue (span_fits n e.span)
  pub part_is : (part_of e).kind ≡ e.kind
  pub valued_is : (valued e).kind ≡ e.kind
  pub meets : checked_kind n.room (expr_of e) ≡ Some e.kind
  pub value : ValueOf e.kind (folded e)

-- the cell that a call's result is put into
unfoldable pub cell_at : TypedCall → ℕ
cell_at = fold-TypedCall (Kind → Expr) ℕ Valued CellPlace value_step call_step expr_step place_step

abbrev fit_of : Nameable → Span → Kind → Bool → Fit
fit_of n span kind form = record { kind = kind; fits = is_kind kind && span_fits n span && form }

module _ (n : Nameable) (span : Span) (kind : Kind) (form : TypedExprForm) (fits : Bool) (f : Folded) (x : Expr) where
  made_fine : expression_fit n (typed span kind form) ≡ fit_of n span kind fits → part_of (typed span kind form) ≡ record { kind = kind; folded = f } → valued (typed span kind form) ≡ record { kind = kind; expr = x }
      → IsTrue (span_fits n span) → IsKind kind → IsTrue fits → ValueOf kind f → checked_kind n.room x ≡ Some kind → Fine n (typed span kind form)
  made_fine e g i s k h v m = record {
    fits = subst (λ (y : Fit). IsTrue y.fits) (sym e) (and_both (is_kind kind && span_fits n span) fits (and_both (is_kind kind) (span_fits n span) k s) h);
    kind_is = ap (λ (y : Fit). y.kind) e;
    of_kind = k;
    place = s;
    part_is = ap (λ (y : Part). y.kind) g;
    valued_is = ap (λ (y : Valued). y.kind) i;
    meets = ap (λ (y : Valued). checked_kind n.room y.expr) i ∙ m;
    value = subst (λ (y : Part). ValueOf kind y.folded) (sym g) v;
  }

module _ (n : Nameable) (span : Span) (s : IsTrue (span_fits n span)) where
  pub constant_fine : (kind : Kind) (v : ℕ) → IsValue kind v → Fine n (typed span kind (forms.Constant v))
  unfolding expression_fit part_of valued
  constant_fine kind v h = made_fine n span kind (forms.Constant v) (is_value kind v) (Value v) (exprs.Constant v kind) (search (rules, the_lemmas)) (search (rules, the_lemmas)) (search (rules, the_lemmas)) s (kind_of kind v h) h h (constant_meets n.room v kind h)

  pub convert_fine : (kind : Kind) (a : TypedExpr) → IsKind kind → Fine n a → Fine n (typed span kind (forms.Convert a))
  unfolding expression_fit part_of valued
  convert_fine kind a k h =
      made_fine n span kind (forms.Convert a) (expression_fit n a).fits (converted_folded (part_of a).kind kind (part_of a).folded) (exprs.Convert (expr_of a) kind) (search (rules, the_lemmas)) (search (rules, the_lemmas)) (search (rules, the_lemmas)) s k h.fits
      (converted_value (part_of a).kind kind (part_of a).folded k) (convert_meets n.room (expr_of a) a.kind kind h.meets k)

  unary_fine : (op : UnaryOp) (a : TypedExpr) → Fine n a → Fine n (typed span (unary_kind op a.kind) (forms.Unary op a))
  unfolding expression_fit part_of valued
  unary_fine op a h =
      let kind = unary_kind op a.kind in
      made_fine n span kind (forms.Unary op a) ((expression_fit n a).fits && same_kind kind (unary_kind op (expression_fit n a).kind)) (unary_folded op (part_of a).kind (part_of a).folded) (exprs.Unary op (expr_of a) (valued a).kind)
      (search (rules, the_lemmas)) (search (rules, the_lemmas)) (search (rules, the_lemmas)) s (unary_is op a.kind h.of_kind)
      (and_both (expression_fit n a).fits _ h.fits (kind_same kind _ (ap (unary_kind op) (sym h.kind_is))))
      (subst (λ k. ValueOf (unary_kind op k) (unary_folded op (part_of a).kind (part_of a).folded)) h.part_is (unary_valued op (part_of a).kind (part_of a).folded))
      (unary_meets n.room op (expr_of a) a.kind (valued a).kind h.meets (sym h.valued_is) ∙ ap (λ k. Some (unary_kind op k)) h.valued_is)

  binary_fine : (op : BinaryOp) (a b : TypedExpr) → Fine n a → Fine n b → IsTrue (operands_meet op a.kind b.kind) → Fine n (typed span (binary_kind op a.kind) (forms.Binary op a b))
  unfolding expression_fit part_of valued
  binary_fine op a b h k m =
      let kind = binary_kind op a.kind in
      let x = expression_fit n a in
      let y = expression_fit n b in
      made_fine n span kind (forms.Binary op a b) (x.fits && y.fits && operands_meet op x.kind y.kind && same_kind kind (binary_kind op x.kind)) (binary_folded op (part_of a).kind (part_of b).kind (part_of a).folded (part_of b).folded) (exprs.Binary op (expr_of a) (expr_of b) (valued a).kind)
      (search (rules, the_lemmas)) (search (rules, the_lemmas)) (search (rules, the_lemmas)) s (binary_is op a.kind h.of_kind)
      (and_both (x.fits && y.fits && operands_meet op x.kind y.kind) _
      (and_both (x.fits && y.fits) _ (and_both x.fits y.fits h.fits k.fits)
      (subst (λ q. IsTrue (operands_meet op q y.kind)) (sym h.kind_is) (subst (λ q. IsTrue (operands_meet op a.kind q)) (sym k.kind_is) m)))
      (kind_same kind _ (ap (binary_kind op) (sym h.kind_is))))
      (subst (λ q. ValueOf (binary_kind op q) (binary_folded op (part_of a).kind (part_of b).kind (part_of a).folded (part_of b).folded)) h.part_is (binary_valued op (part_of a).kind (part_of b).kind (part_of a).folded (part_of b).folded))
      (binary_meets n.room op (expr_of a) (expr_of b) a.kind b.kind (valued a).kind h.meets (sym h.valued_is) k.meets (subst (λ q. IsTrue (operands_meet op q b.kind)) (sym h.valued_is) m) ∙ ap (λ q. Some (binary_kind op q)) h.valued_is)

  pub both_fine : (a b : TypedExpr) (cell : ℕ) → Fine n a → Fine n b → IsTrue (is_cell n cell) → Fine n (typed span int (forms.Both a b cell))
  unfolding expression_fit part_of valued
  both_fine a b cell h k c =
      let x = expression_fit n a in
      let y = expression_fit n b in
      made_fine n span int (forms.Both a b cell) (x.fits && y.fits && is_cell n cell && same_kind int int) (both_folded (part_of a).folded (part_of b).folded) (exprs.Load (cells.Local cell) int)
      (search (rules, the_lemmas)) (search (rules, the_lemmas)) (search (rules, the_lemmas)) s refl
      (and_both (x.fits && y.fits && is_cell n cell) _ (and_both (x.fits && y.fits) _ (and_both x.fits y.fits h.fits k.fits) c) refl)
      (both_valued (part_of a).folded (part_of b).folded) (load_meets n.room (cells.Local cell) int (frame_cell n.room cell c) refl)

  pub either_fine : (a b : TypedExpr) (cell : ℕ) → Fine n a → Fine n b → IsTrue (is_cell n cell) → Fine n (typed span int (forms.Either a b cell))
  unfolding expression_fit part_of valued
  either_fine a b cell h k c =
      let x = expression_fit n a in
      let y = expression_fit n b in
      made_fine n span int (forms.Either a b cell) (x.fits && y.fits && is_cell n cell && same_kind int int) (either_folded (part_of a).folded (part_of b).folded) (exprs.Load (cells.Local cell) int)
      (search (rules, the_lemmas)) (search (rules, the_lemmas)) (search (rules, the_lemmas)) s refl
      (and_both (x.fits && y.fits && is_cell n cell) _ (and_both (x.fits && y.fits) _ (and_both x.fits y.fits h.fits k.fits) c) refl)
      (either_valued (part_of a).folded (part_of b).folded) (load_meets n.room (cells.Local cell) int (frame_cell n.room cell c) refl)

  choice_fine : (kind : Kind) (t a b : TypedExpr) (cell : ℕ) → Fine n t → Fine n a → Fine n b → kind ≡ a.kind → kind ≡ b.kind → IsTrue (is_cell n cell) → Fine n (typed span kind (forms.Choice t a b cell))
  unfolding expression_fit part_of valued
  choice_fine kind t a b cell h k l e f c =
      let z = expression_fit n t in
      let x = expression_fit n a in
      let y = expression_fit n b in
      made_fine n span kind (forms.Choice t a b cell) (z.fits && x.fits && y.fits && is_cell n cell && same_kind kind x.kind && same_kind kind y.kind) (choice_folded (part_of t).folded (part_of a).folded (part_of b).folded) (exprs.Load (cells.Local cell) kind)
      (search (rules, the_lemmas)) (search (rules, the_lemmas)) (search (rules, the_lemmas)) s (subst IsKind (sym e) k.of_kind)
      (and_both (z.fits && x.fits && y.fits && is_cell n cell && same_kind kind x.kind) _
      (and_both (z.fits && x.fits && y.fits && is_cell n cell) _
      (and_both (z.fits && x.fits && y.fits) _ (and_both (z.fits && x.fits) _ (and_both z.fits x.fits h.fits k.fits) l.fits) c)
      (kind_same kind x.kind (e ∙ sym k.kind_is))) (kind_same kind y.kind (f ∙ sym l.kind_is)))
      (choice_valued kind (part_of t).folded (part_of a).folded (part_of b).folded (subst (λ q. ValueOf q (part_of a).folded) (sym e) k.value) (subst (λ q. ValueOf q (part_of b).folded) (sym f) l.value))
      (load_meets n.room (cells.Local cell) kind (frame_cell n.room cell c) (subst IsKind (sym e) k.of_kind))

  load_fine : (v : Variable) (index : Option TypedExpr) → IsTrue (place_fits n (place_of v index)) → IsTrue (cell_fits n.room (place_of_typed (place_of v index))) → IsKind v.kind → Fine n (load_of span v index)
  unfolding expression_fit place_fits part_of valued place_of_typed
  load_fine v index h c k =
      made_fine n span v.kind (forms.Load (place_of v index)) (place_fits n (place_of v index)) Varying (exprs.Load (place_of_typed (place_of v index)) v.kind) (search (rules, the_lemmas)) (search (rules, the_lemmas)) (search (rules, the_lemmas)) s k h tt
      (load_meets n.room (place_of_typed (place_of v index)) v.kind c k)

  pub call_fine : (kind : Kind) (c : TypedCall) → IsTrue (call_fit n c).fits → IsTrue (cell_fits n.room (cells.Local (cell_at c))) → (call_fit n c).result ≡ Some kind → IsKind kind → Fine n (typed span kind (forms.Call c))
  unfolding expression_fit call_fit part_of valued cell_at
  call_fine kind c h l e k =
      made_fine n span kind (forms.Call c) ((call_fit n c).fits && gives (call_fit n c).result kind) Varying (exprs.Load (cells.Local (cell_at c)) kind) (search (rules, the_lemmas)) (search (rules, the_lemmas)) (search (rules, the_lemmas)) s k
      (and_both (call_fit n c).fits _ h (subst (λ r. IsTrue (gives r kind)) (sym e) (kind_same kind kind refl))) tt (load_meets n.room (cells.Local (cell_at c)) kind l k)

-- ---- places

not_lent : (n : Nameable) (place : VariablePlace) → IsTrue (variable_fits n.room None place) → IsTrue (not (is_lent place))
not_lent n (places.Global cell) h = refl
not_lent n (places.Local cell) h = refl
not_lent n (places.Lent parameter) h = absurd (is_false h)

module _ (n : Nameable) where
  -- a variable without a length is an integer, and one with a length an array
  pub integer_is : (v : Variable) → IsTrue (is_variable n v) → v.length ≡ None → IsTrue (is_integer n v)
  integer_is v h e =
      let there = and_right (is_kind v.kind) (variable_fits n.room v.length v.place) h in
      and_both (is_variable n v && is_none v.length) (not (is_lent v.place)) (and_both (is_variable n v) (is_none v.length) h (subst (λ (o : Option ℕ). IsTrue (is_none o)) (sym e) refl))
      (not_lent n v.place (subst (λ o. IsTrue (variable_fits n.room o v.place)) e there))

  pub array_is : (v : Variable) (length : ℕ) → IsTrue (is_variable n v) → v.length ≡ Some length → IsTrue (is_array n v)
  array_is v length h e = and_both (is_variable n v) (not (is_none v.length)) h (subst (λ (o : Option ℕ). IsTrue (not (is_none o))) (sym e) refl)

  pub array_variable : (v : Variable) → IsTrue (is_array n v) → IsTrue (is_variable n v)
  array_variable v h = and_left (is_variable n v) (not (is_none v.length)) h

  pub variable_kind : (v : Variable) → IsTrue (is_variable n v) → IsKind v.kind
  variable_kind v h = and_left (is_kind v.kind) (variable_fits n.room v.length v.place) h

  pub whole_place : (v : Variable) → IsTrue (is_variable n v) → v.length ≡ None → IsTrue (place_fits n (place_of v None))
  unfolding place_fits
  whole_place v h e = subst IsTrue (sym is) (integer_is v h e)
    where
      is : place_fits n (place_of v None) ≡ is_integer n v
      is = search (rules, the_lemmas)

  pub element_place : (v : Variable) (i : TypedExpr) → IsTrue (is_array n v) → Fine n i → IsTrue (place_fits n (place_of v (Some i)))
  unfolding place_fits expression_fit
  element_place v i h k = subst IsTrue (sym is) (and_both (is_array n v) (expression_fit n i).fits h k.fits)
    where
      is : place_fits n (place_of v (Some i)) ≡ (is_array n v && (expression_fit n i).fits)
      is = search (rules, the_lemmas)

  integer_cell : (v : Variable) → IsTrue (is_variable n v) → v.length ≡ None → IsTrue (cell_fits n.room (place_of_typed (place_of v None)))
  unfolding place_of_typed valued
  integer_cell v h e = subst (λ (p : CellPlace). IsTrue (cell_fits n.room p)) (sym is) (whole_lies n.room v.place (subst (λ o. IsTrue (variable_fits n.room o v.place)) e (and_right (is_kind v.kind) (variable_fits n.room v.length v.place) h)))
    where
      is : place_of_typed (place_of v None) ≡ cell_of v.place
      is = search (rules, the_lemmas)

  pub whole_fine : (span : Span) → IsTrue (span_fits n span) → (v : Variable) → IsTrue (is_variable n v) → v.length ≡ None → Fine n (load_of span v None)
  whole_fine span s v h e = load_fine n span s v None (whole_place v h e) (integer_cell v h e) (variable_kind v h)

  length_lies : (v : Variable) (o : Option ℕ) → IsTrue (variable_fits n.room o v.place) → IsTrue (not (is_none o)) → IsTrue (array_lies n.room (array_of v.place) (length_or_none o))
  length_lies v None h k = absurd (is_false k)
  length_lies v (Some m) h k = array_there n.room v.place m h

  indexed_cell : (v : Variable) (i : TypedExpr) → IsTrue (is_array n v) → Fine n i → IsTrue (cell_fits n.room (place_of_typed (place_of v (Some i))))
  unfolding place_of_typed valued
  indexed_cell v i h k =
      subst (λ (p : CellPlace). IsTrue (cell_fits n.room p)) (sym is)
      (element_cell n.room (array_of v.place) (expr_of i) i.kind (length_or_none v.length) k.meets
      (length_lies v v.length (and_right (is_kind v.kind) (variable_fits n.room v.length v.place) (array_variable v h)) (and_right (is_variable n v) (not (is_none v.length)) h)))
    where
      is : place_of_typed (place_of v (Some i)) ≡ cells.Element (array_of v.place) (expr_of i) (length_or_none v.length)
      is = search (rules, the_lemmas)

  pub element_fine : (span : Span) → IsTrue (span_fits n span) → (v : Variable) (i : TypedExpr) → IsTrue (is_array n v) → Fine n i → Fine n (load_of span v (Some i))
  element_fine span s v i h k = load_fine n span s v (Some i) (element_place v i h k) (indexed_cell v i h k) (variable_kind v (array_variable v h))

  -- ---- conversions

  pub converted_fine : (kind : Kind) (a : TypedExpr) → IsKind kind → Fine n a → Fine n (converted_to kind a)
  converted_fine kind a k h = chosen (Fine n) (same_kind a.kind kind) a _ (λ t. h) (convert_fine n a.span h.place kind a k h)

  pub converted_kind : (kind : Kind) (a : TypedExpr) → (converted_to kind a).kind ≡ kind
  converted_kind kind a = chosen (λ (x : TypedExpr). x.kind ≡ kind) (same_kind a.kind kind) a _ (λ t. same_is a.kind kind t) refl

pub cell_is : (n : Nameable) (cell : ℕ) → cell < n.room.cells → IsTrue (is_cell n cell)
cell_is n cell h = lt-ltb cell n.room.cells h

-- ---- operators

pub operator_fine : (n : Nameable) (span : Span) → IsTrue (span_fits n span) → (op : UnaryOp) (a : TypedExpr) → Fine n a → Fine n (unary_of span op a)
operator_fine n span s op a h =
    let kind = operand_kind op a.kind in
    subst (λ k. Fine n (typed span (unary_kind op k) (forms.Unary op (converted_to kind a)))) (converted_kind n kind a) (unary_fine n span s op (converted_to kind a) (converted_fine n kind a (operand_is op a.kind h.of_kind) h))

pub operation_fine : (n : Nameable) (span : Span) → IsTrue (span_fits n span) → (op : BinaryOp) (a b : TypedExpr) → Fine n a → Fine n b → Fine n (binary_of span op a b)
operation_fine n span s op a b h k =
    let left = left_kind op a.kind b.kind in
    let right = right_kind op a.kind b.kind in
    subst (λ q. Fine n (typed span (binary_kind op q) (forms.Binary op (converted_to left a) (converted_to right b)))) (converted_kind n left a)
    (binary_fine n span s op (converted_to left a) (converted_to right b)
    (converted_fine n left a (left_is op a.kind b.kind h.of_kind k.of_kind) h) (converted_fine n right b (right_is op a.kind b.kind h.of_kind k.of_kind) k)
    (kinds_meet op a.kind b.kind _ _ (converted_kind n left a) (converted_kind n right b)))

pub alternative_fine : (n : Nameable) (span : Span) → IsTrue (span_fits n span) → (t a b : TypedExpr) (cell : ℕ) → Fine n t → Fine n a → Fine n b → IsTrue (is_cell n cell) → Fine n (choice_of span t a b cell)
alternative_fine n span s t a b cell h k l c =
    let kind = meeting a.kind b.kind in
    let is = meeting_is a.kind b.kind k.of_kind l.of_kind in
    choice_fine n span s kind t (converted_to kind a) (converted_to kind b) cell h (converted_fine n kind a is k) (converted_fine n kind b is l) (sym (converted_kind n kind a)) (sym (converted_kind n kind b)) c
