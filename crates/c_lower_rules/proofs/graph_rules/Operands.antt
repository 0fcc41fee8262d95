-- Kinds of expressions, places and variables that meet the rules of a room.
use Rattle.std.proofs.Common.{◌≡◌, ℕ, ◌+◌, Bool, true, false, Option, Some, None, refl, sym, ap, subst, ◌∙◌, rules, arith}
use Rattle.std.specs.Prelude.{IsTrue, not, ◌&&◌, ◌||◌, ◌==◌, nat_lt, nat_le, if◌then◌else◌}
use Rattle.std.specs.Option.{is_some, is_none}
use Rattle.std.proofs.lemmas.Bool.{eqb-true, eq-eqb, leb-true, lt-ltb}
use Rattle.c_values.specs.declared.kinds.Kind.{Kind}
use Rattle.c_values.specs.declared.operators.BinaryOp.{BinaryOp}
use Rattle.c_values.specs.declared.operators.UnaryOp.{UnaryOp}
use Rattle.c_values.specs.Kind.{is_kind, is_value}
use Rattle.c_values.specs.Operations.{unary_kind, binary_kind, is_shift}
use Rattle.c_values.proofs.Fitting.{and_left, and_right, and_both}
use Rattle.cfa.specs.declared.expr.ArrayPlace.{ArrayPlace}
use Rattle.cfa.specs.declared.expr.CellPlace.{CellPlace, the_lemmas}
use Rattle.cfa.specs.declared.expr.CellPlace.TheVariants as place
use Rattle.cfa.specs.declared.expr.Expr.{Expr}
use Rattle.cfa.specs.declared.expr.Expr.TheVariants as expr
use Rattle.cfa.specs.declared.parts.Variable.{Variable}
use Rattle.cfa.specs.declared.parts.VariablePlace.{VariablePlace}
use Rattle.cfa.specs.declared.parts.VariablePlace.TheVariants as variable
use Rattle.cfa.specs.Graph.{variable_fits}
use Rattle.cfa.specs.Kinds.{same_kind, same_sign}
use Rattle.cfa.specs.Rules.{Room, array_fits, has_kind, right_fits, kind_if, checked_kind, place_fits}
use Rattle.c_typed_trees.specs.Fitting.{Nameable, operands_meet, is_integer, is_array, is_variable, is_lent}
use Rattle.c_lower_rules.specs.graph_of.Expressions.{array_of, cell_of, length_of, element_of, temporary}
use Rattle.c_lower_rules.specs.graph_of.Statements.{converted_to, combined}

-- ---- kinds

same_sign_is : (a b : Bool) → IsTrue (same_sign a b) → a ≡ b
same_sign_is true true h = refl
same_sign_is true false h = absurd (cc)
same_sign_is false true h = absurd (cc)
same_sign_is false false h = refl

abbrev kind_made : ℕ → Bool → Kind
kind_made width signed = record { width = width; signed = signed }

pub same_kind_is : (a b : Kind) → IsTrue (same_kind a b) → a ≡ b
same_kind_is a b h =
    let width = eqb-true a.width b.width (and_left (a.width == b.width) (same_sign a.signed b.signed) h) in
    let signed = same_sign_is a.signed b.signed (and_right (a.width == b.width) (same_sign a.signed b.signed) h) in
    ap (λ n. kind_made n a.signed) width ∙ ap (kind_made b.width) signed

same_sign_self : (a : Bool) → IsTrue (same_sign a a)
same_sign_self true = refl
same_sign_self false = refl

pub same_kind_self : (a : Kind) → IsTrue (same_kind a a)
same_kind_self a = and_both (a.width == a.width) (same_sign a.signed a.signed) (eq-eqb a.width a.width refl) (same_sign_self a.signed)

-- ---- expressions

kind_passed : (t : Bool) (kind : Kind) → IsTrue t → kind_if t kind ≡ Some kind
kind_passed t kind h = ap (λ b. kind_if b kind) h

module _ (room : Room) where
  pub constant_checked : (n : ℕ) (kind : Kind) → IsTrue (is_value kind n) → checked_kind room (expr.Constant n kind) ≡ Some kind
  unfolding checked_kind
  constant_checked n kind h =
      let e : checked_kind room (expr.Constant n kind) ≡ kind_if (is_value kind n) kind = search (rules, the_lemmas) in
      e ∙ kind_passed (is_value kind n) kind h

  pub load_checked : (p : CellPlace) (kind : Kind) → IsTrue (place_fits room p) → IsTrue (is_kind kind) → checked_kind room (expr.Load p kind) ≡ Some kind
  unfolding checked_kind place_fits
  load_checked p kind h k =
      let e : checked_kind room (expr.Load p kind) ≡ kind_if (place_fits room p && is_kind kind) kind = search (rules, the_lemmas) in
      e ∙ kind_passed (place_fits room p && is_kind kind) kind (and_both (place_fits room p) (is_kind kind) h k)

  pub convert_checked : (x : Expr) (own kind : Kind) → checked_kind room x ≡ Some own → IsTrue (is_kind kind) → checked_kind room (expr.Convert x kind) ≡ Some kind
  unfolding checked_kind
  convert_checked x own kind h k =
      let e : checked_kind room (expr.Convert x kind) ≡ kind_if (is_some (checked_kind room x) && is_kind kind) kind = search (rules, the_lemmas) in
      e ∙ kind_passed (is_some (checked_kind room x) && is_kind kind) kind (and_both (is_some (checked_kind room x)) (is_kind kind) (ap is_some h) k)

  pub has_own : (o : Option Kind) (kind : Kind) → o ≡ Some kind → IsTrue (has_kind o kind)
  has_own o kind h = subst (λ p. IsTrue (has_kind p kind)) (sym h) (same_kind_self kind)

  pub unary_checked : (op : UnaryOp) (x : Expr) (kind : Kind) → checked_kind room x ≡ Some kind → checked_kind room (expr.Unary op x kind) ≡ Some (unary_kind op kind)
  unfolding checked_kind
  unary_checked op x kind h =
      let e : checked_kind room (expr.Unary op x kind) ≡ kind_if (has_kind (checked_kind room x) kind) (unary_kind op kind) = search (rules, the_lemmas) in
      e ∙ kind_passed (has_kind (checked_kind room x) kind) (unary_kind op kind) (has_own (checked_kind room x) kind h)

  right_meets : (op : BinaryOp) (kind right : Kind) → IsTrue (operands_meet op kind right) → IsTrue (right_fits op (Some right) kind)
  right_meets op kind right = by (is_shift op)
    where
      by : (b : Bool) → IsTrue (b || same_kind right kind) → IsTrue (if b then is_some (Some right) else has_kind (Some right) kind)
      by true h = refl
      by false h = h

  pub binary_checked : (op : BinaryOp) (x y : Expr) (kind right : Kind) → checked_kind room x ≡ Some kind → checked_kind room y ≡ Some right → IsTrue (operands_meet op kind right) → checked_kind room (expr.Binary op x y kind) ≡ Some (binary_kind op kind)
  unfolding checked_kind
  binary_checked op x y kind right h k m =
      let e : checked_kind room (expr.Binary op x y kind) ≡ kind_if (has_kind (checked_kind room x) kind && right_fits op (checked_kind room y) kind) (binary_kind op kind) = search (rules, the_lemmas) in
      let fits = subst (λ o. IsTrue (right_fits op o kind)) (sym k) (right_meets op kind right m) in
      e ∙ kind_passed (has_kind (checked_kind room x) kind && right_fits op (checked_kind room y) kind) (binary_kind op kind)
      (and_both (has_kind (checked_kind room x) kind) (right_fits op (checked_kind room y) kind) (has_own (checked_kind room x) kind h) fits)

  -- ---- places

  pub local_fits : (cell : ℕ) → IsTrue (nat_lt cell room.cells) → IsTrue (place_fits room (place.Local cell))
  unfolding place_fits
  local_fits cell h = let e : place_fits room (place.Local cell) ≡ nat_lt cell room.cells = search (rules, the_lemmas) in e ∙ h

  pub global_fits : (cell : ℕ) → IsTrue (nat_lt cell room.globals) → IsTrue (place_fits room (place.Global cell))
  unfolding place_fits
  global_fits cell h = let e : place_fits room (place.Global cell) ≡ nat_lt cell room.globals = search (rules, the_lemmas) in e ∙ h

  pub element_fits : (a : ArrayPlace) (index : Expr) (kind : Kind) (length : ℕ) → checked_kind room index ≡ Some kind → IsTrue (array_fits room a length) → IsTrue (place_fits room (place.Element a index length))
  unfolding place_fits checked_kind
  element_fits a index kind length h k =
      let e : place_fits room (place.Element a index length) ≡ (is_some (checked_kind room index) && array_fits room a length) = search (rules, the_lemmas) in
      e ∙ and_both (is_some (checked_kind room index)) (array_fits room a length) (ap is_some h) k

  pub temporary_checked : (cell : ℕ) (kind : Kind) → IsTrue (nat_lt cell room.cells) → IsTrue (is_kind kind) → checked_kind room (temporary cell kind) ≡ Some kind
  temporary_checked cell kind h k = load_checked (place.Local cell) kind (local_fits cell h) k

  -- ---- variables

  one_more : (a b : ℕ) → IsTrue (nat_le (a + 1) b) → IsTrue (nat_lt a b)
  one_more a b h = lt-ltb a b (let e = leb-true (a + 1) b h in omega arith)

  cell_meets : (length : Option ℕ) (p : VariablePlace) → IsTrue (variable_fits room length p) → IsTrue (is_none length) → IsTrue (not (is_lent p)) → IsTrue (place_fits room (cell_of p))
  cell_meets None (variable.Global cell) h n l = global_fits cell (one_more cell room.globals h)
  cell_meets None (variable.Local cell) h n l = local_fits cell (one_more cell room.cells h)
  cell_meets None (variable.Lent parameter) h n l = absurd (cc)
  cell_meets (Some length) p h n l = absurd (cc)

  pub array_meets : (length : Option ℕ) (p : VariablePlace) → IsTrue (variable_fits room length p) → IsTrue (not (is_none length)) → IsTrue (array_fits room (array_of p) (length_of length))
  array_meets None p h n = absurd (cc)
  array_meets (Some length) (variable.Global first) h n = h
  array_meets (Some length) (variable.Local first) h n = h
  array_meets (Some length) (variable.Lent parameter) h n = h

-- ---- variables of what may be named

module _ (names : Nameable) (v : Variable) where
  pub variable_kind : IsTrue (is_variable names v) → IsTrue (is_kind v.kind)
  variable_kind h = and_left (is_kind v.kind) (variable_fits names.room v.length v.place) h

  pub variable_place : IsTrue (is_variable names v) → IsTrue (variable_fits names.room v.length v.place)
  variable_place h = and_right (is_kind v.kind) (variable_fits names.room v.length v.place) h

  pub integer_variable : IsTrue (is_integer names v) → IsTrue (is_variable names v)
  integer_variable h = and_left (is_variable names v) (is_none v.length) (and_left (is_variable names v && is_none v.length) (not (is_lent v.place)) h)

  pub array_variable : IsTrue (is_array names v) → IsTrue (is_variable names v)
  array_variable h = and_left (is_variable names v) (not (is_none v.length)) h

  pub integer_cell : IsTrue (is_integer names v) → IsTrue (place_fits names.room (cell_of v.place))
  integer_cell h =
      let own = and_left (is_variable names v && is_none v.length) (not (is_lent v.place)) h in
      cell_meets names.room v.length v.place (variable_place (integer_variable h)) (and_right (is_variable names v) (is_none v.length) own) (and_right (is_variable names v && is_none v.length) (not (is_lent v.place)) h)

  pub array_place : IsTrue (is_array names v) → IsTrue (array_fits names.room (array_of v.place) (length_of v.length))
  array_place h = array_meets names.room v.length v.place (variable_place (array_variable h)) (and_right (is_variable names v) (not (is_none v.length)) h)

  pub element_place : (index : Expr) (kind : Kind) → IsTrue (is_array names v) → checked_kind names.room index ≡ Some kind → IsTrue (place_fits names.room (element_of v index))
  element_place index kind h k = element_fits names.room (array_of v.place) index kind (length_of v.length) k (array_place h)

-- ---- assignments with an operator

converted_checked : (room : Room) (own kind : Kind) (x : Expr) → checked_kind room x ≡ Some own → IsTrue (is_kind kind) → checked_kind room (converted_to own kind x) ≡ Some kind
converted_checked room own kind x h k = by (same_kind own kind) refl
  where
    by : (b : Bool) → same_kind own kind ≡ b → checked_kind room (if b then x else expr.Convert x kind) ≡ Some kind
    by true e = h ∙ ap Some (same_kind_is own kind e)
    by false e = convert_checked room x own kind h k

pub combined_checked : (room : Room) (kind : Kind) (op : BinaryOp × Kind) (p : CellPlace) (x : Expr) (right : Kind)
    → IsTrue (place_fits room p) → IsTrue (is_kind kind) → IsTrue (is_kind op.1) → checked_kind room x ≡ Some right → IsTrue (operands_meet op.0 op.1 right)
    → checked_kind room (combined kind (Some op) p x) ≡ Some kind
combined_checked room kind op p x right hp hk ho hx hm =
    let own = converted_checked room kind op.1 (expr.Load p kind) (load_checked room p kind hp hk) ho in
    let done = binary_checked room op.0 (converted_to kind op.1 (expr.Load p kind)) x op.1 right own hx hm in
    converted_checked room (binary_kind op.0 op.1) kind (expr.Binary op.0 (converted_to kind op.1 (expr.Load p kind)) x op.1) done hk
