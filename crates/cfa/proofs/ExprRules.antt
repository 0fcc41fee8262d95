-- Expressions and places that meet the rules, by their forms: what the rules ask of the parts, and what the whole comes
-- to.
use Rattle.std.proofs.Common.{◌≡◌, ℕ, ◌+◌, Bool, true, false, List, Option, Some, None, refl, sym, ap, subst, ◌∙◌, rules, pos}
use Rattle.std.specs.Prelude.{Result, Ok, Err, IsTrue, IfOk, ◌&&◌, slice_index, ok_or, if◌then◌else◌}
use Rattle.std.specs.Option.{is_some}
use Rattle.c_values.specs.declared.kinds.Kind.{Kind}
use Rattle.c_values.specs.declared.operators.BinaryOp.{BinaryOp}
use Rattle.c_values.specs.declared.operators.UnaryOp.{UnaryOp}
use Rattle.c_values.specs.Kind.{IsKind, IsValue, is_kind, is_value, converted, wrapped}
use Rattle.c_values.specs.Operations.{unary_kind, unary_value, binary_kind, binary_value, is_shift}
use Rattle.c_values.proofs.Fitting.{and_left, and_right}
use Rattle.cfa.specs.declared.expr.ArrayPlace.{ArrayPlace}
use Rattle.cfa.specs.declared.expr.CellPlace.{CellPlace, the_lemmas}
use Rattle.cfa.specs.declared.expr.CellPlace.TheVariants as place
use Rattle.cfa.specs.declared.expr.Expr.{Expr}
use Rattle.cfa.specs.declared.expr.Expr.TheVariants as expr
use Rattle.cfa.specs.declared.state.Frame.{Frame}
use Rattle.cfa.specs.declared.state.Trap.{Trap}
use Rattle.cfa.specs.Kinds.{kind_of}
use Rattle.cfa.specs.Rules.{Room, has_kind, right_fits, kind_if, array_fits, checked_kind, expr_fits, place_fits}
use Rattle.cfa.specs.Values.{after_value, element_at, valued, value_of, cell_of, operator_trap}
use Rattle.cfa.proofs.ExprKinds.{has_kind_is, agrees}

-- ---- options and kinds

kept_if : (t : Bool) (kind : Kind) → IsTrue (is_some (kind_if t kind)) → IsTrue t
kept_if true kind h = refl
kept_if false kind h = absurd cc

some_is : {A : Type 0} (o : Option A) → IsTrue (is_some o) → (x : A) × (o ≡ Some x)
some_is None h = absurd cc
some_is (Some x) h = (x, refl)

is_fit : {o : Option Kind} {kind : Kind} → o ≡ Some kind → IsTrue (is_some o)
is_fit e = rw e refl

-- ---- what the rules ask of the parts

module _ (room : Room) where
  constant_rule : (n : ℕ) (kind : Kind) → checked_kind room (expr.Constant n kind) ≡ kind_if (is_value kind n) kind
  unfolding checked_kind
  constant_rule n kind = search (rules, the_lemmas)

  pub constant_kept : (n : ℕ) (kind : Kind) → IsTrue (expr_fits room (expr.Constant n kind)) → IsValue kind n
  constant_kept n kind h = kept_if (is_value kind n) kind (rw (constant_rule n kind) at h)

  load_rule : (p : CellPlace) (kind : Kind) → checked_kind room (expr.Load p kind) ≡ kind_if (place_fits room p && is_kind kind) kind
  unfolding checked_kind place_fits
  load_rule p kind = search (rules, the_lemmas)

  load_kept : (p : CellPlace) (kind : Kind) → IsTrue (expr_fits room (expr.Load p kind)) → IsTrue (place_fits room p && is_kind kind)
  load_kept p kind h = kept_if (place_fits room p && is_kind kind) kind (rw (load_rule p kind) at h)

  pub load_place : (p : CellPlace) (kind : Kind) → IsTrue (expr_fits room (expr.Load p kind)) → IsTrue (place_fits room p)
  load_place p kind h = and_left (place_fits room p) (is_kind kind) (load_kept p kind h)

  pub load_kind : (p : CellPlace) (kind : Kind) → IsTrue (expr_fits room (expr.Load p kind)) → IsKind kind
  load_kind p kind h = and_right (place_fits room p) (is_kind kind) (load_kept p kind h)

  convert_rule : (a : Expr) (kind : Kind) → checked_kind room (expr.Convert a kind) ≡ kind_if (is_some (checked_kind room a) && is_kind kind) kind
  unfolding checked_kind
  convert_rule a kind = search (rules, the_lemmas)

  convert_kept : (a : Expr) (kind : Kind) → IsTrue (expr_fits room (expr.Convert a kind)) → IsTrue (expr_fits room a && is_kind kind)
  convert_kept a kind h = kept_if (expr_fits room a && is_kind kind) kind (rw (convert_rule a kind) at h)

  pub convert_operand : (a : Expr) (kind : Kind) → IsTrue (expr_fits room (expr.Convert a kind)) → IsTrue (expr_fits room a)
  convert_operand a kind h = and_left (expr_fits room a) (is_kind kind) (convert_kept a kind h)

  pub convert_kind : (a : Expr) (kind : Kind) → IsTrue (expr_fits room (expr.Convert a kind)) → IsKind kind
  convert_kind a kind h = and_right (expr_fits room a) (is_kind kind) (convert_kept a kind h)

  unary_rule : (op : UnaryOp) (a : Expr) (kind : Kind) → (k : Kind) × (checked_kind room (expr.Unary op a kind) ≡ kind_if (has_kind (checked_kind room a) kind) k)
  unfolding checked_kind
  unary_rule op a kind = (unary_kind op kind, search (rules, the_lemmas))

  pub unary_is : (op : UnaryOp) (a : Expr) (kind : Kind) → IsTrue (expr_fits room (expr.Unary op a kind)) → checked_kind room a ≡ Some kind
  unary_is op a kind h =
      let r = unary_rule op a kind in has_kind_is (checked_kind room a) kind (kept_if (has_kind (checked_kind room a) kind) r.0 (rw r.1 at h))

  pub unary_operand : (op : UnaryOp) (a : Expr) (kind : Kind) → IsTrue (expr_fits room (expr.Unary op a kind)) → IsTrue (expr_fits room a)
  unary_operand op a kind h = is_fit (unary_is op a kind h)

  binary_rule : (op : BinaryOp) (a b : Expr) (kind : Kind) → (k : Kind) × (checked_kind room (expr.Binary op a b kind) ≡ kind_if (has_kind (checked_kind room a) kind && right_fits op (checked_kind room b) kind) k)
  unfolding checked_kind
  binary_rule op a b kind = (binary_kind op kind, search (rules, the_lemmas))

  binary_kept : (op : BinaryOp) (a b : Expr) (kind : Kind) → IsTrue (expr_fits room (expr.Binary op a b kind)) → IsTrue (has_kind (checked_kind room a) kind && right_fits op (checked_kind room b) kind)
  binary_kept op a b kind h = let r = binary_rule op a b kind in kept_if _ r.0 (rw r.1 at h)

  pub binary_left_is : (op : BinaryOp) (a b : Expr) (kind : Kind) → IsTrue (expr_fits room (expr.Binary op a b kind)) → checked_kind room a ≡ Some kind
  binary_left_is op a b kind h =
      has_kind_is (checked_kind room a) kind (and_left (has_kind (checked_kind room a) kind) (right_fits op (checked_kind room b) kind) (binary_kept op a b kind h))

  right_is : (shifts : Bool) (o : Option Kind) (kind : Kind) → IsTrue (if shifts then is_some o else has_kind o kind) → IsTrue (is_some o) × (shifts ≡ false → o ≡ Some kind)
  right_is true o kind h = (h, λ e. absurd cc)
  right_is false o kind h = (is_fit (has_kind_is o kind h), λ e. has_kind_is o kind h)

  pub binary_right_is : (op : BinaryOp) (a b : Expr) (kind : Kind) → IsTrue (expr_fits room (expr.Binary op a b kind)) → IsTrue (expr_fits room b) × (is_shift op ≡ false → checked_kind room b ≡ Some kind)
  binary_right_is op a b kind h =
      right_is (is_shift op) (checked_kind room b) kind (and_right (has_kind (checked_kind room a) kind) (right_fits op (checked_kind room b) kind) (binary_kept op a b kind h))

  pub binary_left : (op : BinaryOp) (a b : Expr) (kind : Kind) → IsTrue (expr_fits room (expr.Binary op a b kind)) → IsTrue (expr_fits room a)
  binary_left op a b kind h = is_fit (binary_left_is op a b kind h)

  pub binary_right : (op : BinaryOp) (a b : Expr) (kind : Kind) → IsTrue (expr_fits room (expr.Binary op a b kind)) → IsTrue (expr_fits room b)
  binary_right op a b kind h = (binary_right_is op a b kind h).0

  element_rule : (a : ArrayPlace) (i : Expr) (n : ℕ) → place_fits room (place.Element a i n) ≡ (expr_fits room i && array_fits room a n)
  unfolding checked_kind place_fits
  element_rule a i n = search (rules, the_lemmas)

  element_kept : (a : ArrayPlace) (i : Expr) (n : ℕ) → IsTrue (place_fits room (place.Element a i n)) → IsTrue (expr_fits room i && array_fits room a n)
  element_kept a i n h = rw (element_rule a i n) at h

  pub element_index : (a : ArrayPlace) (i : Expr) (n : ℕ) → IsTrue (place_fits room (place.Element a i n)) → IsTrue (expr_fits room i)
  element_index a i n h = and_left (expr_fits room i) (array_fits room a n) (element_kept a i n h)

  pub element_array : (a : ArrayPlace) (i : Expr) (n : ℕ) → IsTrue (place_fits room (place.Element a i n)) → IsTrue (array_fits room a n)
  element_array a i n h = and_right (expr_fits room i) (array_fits room a n) (element_kept a i n h)

-- ---- what they come to

module _ (room : Room) (cells : List ℕ) (frame : Frame) where
  -- the kind of an expression that meets the rules, and the kind at which it is evaluated
  pub evaluated_at : (e : Expr) → IsTrue (expr_fits room e) → (valued cells frame e).kind ≡ kind_of e
  evaluated_at e h =
      let k = some_is (checked_kind room e) h in
      (agrees room cells frame e).evaluated k.0 k.1 ∙ sym ((agrees room cells frame e).kind k.0 k.1)

  -- what it comes to is a value of its kind
  pub comes_to : (e : Expr) (r : Result ℕ Trap) → IsTrue (expr_fits room e) → r ≡ value_of cells frame e → IfOk r (λ v. IsValue (kind_of e) v)
  comes_to e (Err t) h is = tt
  comes_to e (Ok v) h is =
      let k = some_is (checked_kind room e) h in
      subst (λ q. IsValue q v) (sym ((agrees room cells frame e).kind k.0 k.1)) ((agrees room cells frame e).value k.0 v k.1 (sym is))

  comes_to_at : (e : Expr) (kind : Kind) (r : Result ℕ Trap) → checked_kind room e ≡ Some kind → r ≡ value_of cells frame e → IfOk r (λ v. IsValue kind v)
  comes_to_at e kind r k is =
      subst (λ q. IfOk r (λ v. IsValue q v)) ((agrees room cells frame e).kind kind k) (comes_to e r (is_fit k) is)

  -- ---- constants

  pub constant_value : (n : ℕ) (kind : Kind) → value_of cells frame (expr.Constant n kind) ≡ Ok n
  unfolding valued
  constant_value n kind = search (rules, the_lemmas)

  -- ---- loads

  pub load_value : (p : CellPlace) (kind : Kind) → value_of cells frame (expr.Load p kind) ≡ after_value (cell_of cells frame p) (λ c. Ok (wrapped kind (pos (slice_index cells c))))
  unfolding valued cell_of
  load_value p kind = search (rules, the_lemmas)

  -- ---- conversions

  convert_step : (a : Expr) (kind : Kind) → value_of cells frame (expr.Convert a kind) ≡ after_value (value_of cells frame a) (λ v. Ok (converted (valued cells frame a).kind kind v))
  unfolding valued
  convert_step a kind = search (rules, the_lemmas)

  pub convert_value : (a : Expr) (kind : Kind) → IsTrue (expr_fits room (expr.Convert a kind)) → value_of cells frame (expr.Convert a kind) ≡ after_value (value_of cells frame a) (λ v. Ok (converted (kind_of a) kind v))
  convert_value a kind h =
      convert_step a kind ∙ ap (λ k. after_value (value_of cells frame a) (λ v. Ok (converted k kind v))) (evaluated_at a (convert_operand room a kind h))

  -- ---- operators with one operand

  pub unary_of_kind : (op : UnaryOp) (a : Expr) (kind : Kind) (r : Result ℕ Trap) → IsTrue (expr_fits room (expr.Unary op a kind)) → r ≡ value_of cells frame a → IfOk r (λ v. IsValue kind v)
  unary_of_kind op a kind r h is = comes_to_at a kind r (unary_is room op a kind h) is

  pub unary_step : (op : UnaryOp) (a : Expr) (kind : Kind) → value_of cells frame (expr.Unary op a kind) ≡ after_value (value_of cells frame a) (λ v. Ok (unary_value op kind v))
  unfolding valued
  unary_step op a kind = search (rules, the_lemmas)

  -- ---- operators with two operands

  pub binary_left_of_kind : (op : BinaryOp) (a b : Expr) (kind : Kind) (r : Result ℕ Trap) → IsTrue (expr_fits room (expr.Binary op a b kind)) → r ≡ value_of cells frame a → IfOk r (λ v. IsValue kind v)
  binary_left_of_kind op a b kind r h is = comes_to_at a kind r (binary_left_is room op a b kind h) is

  pub binary_same : (op : BinaryOp) (a b : Expr) (kind : Kind) → IsTrue (expr_fits room (expr.Binary op a b kind)) → is_shift op ≡ false → kind_of b ≡ kind
  binary_same op a b kind h s = (agrees room cells frame b).kind kind ((binary_right_is room op a b kind h).1 s)

  binary_step : (op : BinaryOp) (a b : Expr) (kind : Kind) → value_of cells frame (expr.Binary op a b kind) ≡ after_value (value_of cells frame a) (λ v. after_value (value_of cells frame b) (λ w. ok_or (binary_value op kind (valued cells frame b).kind v w) (operator_trap op kind w)))
  unfolding valued
  binary_step op a b kind = search (rules, the_lemmas)

  pub binary_comes : (op : BinaryOp) (a b : Expr) (kind : Kind) → IsTrue (expr_fits room (expr.Binary op a b kind)) → value_of cells frame (expr.Binary op a b kind) ≡ after_value (value_of cells frame a) (λ v. after_value (value_of cells frame b) (λ w. ok_or (binary_value op kind (kind_of b) v w) (operator_trap op kind w)))
  binary_comes op a b kind h =
      binary_step op a b kind
      ∙ ap (λ k. after_value (value_of cells frame a) (λ v. after_value (value_of cells frame b) (λ w. ok_or (binary_value op kind k v w) (operator_trap op kind w)))) (evaluated_at b (binary_right room op a b kind h))

  -- ---- places

  pub global_cell : (n : ℕ) → cell_of cells frame (place.Global n) ≡ Ok n
  unfolding cell_of
  global_cell n = search (rules, the_lemmas)

  pub local_cell : (n : ℕ) → cell_of cells frame (place.Local n) ≡ Ok (frame.base + n)
  unfolding cell_of
  local_cell n = search (rules, the_lemmas)

  element_step : (a : ArrayPlace) (i : Expr) (n : ℕ) → cell_of cells frame (place.Element a i n) ≡ after_value (value_of cells frame i) (λ v. element_at cells frame a n (valued cells frame i).kind v)
  unfolding cell_of valued
  element_step a i n = search (rules, the_lemmas)

  pub element_cell : (a : ArrayPlace) (i : Expr) (n : ℕ) → IsTrue (place_fits room (place.Element a i n)) → cell_of cells frame (place.Element a i n) ≡ after_value (value_of cells frame i) (λ v. element_at cells frame a n (kind_of i) v)
  element_cell a i n h =
      element_step a i n ∙ ap (λ k. after_value (value_of cells frame i) (λ v. element_at cells frame a n k v)) (evaluated_at i (element_index room a i n h))
