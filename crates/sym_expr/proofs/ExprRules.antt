-- Expressions that meet the rules within a store, by their forms: what each form weighs, and what it comes to from what
-- its parts come to.
use Rattle.std.proofs.Common.{◌≡◌, ℕ, ◌+◌, ◌*◌, ◌^◌, ◌<◌, ◌≤◌, Bool, true, false, cond, List, [], Option, Some, None, length, get_or, refl, sym, ap, ◌∙◌, rules, pos, ⊎_elim, arith}
use Rattle.std.specs.Prelude.{Result, Ok, Err, IsTrue, IfOk, nat_lt, slice_index, slice_get, option_and_then, if◌then◌else◌}
use Rattle.std.specs.Result.{result_ok}
use Rattle.std.proofs.lemmas.Bool.{eqb-true, leb-true, ltb-true, lt-ltb, le-ltb, cases_lt}
use Rattle.std.proofs.lemmas.List.Elements.{AllZip-get_or, length_all_zip}
use Rattle.std.proofs.Math.Nat.{mul-le-mul}
use Rattle.std.proofs.lemmas.Option.{get_or_from_slice_get, slice_get_within}
use Rattle.c_values.specs.declared.kinds.Kind.{Kind}
use Rattle.c_values.specs.declared.operators.BinaryOp.{BinaryOp}
use Rattle.c_values.specs.declared.operators.UnaryOp.{UnaryOp}
use Rattle.c_values.specs.declared.operators.UnaryOp.TheVariants.{Neg, Complement, Not}
use Rattle.c_values.specs.declared.operators.BinaryOp.TheVariants.{Add, Sub, Mul, Div, Rem, Shl, Shr, And, Or, Xor, Less, LessEqual, Greater, GreaterEqual, Equal, NotEqual}
use Rattle.c_values.proofs.Fitting.{by_width}
use Rattle.c_values.specs.Kind.{IsKind, IsValue, converted, wrapped}
use Rattle.c_values.specs.Operations.{unary_kind, unary_value, binary_kind, binary_value, is_shift}
use Rattle.cfa.specs.declared.expr.ArrayPlace.{ArrayPlace}
use Rattle.cfa.specs.declared.expr.ArrayPlace.TheVariants as array
use Rattle.cfa.specs.declared.expr.CellPlace.{CellPlace, the_lemmas}
use Rattle.cfa.specs.declared.expr.CellPlace.TheVariants as place
use Rattle.cfa.specs.declared.expr.Expr.{Expr}
use Rattle.cfa.specs.declared.expr.Expr.TheVariants as expr
use Rattle.cfa.specs.declared.state.Frame.{Frame}
use Rattle.cfa.specs.declared.state.Trap.{Trap}
use Rattle.cfa.specs.declared.state.Trap.TheVariants as trap
use Rattle.cfa.specs.Kinds.{kind_of}
use Rattle.cfa.specs.Rules.{Room, is_length, array_fits, place_fits}
use Rattle.cfa.specs.Values.{after_value, is_index, array_start, element_at, cell_of, value_of, operator_trap}
use Rattle.cfa.proofs.ExprKinds.{agrees}
use Rattle.cfa.proofs.ExprRules.{binary_comes, binary_left, binary_left_is, binary_right, binary_same, comes_to, constant_kept, constant_value, convert_kind, convert_operand, convert_value, element_array, element_cell, element_index, global_cell, load_kind, load_place, load_value, local_cell, unary_is, unary_operand, unary_step}
use Rattle.cfa.proofs.Indexes.{indexes_of_elements}
use Rattle.sym_expr.proofs.OutcomeLemmas.{after_one, after_two}
use Rattle.sym_expr.specs.Stores.{HasRoom, FitsWithin, PlaceFitsWithin}
use Rattle.sym_expr.specs.Weights.{unary_weight, binary_weight, element_weight, weight_of, place_weight}

-- ---- what they weigh

pub weight_constant : (n : ℕ) (kind : Kind) → weight_of (expr.Constant n kind) ≡ 0
unfolding weight_of
weight_constant n kind = search (rules, the_lemmas)

pub weight_load : (p : CellPlace) (kind : Kind) → weight_of (expr.Load p kind) ≡ place_weight p kind.width
unfolding weight_of place_weight
weight_load p kind = search (rules, the_lemmas)

pub weight_convert : (a : Expr) (kind : Kind) → weight_of (expr.Convert a kind) ≡ weight_of a
unfolding weight_of
weight_convert a kind = search (rules, the_lemmas)

pub weight_unary : (op : UnaryOp) (a : Expr) (kind : Kind) → weight_of (expr.Unary op a kind) ≡ weight_of a + unary_weight op kind.width
unfolding weight_of
weight_unary op a kind = search (rules, the_lemmas)

pub weight_binary : (op : BinaryOp) (a b : Expr) (kind : Kind) → weight_of (expr.Binary op a b kind) ≡ weight_of a + weight_of b + binary_weight op kind.width
unfolding weight_of
weight_binary op a b kind = search (rules, the_lemmas)

pub weight_global : (n width : ℕ) → place_weight (place.Global n) width ≡ 0
unfolding place_weight
weight_global n width = search (rules, the_lemmas)

pub weight_local : (n width : ℕ) → place_weight (place.Local n) width ≡ 0
unfolding place_weight
weight_local n width = search (rules, the_lemmas)

pub weight_element : (a : ArrayPlace) (i : Expr) (n width : ℕ) → place_weight (place.Element a i n) width ≡ weight_of i + element_weight n width
unfolding weight_of place_weight
weight_element a i n width = search (rules, the_lemmas)

-- operators weigh something
pub unary_weighs : (op : UnaryOp) (width : ℕ) → 8 ≤ width → 0 < unary_weight op width
unary_weighs Neg width h = omega arith
unary_weighs Complement width h = omega arith
unary_weighs Not width h = omega arith

pub binary_weighs : (op : BinaryOp) (width : ℕ) → 8 ≤ width → 0 < binary_weight op width
binary_weighs op width h = let square : 64 ≤ width * width = mul-le-mul h h in at op square
  where
    at : (op : BinaryOp) → 64 ≤ width * width → 0 < binary_weight op width
    at Add s = omega arith
    at Sub s = omega arith
    at Mul s = omega arith
    at Div s = omega arith
    at Rem s = omega arith
    at Shl s = omega arith
    at Shr s = omega arith
    at And s = omega arith
    at Or s = omega arith
    at Xor s = omega arith
    at Less s = omega arith
    at LessEqual s = omega arith
    at Greater s = omega arith
    at GreaterEqual s = omega arith
    at Equal s = omega arith
    at NotEqual s = omega arith

pub kind_width : (kind : Kind) → IsKind kind → 8 ≤ kind.width
kind_width kind k = by_width (λ w. 8 ≤ w) (omega arith) (omega arith) (omega arith) (omega arith) kind.width k

-- an element of an array that weighs nothing is one of no elements
pub no_elements : (n width : ℕ) → 8 ≤ width → element_weight n width ≡ 0 → n ≡ 0
no_elements n width h e = let more : 8 * n ≤ width * n = mul-le-mul h (omega arith) in omega arith

-- ---- their kinds

pub kind_constant : (n : ℕ) (kind : Kind) → kind_of (expr.Constant n kind) ≡ kind
kind_constant n kind = search (rules, the_lemmas)

pub kind_load : (p : CellPlace) (kind : Kind) → kind_of (expr.Load p kind) ≡ kind
kind_load p kind = search (rules, the_lemmas)

pub kind_convert : (a : Expr) (kind : Kind) → kind_of (expr.Convert a kind) ≡ kind
kind_convert a kind = search (rules, the_lemmas)

pub kind_unary : (op : UnaryOp) (a : Expr) (kind : Kind) → kind_of (expr.Unary op a kind) ≡ unary_kind op kind
kind_unary op a kind = search (rules, the_lemmas)

pub kind_binary : (op : BinaryOp) (a b : Expr) (kind : Kind) → kind_of (expr.Binary op a b kind) ≡ binary_kind op kind
kind_binary op a b kind = search (rules, the_lemmas)

-- ---- elements

length_is : (o : Option ℕ) (n : ℕ) → IsTrue (is_length o n) → o ≡ Some n
length_is None n h = absurd (cc)
length_is (Some m) n h = ap Some (eqb-true m n h)

-- an array that meets the rules lies, whole, within the cells
pub array_within : (count : ℕ) (frame : Frame) (room : Room) (cells : List ℕ) (a : ArrayPlace) (n : ℕ) → HasRoom count frame room → IsTrue (array_fits room a n) → array_start cells frame a + n ≤ count
array_within count frame room cells (array.Global first) n r h = omega (arith, r.globals, leb-true (first + n) room.globals h)
array_within count frame room cells (array.Local first) n r h = omega (arith, r.locals, leb-true (first + n) room.cells h)
array_within count frame room cells (array.Lent p) n r h =
    let is = length_is (slice_get room.arrays p) n h in
    let same = length_all_zip (λ start length. start + length ≤ count) frame.arrays room.arrays r.arrays in
    let lt : p < length frame.arrays = omega (arith, same, slice_get_within room.arrays p n is) in
    let fact = AllZip-get_or (λ start length. start + length ≤ count) frame.arrays room.arrays p 0 0 r.arrays lt in
    let own : get_or room.arrays p 0 ≡ n = get_or_from_slice_get room.arrays p n 0 is in
    omega (arith, fact, own)

-- an index names an element exactly where its pattern is below the length
index_test : (count i : ℕ) (kind : Kind) → count < 2 ^ 32 → IsValue kind i → is_index count kind i ≡ nat_lt i count
index_test count i kind small of_kind = ⊎_elim
    (λ lt. (indexes_of_elements count i kind (omega arith) of_kind).1 lt ∙ sym (lt-ltb i count lt))
    (λ le. no (is_index count kind i) (λ e. (let lt = (indexes_of_elements count i kind (omega arith) of_kind).0 e in omega arith)) ∙ sym (le-ltb i count le))
    (cases_lt i count)
  where
    no : (b : Bool) → (b ≡ true → ⊥) → b ≡ false
    no true h = absurd (h refl)
    no false h = refl

-- what is loaded of an index that has a value, or of its trap
element_outcome : (cells : List ℕ) (frame : Frame) (a : ArrayPlace) (n : ℕ) (own kind : Kind) (v : Result ℕ Trap) → n < 2 ^ 32 → IfOk v (λ i. IsValue own i)
    → result_ok (after_value (after_value v (λ i. element_at cells frame a n own i)) (λ c. Ok (wrapped kind (pos (slice_index cells c)))))
    ≡ option_and_then (λ i. if nat_lt i n then Some (wrapped kind (pos (slice_index cells (array_start cells frame a + i)))) else None) (result_ok v)
element_outcome cells frame a n own kind (Err t) small of_kind = refl
element_outcome cells frame a n own kind (Ok i) small of_kind = by_test (is_index n own i) (nat_lt i n) (index_test n i own small of_kind)
  where
    by_test : (t u : Bool) → t ≡ u
        → result_ok (after_value (if t then Ok (array_start cells frame a + i) else Err trap.Index) (λ c. Ok (wrapped kind (pos (slice_index cells c)))))
        ≡ (if u then Some (wrapped kind (pos (slice_index cells (array_start cells frame a + i)))) else None)
    by_test true true e = refl
    by_test true false e = absurd (cc)
    by_test false true e = absurd (cc)
    by_test false false e = refl

-- the cell of an index that has a value, or its trap
element_named : (cells : List ℕ) (frame : Frame) (a : ArrayPlace) (n : ℕ) (own : Kind) (v : Result ℕ Trap) → n < 2 ^ 32 → IfOk v (λ i. IsValue own i)
    → result_ok (after_value v (λ i. element_at cells frame a n own i)) ≡ option_and_then (λ i. if nat_lt i n then Some (array_start cells frame a + i) else None) (result_ok v)
element_named cells frame a n own (Err t) small of_kind = refl
element_named cells frame a n own (Ok i) small of_kind = by_test (is_index n own i) (nat_lt i n) (index_test n i own small of_kind)
  where
    by_test : (t u : Bool) → t ≡ u → result_ok (if t then Ok (array_start cells frame a + i) else Err trap.Index) ≡ (if u then Some (array_start cells frame a + i) else None)
    by_test true true e = refl
    by_test true false e = absurd (cc)
    by_test false true e = absurd (cc)
    by_test false false e = refl

module _ (room : Room) (cells : List ℕ) (frame : Frame) where
  pub place_outcome : (a : ArrayPlace) (i : Expr) (n : ℕ) → n < 2 ^ 32 → IsTrue (place_fits room (place.Element a i n))
      → result_ok (cell_of cells frame (place.Element a i n)) ≡ option_and_then (λ v. if nat_lt v n then Some (array_start cells frame a + v) else None) (result_ok (value_of cells frame i))
  place_outcome a i n small h =
      ap result_ok (element_cell room cells frame a i n h)
      ∙ element_named cells frame a n (kind_of i) (value_of cells frame i) small (comes_to room cells frame i (value_of cells frame i) (element_index room a i n h) refl)

  pub global_outcome : (n : ℕ) (kind : Kind) → result_ok (value_of cells frame (expr.Load (place.Global n) kind)) ≡ Some (wrapped kind (pos (slice_index cells n)))
  global_outcome n kind = ap result_ok (load_value room cells frame (place.Global n) kind ∙ ap (λ r. after_value r (λ c. Ok (wrapped kind (pos (slice_index cells c))))) (global_cell room cells frame n))

  pub local_outcome : (n : ℕ) (kind : Kind) → result_ok (value_of cells frame (expr.Load (place.Local n) kind)) ≡ Some (wrapped kind (pos (slice_index cells (frame.base + n))))
  local_outcome n kind = ap result_ok (load_value room cells frame (place.Local n) kind ∙ ap (λ r. after_value r (λ c. Ok (wrapped kind (pos (slice_index cells c))))) (local_cell room cells frame n))

  pub loaded_outcome : (a : ArrayPlace) (i : Expr) (n : ℕ) (kind : Kind) → n < 2 ^ 32 → IsTrue (place_fits room (place.Element a i n))
      → result_ok (value_of cells frame (expr.Load (place.Element a i n) kind))
      ≡ option_and_then (λ v. if nat_lt v n then Some (wrapped kind (pos (slice_index cells (array_start cells frame a + v)))) else None) (result_ok (value_of cells frame i))
  loaded_outcome a i n kind small h =
      ap result_ok (load_value room cells frame (place.Element a i n) kind ∙ ap (λ r. after_value r (λ c. Ok (wrapped kind (pos (slice_index cells c))))) (element_cell room cells frame a i n h))
      ∙ element_outcome cells frame a n (kind_of i) kind (value_of cells frame i) small (comes_to room cells frame i (value_of cells frame i) (element_index room a i n h) refl)

-- ---- the parts of an expression over a store

module _ (count : ℕ) (frame : Frame) where
  pub fits_constant : (n : ℕ) (kind : Kind) → FitsWithin count frame (expr.Constant n kind) → IsValue kind n
  fits_constant n kind f = constant_kept f.room n kind f.fits

  pub fits_place : (p : CellPlace) (kind : Kind) → FitsWithin count frame (expr.Load p kind) → PlaceFitsWithin count frame p
  fits_place p kind f = record { room = f.room; has = f.has; fits = load_place f.room p kind f.fits }

  pub fits_load : (p : CellPlace) (kind : Kind) → FitsWithin count frame (expr.Load p kind) → IsKind kind
  fits_load p kind f = load_kind f.room p kind f.fits

  pub fits_converted : (a : Expr) (kind : Kind) → FitsWithin count frame (expr.Convert a kind) → FitsWithin count frame a
  fits_converted a kind f = record { room = f.room; has = f.has; fits = convert_operand f.room a kind f.fits }

  pub fits_convert : (a : Expr) (kind : Kind) → FitsWithin count frame (expr.Convert a kind) → IsKind kind
  fits_convert a kind f = convert_kind f.room a kind f.fits

  pub fits_operand : (op : UnaryOp) (a : Expr) (kind : Kind) → FitsWithin count frame (expr.Unary op a kind) → FitsWithin count frame a
  fits_operand op a kind f = record { room = f.room; has = f.has; fits = unary_operand f.room op a kind f.fits }

  pub operand_kind : (op : UnaryOp) (a : Expr) (kind : Kind) → FitsWithin count frame (expr.Unary op a kind) → kind_of a ≡ kind
  operand_kind op a kind f = (agrees f.room [] frame a).kind kind (unary_is f.room op a kind f.fits)

  pub fits_left : (op : BinaryOp) (a b : Expr) (kind : Kind) → FitsWithin count frame (expr.Binary op a b kind) → FitsWithin count frame a
  fits_left op a b kind f = record { room = f.room; has = f.has; fits = binary_left f.room op a b kind f.fits }

  pub fits_right : (op : BinaryOp) (a b : Expr) (kind : Kind) → FitsWithin count frame (expr.Binary op a b kind) → FitsWithin count frame b
  fits_right op a b kind f = record { room = f.room; has = f.has; fits = binary_right f.room op a b kind f.fits }

  pub left_kind : (op : BinaryOp) (a b : Expr) (kind : Kind) → FitsWithin count frame (expr.Binary op a b kind) → kind_of a ≡ kind
  left_kind op a b kind f = (agrees f.room [] frame a).kind kind (binary_left_is f.room op a b kind f.fits)

  pub right_kind : (op : BinaryOp) (a b : Expr) (kind : Kind) → FitsWithin count frame (expr.Binary op a b kind) → is_shift op ≡ false → kind_of b ≡ kind
  right_kind op a b kind f = binary_same f.room [] frame op a b kind f.fits

  pub fits_index : (a : ArrayPlace) (i : Expr) (n : ℕ) → PlaceFitsWithin count frame (place.Element a i n) → FitsWithin count frame i
  fits_index a i n f = record { room = f.room; has = f.has; fits = element_index f.room a i n f.fits }

  pub fits_array : (cells : List ℕ) (a : ArrayPlace) (i : Expr) (n : ℕ) → PlaceFitsWithin count frame (place.Element a i n) → array_start cells frame a + n ≤ count
  fits_array cells a i n f = array_within count frame f.room cells a n f.has (element_array f.room a i n f.fits)

  place_global : (room : Room) (n : ℕ) → place_fits room (place.Global n) ≡ nat_lt n room.globals
  unfolding place_fits
  place_global room n = search (rules, the_lemmas)

  place_local : (room : Room) (n : ℕ) → place_fits room (place.Local n) ≡ nat_lt n room.cells
  unfolding place_fits
  place_local room n = search (rules, the_lemmas)

  pub fits_global : (n : ℕ) → PlaceFitsWithin count frame (place.Global n) → n < count
  fits_global n f = let lt = ltb-true n f.room.globals (sym (place_global f.room n) ∙ f.fits) in omega (arith, f.has.globals)

  pub fits_local : (n : ℕ) → PlaceFitsWithin count frame (place.Local n) → frame.base + n < count
  fits_local n f = let lt = ltb-true n f.room.cells (sym (place_local f.room n) ∙ f.fits) in omega (arith, f.has.locals)

-- ---- what a form comes to, from what its parts come to

module _ (count : ℕ) (frame : Frame) (cells : List ℕ) where
  pub constant_outcome : (n : ℕ) (kind : Kind) → FitsWithin count frame (expr.Constant n kind) → result_ok (value_of cells frame (expr.Constant n kind)) ≡ Some n
  constant_outcome n kind f = ap result_ok (constant_value f.room cells frame n kind)

  pub convert_outcome : (a : Expr) (kind : Kind) (t : Bool) (x y : ℕ) → FitsWithin count frame (expr.Convert a kind) → cond t (Some x) None ≡ result_ok (value_of cells frame a) → y ≡ converted (kind_of a) kind x
      → cond t (Some y) None ≡ result_ok (value_of cells frame (expr.Convert a kind))
  convert_outcome a kind t x y f is made =
      after_one (value_of cells frame a) t x y (converted (kind_of a) kind) is made ∙ ap result_ok (sym (convert_value f.room cells frame a kind f.fits))

  pub unary_outcome : (op : UnaryOp) (a : Expr) (kind : Kind) (t : Bool) (x y : ℕ) → FitsWithin count frame (expr.Unary op a kind) → cond t (Some x) None ≡ result_ok (value_of cells frame a) → y ≡ unary_value op kind x
      → cond t (Some y) None ≡ result_ok (value_of cells frame (expr.Unary op a kind))
  unary_outcome op a kind t x y f is made =
      after_one (value_of cells frame a) t x y (unary_value op kind) is made ∙ ap result_ok (sym (unary_step f.room cells frame op a kind))

  pub binary_outcome : (op : BinaryOp) (a b : Expr) (kind : Kind) (o p : Option ℕ) → FitsWithin count frame (expr.Binary op a b kind) → o ≡ result_ok (value_of cells frame a) → p ≡ result_ok (value_of cells frame b)
      → option_and_then (λ x. option_and_then (λ y. binary_value op kind (kind_of b) x y) p) o ≡ result_ok (value_of cells frame (expr.Binary op a b kind))
  binary_outcome op a b kind o p f left right =
      after_two (value_of cells frame a) (value_of cells frame b) o p (λ x y. binary_value op kind (kind_of b) x y) (λ x y. operator_trap op kind y) left right
      ∙ ap result_ok (sym (binary_comes f.room cells frame op a b kind f.fits))
