-- The rest of an expression, from what the rests of its parts give.
use Rattle.std.proofs.Common.{◌≡◌, ℕ, List, drop, Option, Some, None, Result, Ok, Err, refl, sym, ap, ◌∙◌}
use Rattle.std.specs.Prelude.{slice_index}
use Rattle.std.specs.Option.{option_map}
use Rattle.std.proofs.lemmas.List.{drop-drop}
use Rattle.c_values.specs.Kind.{converted}
use Rattle.c_values.specs.Operations.{unary_value}
use Rattle.c_values.specs.declared.kinds.Kind.{Kind}
use Rattle.c_values.specs.declared.operators.BinaryOp.{BinaryOp}
use Rattle.c_values.specs.declared.operators.UnaryOp.{UnaryOp}
use Rattle.cfa.specs.Values.{after_value}
use Rattle.cfa.specs.declared.state.Trap.{Trap}
use Rattle.c_typed_trees.specs.declared.expression.TypedCall.{TypedCall}
use Rattle.c_typed_trees.specs.declared.expression.TypedExpr.{TypedExpr}
use Rattle.c_typed_trees.specs.declared.expression.TypedExprForm.TheVariants as forms
use Rattle.c_typed_trees.specs.declared.expression.TypedPlace.{TypedPlace, out-TypedPlace}
use Rattle.tree_meaning.specs.Activations.{as_kind, element_at, read, start_of}
use Rattle.tree_meaning.specs.Expressions.{Meant, Placed, operated, placed_at}
use Rattle.tree_meaning.specs.Running.{Scene, meant_in, placed_in, FitExpression}
use Rattle.tree_meaning.proofs.Fits.{expression_fits_laws, left_fit, right_fit, convert_fit, unary_fit, index_fit}
use Rattle.tree_meaning.proofs.Forms.{constant_in, load_in, convert_in, unary_in, binary_in, both_in, either_in, choice_in, call_form_in, place_in, own_kind, value_kind}

module _ (c : Scene) (x : TypedExpr) (vs : List ℕ) where
  left_by : (m : Meant) → meant_in c x ≡ m → drop m.parts vs ≡ drop (meant_in c x).parts vs
  left_by m e = ap (λ (q : Meant). drop q.parts vs) (sym e)

  pub constant_left : (v : ℕ) → x.form ≡ forms.Constant v → vs ≡ drop (meant_in c x).parts vs
  constant_left v e = left_by _ (constant_in c x v e)

  pub load_left : (p : TypedPlace) (left : List ℕ) → x.form ≡ forms.Load p → left ≡ drop (placed_in c p).parts vs → left ≡ drop (meant_in c x).parts vs
  load_left p left e h = h ∙ left_by _ (load_in c x p e)

  pub convert_left : (y : TypedExpr) (left : List ℕ) → x.form ≡ forms.Convert y → left ≡ drop (meant_in c y).parts vs → left ≡ drop (meant_in c x).parts vs
  convert_left y left e h = h ∙ left_by _ (convert_in c x y e)

  pub unary_left : (op : UnaryOp) (y : TypedExpr) (left : List ℕ) → x.form ≡ forms.Unary op y → left ≡ drop (meant_in c y).parts vs → left ≡ drop (meant_in c x).parts vs
  unary_left op y left e h = h ∙ left_by _ (unary_in c x y op e)

  pub binary_left : (op : BinaryOp) (y z : TypedExpr) (middle left : List ℕ) → x.form ≡ forms.Binary op y z → middle ≡ drop (meant_in c y).parts vs → left ≡ drop (meant_in c z).parts middle → left ≡ drop (meant_in c x).parts vs
  binary_left op y z middle left e h k = k ∙ ap (drop (meant_in c z).parts) h ∙ drop-drop (meant_in c z).parts (meant_in c y).parts vs ∙ left_by _ (binary_in c x y z op e)

  pub both_left : (y z : TypedExpr) (cell : ℕ) (left : List ℕ) → x.form ≡ forms.Both y z cell → left ≡ drop 1 vs → left ≡ drop (meant_in c x).parts vs
  both_left y z cell left e h = h ∙ left_by _ (both_in c x y z cell e)

  pub either_left : (y z : TypedExpr) (cell : ℕ) (left : List ℕ) → x.form ≡ forms.Either y z cell → left ≡ drop 1 vs → left ≡ drop (meant_in c x).parts vs
  either_left y z cell left e h = h ∙ left_by _ (either_in c x y z cell e)

  pub choice_left : (w y z : TypedExpr) (cell : ℕ) (left : List ℕ) → x.form ≡ forms.Choice w y z cell → left ≡ drop 1 vs → left ≡ drop (meant_in c x).parts vs
  choice_left w y z cell left e h = h ∙ left_by _ (choice_in c x w y z cell e)

  pub call_left : (q : TypedCall) (left : List ℕ) → x.form ≡ forms.Call q → left ≡ drop 1 vs → left ≡ drop (meant_in c x).parts vs
  call_left q left e h = h ∙ left_by _ (call_form_in c x q e)

  module _ (cells : List ℕ) where
    rest_by : (m : Meant) (r : Result ℕ Trap) → meant_in c x ≡ m → m.rest vs cells ≡ r → (meant_in c x).rest vs cells ≡ r
    rest_by m r e h = ap (λ (q : Meant). q.rest vs cells) e ∙ h

    pub constant_rest : (v : ℕ) → x.form ≡ forms.Constant v → (meant_in c x).rest vs cells ≡ Ok v
    constant_rest v e = rest_by _ _ (constant_in c x v e) refl

    pub load_rest : (p : TypedPlace) (cell word r : ℕ) → x.form ≡ forms.Load p → (placed_in c p).cell vs cells ≡ Ok cell → word ≡ slice_index cells cell → r ≡ as_kind x.kind word → (meant_in c x).rest vs cells ≡ Ok r
    load_rest p cell word r e h i k = rest_by _ _ (load_in c x p e) (ap (λ q. after_value q (λ n. Ok (read cells x.kind n))) h ∙ ap Ok (sym (k ∙ ap (as_kind x.kind) i)))

    pub load_trap : (p : TypedPlace) (trap : Trap) → x.form ≡ forms.Load p → (placed_in c p).cell vs cells ≡ Err trap → (meant_in c x).rest vs cells ≡ Err trap
    load_trap p trap e h = rest_by _ _ (load_in c x p e) (ap (λ q. after_value q (λ n. Ok (read cells x.kind n))) h)

    pub convert_rest : (y : TypedExpr) (kind : Kind) (v r : ℕ) → x.form ≡ forms.Convert y → FitExpression x → (meant_in c y).rest vs cells ≡ Ok v → kind ≡ y.kind → r ≡ converted kind x.kind v → (meant_in c x).rest vs cells ≡ Ok r
    convert_rest y kind v r e f h k i =
        rest_by _ _ (convert_in c x y e) (ap (λ q. after_value q (λ n. Ok (converted (meant_in c y).kind x.kind n))) h ∙ ap (λ q. Ok (converted q x.kind v)) (own_kind c y (convert_fit x y e f) ∙ sym k) ∙ ap Ok (sym i))

    pub convert_trap : (y : TypedExpr) (trap : Trap) → x.form ≡ forms.Convert y → (meant_in c y).rest vs cells ≡ Err trap → (meant_in c x).rest vs cells ≡ Err trap
    convert_trap y trap e h = rest_by _ _ (convert_in c x y e) (ap (λ q. after_value q (λ n. Ok (converted (meant_in c y).kind x.kind n))) h)

    pub unary_rest : (op : UnaryOp) (y : TypedExpr) (kind : Kind) (v r : ℕ) → x.form ≡ forms.Unary op y → FitExpression x → (meant_in c y).rest vs cells ≡ Ok v → kind ≡ y.kind → r ≡ unary_value op kind v → (meant_in c x).rest vs cells ≡ Ok r
    unary_rest op y kind v r e f h k i =
        rest_by _ _ (unary_in c x y op e) (ap (λ q. after_value q (λ n. Ok (unary_value op (meant_in c y).kind n))) h ∙ ap (λ q. Ok (unary_value op q v)) (own_kind c y (unary_fit x y op e f) ∙ sym k) ∙ ap Ok (sym i))

    pub unary_trap : (op : UnaryOp) (y : TypedExpr) (trap : Trap) → x.form ≡ forms.Unary op y → (meant_in c y).rest vs cells ≡ Err trap → (meant_in c x).rest vs cells ≡ Err trap
    unary_trap op y trap e h = rest_by _ _ (unary_in c x y op e) (ap (λ q. after_value q (λ n. Ok (unary_value op (meant_in c y).kind n))) h)

    abbrev both_values : (op : BinaryOp) (y z : TypedExpr) → Result ℕ Trap → Result ℕ Trap → Result ℕ Trap
    both_values op y z p q = after_value p (λ v. after_value q (λ w. operated op (meant_in c y).kind (meant_in c z).kind v w))

    pub binary_rest : (op : BinaryOp) (y z : TypedExpr) (kind right : Kind) (v w : ℕ) (middle : List ℕ) (made r : Result ℕ Trap) → x.form ≡ forms.Binary op y z → FitExpression x
        → (meant_in c y).rest vs cells ≡ Ok v → middle ≡ drop (meant_in c y).parts vs → (meant_in c z).rest middle cells ≡ Ok w → kind ≡ y.kind → right ≡ z.kind → made ≡ operated op kind right v w → made ≡ r → (meant_in c x).rest vs cells ≡ r
    binary_rest op y z kind right v w middle made r e f h m k i j o s =
        rest_by _ _ (binary_in c x y z op e) (ap (λ q. both_values op y z q ((meant_in c z).rest (drop (meant_in c y).parts vs) cells)) h ∙ ap (λ q. both_values op y z (Ok v) ((meant_in c z).rest q cells)) (sym m) ∙ ap (both_values op y z (Ok v)) k
        ∙ ap (λ q. operated op q (meant_in c z).kind v w) (own_kind c y (left_fit x y z op e f) ∙ sym i) ∙ ap (λ q. operated op kind q v w) (own_kind c z (right_fit x y z op e f) ∙ sym j) ∙ sym o ∙ s)

    pub left_trap : (op : BinaryOp) (y z : TypedExpr) (trap : Trap) → x.form ≡ forms.Binary op y z → (meant_in c y).rest vs cells ≡ Err trap → (meant_in c x).rest vs cells ≡ Err trap
    left_trap op y z trap e h = rest_by _ _ (binary_in c x y z op e) (ap (λ q. both_values op y z q ((meant_in c z).rest (drop (meant_in c y).parts vs) cells)) h)

    pub right_trap : (op : BinaryOp) (y z : TypedExpr) (v : ℕ) (middle : List ℕ) (trap : Trap) → x.form ≡ forms.Binary op y z → (meant_in c y).rest vs cells ≡ Ok v → middle ≡ drop (meant_in c y).parts vs → (meant_in c z).rest middle cells ≡ Err trap → (meant_in c x).rest vs cells ≡ Err trap
    right_trap op y z v middle trap e h m k =
        rest_by _ _ (binary_in c x y z op e) (ap (λ q. both_values op y z q ((meant_in c z).rest (drop (meant_in c y).parts vs) cells)) h ∙ ap (λ q. both_values op y z (Ok v) ((meant_in c z).rest q cells)) (sym m) ∙ ap (both_values op y z (Ok v)) k)

    pub both_rest : (y z : TypedExpr) (cell r : ℕ) → x.form ≡ forms.Both y z cell → r ≡ as_kind x.kind (slice_index vs 0) → (meant_in c x).rest vs cells ≡ Ok r
    both_rest y z cell r e h = rest_by _ _ (both_in c x y z cell e) (ap Ok (sym h))

    pub either_rest : (y z : TypedExpr) (cell r : ℕ) → x.form ≡ forms.Either y z cell → r ≡ as_kind x.kind (slice_index vs 0) → (meant_in c x).rest vs cells ≡ Ok r
    either_rest y z cell r e h = rest_by _ _ (either_in c x y z cell e) (ap Ok (sym h))

    pub choice_rest : (w y z : TypedExpr) (cell r : ℕ) → x.form ≡ forms.Choice w y z cell → r ≡ as_kind x.kind (slice_index vs 0) → (meant_in c x).rest vs cells ≡ Ok r
    choice_rest w y z cell r e h = rest_by _ _ (choice_in c x w y z cell e) (ap Ok (sym h))

    pub call_rest : (q : TypedCall) (r : ℕ) → x.form ≡ forms.Call q → r ≡ as_kind x.kind (slice_index vs 0) → (meant_in c x).rest vs cells ≡ Ok r
    call_rest q r e h = rest_by _ _ (call_form_in c x q e) (ap Ok (sym h))

-- ---- places

module _ (c : Scene) (p : TypedPlace) (vs : List ℕ) where
  abbrev at_index : Option TypedExpr → Placed
  at_index o = placed_at c.activation (out-TypedPlace p).variable (option_map (meant_in c) o)

  placed_by : (o : Option TypedExpr) → (out-TypedPlace p).index ≡ o → placed_in c p ≡ at_index o
  placed_by o e = place_in c p ∙ ap at_index e

  pub whole_left : (out-TypedPlace p).index ≡ None → vs ≡ drop (placed_in c p).parts vs
  whole_left e = ap (λ (q : Placed). drop q.parts vs) (sym (placed_by None e))

  pub element_left : (i : TypedExpr) (left : List ℕ) → (out-TypedPlace p).index ≡ Some i → left ≡ drop (meant_in c i).parts vs → left ≡ drop (placed_in c p).parts vs
  element_left i left e h = h ∙ ap (λ (q : Placed). drop q.parts vs) (sym (placed_by (Some i) e))

  module _ (cells : List ℕ) where
    pub whole_cell : (cell : ℕ) → (out-TypedPlace p).index ≡ None → cell ≡ start_of c.activation (out-TypedPlace p).variable.place → (placed_in c p).cell vs cells ≡ Ok cell
    whole_cell cell e h = ap (λ (q : Placed). q.cell vs cells) (placed_by None e) ∙ ap Ok (sym h)

    pub element_cell : (i : TypedExpr) (kind : Kind) (v : ℕ) (made r : Result ℕ Trap) → (out-TypedPlace p).index ≡ Some i → FitExpression i → (meant_in c i).rest vs cells ≡ Ok v → kind ≡ i.kind
        → made ≡ element_at c.activation (out-TypedPlace p).variable kind v → made ≡ r → (placed_in c p).cell vs cells ≡ r
    element_cell i kind v made r e f h k m s =
        ap (λ (q : Placed). q.cell vs cells) (placed_by (Some i) e) ∙ ap (λ q. after_value q (λ n. element_at c.activation (out-TypedPlace p).variable (meant_in c i).kind n)) h
        ∙ ap (λ q. element_at c.activation (out-TypedPlace p).variable q v) (own_kind c i f ∙ sym k) ∙ sym m ∙ s

    pub element_trap : (i : TypedExpr) (trap : Trap) → (out-TypedPlace p).index ≡ Some i → (meant_in c i).rest vs cells ≡ Err trap → (placed_in c p).cell vs cells ≡ Err trap
    element_trap i trap e h = ap (λ (q : Placed). q.cell vs cells) (placed_by (Some i) e) ∙ ap (λ q. after_value q (λ n. element_at c.activation (out-TypedPlace p).variable (meant_in c i).kind n)) h

pub ruleset rest_laws = (
  expression_fits_laws,
  value_kind,
  constant_left,
  load_left,
  convert_left,
  unary_left,
  binary_left,
  both_left,
  either_left,
  choice_left,
  call_left,
  constant_rest,
  load_rest,
  load_trap,
  convert_rest,
  convert_trap,
  unary_rest,
  unary_trap,
  binary_rest,
  left_trap,
  right_trap,
  both_rest,
  either_rest,
  choice_rest,
  call_rest,
  whole_left,
  element_left,
  whole_cell,
  element_cell,
  element_trap,
)
