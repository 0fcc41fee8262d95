-- The values of expressions that fit are values of their kinds.
use Rattle.std.proofs.Common.{◌≡◌, ℕ, Bool, true, false, List, drop, Option, Some, None, Result, Ok, Err, refl, sym, ap, subst, ◌∙◌, rules, pos}
use Rattle.std.specs.Prelude.{IsTrue, ◌&&◌, ◌||◌, ◌==◌, slice_index, ok_or}
use Rattle.std.proofs.lemmas.Bool.{eqb-true}
use Rattle.c_values.specs.Kind.{IsKind, is_kind, IsValue, is_value, converted}
use Rattle.c_values.specs.Operations.{unary_value, unary_kind, binary_kind, binary_value, is_shift}
use Rattle.c_values.specs.declared.kinds.Kind.{Kind}
use Rattle.c_values.specs.declared.operators.BinaryOp.{BinaryOp}
use Rattle.c_values.specs.declared.operators.UnaryOp.{UnaryOp}
use Rattle.c_values.proofs.Consequences.{unary_values_are_values, binary_values_are_values}
use Rattle.c_values.proofs.Fitting.{and_left, and_right, IsValue-converted, IsValue-wrapped}
use Rattle.cfa.specs.Kinds.{same_kind, same_sign}
use Rattle.cfa.specs.Values.{after_value, operator_trap}
use Rattle.cfa.specs.declared.state.Trap.{Trap}
use Rattle.c_typed_trees.specs.Fitting.{Nameable, Fit, CallFit, span_fits, operands_meet, form_step, call_step, expr_step, place_step, expression_fit, expression_fits, place_fits}
use Rattle.c_typed_trees.specs.declared.expression.TypedCall.{TypedCall}
use Rattle.c_typed_trees.specs.declared.expression.TypedExpr.{TypedExpr, ind-TypedExpr, roll-TypedExpr}
use Rattle.c_typed_trees.specs.declared.expression.TypedExprForm.{TypedExprForm, roll-TypedExprForm, fold-TypedExprForm, the_lemmas}
use Rattle.c_typed_trees.specs.declared.expression.TypedExprForm.TheOpen.{TypedExpr-F, TypedExprForm-F}
use Rattle.c_typed_trees.specs.declared.expression.TypedPlace.{TypedPlace}
use Rattle.c_typed_trees.specs.declared.unit.Typed.{Typed}
use Rattle.tree_meaning.specs.declared.activation.Activation.{Activation}
use Rattle.tree_meaning.specs.Activations.{as_kind, read}
use Rattle.tree_meaning.specs.Expressions.{Rest, Meant, operated}
use Rattle.tree_meaning.specs.Calls.{Calls}
use Rattle.tree_meaning.specs.Trees.{meant_form, meant, placed}
use Rattle.tree_meaning.specs.Laws.{ValuesAreOfKinds}
use Rattle.tree_meaning.proofs.TreeForms.{constant_is, load_is, convert_is, unary_is, binary_is, both_is, either_is, choice_is, call_form_is, expression_is}

-- ---- results

after_is : (r : Result ℕ Trap) (next : ℕ → Result ℕ Trap) (v : ℕ) → after_value r next ≡ Ok v → (a : ℕ) × (r ≡ Ok a) × (next a ≡ Ok v)
after_is (Ok a) next v e = (a, refl, e)
after_is (Err t) next v e = absurd cc

ok_is : (a v : ℕ) → (let r : Result ℕ Trap = Ok a in r) ≡ Ok v → a ≡ v
ok_is a v e = cc

outcome_is : (o : Option ℕ) (t : Trap) (v : ℕ) → ok_or o t ≡ Ok v → o ≡ Some v
outcome_is (Some m) t v e = cc
outcome_is None t v e = absurd cc

same_sign_is : (a b : Bool) → IsTrue (same_sign a b) → a ≡ b
same_sign_is true true h = refl
same_sign_is true false h = absurd cc
same_sign_is false true h = absurd cc
same_sign_is false false h = refl

abbrev kind_made : ℕ → Bool → Kind
kind_made width signed = record { width = width; signed = signed }

pub same_kind_is : (a b : Kind) → IsTrue (same_kind a b) → a ≡ b
same_kind_is a b h =
    let width = eqb-true a.width b.width (and_left (a.width == b.width) (same_sign a.signed b.signed) h) in
    let signed = same_sign_is a.signed b.signed (and_right (a.width == b.width) (same_sign a.signed b.signed) h) in
    ap (λ n. kind_made n a.signed) width ∙ ap (kind_made b.width) signed

-- but for a shift the right operand is of the left one's kind
pub meet_is : (op : BinaryOp) (left right : Kind) → IsTrue (operands_meet op left right) → is_shift op ≡ false → right ≡ left
meet_is op left right h e = same_kind_is right left (by (is_shift op) h e)
  where
    by : (s : Bool) → IsTrue (s || same_kind right left) → s ≡ false → IsTrue (same_kind right left)
    by true h e = absurd cc
    by false h e = h

-- ---- forms

abbrev pub Valued : Kind → Rest → Type 0
Valued kind rest = (vs cells : List ℕ) (v : ℕ) → rest vs cells ≡ Ok v → IsValue kind v

-- what is known of an expression that fits: its kind, and its values
pub record Known (f : Fit) (m : Meant) : Type 0 where
  pub kind : m.kind ≡ f.kind
  pub of_kind : IsKind f.kind
  pub values : Valued f.kind m.rest

module _ (n : Nameable) (t : Typed) (calls : Calls) (a : Activation) where
  unfoldable form_fits : TypedExprForm → Kind → Bool
  form_fits = fold-TypedExprForm (Kind → Bool) CallFit Fit Bool (form_step n) (call_step n) (expr_step n) (place_step n)

  abbrev low : TypedExpr → Meant
  low = meant t calls a

  abbrev KnownIf : TypedExpr → Type 0
  KnownIf x = IsTrue (expression_fits n x) → Known (expression_fit n x) (low x)

  abbrev FormKnown : TypedExprForm → Type 0
  FormKnown f = (kind : Kind) → IsKind kind → IsTrue (form_fits f kind) → ((meant_form t calls a f kind).kind ≡ kind) × Valued kind (meant_form t calls a f kind).rest

  form_is : (x : TypedExprForm-F TypedExprForm TypedCall TypedExpr TypedPlace) (m : Kind → Meant) (fits : Kind → Bool) → meant_form t calls a (roll-TypedExprForm x) ≡ m → form_fits (roll-TypedExprForm x) ≡ fits
      → ((kind : Kind) → IsKind kind → IsTrue (fits kind) → ((m kind).kind ≡ kind) × Valued kind (m kind).rest) → FormKnown (roll-TypedExprForm x)
  form_is x m fits e f h kind k is =
      subst (λ (g : Kind → Meant). ((g kind).kind ≡ kind) × Valued kind (g kind).rest) (sym e) (h kind k (subst (λ (g : Kind → Bool). IsTrue (g kind)) f is))

  constant_at : (v : ℕ) → FormKnown (roll-TypedExprForm (TypedExprForm-F.Constant v))
  unfolding form_fits
  constant_at v = form_is (TypedExprForm-F.Constant v) _ (λ kind. is_value kind v) (constant_is t calls a v) (search (rules, the_lemmas)) (λ kind k h. (refl, λ vs cells w e. subst (IsValue kind) (ok_is v w e) h))

  load_at : (p : TypedPlace) → FormKnown (roll-TypedExprForm (TypedExprForm-F.Load p))
  unfolding form_fits place_fits
  load_at p =
      form_is (TypedExprForm-F.Load p) _ (λ kind. place_fits n p) (load_is t calls a p) (search (rules, the_lemmas))
      (λ kind k h. (
        refl,
        λ vs cells w e.
            let r = after_is ((placed t calls a p).cell vs cells) (λ cell. Ok (read cells kind cell)) w e in
            subst (IsValue kind) (ok_is _ w r.2) (IsValue-wrapped kind (pos (slice_index cells r.0)) k),
      ))

  convert_at : (x : TypedExpr) → KnownIf x → FormKnown (roll-TypedExprForm (TypedExprForm-F.Convert x))
  unfolding form_fits expression_fit
  convert_at x h =
      form_is (TypedExprForm-F.Convert x) _ (λ kind. (expression_fit n x).fits) (convert_is t calls a x) (search (rules, the_lemmas))
      (λ kind k i. (
        refl,
        λ vs cells w e.
            let r = after_is ((low x).rest vs cells) (λ v. Ok (converted (low x).kind kind v)) w e in
            subst (IsValue kind) (ok_is _ w r.2) (IsValue-converted (low x).kind kind r.0 k),
      ))

  unary_at : (op : UnaryOp) (x : TypedExpr) → KnownIf x → FormKnown (roll-TypedExprForm (TypedExprForm-F.Unary op x))
  unfolding form_fits expression_fit
  unary_at op x h =
      form_is (TypedExprForm-F.Unary op x) _ (λ kind. (expression_fit n x).fits && same_kind kind (unary_kind op (expression_fit n x).kind)) (unary_is t calls a op x) (search (rules, the_lemmas))
      (λ kind k i. (
        refl,
        λ vs cells w e.
            let known = h (and_left (expression_fit n x).fits (same_kind kind (unary_kind op (expression_fit n x).kind)) i) in
            let same = same_kind_is kind (unary_kind op (expression_fit n x).kind) (and_right (expression_fit n x).fits (same_kind kind (unary_kind op (expression_fit n x).kind)) i) in
            let r = after_is ((low x).rest vs cells) (λ v. Ok (unary_value op (low x).kind v)) w e in
            let own : IsValue (low x).kind r.0 = subst (λ q. IsValue q r.0) (sym known.kind) (known.values vs cells r.0 r.1) in
            subst (λ q. IsValue q w) (ap (unary_kind op) known.kind ∙ sym same) (subst (IsValue (unary_kind op (low x).kind)) (ok_is _ w r.2) (unary_values_are_values op (low x).kind r.0 own)),
      ))

  binary_at : (op : BinaryOp) (x y : TypedExpr) → KnownIf x → KnownIf y → FormKnown (roll-TypedExprForm (TypedExprForm-F.Binary op x y))
  unfolding form_fits expression_fit
  binary_at op x y h g =
      form_is (TypedExprForm-F.Binary op x y) _
      (λ kind. (expression_fit n x).fits && (expression_fit n y).fits && operands_meet op (expression_fit n x).kind (expression_fit n y).kind && same_kind kind (binary_kind op (expression_fit n x).kind)) (binary_is t calls a op x y) (search (rules, the_lemmas))
      (λ kind k i. (refl, λ vs cells w e. valued kind i vs cells w e))
    where
      valued : (kind : Kind) → IsTrue ((expression_fit n x).fits && (expression_fit n y).fits && operands_meet op (expression_fit n x).kind (expression_fit n y).kind && same_kind kind (binary_kind op (expression_fit n x).kind))
          → (vs cells : List ℕ) (w : ℕ) → after_value ((low x).rest vs cells) (λ v. after_value ((low y).rest (drop (low x).parts vs) cells) (λ u. operated op (low x).kind (low y).kind v u)) ≡ Ok w → IsValue kind w
      valued kind i vs cells w e =
          let left = expression_fit n x in
          let right = expression_fit n y in
          let meet = operands_meet op left.kind right.kind in
          let same = same_kind kind (binary_kind op left.kind) in
          let first = and_left (left.fits && right.fits && meet) same i in
          let both = and_left (left.fits && right.fits) meet first in
          let l = h (and_left left.fits right.fits both) in
          let r = g (and_right left.fits right.fits both) in
          let one = after_is ((low x).rest vs cells) (λ v. after_value ((low y).rest (drop (low x).parts vs) cells) (λ u. operated op (low x).kind (low y).kind v u)) w e in
          let two = after_is ((low y).rest (drop (low x).parts vs) cells) (λ u. operated op (low x).kind (low y).kind one.0 u) w one.2 in
          let v_is : IsValue (low x).kind one.0 = subst (λ q. IsValue q one.0) (sym l.kind) (l.values vs cells one.0 one.1) in
          let u_is : IsValue (low y).kind two.0 = subst (λ q. IsValue q two.0) (sym r.kind) (r.values (drop (low x).parts vs) cells two.0 two.1) in
          let meets : is_shift op ≡ false → (low y).kind ≡ (low x).kind = λ s. r.kind ∙ meet_is op left.kind right.kind (and_right (left.fits && right.fits) meet first) s ∙ sym l.kind in
          let made = binary_values_are_values op (low x).kind (low y).kind one.0 two.0 w v_is u_is meets (outcome_is (binary_value op (low x).kind (low y).kind one.0 two.0) (operator_trap op (low x).kind two.0) w two.2) in
          subst (λ q. IsValue q w) (ap (binary_kind op) l.kind ∙ sym (same_kind_is kind (binary_kind op left.kind) (and_right (left.fits && right.fits && meet) same i))) made

  part_known : (kind : Kind) → IsKind kind → Valued kind (λ vs cells. Ok (as_kind kind (slice_index vs 0)))
  part_known kind k vs cells w e = subst (IsValue kind) (ok_is _ w e) (IsValue-wrapped kind (pos (slice_index vs 0)) k)

  both_at : (x y : TypedExpr) (cell : ℕ) → FormKnown (roll-TypedExprForm (TypedExprForm-F.Both x y cell))
  both_at x y cell = form_is (TypedExprForm-F.Both x y cell) _ _ (both_is t calls a x y cell) refl (λ kind k h. (refl, part_known kind k))

  either_at : (x y : TypedExpr) (cell : ℕ) → FormKnown (roll-TypedExprForm (TypedExprForm-F.Either x y cell))
  either_at x y cell = form_is (TypedExprForm-F.Either x y cell) _ _ (either_is t calls a x y cell) refl (λ kind k h. (refl, part_known kind k))

  choice_at : (c x y : TypedExpr) (cell : ℕ) → FormKnown (roll-TypedExprForm (TypedExprForm-F.Choice c x y cell))
  choice_at c x y cell = form_is (TypedExprForm-F.Choice c x y cell) _ _ (choice_is t calls a c x y cell) refl (λ kind k h. (refl, part_known kind k))

  call_at : (c : TypedCall) → FormKnown (roll-TypedExprForm (TypedExprForm-F.Call c))
  call_at c = form_is (TypedExprForm-F.Call c) _ _ (call_form_is t calls a c) refl (λ kind k h. (refl, part_known kind k))

  expression_at : (x : TypedExpr-F TypedExprForm TypedCall TypedExpr TypedPlace) → FormKnown x.form → KnownIf (roll-TypedExpr x)
  unfolding form_fits expression_fit
  expression_at x h fits =
      let e : expression_fit n (roll-TypedExpr x) ≡ record { kind = x.kind; fits = is_kind x.kind && span_fits n x.span && form_fits x.form x.kind } = search (rules, the_lemmas) in
      let all : IsTrue (is_kind x.kind && span_fits n x.span && form_fits x.form x.kind) = subst (λ (q : Fit). IsTrue q.fits) e fits in
      let k = and_left (is_kind x.kind) (span_fits n x.span) (and_left (is_kind x.kind && span_fits n x.span) (form_fits x.form x.kind) all) in
      let r = h x.kind k (and_right (is_kind x.kind && span_fits n x.span) (form_fits x.form x.kind) all) in
      subst (λ (q : Fit). Known q (low (roll-TypedExpr x))) (sym e)
      (subst (λ (m : Meant). Known (record { kind = x.kind; fits = is_kind x.kind && span_fits n x.span && form_fits x.form x.kind }) m) (sym (expression_is t calls a x)) (record { kind = r.0; of_kind = k; values = r.1 }))

  pub known : (x : TypedExpr) → KnownIf x
  known x = ind-TypedExpr FormKnown (λ (q : TypedCall). Unit {0}) KnownIf (λ (p : TypedPlace). Unit {0})
      (λ x'. elim [
        | TypedExprForm-F.Constant v ↦ λ e. subst (λ z. FormKnown (roll-TypedExprForm z)) e (constant_at v)
        | TypedExprForm-F.Load p ↦ λ e. subst (λ z. FormKnown (roll-TypedExprForm z)) e (load_at p.0)
        | TypedExprForm-F.Convert y ↦ λ e. subst (λ z. FormKnown (roll-TypedExprForm z)) e (convert_at y.0 y.1)
        | TypedExprForm-F.Unary op y ↦ λ e. subst (λ z. FormKnown (roll-TypedExprForm z)) e (unary_at op y.0 y.1)
        | TypedExprForm-F.Binary op y z' ↦ λ e. subst (λ z. FormKnown (roll-TypedExprForm z)) e (binary_at op y.0 z'.0 y.1 z'.1)
        | TypedExprForm-F.Both y z' cell ↦ λ e. subst (λ z. FormKnown (roll-TypedExprForm z)) e (both_at y.0 z'.0 cell)
        | TypedExprForm-F.Either y z' cell ↦ λ e. subst (λ z. FormKnown (roll-TypedExprForm z)) e (either_at y.0 z'.0 cell)
        | TypedExprForm-F.Choice c y z' cell ↦ λ e. subst (λ z. FormKnown (roll-TypedExprForm z)) e (choice_at c.0 y.0 z'.0 cell)
        | TypedExprForm-F.Call q ↦ λ e. subst (λ z. FormKnown (roll-TypedExprForm z)) e (call_at q.0)
      ])
      (λ x' y e. tt)
      (λ x' y e. subst (λ z. KnownIf (roll-TypedExpr z)) e (expression_at (record { span = y.span; kind = y.kind; form = y.form.0 }) y.form.1))
      (λ x' y e. tt) x

-- the kind of a fit is that of the expression
fit_kind : (n : Nameable) (x : TypedExpr) → (expression_fit n x).kind ≡ x.kind
unfolding expression_fit
fit_kind n x = search (rules, the_lemmas)

pub values_are_of_kinds : ValuesAreOfKinds
values_are_of_kinds n t calls a x vs cells v fits e = subst (λ k. IsValue k v) (fit_kind n x) ((known n t calls a x fits).values vs cells v e)
