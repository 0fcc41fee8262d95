-- What the values of constant expressions rest on.
use Rattle.std.proofs.Common.{◌≡◌, ℕ, Bool, true, false, refl, ap, ◌∙◌, rules, arith}
use Rattle.std.specs.Prelude.{◌&&◌, ◌||◌, ◌==◌, IsTrue}
use Rattle.std.proofs.lemmas.Bool.Decides.{nat_tests}
use Rattle.c_values.specs.declared.kinds.Kind.{Kind}
use Rattle.c_values.specs.declared.operators.UnaryOp.{UnaryOp}
use Rattle.c_values.specs.declared.operators.BinaryOp.{BinaryOp}
use Rattle.c_values.specs.Kind.{is_value, IsValue}
use Rattle.c_values.specs.Operations.{is_shift}
use Rattle.cfa.specs.Kinds.{same_kind, same_sign}
use Rattle.c_typed_trees.specs.declared.expression.TypedExpr.{TypedExpr}
use Rattle.c_typed_trees.specs.declared.expression.TypedExprForm.{TypedExprForm, fold-TypedExprForm, the_lemmas}
use Rattle.c_typed_trees.specs.declared.expression.TypedExprForm.TheVariants as forms
use Rattle.c_typed_trees.specs.declared.expression.TypedExprForm.TheOpen.{TypedExprForm-F}
use Rattle.c_typed_trees.specs.declared.expression.TypedPlace.{TypedPlace}
use Rattle.c_typed_trees.specs.declared.expression.TypedCall.{TypedCall}
use Rattle.c_type_rules.specs.declared.constants.Folded.{Folded}
use Rattle.c_type_rules.specs.declared.constants.Folded.TheVariants as folds
use Rattle.c_type_rules.specs.Constants.{Part, folded_step, part_of, folded, converted_folded, unary_folded, is_operation, binary_folded, both_folded, either_folded, choice_folded}

-- ---- operands

and_left : (a b : Bool) → (a && b) ≡ true → IsTrue a
and_left true b h = search rules
and_left false b h = cc

and_right : (a b : Bool) → (a && b) ≡ true → b ≡ true
and_right true b h = h
and_right false b h = cc

same_signs : (a b : Bool) → same_sign a b ≡ true → a ≡ b
same_signs true true h = refl
same_signs true false h = cc
same_signs false true h = cc
same_signs false false h = refl

same_kinds : (a b : Kind) → same_kind a b ≡ true → a ≡ b
same_kinds a b h =
    let w : (a.width == b.width) ≡ true = search rules in
    let widths : a.width ≡ b.width = grind (arith, nat_tests) in
    let signs : a.signed ≡ b.signed = same_signs a.signed b.signed (and_right (a.width == b.width) (same_sign a.signed b.signed) h) in
    λ i. record { width = widths i; signed = signs i }

or_right : (a b : Bool) → (a || b) ≡ true → a ≡ false → b ≡ true
or_right true b h e = cc
or_right false b h e = h

module _ (op : BinaryOp) (kind right : Kind) (v w : ℕ) (h : is_operation op kind right v w ≡ true) where
  pub left_operand : IsValue kind v
  left_operand = and_left (is_value kind v) (is_value right w && (is_shift op || same_kind right kind)) (grind arith)

  pub right_operand : IsValue right w
  right_operand = and_left (is_value right w) (is_shift op || same_kind right kind) (grind arith)

  pub same_operands : is_shift op ≡ false → right ≡ kind
  same_operands e = same_kinds right kind (or_right (is_shift op) (same_kind right kind) (grind arith) e)

pub ruleset operation_laws = (left_operand, right_operand, same_operands)

-- ---- what each form is as a constant

unfoldable pub form_folded : TypedExprForm → Kind → Folded
form_folded = fold-TypedExprForm (Kind → Folded) (Unit {0}) Part (Unit {0}) folded_step (λ call. tt) (λ e. record { kind = e.kind; folded = e.form e.kind }) (λ place. tt)

part_is : (e : TypedExpr) → part_of e ≡ record { kind = e.kind; folded = form_folded e.form e.kind }
unfolding form_folded part_of
part_is e = search (rules, the_lemmas)

part_kind : (e : TypedExpr) → (part_of e).kind ≡ e.kind
part_kind e = ap (λ (p : Part). p.kind) (part_is e)

module _ (e : TypedExpr) where
  by_form : (f : TypedExprForm) (r : Kind → Folded) → e.form ≡ f → form_folded f ≡ r → folded e ≡ r e.kind
  by_form f r h g = ap (λ (p : Part). p.folded) (part_is e) ∙ ap (λ x. form_folded x e.kind) h ∙ ap (λ (x : Kind → Folded). x e.kind) g

  pub constant_folds : (v : ℕ) → e.form ≡ forms.Constant v → folded e ≡ folds.Value v
  unfolding form_folded part_of
  constant_folds v h = by_form _ (folded_step (TypedExprForm-F.Constant v)) h (search (rules, the_lemmas))

  pub load_folds : (p : TypedPlace) → e.form ≡ forms.Load p → folded e ≡ folds.Varying
  unfolding form_folded part_of
  load_folds p h = by_form _ (folded_step (TypedExprForm-F.Load tt)) h (search (rules, the_lemmas))

  pub call_folds : (c : TypedCall) → e.form ≡ forms.Call c → folded e ≡ folds.Varying
  unfolding form_folded part_of
  call_folds c h = by_form _ (folded_step (TypedExprForm-F.Call tt)) h (search (rules, the_lemmas))

  pub convert_folds : (a : TypedExpr) → e.form ≡ forms.Convert a → folded e ≡ converted_folded a.kind e.kind (folded a)
  unfolding form_folded part_of
  convert_folds a h =
      by_form _ (folded_step (TypedExprForm-F.Convert (part_of a))) h (search (rules, the_lemmas))
      ∙ ap (λ k. converted_folded k e.kind (folded a)) (part_kind a)

  pub unary_folds : (op : UnaryOp) (a : TypedExpr) → e.form ≡ forms.Unary op a → folded e ≡ unary_folded op a.kind (folded a)
  unfolding form_folded part_of
  unary_folds op a h =
      by_form _ (folded_step (TypedExprForm-F.Unary op (part_of a))) h (search (rules, the_lemmas))
      ∙ ap (λ k. unary_folded op k (folded a)) (part_kind a)

  pub binary_folds : (op : BinaryOp) (a b : TypedExpr) → e.form ≡ forms.Binary op a b → folded e ≡ binary_folded op a.kind b.kind (folded a) (folded b)
  unfolding form_folded part_of
  binary_folds op a b h =
      by_form _ (folded_step (TypedExprForm-F.Binary op (part_of a) (part_of b))) h (search (rules, the_lemmas))
      ∙ ap (λ k. binary_folded op k (part_of b).kind (folded a) (folded b)) (part_kind a)
      ∙ ap (λ k. binary_folded op a.kind k (folded a) (folded b)) (part_kind b)

  pub both_folds : (a b : TypedExpr) (cell : ℕ) → e.form ≡ forms.Both a b cell → folded e ≡ both_folded (folded a) (folded b)
  unfolding form_folded part_of
  both_folds a b cell h = by_form _ (folded_step (TypedExprForm-F.Both (part_of a) (part_of b) cell)) h (search (rules, the_lemmas))

  pub either_folds : (a b : TypedExpr) (cell : ℕ) → e.form ≡ forms.Either a b cell → folded e ≡ either_folded (folded a) (folded b)
  unfolding form_folded part_of
  either_folds a b cell h = by_form _ (folded_step (TypedExprForm-F.Either (part_of a) (part_of b) cell)) h (search (rules, the_lemmas))

  pub choice_folds : (a b c : TypedExpr) (cell : ℕ) → e.form ≡ forms.Choice a b c cell → folded e ≡ choice_folded (folded a) (folded b) (folded c)
  unfolding form_folded part_of
  choice_folds a b c cell h = by_form _ (folded_step (TypedExprForm-F.Choice (part_of a) (part_of b) (part_of c) cell)) h (search (rules, the_lemmas))

pub ruleset fold_laws = (constant_folds, load_folds, call_folds, convert_folds, unary_folds, binary_folds, both_folds, either_folds, choice_folds)
