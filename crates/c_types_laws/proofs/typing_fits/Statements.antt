-- Typed statements that fit, form by form.
use Rattle.std.proofs.Common.{◌≡◌, ℕ, Bool, true, false, List, [], ◌∷◌, map, Option, Some, None, refl, sym, subst, ◌∙◌, rules, length}
use Rattle.std.specs.Prelude.{IsTrue, ◌&&◌, option_map, IfSome}
use Rattle.std.specs.List.{AllByRecursion, list_all}
use Rattle.fq_core.specs.declared.span.Span.{Span}
use Rattle.c_values.specs.declared.kinds.Kind.{Kind}
use Rattle.c_values.specs.declared.operators.BinaryOp.{BinaryOp}
use Rattle.c_values.specs.Kind.{IsKind, is_kind}
use Rattle.c_values.proofs.Fitting.{and_both}
use Rattle.cfa.specs.declared.parts.Variable.{Variable}
use Rattle.c_typed_trees.specs.declared.expression.TypedExpr.{TypedExpr}
use Rattle.c_typed_trees.specs.declared.expression.TypedPlace.{TypedPlace, out-TypedPlace}
use Rattle.c_typed_trees.specs.declared.expression.TypedCall.{TypedCall}
use Rattle.c_typed_trees.specs.declared.statement.TypedStatement.{TypedStatement}
use Rattle.c_typed_trees.specs.declared.statement.TypedGroup.{TypedGroup, fold-TypedGroup}
use Rattle.c_typed_trees.specs.declared.statement.TypedForm.{the_lemmas}
use Rattle.c_typed_trees.specs.declared.statement.TypedForm.TheVariants as forms
use Rattle.c_typed_trees.specs.Fitting.{begins_within, Nameable, span_fits, is_integer, is_array, is_cell, operands_meet, expression_fit, expression_fits, option_fits, place_fits, call_fit, statement_if, label_fits, labels_fit, arms_fit, arm_fits, group_step, statement_form, statement_step, statement_fits}
use Rattle.c_type_rules.specs.Kinds.{left_kind, right_kind}
use Rattle.c_type_rules.specs.Expressions.{converted_to}
use Rattle.c_types.specs.Declarations.{statement_of}
use Rattle.c_types.specs.Statements.{assigned, one_of, group_of}
use Rattle.c_types_laws.proofs.typing_fits.Sound.{is_false, all_test}
use Rattle.c_types_laws.proofs.typing_fits.Fine.{Fine, left_is, right_is, kinds_meet, converted_fine, converted_kind}

abbrev pub Fits : Nameable → TypedStatement → Type 0
Fits n s = IsTrue (statement_fits n s)

abbrev pub AllFit : Nameable → List TypedStatement → Type 0
AllFit n ss = AllByRecursion (Fits n) ss

unfoldable pub group_fits : Nameable → TypedGroup → Kind → Bool
group_fits n = fold-TypedGroup Bool (Kind → Bool) Bool (statement_form n) (group_step n) (statement_step n)

-- a place of an integer or of an element
pub record PlaceFine (n : Nameable) (p : TypedPlace) : Type 0 where
  pub fits : IsTrue (place_fits n p)
  pub of_kind : IsKind (out-TypedPlace p).variable.kind

pub record ArmFine (n : Nameable) (arm : TypedExpr × TypedStatement) : Type 0 where
  pub test : Fine n arm.0
  pub body : Fits n arm.1

abbrev pub some_of : {A : Type 0} → List A → Bool
some_of [] = false
some_of (x ∷ xs) = true

mapped : {A : Type 0} (f : A → Bool) (xs : List A) → AllByRecursion (λ x. IsTrue (f x)) xs → IsTrue (list_all (λ b. b) (map f xs))
mapped f [] h = refl
mapped f (x ∷ xs) h = and_both (f x) (list_all (λ b. b) (map f xs)) h.0 (mapped f xs h.1)

module _ (n : Nameable) where
  pub all_expressions : (es : List TypedExpr) → AllByRecursion (Fine n) es → IsTrue (list_all (expression_fits n) es)
  all_expressions [] h = refl
  all_expressions (e ∷ es) h = and_both (expression_fits n e) (list_all (expression_fits n) es) h.0.fits (all_expressions es h.1)

module _ (n : Nameable) (span : Span) (s : IsTrue (span_fits n span)) where
  made : (form : Bool) (t : TypedStatement) → statement_fits n t ≡ (span_fits n span && form) → IsTrue form → Fits n t
  made form t e h = subst IsTrue (sym e) (and_both (span_fits n span) form s h)

  pub block_fits : (ss : List TypedStatement) → AllFit n ss → Fits n (statement_of span (forms.Block ss))
  unfolding statement_fits
  block_fits ss h = made (list_all (λ b. b) (map (statement_fits n) ss)) _ (search (rules, the_lemmas)) (mapped (statement_fits n) ss h)

  pub empty_fits : Fits n (statement_of span forms.Empty)
  unfolding statement_fits
  empty_fits = made true _ (search (rules, the_lemmas)) refl

  pub break_fits : Fits n (statement_of span forms.Break)
  unfolding statement_fits
  break_fits = made true _ (search (rules, the_lemmas)) refl

  pub continue_fits : Fits n (statement_of span forms.Continue)
  unfolding statement_fits
  continue_fits = made true _ (search (rules, the_lemmas)) refl

  pub local_fits : (v : Variable) (first : Option TypedExpr) → IsTrue (is_integer n v) → IfSome first (Fine n) → Fits n (statement_of span (forms.Local v first))
  unfolding statement_fits
  local_fits v None h k = made (is_integer n v && true) _ (search (rules, the_lemmas)) (and_both (is_integer n v) true h refl)
  local_fits v (Some e) h k = made (is_integer n v && expression_fits n e) _ (search (rules, the_lemmas)) (and_both (is_integer n v) (expression_fits n e) h k.fits)

  pub array_fits : (v : Variable) (list : List TypedExpr) → IsTrue (is_array n v) → AllByRecursion (Fine n) list → IsTrue (begins_within n v.length (length list)) → Fits n (statement_of span (forms.LocalArray v list))
  unfolding statement_fits
  array_fits v list h k l =
      made (is_array n v && list_all (expression_fits n) list && begins_within n v.length (length list)) _ (search (rules, the_lemmas))
      (and_both (is_array n v && list_all (expression_fits n) list) _ (and_both (is_array n v) _ h (all_expressions n list k)) l)

  pub assigned_fits : (to : TypedPlace) (op : Option BinaryOp) (a : TypedExpr) → PlaceFine n to → Fine n a → Fits n (statement_of span (assigned to op a))
  unfolding statement_fits
  assigned_fits to None a h k =
      let kind = (out-TypedPlace to).variable.kind in
      let e = converted_to kind a in
      made (place_fits n to && true && expression_fits n e) _ (search (rules, the_lemmas))
      (and_both (place_fits n to && true) _ (and_both (place_fits n to) true h.fits refl) (converted_fine n kind a h.of_kind k).fits)
  assigned_fits to (Some op) a h k =
      let kind = (out-TypedPlace to).variable.kind in
      let left = left_kind op kind a.kind in
      let right = right_kind op kind a.kind in
      let e = converted_to right a in
      let fine = converted_fine n right a (right_is op kind a.kind h.of_kind k.of_kind) k in
      let meets = and_both (is_kind left) (operands_meet op left (expression_fit n e).kind) (left_is op kind a.kind h.of_kind k.of_kind) (kinds_meet op kind a.kind left _ refl (fine.kind_is ∙ converted_kind n right a)) in
      made (place_fits n to && (is_kind left && operands_meet op left (expression_fit n e).kind) && expression_fits n e) _ (search (rules, the_lemmas))
      (and_both (place_fits n to && (is_kind left && operands_meet op left (expression_fit n e).kind)) _ (and_both (place_fits n to) _ h.fits meets) fine.fits)

  pub call_fits : (c : TypedCall) → IsTrue (call_fit n c).fits → Fits n (statement_of span (forms.Call c))
  unfolding statement_fits
  call_fits c h = made (call_fit n c).fits _ (search (rules, the_lemmas)) h

  pub label_fits_in : (name : List ℕ) (body : TypedStatement) → Fits n body → Fits n (statement_of span (forms.Label name body))
  unfolding statement_fits
  label_fits_in name body h = made (statement_fits n body) _ (search (rules, the_lemmas)) h

  pub while_fits : (test : TypedExpr) (body : TypedStatement) → Fine n test → Fits n body → Fits n (statement_of span (forms.While test body))
  unfolding statement_fits
  while_fits test body h k = made (expression_fits n test && statement_fits n body) _ (search (rules, the_lemmas)) (and_both (expression_fits n test) _ h.fits k)

  pub do_fits : (body : TypedStatement) (test : TypedExpr) → Fits n body → Fine n test → Fits n (statement_of span (forms.Do body test))
  unfolding statement_fits
  do_fits body test h k = made (statement_fits n body && expression_fits n test) _ (search (rules, the_lemmas)) (and_both (statement_fits n body) _ h k.fits)

  last_of : (o : Option TypedStatement) → IfSome o (Fits n) → IsTrue (statement_if n (option_map (statement_fits n) o))
  last_of None h = refl
  last_of (Some t) h = h

  test_of : (o : Option TypedExpr) → IfSome o (Fine n) → IsTrue (option_fits n o)
  test_of None h = refl
  test_of (Some e) h = h.fits

  arms_of : (arms : List (TypedExpr × TypedStatement)) → AllByRecursion (ArmFine n) arms → IsTrue (list_all (arm_fits n) (map (λ (arm : TypedExpr × TypedStatement). (arm.0, statement_fits n arm.1)) arms))
  arms_of [] h = refl
  arms_of (a ∷ arms) h = and_both (expression_fits n a.0 && statement_fits n a.1) _ (and_both (expression_fits n a.0) (statement_fits n a.1) h.0.test.fits h.0.body) (arms_of arms h.1)

  some_arms : (arms : List (TypedExpr × TypedStatement)) → IsTrue (some_of arms) → AllByRecursion (ArmFine n) arms → IsTrue (arms_fit n (map (λ (arm : TypedExpr × TypedStatement). (arm.0, statement_fits n arm.1)) arms))
  some_arms [] some h = absurd (is_false some)
  some_arms (a ∷ arms) some h = arms_of (a ∷ arms) h

  pub if_fits : (arms : List (TypedExpr × TypedStatement)) (otherwise : Option TypedStatement) → IsTrue (some_of arms) → AllByRecursion (ArmFine n) arms → IfSome otherwise (Fits n) → Fits n (statement_of span (forms.If arms otherwise))
  unfolding statement_fits
  if_fits arms otherwise some h k =
      let tests = arms_fit n (map (λ (arm : TypedExpr × TypedStatement). (arm.0, statement_fits n arm.1)) arms) in
      made (tests && statement_if n (option_map (statement_fits n) otherwise)) _ (search (rules, the_lemmas)) (and_both tests _ (some_arms arms some h) (last_of otherwise k))

  pub for_fits : (first : List TypedStatement) (test : Option TypedExpr) (next : Option TypedStatement) (body : TypedStatement) → AllFit n first → IfSome test (Fine n) → IfSome next (Fits n) → Fits n body → Fits n (statement_of span (forms.For first test next body))
  unfolding statement_fits
  for_fits first test next body h k l m =
      let a = list_all (λ b. b) (map (statement_fits n) first) in
      let b = option_fits n test in
      let c = statement_if n (option_map (statement_fits n) next) in
      made (a && b && c && statement_fits n body) _ (search (rules, the_lemmas))
      (and_both (a && b && c) _ (and_both (a && b) c (and_both a b (mapped (statement_fits n) first h) (test_of test k)) (last_of next l)) m)

  groups_of : (kind : Kind) (groups : List TypedGroup) → AllByRecursion (λ g. IsTrue (group_fits n g kind)) groups → IsTrue (list_all (λ (g : Kind → Bool). g kind) (map (group_fits n) groups))
  groups_of kind [] h = refl
  groups_of kind (g ∷ groups) h = and_both (group_fits n g kind) _ h.0 (groups_of kind groups h.1)

  pub switch_fits : (value : TypedExpr) (cell : ℕ) (groups : List TypedGroup) → Fine n value → IsTrue (is_cell n cell) → AllByRecursion (λ g. IsTrue (group_fits n g value.kind)) groups → Fits n (statement_of span (forms.Switch value cell groups))
  unfolding statement_fits group_fits
  switch_fits value cell groups h c k =
      let kind = (expression_fit n value).kind in
      made (expression_fits n value && is_cell n cell && list_all (λ (g : Kind → Bool). g kind) (map (group_fits n) groups)) _ (search (rules, the_lemmas))
      (and_both (expression_fits n value && is_cell n cell) _ (and_both (expression_fits n value) (is_cell n cell) h.fits c)
      (groups_of kind groups (subst (λ (q : Kind). AllByRecursion (λ g. IsTrue (group_fits n g q)) groups) (sym h.kind_is) k)))

  pub return_fits : (value : Option TypedExpr) → IfSome value (Fine n) → Fits n (statement_of span (forms.Return value))
  unfolding statement_fits
  return_fits value h = made (option_fits n value) _ (search (rules, the_lemmas)) (test_of value h)

  pub assert_fits : (test : TypedExpr) → Fine n test → Fits n (statement_of span (forms.Assert test))
  unfolding statement_fits
  assert_fits test h = made (expression_fits n test) _ (search (rules, the_lemmas)) h.fits

  pub assume_fits : (test : TypedExpr) → Fine n test → Fits n (statement_of span (forms.Assume test))
  unfolding statement_fits
  assume_fits test h = made (expression_fits n test) _ (search (rules, the_lemmas)) h.fits

  pub one_fits : (ss : List TypedStatement) → AllFit n ss → Fits n (one_of span ss)
  one_fits [] h = empty_fits
  one_fits (t ∷ []) h = h.0
  one_fits (t ∷ u ∷ rest) h = block_fits (t ∷ u ∷ rest) h

pub group_is : (n : Nameable) (kind : Kind) (labels : List (Span × Option ℕ)) (body : List TypedStatement) → AllByRecursion (λ l. IsTrue (label_fits n kind l)) labels → AllFit n body → IsTrue (group_fits n (group_of labels body) kind)
unfolding group_fits statement_fits
group_is n kind labels body h k =
    subst (λ (f : Kind → Bool). IsTrue (f kind)) (sym e) (and_both (labels_fit n kind labels) _ (all_test (label_fits n kind) labels h) (mapped (statement_fits n) body k))
  where
    e : group_fits n (group_of labels body) ≡ (λ (q : Kind). labels_fit n q labels && list_all (λ b. b) (map (statement_fits n) body))
    e = search (rules, the_lemmas)
