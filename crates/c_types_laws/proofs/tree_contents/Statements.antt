-- A statement passes where its tokens do.
use Rattle.std.proofs.Common.{◌≡◌, ℕ, Bool, true, List, [], ◌∷◌, Option, refl, sym, subst, rules}
use Rattle.std.specs.Prelude.{◌&&◌, IsTrue, map, option_map}
use Rattle.std.specs.List.{list_all}
use Rattle.fq_core.specs.declared.span.Span.{Span}
use Rattle.c_values.specs.declared.kinds.Kind.{Kind}
use Rattle.c_values.specs.declared.operators.BinaryOp.{BinaryOp}
use Rattle.c_values.specs.Kind.{IsKind, is_kind}
use Rattle.c_values.proofs.Fitting.{and_left, and_right, and_both}
use Rattle.c_parse.specs.declared.expr.ExprTree.{ExprTree}
use Rattle.c_parse.specs.declared.statement.CaseLabel.{CaseLabel}
use Rattle.c_parse.specs.declared.statement.Declarator.{Declarator}
use Rattle.c_parse.specs.declared.statement.Form.{the_lemmas as form_lemmas}
use Rattle.c_parse.specs.declared.statement.Form.TheVariants as form
use Rattle.c_parse.specs.declared.statement.Group.{Group}
use Rattle.c_parse.specs.declared.statement.PlaceTree.{PlaceTree}
use Rattle.c_parse.specs.declared.statement.Statement.{Statement}
use Rattle.c_parse.specs.Grammar.{Text}
use Rattle.c_parse.specs.StatementTrees.{statement, ident, group}
use Rattle.c_types_laws.specs.tree_contents.Contents.{tree_passes, optional_passes, place_passes, declarator_passes, label_passes, arm_passes, arms_pass, if_there, statement_passes, group_passes}

module _ (number : ℕ → Kind → Bool) (place : Span → Bool) where
  abbrev pub Passes : Statement → Type 0
  Passes s = IsTrue (statement_passes number place s)

  abbrev pub AllPass : List Statement → Type 0
  AllPass ss = IsTrue (list_all (statement_passes number place) ss)

  abbrev pub ArmPasses : ExprTree × Statement → Bool
  ArmPasses arm = tree_passes number place arm.0 && statement_passes number place arm.1

  abbrev pub OptionalPasses : Option Statement → Bool
  OptionalPasses o = if_there number place (option_map (statement_passes number place) o)

  made : (b : Bool) (s : Statement) → statement_passes number place s ≡ b → IsTrue b → Passes s
  made b s e h = subst IsTrue (sym e) h

  pub mapped : {X : Type 0} (f : X → Bool) (xs : List X) → IsTrue (list_all f xs) → IsTrue (list_all (λ b. b) (map f xs))
  mapped f [] h = refl
  mapped f (x ∷ xs) h = and_both (f x) _ (and_left (f x) (list_all f xs) h) (mapped f xs (and_right (f x) (list_all f xs) h))

  pub mapped_arms : (arms : List (ExprTree × Statement)) → IsTrue (list_all ArmPasses arms) → IsTrue (list_all (arm_passes number place) (map (λ (arm : ExprTree × Statement). (arm.0, statement_passes number place arm.1)) arms))
  mapped_arms [] h = refl
  mapped_arms (a ∷ arms) h = and_both (ArmPasses a) _ (and_left (ArmPasses a) (list_all ArmPasses arms) h) (mapped_arms arms (and_right (ArmPasses a) (list_all ArmPasses arms) h))

  abbrev pub ArmsPass : List (ExprTree × Statement) → Type 0
  ArmsPass arms = IsTrue (arms_pass number place (map (λ (arm : ExprTree × Statement). (arm.0, statement_passes number place arm.1)) arms))

  pub first_arm : (arm : ExprTree × Statement) (arms : List (ExprTree × Statement)) → IsTrue (list_all ArmPasses (arm ∷ arms)) → ArmsPass (arm ∷ arms)
  first_arm arm arms h = mapped_arms (arm ∷ arms) h

  pub block_passes : (s : Span) (ss : List Statement) → IsTrue (place s) → AllPass ss → Passes (statement s (form.Block ss))
  unfolding statement_passes
  block_passes s ss p h = made (place s && list_all (λ b. b) (map (statement_passes number place) ss)) _ (search (rules, form_lemmas)) (and_both (place s) _ p (mapped (statement_passes number place) ss h))

  pub empty_passes : (s : Span) → IsTrue (place s) → Passes (statement s form.Empty)
  unfolding statement_passes
  empty_passes s p = made (place s && true) _ (search (rules, form_lemmas)) (and_both (place s) true p refl)

  pub break_passes : (s : Span) → IsTrue (place s) → Passes (statement s form.Break)
  unfolding statement_passes
  break_passes s p = made (place s && true) _ (search (rules, form_lemmas)) (and_both (place s) true p refl)

  pub continue_passes : (s : Span) → IsTrue (place s) → Passes (statement s form.Continue)
  unfolding statement_passes
  continue_passes s p = made (place s && true) _ (search (rules, form_lemmas)) (and_both (place s) true p refl)

  pub local_passes : (s : Span) (kind : Kind) (list : List Declarator) → IsTrue (place s) → IsKind kind → IsTrue (list_all (declarator_passes number place) list) → Passes (statement s (form.Local kind list))
  unfolding statement_passes
  local_passes s kind list p k h = made (place s && (is_kind kind && list_all (declarator_passes number place) list)) _ (search (rules, form_lemmas)) (and_both (place s) _ p (and_both (is_kind kind) _ k h))

  pub assign_passes : (s : Span) (to : PlaceTree) (op : Option BinaryOp) (value : ExprTree) → IsTrue (place s) → IsTrue (place_passes number place to) → IsTrue (tree_passes number place value) → Passes (statement s (form.Assign to op value))
  unfolding statement_passes
  assign_passes s to op value p h k = made (place s && (place_passes number place to && tree_passes number place value)) _ (search (rules, form_lemmas)) (and_both (place s) _ p (and_both (place_passes number place to) _ h k))

  pub step_passes : (s : Span) (to : PlaceTree) (up : Bool) → IsTrue (place s) → IsTrue (place_passes number place to) → Passes (statement s (form.Step to up))
  unfolding statement_passes
  step_passes s to up p h = made (place s && place_passes number place to) _ (search (rules, form_lemmas)) (and_both (place s) _ p h)

  pub call_passes : (s : Span) (w : Text) (at : Span) (arguments : List ExprTree) → IsTrue (place s) → IsTrue (place at) → IsTrue (list_all (tree_passes number place) arguments) → Passes (statement s (form.Call (ident w at) arguments))
  unfolding statement_passes
  call_passes s w at arguments p q h = made (place s && (place at && list_all (tree_passes number place) arguments)) _ (search (rules, form_lemmas)) (and_both (place s) _ p (and_both (place at) _ q h))

  pub labelled_passes : (s : Span) (w : Text) (at : Span) (body : Statement) → IsTrue (place s) → IsTrue (place at) → Passes body → Passes (statement s (form.Label (ident w at) body))
  unfolding statement_passes
  labelled_passes s w at body p q h = made (place s && (place at && statement_passes number place body)) _ (search (rules, form_lemmas)) (and_both (place s) _ p (and_both (place at) _ q h))

  pub if_passes : (s : Span) (arms : List (ExprTree × Statement)) (otherwise : Option Statement) → IsTrue (place s) → ArmsPass arms → IsTrue (OptionalPasses otherwise) → Passes (statement s (form.If arms otherwise))
  unfolding statement_passes
  if_passes s arms otherwise p h k =
      made (place s && (arms_pass number place (map (λ (arm : ExprTree × Statement). (arm.0, statement_passes number place arm.1)) arms) && OptionalPasses otherwise)) _ (search (rules, form_lemmas))
      (and_both (place s) _ p (and_both _ (OptionalPasses otherwise) h k))

  pub while_passes : (s : Span) (test : ExprTree) (body : Statement) → IsTrue (place s) → IsTrue (tree_passes number place test) → Passes body → Passes (statement s (form.While test body))
  unfolding statement_passes
  while_passes s test body p h k = made (place s && (tree_passes number place test && statement_passes number place body)) _ (search (rules, form_lemmas)) (and_both (place s) _ p (and_both (tree_passes number place test) _ h k))

  pub do_passes : (s : Span) (body : Statement) (test : ExprTree) → IsTrue (place s) → Passes body → IsTrue (tree_passes number place test) → Passes (statement s (form.Do body test))
  unfolding statement_passes
  do_passes s body test p h k = made (place s && (statement_passes number place body && tree_passes number place test)) _ (search (rules, form_lemmas)) (and_both (place s) _ p (and_both (statement_passes number place body) _ h k))

  pub for_passes : (s : Span) (first : Option Statement) (test : Option ExprTree) (next : Option Statement) (body : Statement) → IsTrue (place s) → IsTrue (OptionalPasses first) → IsTrue (optional_passes number place test) → IsTrue (OptionalPasses next) → Passes body → Passes (statement s (form.For first test next body))
  unfolding statement_passes
  for_passes s first test next body p h k l m =
      made (place s && (OptionalPasses first && optional_passes number place test && OptionalPasses next && statement_passes number place body)) _ (search (rules, form_lemmas))
      (and_both (place s) _ p (and_both (OptionalPasses first && optional_passes number place test && OptionalPasses next) _ (and_both (OptionalPasses first && optional_passes number place test) _ (and_both (OptionalPasses first) _ h k) l) m))

  pub switch_passes : (s : Span) (value : ExprTree) (groups : List Group) → IsTrue (place s) → IsTrue (tree_passes number place value) → IsTrue (list_all (group_passes number place) groups) → Passes (statement s (form.Switch value groups))
  unfolding statement_passes group_passes
  switch_passes s value groups p h k =
      made (place s && (tree_passes number place value && list_all (λ b. b) (map (group_passes number place) groups))) _ (search (rules, form_lemmas))
      (and_both (place s) _ p (and_both (tree_passes number place value) _ h (mapped (group_passes number place) groups k)))

  pub return_passes : (s : Span) (value : Option ExprTree) → IsTrue (place s) → IsTrue (optional_passes number place value) → Passes (statement s (form.Return value))
  unfolding statement_passes
  return_passes s value p h = made (place s && optional_passes number place value) _ (search (rules, form_lemmas)) (and_both (place s) _ p h)

  pub assert_passes : (s : Span) (test : ExprTree) → IsTrue (place s) → IsTrue (tree_passes number place test) → Passes (statement s (form.Assert test))
  unfolding statement_passes
  assert_passes s test p h = made (place s && tree_passes number place test) _ (search (rules, form_lemmas)) (and_both (place s) _ p h)

  pub assume_passes : (s : Span) (test : ExprTree) → IsTrue (place s) → IsTrue (tree_passes number place test) → Passes (statement s (form.Assume test))
  unfolding statement_passes
  assume_passes s test p h = made (place s && tree_passes number place test) _ (search (rules, form_lemmas)) (and_both (place s) _ p h)

  pub group_is : (labels : List CaseLabel) (body : List Statement) → IsTrue (list_all (label_passes number place) labels) → AllPass body → IsTrue (group_passes number place (group labels body))
  unfolding statement_passes group_passes
  group_is labels body h k =
      subst IsTrue (sym e) (and_both (list_all (label_passes number place) labels) _ h (mapped (statement_passes number place) body k))
    where
      e : group_passes number place (group labels body) ≡ (list_all (label_passes number place) labels && list_all (λ b. b) (map (statement_passes number place) body))
      e = search (rules, form_lemmas)
