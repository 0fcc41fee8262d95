-- What the parts of statements do to the state of typing, a law for each rule.
use Rattle.std.proofs.Common.{◌≡◌, ℕ, not, List, [], ◌∷◌, ◌++◌, map, Option, Some, None, refl, ◌∙◌}
use Rattle.fq_core.specs.declared.span.Span.{Span}
use Rattle.c_values.specs.declared.kinds.Kind.{Kind}
use Rattle.c_parse.specs.declared.expr.ExprTree.{ExprTree}
use Rattle.c_parse.specs.declared.expr.Ident.{Ident}
use Rattle.c_typed_trees.specs.declared.expression.TypedExpr.{TypedExpr}
use Rattle.c_typed_trees.specs.declared.statement.TypedStatement.{TypedStatement}
use Rattle.c_typed_trees.specs.declared.statement.TypedForm.TheVariants as forms
use Rattle.c_type_rules.specs.declared.typer.Typer.{Typer}
use Rattle.c_type_rules.specs.Scopes.{newest, has_name, has_case}
use Rattle.c_type_rules.specs.Rule.{with_fault, expect, look, bind_label, bind_case, made_by, after}
use Rattle.c_type_rules.specs.Expressions.{integer, piece, converted_to, place_of, array_at, call_rule, constant}
use Rattle.c_type_rules.proofs.RuleLaws.{pure_made, pure_after, then_made, then_after, fault_made, fault_after, expect_false, look_made, look_after, is_label_made, is_label_after, is_case_made, is_case_after}
use Rattle.c_types.specs.Declarations.{statement_of}
use Rattle.c_types.specs.Statements.{integer_named, variable_at, place_rule, one_of, test_rule, unused_label, fresh, case_valued, case_rule, return_rule, call_statement}

-- ---- places

module _ (span : Span) (w : List ℕ) (s : Typer) where
  pub variable_at_made : made_by (variable_at span w) s ≡ made_by (integer_named span (newest w s.bound)) s
  unfolding variable_at
  variable_at_made = then_made (look w) (integer_named span) s ∙ simp (look_made, look_after)

  pub variable_at_after : after (variable_at span w) s ≡ after (integer_named span (newest w s.bound)) s
  unfolding variable_at
  variable_at_after = then_after (look w) (integer_named span) s ∙ simp (look_made, look_after)

pub ruleset variable_laws = (variable_at_made, variable_at_after, pure_made, pure_after, fault_made, fault_after)

module _ (d : Ident) (s : Typer) where
  pub name_place_made : (index : Option ExprTree) → index ≡ None → made_by (place_rule d index) s ≡ place_of (made_by (variable_at d.span d.name) s) None
  unfolding place_rule
  name_place_made index e = rw e (simp (then_made, pure_made))

  pub name_place_after : (index : Option ExprTree) → index ≡ None → after (place_rule d index) s ≡ after (variable_at d.span d.name) s
  unfolding place_rule
  name_place_after index e = rw e (simp (then_after, pure_after))

  pub element_place_made : (index : Option ExprTree) (t : ExprTree) → index ≡ Some t
      → made_by (place_rule d index) s ≡ place_of (made_by (array_at d.span d.name) s) (Some (made_by (integer (piece t)) (after (array_at d.span d.name) s)))
  unfolding place_rule
  element_place_made index t e = rw e (simp (then_made, pure_made))

  pub element_place_after : (index : Option ExprTree) (t : ExprTree) → index ≡ Some t → after (place_rule d index) s ≡ after (integer (piece t)) (after (array_at d.span d.name) s)
  unfolding place_rule
  element_place_after index t e = rw e (simp (then_after, pure_after))

pub ruleset place_laws = (name_place_made, name_place_after, element_place_made, element_place_after)

-- ---- labels

module _ (d : Ident) (s : Typer) where
  pub unused_label_after : after (unused_label d) s ≡ after (bind_label d.name) (after (expect 31 d.span (not (has_name s.labels d.name))) s)
  unfolding unused_label
  unused_label_after = simp (then_after, is_label_made, is_label_after)

pub ruleset label_laws = (unused_label_after)

module _ (span : Span) (v : Option ℕ) (s : Typer) where
  pub fresh_made : made_by (fresh span v) s ≡ (span, v)
  unfolding fresh
  fresh_made = simp (then_made, pure_made)

  pub fresh_after : after (fresh span v) s ≡ after (bind_case v) (after (expect 31 span (not (has_case s.cases v))) s)
  unfolding fresh
  fresh_after = simp (then_after, is_case_made, is_case_after, pure_after)

pub ruleset fresh_laws = (fresh_made, fresh_after)

pub ruleset valued_laws = (pure_made, pure_after)

module _ (kind : Kind) (span : Span) (s : Typer) where
  pub default_made : (value : Option ExprTree) → value ≡ None → made_by (case_rule kind span value) s ≡ made_by (fresh span None) s
  unfolding case_rule
  default_made value e = rw e refl

  pub default_after : (value : Option ExprTree) → value ≡ None → after (case_rule kind span value) s ≡ after (fresh span None) s
  unfolding case_rule
  default_after value e = rw e refl

  pub case_made : (value : Option ExprTree) (t : ExprTree) → value ≡ Some t
      → made_by (case_rule kind span value) s ≡ made_by (case_valued span (made_by (constant (Some kind) t) s)) (after (constant (Some kind) t) s)
  unfolding case_rule
  case_made value t e = rw e (then_made (constant (Some kind) t) (case_valued span) s)

  pub case_after : (value : Option ExprTree) (t : ExprTree) → value ≡ Some t
      → after (case_rule kind span value) s ≡ after (case_valued span (made_by (constant (Some kind) t) s)) (after (constant (Some kind) t) s)
  unfolding case_rule
  case_after value t e = rw e (then_after (constant (Some kind) t) (case_valued span) s)

pub ruleset case_laws = (default_made, default_after, case_made, case_after)

-- ---- parts of statements

pub one_of_last : (span : Span) (list rest : List TypedStatement) (x : TypedStatement) → list ≡ rest ++ x ∷ [] → rest ≡ [] → one_of span list ≡ x
one_of_last span list rest x e f = rw (e, f) refl

pub one_of_more : (span : Span) (list rest : List TypedStatement) (x : TypedStatement) → list ≡ rest ++ x ∷ [] → (rest ≡ [] → ⊥) → one_of span list ≡ statement_of span (forms.Block list)
one_of_more span list [] x e h = absurd (h refl)
one_of_more span list (y ∷ []) x e h = rw e refl
one_of_more span list (y ∷ z ∷ rest) x e h = rw e refl

pub ruleset one_of_laws = (one_of_last, one_of_more)

module _ (s : Typer) where
  pub no_test_made : (test : Option ExprTree) → test ≡ None → made_by (test_rule test) s ≡ None
  unfolding test_rule
  no_test_made test e = rw e (pure_made None s)

  pub no_test_after : (test : Option ExprTree) → test ≡ None → after (test_rule test) s ≡ s
  unfolding test_rule
  no_test_after test e = rw e (pure_after {A = Option TypedExpr} None s)

  pub test_made : (test : Option ExprTree) (t : ExprTree) → test ≡ Some t → made_by (test_rule test) s ≡ Some (made_by (integer (piece t)) s)
  unfolding test_rule
  test_made test t e = rw e (simp (then_made, pure_made))

  pub test_after : (test : Option ExprTree) (t : ExprTree) → test ≡ Some t → after (test_rule test) s ≡ after (integer (piece t)) s
  unfolding test_rule
  test_after test t e = rw e (simp (then_after, pure_after))

pub ruleset test_laws = (no_test_made, no_test_after, test_made, test_after)

module _ (kind : Kind) (span : Span) (s : Typer) (t : ExprTree) where
  pub value_made : made_by (return_rule (Some kind) span (Some t)) s ≡ statement_of span (forms.Return (Some (converted_to kind (made_by (integer (piece t)) s)))) ∷ []
  value_made = simp (then_made, pure_made)

  pub value_after : after (return_rule (Some kind) span (Some t)) s ≡ after (integer (piece t)) s
  value_after = simp (then_after, pure_after)

module _ (span : Span) (s : Typer) where
  pub unwanted_made : (t : ExprTree) → made_by (return_rule None span (Some t)) s ≡ statement_of span forms.Empty ∷ []
  unwanted_made t = simp (then_made, pure_made)

  pub unwanted_after : (t : ExprTree) → after (return_rule None span (Some t)) s ≡ after (integer (piece t)) (with_fault 29 span s)
  unwanted_after t = simp (then_after, pure_after, expect_false)

  pub wanting_made : (k : Option Kind) (kind : Kind) (value : Option ExprTree) → k ≡ Some kind → value ≡ None → made_by (return_rule k span value) s ≡ statement_of span forms.Empty ∷ []
  wanting_made k kind value e f = rw (e, f) (simp (then_made, pure_made))

  pub wanting_after : (k : Option Kind) (kind : Kind) (value : Option ExprTree) → k ≡ Some kind → value ≡ None → after (return_rule k span value) s ≡ with_fault 29 span s
  wanting_after k kind value e f = rw (e, f) (simp (then_after, pure_after, expect_false))

pub ruleset return_laws = (value_made, value_after, unwanted_made, unwanted_after, wanting_made, wanting_after, pure_made, pure_after)

module _ (span : Span) (d : Ident) (ts : List ExprTree) (s : Typer) where
  pub call_made : made_by (call_statement span d ts) s ≡ statement_of span (forms.Call (made_by (call_rule d.span d.name (map piece ts)) s).1) ∷ []
  unfolding call_statement
  call_made = simp (then_made, pure_made)

  pub call_after : after (call_statement span d ts) s ≡ after (call_rule d.span d.name (map piece ts)) s
  unfolding call_statement
  call_after = simp (then_after, pure_after)

pub ruleset call_laws = (call_made, call_after)
