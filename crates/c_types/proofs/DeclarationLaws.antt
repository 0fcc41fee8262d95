-- What declarations do to the state of typing, a law for each rule.
use Rattle.std.proofs.Common.{◌≡◌, ℕ, ◌≤◌, true, not, List, length, Option, Some, None, arith}
use Rattle.fq_core.specs.declared.span.Span.{Span}
use Rattle.c_values.specs.declared.kinds.Kind.{Kind}
use Rattle.c_parse.specs.declared.expr.ExprTree.{ExprTree}
use Rattle.c_parse.specs.declared.expr.Ident.{Ident}
use Rattle.c_parse.specs.declared.statement.Declarator.{Declarator}
use Rattle.c_parse.specs.declared.statement.Initial.{Initial}
use Rattle.c_parse.specs.declared.statement.Initial.TheVariants as initials
use Rattle.cfa.specs.declared.parts.Variable.{Variable}
use Rattle.cfa.specs.declared.parts.VariablePlace.TheVariants as places
use Rattle.c_typed_trees.specs.declared.statement.TypedForm.TheVariants as forms
use Rattle.c_type_rules.specs.declared.typer.Typer.{Typer}
use Rattle.c_type_rules.specs.Scopes.{newest}
use Rattle.c_type_rules.specs.Rule.{with_fault, expect, local, bind, made_by, after}
use Rattle.c_type_rules.specs.Expressions.{integer, piece, converted_to, constant}
use Rattle.c_type_rules.proofs.RuleLaws.{pure_made, pure_after, then_made, then_after, fault_made, fault_after, expect_false, look_made, look_after, here_made, here_after}
use Rattle.c_types.specs.Declarations.{statement_of, same_level, unused, variable_of, bound_as, bind_variable, is_array_length, length_within, length_at, cells_of, is_list_for, value_for, values_for, begun, local_rule}

module _ (d : Ident) (s : Typer) where
  pub unused_after : after (unused d) s ≡ after (expect 31 d.span (not (same_level s.level (newest d.name s.bound)))) s
  unfolding unused
  unused_after = simp (then_after, here_made, here_after, look_made, look_after)

pub ruleset unused_laws = (unused_after)

module _ (v : Variable) (s : Typer) where
  pub bind_variable_after : after (bind_variable v) s ≡ after (bind (bound_as s.level v)) s
  unfolding bind_variable
  bind_variable_after = simp (then_after, here_made, here_after)

pub ruleset variable_laws = (bind_variable_after)

-- ---- lengths

pub within : (n : ℕ) → 1 ≤ n → n ≤ 1024 → is_array_length n ≡ true
within n a b = grind arith

module _ (span : Span) (t : ExprTree) (s : Typer) where
  pub length_made : (length : Option ExprTree) → length ≡ Some t → made_by (length_at span length) s ≡ made_by (length_within span (made_by (constant None t) s)) (after (constant None t) s)
  unfolding length_at
  length_made length e = rw e (then_made (constant None t) (length_within span) s)

  pub length_after : (length : Option ExprTree) → length ≡ Some t → after (length_at span length) s ≡ after (length_within span (made_by (constant None t) s)) (after (constant None t) s)
  unfolding length_at
  length_after length e = rw e (then_after (constant None t) (length_within span) s)

module _ (span : Span) (s : Typer) where
  pub no_length_made : (length : Option ExprTree) → length ≡ None → made_by (length_at span length) s ≡ None
  unfolding length_at
  no_length_made length e = rw e (pure_made None s)

  pub no_length_after : (length : Option ExprTree) → length ≡ None → after (length_at span length) s ≡ s
  unfolding length_at
  no_length_after length e = rw e (pure_after {A = Option ℕ} None s)

pub ruleset length_laws = (no_length_made, no_length_after, length_made, length_after)

pub ruleset within_laws = (pure_made, pure_after, fault_made, fault_after, within)

-- ---- what variables begin as

module _ (kind : Kind) (t : ExprTree) (s : Typer) where
  pub value_made : made_by (value_for kind t) s ≡ converted_to kind (made_by (integer (piece t)) s)
  unfolding value_for
  value_made = simp (then_made, pure_made)

  pub value_after : after (value_for kind t) s ≡ after (integer (piece t)) s
  unfolding value_for
  value_after = simp (then_after, pure_after)

pub ruleset value_laws = (value_made, value_after)

module _ (span : Span) (d : Ident) (v : Variable) (s : Typer) where
  pub begun_one_made : (length : Option ℕ) (first : Option Initial) (t : ExprTree) → length ≡ None → first ≡ Some (initials.One t)
      → made_by (begun span d v length first) s ≡ statement_of span (forms.Local v (Some (made_by (value_for v.kind t) s)))
  begun_one_made length first t e f = rw (e, f) (simp (then_made, pure_made))

  pub begun_one_after : (length : Option ℕ) (first : Option Initial) (t : ExprTree) → length ≡ None → first ≡ Some (initials.One t)
      → after (begun span d v length first) s ≡ after (value_for v.kind t) s
  begun_one_after length first t e f = rw (e, f) (simp (then_after, pure_after))

  pub list_for_integer_made : (length : Option ℕ) (first : Option Initial) (ts : List ExprTree) → length ≡ None → first ≡ Some (initials.List ts)
      → made_by (begun span d v length first) s ≡ statement_of span forms.Empty
  list_for_integer_made length first ts e f = rw (e, f) (simp (then_made, pure_made))

  pub list_for_integer_after : (length : Option ℕ) (first : Option Initial) (ts : List ExprTree) → length ≡ None → first ≡ Some (initials.List ts)
      → after (begun span d v length first) s ≡ after (values_for v.kind ts) (with_fault 33 d.span s)
  list_for_integer_after length first ts e f = rw (e, f) (simp (then_after, pure_after, expect_false))

  pub value_for_array_made : (length : Option ℕ) (first : Option Initial) (n : ℕ) (t : ExprTree) → length ≡ Some n → first ≡ Some (initials.One t)
      → made_by (begun span d v length first) s ≡ statement_of span forms.Empty
  value_for_array_made length first n t e f = rw (e, f) (simp (then_made, pure_made))

  pub value_for_array_after : (length : Option ℕ) (first : Option Initial) (n : ℕ) (t : ExprTree) → length ≡ Some n → first ≡ Some (initials.One t)
      → after (begun span d v length first) s ≡ after (value_for v.kind t) (with_fault 33 d.span s)
  value_for_array_after length first n t e f = rw (e, f) (simp (then_after, pure_after, expect_false))

  pub list_made : (len : Option ℕ) (first : Option Initial) (n : ℕ) (ts : List ExprTree) → len ≡ Some n → first ≡ Some (initials.List ts)
      → made_by (begun span d v len first) s ≡ statement_of span (forms.LocalArray v (made_by (values_for v.kind ts) (after (expect 34 d.span (is_list_for n (length ts))) s)))
  list_made len first n ts e f = rw (e, f) (simp (then_made, pure_made))

  pub list_after : (len : Option ℕ) (first : Option Initial) (n : ℕ) (ts : List ExprTree) → len ≡ Some n → first ≡ Some (initials.List ts)
      → after (begun span d v len first) s ≡ after (values_for v.kind ts) (after (expect 34 d.span (is_list_for n (length ts))) s)
  list_after len first n ts e f = rw (e, f) (simp (then_after, pure_after))

pub ruleset begun_laws = (begun_one_made, begun_one_after, list_for_integer_made, list_for_integer_after, value_for_array_made, value_for_array_after, list_made, list_after, pure_made, pure_after)

module _ (span : Span) (kind : Kind) (d : Declarator) (s : Typer) where
  pub local_rule_made : made_by (local_rule span kind d) s
      ≡ (let s1 = after (unused d.name) s in let length = made_by (length_at d.name.span d.length) s1 in let s2 = after (length_at d.name.span d.length) s1 in
      let cell = made_by (local (cells_of length)) s2 in let v = variable_of d.name.name kind length (places.Local cell) in
      made_by (begun span d.name v length d.first) (after (bind_variable v) (after (local (cells_of length)) s2)))
  unfolding local_rule
  local_rule_made = simp then_made

  pub local_rule_after : after (local_rule span kind d) s
      ≡ (let s1 = after (unused d.name) s in let length = made_by (length_at d.name.span d.length) s1 in let s2 = after (length_at d.name.span d.length) s1 in
      let cell = made_by (local (cells_of length)) s2 in let v = variable_of d.name.name kind length (places.Local cell) in
      after (begun span d.name v length d.first) (after (bind_variable v) (after (local (cells_of length)) s2)))
  unfolding local_rule
  local_rule_after = simp then_after

pub ruleset local_laws = (local_rule_made, local_rule_after)
