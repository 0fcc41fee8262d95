-- What the declarations of a file do to the state of typing, a law for each rule.
use Rattle.std.proofs.Common.{◌≡◌, ℕ, ◌+◌, ◌-◌, ◌<◌, ◌≤◌, true, List, [], ◌∷◌, ◌++◌, length, get_or, drop, Option, Some, None, sym, ap, ◌∙◌, append_assoc, append-nil, length-append, arith}
use Rattle.std.proofs.Math.ListN.{replicate}
use Rattle.std.proofs.lemmas.List.{replicate-append-replicate, drop_more, drop_all}
use Rattle.std.specs.Prelude.{nat_le}
use Rattle.c_values.specs.declared.kinds.Kind.{Kind}
use Rattle.c_values.specs.Kind.{int, IsValue}
use Rattle.c_values.proofs.Fitting.{IsValue-truth_of}
use Rattle.c_parse.specs.declared.expr.ExprTree.{ExprTree}
use Rattle.c_parse.specs.declared.expr.Ident.{Ident}
use Rattle.c_parse.specs.declared.statement.Declarator.{Declarator}
use Rattle.c_parse.specs.declared.statement.Initial.{Initial}
use Rattle.c_parse.specs.declared.statement.Initial.TheVariants as initials
use Rattle.cfa.specs.declared.parts.VariablePlace.TheVariants as places
use Rattle.c_type_rules.specs.declared.typer.Typer.{Typer}
use Rattle.c_type_rules.specs.Rule.{with_fault, expect, local, bind, made_by, after}
use Rattle.c_type_rules.specs.Expressions.{constant}
use Rattle.c_type_rules.proofs.RuleLaws.{pure_made, pure_after, then_made, then_after, fault_made, fault_after, expect_false, here_made, here_after}
use Rattle.c_types.specs.Declarations.{unused, variable_of, bind_variable, length_at, cells_of, is_list_for, value_or_zero, first_value, first_values, with_zeros, begun_global, global_rule, enumerated, next_value, bound_constant, constant_rule, constants_from}

module _ (kind : Kind) (t : ExprTree) (s : Typer) where
  pub first_value_made : made_by (first_value kind t) s ≡ value_or_zero (made_by (constant (Some kind) t) s)
  unfolding first_value
  first_value_made = simp (then_made, pure_made)

  pub first_value_after : after (first_value kind t) s ≡ after (constant (Some kind) t) s
  unfolding first_value
  first_value_after = simp (then_after, pure_after)

pub ruleset first_laws = (first_value_made, first_value_after)

-- ---- zeros behind values

pub padded : (n : ℕ) (vs : List ℕ) → length vs < n → (vs ++ 0 ∷ []) ++ replicate (n - length (vs ++ 0 ∷ [])) 0 ≡ vs ++ replicate (n - length vs) 0
padded n vs h =
    let e : n - length vs ≡ 1 + (n - length (vs ++ 0 ∷ [])) = omega (arith, length-append vs (0 ∷ [])) in
    append_assoc vs (0 ∷ []) (replicate (n - length (vs ++ 0 ∷ [])) 0)
    ∙ ap (λ xs. vs ++ xs) (replicate-append-replicate 1 (n - length (vs ++ 0 ∷ [])) 0)
    ∙ ap (λ k. vs ++ replicate k 0) (sym e)

pub full : (n : ℕ) (vs : List ℕ) → n ≤ length vs → vs ++ replicate (n - length vs) 0 ≡ vs
full n vs h =
    let e : n - length vs ≡ 0 = omega arith in
    ap (λ k. vs ++ replicate k 0) e ∙ append-nil vs

-- ---- what variables begin as

module _ (d : Ident) (kind : Kind) (s : Typer) where
  pub one_made : (len : Option ℕ) (first : Option Initial) (t : ExprTree) → len ≡ None → first ≡ Some (initials.One t)
      → made_by (begun_global d kind len first) s ≡ made_by (first_value kind t) s ∷ []
  one_made len first t e f = rw (e, f) (simp (then_made, pure_made))

  pub one_after : (len : Option ℕ) (first : Option Initial) (t : ExprTree) → len ≡ None → first ≡ Some (initials.One t)
      → after (begun_global d kind len first) s ≡ after (first_value kind t) s
  one_after len first t e f = rw (e, f) (simp (then_after, pure_after))

  pub list_for_integer_made : (len : Option ℕ) (first : Option Initial) (ts : List ExprTree) → len ≡ None → first ≡ Some (initials.List ts)
      → made_by (begun_global d kind len first) s ≡ []
  list_for_integer_made len first ts e f = rw (e, f) (simp (then_made, pure_made))

  pub list_for_integer_after : (len : Option ℕ) (first : Option Initial) (ts : List ExprTree) → len ≡ None → first ≡ Some (initials.List ts)
      → after (begun_global d kind len first) s ≡ after (first_values kind ts) (with_fault 33 d.span s)
  list_for_integer_after len first ts e f = rw (e, f) (simp (then_after, pure_after, expect_false))

  pub value_for_array_made : (len : Option ℕ) (first : Option Initial) (n : ℕ) (t : ExprTree) → len ≡ Some n → first ≡ Some (initials.One t)
      → made_by (begun_global d kind len first) s ≡ []
  value_for_array_made len first n t e f = rw (e, f) (simp (then_made, pure_made))

  pub value_for_array_after : (len : Option ℕ) (first : Option Initial) (n : ℕ) (t : ExprTree) → len ≡ Some n → first ≡ Some (initials.One t)
      → after (begun_global d kind len first) s ≡ after (first_value kind t) (with_fault 33 d.span s)
  value_for_array_after len first n t e f = rw (e, f) (simp (then_after, pure_after, expect_false))

  pub list_made : (len : Option ℕ) (first : Option Initial) (n : ℕ) (ts : List ExprTree) → len ≡ Some n → first ≡ Some (initials.List ts)
      → made_by (begun_global d kind len first) s ≡ with_zeros n (made_by (first_values kind ts) (after (expect 34 d.span (is_list_for n (length ts))) s))
  list_made len first n ts e f = rw (e, f) (simp (then_made, pure_made))

  pub list_after : (len : Option ℕ) (first : Option Initial) (n : ℕ) (ts : List ExprTree) → len ≡ Some n → first ≡ Some (initials.List ts)
      → after (begun_global d kind len first) s ≡ after (first_values kind ts) (after (expect 34 d.span (is_list_for n (length ts))) s)
  list_after len first n ts e f = rw (e, f) (simp (then_after, pure_after))

pub ruleset begun_laws = (one_made, one_after, list_for_integer_made, list_for_integer_after, value_for_array_made, value_for_array_after, list_made, list_after, pure_made, pure_after)

module _ (kind : Kind) (d : Declarator) (s : Typer) where
  pub global_rule_made : made_by (global_rule kind d) s
      ≡ (let s1 = after (unused d.name) s in let len = made_by (length_at d.name.span d.length) s1 in let s2 = after (length_at d.name.span d.length) s1 in
      let cell = made_by (local (cells_of len)) s2 in let s3 = after (local (cells_of len)) s2 in
      let s4 = after (expect 37 d.name.span (nat_le (cell + cells_of len) 16384)) s3 in let v = variable_of d.name.name kind len (places.Global cell) in
      record { variable = v; first = made_by (begun_global d.name kind len d.first) (after (bind_variable v) s4) })
  unfolding global_rule
  global_rule_made = simp (then_made, pure_made)

  pub global_rule_after : after (global_rule kind d) s
      ≡ (let s1 = after (unused d.name) s in let len = made_by (length_at d.name.span d.length) s1 in let s2 = after (length_at d.name.span d.length) s1 in
      let cell = made_by (local (cells_of len)) s2 in let s3 = after (local (cells_of len)) s2 in
      let s4 = after (expect 37 d.name.span (nat_le (cell + cells_of len) 16384)) s3 in let v = variable_of d.name.name kind len (places.Global cell) in
      after (begun_global d.name kind len d.first) (after (bind_variable v) s4))
  unfolding global_rule
  global_rule_after = simp (then_after, pure_after)

pub ruleset global_laws = (global_rule_made, global_rule_after)

-- ---- enumeration constants

pub one_is_int : IsValue int 1
one_is_int = IsValue-truth_of true

pub ruleset enumerated_laws = (pure_made, pure_after)

module _ (next : ℕ) (c : Ident × Option ExprTree) (s : Typer) where
  pub constant_rule_made : made_by (constant_rule next c) s ≡ next_value (made_by (enumerated next c.1) s)
  unfolding constant_rule
  constant_rule_made = simp (then_made, pure_made)

  pub constant_rule_after : after (constant_rule next c) s
      ≡ (let v = made_by (enumerated next c.1) s in let s1 = after (unused c.0) (after (enumerated next c.1) s) in after (bind (bound_constant c.0.name s1.level v)) s1)
  unfolding constant_rule
  constant_rule_after = simp (then_after, pure_after, here_made, here_after)

pub ruleset constant_laws = (constant_rule_made, constant_rule_after)

module _ (all : List (Ident × Option ExprTree)) (i : ℕ) (next : ℕ) (s : Typer) where
  pub constants_end : length all ≤ i → after (constants_from next (drop i all)) s ≡ s
  unfolding constants_from
  constants_end h = ap (λ zs. after (constants_from next zs) s) (drop_all i all h) ∙ pure_after tt s

  pub constants_more : (c : Ident × Option ExprTree) → i < length all → c ≡ get_or all i c
      → after (constants_from next (drop i all)) s ≡ after (constants_from (made_by (constant_rule next c) s) (drop (i + 1) all)) (after (constant_rule next c) s)
  unfolding constants_from
  constants_more c h e =
      ap (λ zs. after (constants_from next zs) s) (drop_more all i c h ∙ ap (λ z. z ∷ drop (i + 1) all) (sym e))
      ∙ then_after (constant_rule next c) (λ more. constants_from more (drop (i + 1) all)) s
