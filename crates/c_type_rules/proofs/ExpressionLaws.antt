-- What expressions do to the state of typing, a law for each rule.
use Rattle.std.proofs.Common.{◌≡◌, ℕ, ◌+◌, ◌<◌, ◌≤◌, List, [], ◌∷◌, ◌++◌, map, length, get_or, drop, Option, Some, None, refl, sym, ap, subst, ◌∙◌, rules, append_assoc, append-nil}
use Rattle.std.specs.Prelude.{slice_get, ◌==◌, ◌&&◌}
use Rattle.std.specs.Option.{is_some}
use Rattle.cfa.specs.Kinds.{same_kind}
use Rattle.std.proofs.lemmas.List.{drop_all, drop_more, length-map}
use Rattle.fq_core.specs.declared.span.Span.{Span}
use Rattle.c_values.specs.declared.kinds.Kind.{Kind}
use Rattle.c_values.specs.declared.operators.UnaryOp.{UnaryOp}
use Rattle.c_values.specs.declared.operators.BinaryOp.{BinaryOp}
use Rattle.c_values.specs.Kind.{int}
use Rattle.c_parse.specs.declared.expr.ExprForm.{ExprForm, the_lemmas}
use Rattle.c_parse.specs.declared.expr.ExprForm.TheVariants as form
use Rattle.c_parse.specs.declared.expr.ExprForm.TheOpen.{ExprForm-F}
use Rattle.c_parse.specs.declared.expr.ExprTree.{ExprTree}
use Rattle.cfa.specs.declared.parts.Variable.{Variable}
use Rattle.c_type_rules.specs.declared.scopes.Signature.{Signature}
use Rattle.c_typed_trees.specs.declared.expression.TypedExpr.{TypedExpr}
use Rattle.c_typed_trees.specs.declared.expression.TypedExprForm.TheVariants as forms
use Rattle.c_type_rules.specs.declared.scopes.ParameterKind.{ParameterKind}
use Rattle.c_typed_trees.specs.declared.expression.TypedCall.{TypedCall}
use Rattle.c_type_rules.specs.Constants.{folded}
use Rattle.c_type_rules.specs.declared.typer.Given.{Given}
use Rattle.c_type_rules.specs.declared.typer.Sort.{Sort}
use Rattle.c_type_rules.specs.declared.typer.Sort.TheVariants as sorts
use Rattle.c_type_rules.specs.declared.typer.Typer.{Typer}
use Rattle.c_type_rules.specs.Kinds.{promotion}
use Rattle.c_type_rules.specs.Scopes.{newest}
use Rattle.c_type_rules.specs.Rule.{Rule, pure, ◌then◌, expect, with_fault, look, temporary, numbered_from, made_by, after}
use Rattle.c_type_rules.specs.Expressions.{Piece, typed, converted_to, unary_of, binary_of, choice_of, load_of, missing_at, wanted, integer, named, name_at, array_named, array_at, function_named, function_at, callable, nothing_given, word_given, array_given, joined, same_length, lent, argument, arguments, arguments_from, call_of, call_rule, called, form_rule, form_typing, piece, typing, fitted, constant_of, constant}
use Rattle.c_type_rules.proofs.RuleLaws.{pure_made, pure_after, then_made, then_after, fault_made, fault_after, look_made, look_after, temporary_made, temporary_after, uncounted_made, uncounted_after}

-- ---- an integer is needed

abbrev at_tree : (t : ExprTree) → Rule TypedExpr
at_tree t = integer (piece t)

piece_is : (t : ExprTree) → piece t ≡ record { span = t.span; sort = form_typing t.form t.span }
unfolding form_typing piece
piece_is t = search (rules, the_lemmas)

piece_span : (t : ExprTree) → (piece t).span ≡ t.span
piece_span t = ap (λ (p : Piece). p.span) (piece_is t)

module _ (t : ExprTree) (s : Typer) where
  pub value_made : (e : TypedExpr) → made_by (typing t) s ≡ sorts.Value e → made_by (integer (piece t)) s ≡ e
  unfolding integer
  value_made e h =
      then_made (typing t) (wanted (piece t).span) s
      ∙ ap (λ sort. made_by (wanted (piece t).span sort) (after (typing t) s)) h
      ∙ pure_made e (after (typing t) s)

  pub value_after : (e : TypedExpr) → made_by (typing t) s ≡ sorts.Value e → after (integer (piece t)) s ≡ after (typing t) s
  unfolding integer
  value_after e h =
      then_after (typing t) (wanted (piece t).span) s
      ∙ ap (λ sort. after (wanted (piece t).span sort) (after (typing t) s)) h
      ∙ pure_after e (after (typing t) s)

  pub array_made : (v : Variable) → made_by (typing t) s ≡ sorts.Array v → made_by (integer (piece t)) s ≡ missing_at t.span
  unfolding integer
  array_made v h =
      then_made (typing t) (wanted (piece t).span) s
      ∙ ap (λ sort. made_by (wanted (piece t).span sort) (after (typing t) s)) h
      ∙ fault_made 33 (piece t).span (missing_at (piece t).span) (after (typing t) s)
      ∙ ap missing_at (piece_span t)

  pub array_after : (v : Variable) → made_by (typing t) s ≡ sorts.Array v → after (integer (piece t)) s ≡ with_fault 33 t.span (after (typing t) s)
  unfolding integer
  array_after v h =
      then_after (typing t) (wanted (piece t).span) s
      ∙ ap (λ sort. after (wanted (piece t).span sort) (after (typing t) s)) h
      ∙ fault_after 33 (piece t).span (missing_at (piece t).span) (after (typing t) s)
      ∙ ap (λ span. with_fault 33 span (after (typing t) s)) (piece_span t)

  pub other_made : made_by (typing t) s ≡ sorts.Other → made_by (integer (piece t)) s ≡ missing_at t.span
  unfolding integer
  other_made h =
      then_made (typing t) (wanted (piece t).span) s
      ∙ ap (λ sort. made_by (wanted (piece t).span sort) (after (typing t) s)) h
      ∙ fault_made 33 (piece t).span (missing_at (piece t).span) (after (typing t) s)
      ∙ ap missing_at (piece_span t)

  pub other_after : made_by (typing t) s ≡ sorts.Other → after (integer (piece t)) s ≡ with_fault 33 t.span (after (typing t) s)
  unfolding integer
  other_after h =
      then_after (typing t) (wanted (piece t).span) s
      ∙ ap (λ sort. after (wanted (piece t).span sort) (after (typing t) s)) h
      ∙ fault_after 33 (piece t).span (missing_at (piece t).span) (after (typing t) s)
      ∙ ap (λ span. with_fault 33 span (after (typing t) s)) (piece_span t)

pub ruleset integer_laws = (value_made, value_after, array_made, array_after, other_made, other_after)

-- ---- names

module _ (span : Span) (w : List ℕ) (s : Typer) where
  pub name_at_made : made_by (name_at span w) s ≡ made_by (named span (newest w s.bound)) s
  unfolding name_at
  name_at_made = then_made (look w) (named span) s ∙ simp (look_made, look_after)

  pub name_at_after : after (name_at span w) s ≡ after (named span (newest w s.bound)) s
  unfolding name_at
  name_at_after = then_after (look w) (named span) s ∙ simp (look_made, look_after)

  pub array_at_made : made_by (array_at span w) s ≡ made_by (array_named span (newest w s.bound)) s
  unfolding array_at
  array_at_made = then_made (look w) (array_named span) s ∙ simp (look_made, look_after)

  pub array_at_after : after (array_at span w) s ≡ after (array_named span (newest w s.bound)) s
  unfolding array_at
  array_at_after = then_after (look w) (array_named span) s ∙ simp (look_made, look_after)

  pub function_at_made : (count : ℕ) → made_by (function_at span w count) s ≡ made_by (function_named span count (newest w s.bound)) s
  unfolding function_at
  function_at_made count = then_made (look w) (function_named span count) s ∙ simp (look_made, look_after)

  pub function_at_after : (count : ℕ) → after (function_at span w count) s ≡ after (function_named span count (newest w s.bound)) s
  unfolding function_at
  function_at_after count = then_after (look w) (function_named span count) s ∙ simp (look_made, look_after)

pub ruleset name_laws = (name_at_made, name_at_after, array_at_made, array_at_after, function_at_made, function_at_after, pure_made, pure_after, fault_made, fault_after)

module _ (span : Span) (count : ℕ) (f : Signature) (s : Typer) where
  pub callable_made : made_by (callable span count f) s ≡ f
  unfolding callable
  callable_made = simp (then_made, pure_made)

  pub callable_after : after (callable span count f) s ≡ after (expect 39 span (is_some f.callee)) (after (expect 32 span (length f.parameters == count)) s)
  unfolding callable
  callable_after = simp (then_after, pure_after)

pub ruleset callable_laws = (callable_made, callable_after)

-- ---- the forms

module _ (t : ExprTree) (s : Typer) where
  -- what an expression is, by the rule of its form
  by_rule : (f : ExprForm) (rule : Span → Rule Sort) → t.form ≡ f → form_typing f ≡ rule → typing t ≡ rule t.span
  by_rule f rule e h = ap (λ (p : Piece). p.sort) (piece_is t) ∙ ap (λ g. form_typing g t.span) e ∙ ap (λ (g : Span → Rule Sort). g t.span) h

  number_is : (v : ℕ) (kind : Kind) → t.form ≡ form.Number v kind → typing t ≡ pure (sorts.Value (typed t.span kind (forms.Constant v)))
  unfolding form_typing
  number_is v kind e = by_rule _ (form_rule (ExprForm-F.Number v kind)) e (search (rules, the_lemmas))

  pub number_made : (v : ℕ) (kind : Kind) → t.form ≡ form.Number v kind → made_by (typing t) s ≡ sorts.Value (typed t.span kind (forms.Constant v))
  number_made v kind e = ap (λ r. made_by r s) (number_is v kind e) ∙ pure_made _ s

  pub number_after : (v : ℕ) (kind : Kind) → t.form ≡ form.Number v kind → after (typing t) s ≡ s
  number_after v kind e = ap (λ r. after r s) (number_is v kind e) ∙ pure_after _ s

  binary_is : (op : BinaryOp) (x y : ExprTree) → t.form ≡ form.Binary op x y → typing t ≡ (integer (piece x) then λ a. integer (piece y) then λ b. pure (sorts.Value (binary_of t.span op a b)))
  unfolding form_typing piece
  binary_is op x y e = by_rule _ (form_rule (ExprForm-F.Binary op (piece x) (piece y))) e (search (rules, the_lemmas))

  pub binary_made : (op : BinaryOp) (x y : ExprTree) → t.form ≡ form.Binary op x y
      → made_by (typing t) s ≡ sorts.Value (binary_of t.span op (made_by (integer (piece x)) s) (made_by (integer (piece y)) (after (integer (piece x)) s)))
  binary_made op x y e = ap (λ r. made_by r s) (binary_is op x y e) ∙ simp (then_made, pure_made)

  pub binary_after : (op : BinaryOp) (x y : ExprTree) → t.form ≡ form.Binary op x y
      → after (typing t) s ≡ after (integer (piece y)) (after (integer (piece x)) s)
  binary_after op x y e = ap (λ r. after r s) (binary_is op x y e) ∙ simp (then_after, pure_after)

  unary_is : (op : UnaryOp) (x : ExprTree) → t.form ≡ form.Unary op x → typing t ≡ (integer (piece x) then λ a. pure (sorts.Value (unary_of t.span op a)))
  unfolding form_typing piece
  unary_is op x e = by_rule _ (form_rule (ExprForm-F.Unary op (piece x))) e (search (rules, the_lemmas))

  pub unary_made : (op : UnaryOp) (x : ExprTree) → t.form ≡ form.Unary op x → made_by (typing t) s ≡ sorts.Value (unary_of t.span op (made_by (integer (piece x)) s))
  unary_made op x e = ap (λ r. made_by r s) (unary_is op x e) ∙ simp (then_made, pure_made)

  pub unary_after : (op : UnaryOp) (x : ExprTree) → t.form ≡ form.Unary op x → after (typing t) s ≡ after (integer (piece x)) s
  unary_after op x e = ap (λ r. after r s) (unary_is op x e) ∙ simp (then_after, pure_after)

  cast_is : (kind : Kind) (x : ExprTree) → t.form ≡ form.Cast kind x → typing t ≡ (integer (piece x) then λ a. pure (sorts.Value (typed t.span kind (forms.Convert a))))
  unfolding form_typing piece
  cast_is kind x e = by_rule _ (form_rule (ExprForm-F.Cast kind (piece x))) e (search (rules, the_lemmas))

  pub cast_made : (kind : Kind) (x : ExprTree) → t.form ≡ form.Cast kind x → made_by (typing t) s ≡ sorts.Value (typed t.span kind (forms.Convert (made_by (integer (piece x)) s)))
  cast_made kind x e = ap (λ r. made_by r s) (cast_is kind x e) ∙ simp (then_made, pure_made)

  pub cast_after : (kind : Kind) (x : ExprTree) → t.form ≡ form.Cast kind x → after (typing t) s ≡ after (integer (piece x)) s
  cast_after kind x e = ap (λ r. after r s) (cast_is kind x e) ∙ simp (then_after, pure_after)

  plus_is : (x : ExprTree) → t.form ≡ form.Plus x → typing t ≡ (integer (piece x) then λ a. pure (sorts.Value (typed t.span (promotion a.kind) (forms.Convert a))))
  unfolding form_typing piece
  plus_is x e = by_rule _ (form_rule (ExprForm-F.Plus (piece x))) e (search (rules, the_lemmas))

  pub plus_made : (x : ExprTree) → t.form ≡ form.Plus x → made_by (typing t) s ≡ (let a = made_by (integer (piece x)) s in sorts.Value (typed t.span (promotion a.kind) (forms.Convert a)))
  plus_made x e = ap (λ r. made_by r s) (plus_is x e) ∙ simp (then_made, pure_made)

  pub plus_after : (x : ExprTree) → t.form ≡ form.Plus x → after (typing t) s ≡ after (integer (piece x)) s
  plus_after x e = ap (λ r. after r s) (plus_is x e) ∙ simp (then_after, pure_after)

  both_is : (x y : ExprTree) → t.form ≡ form.Both x y → typing t ≡ (temporary then λ cell. integer (piece x) then λ a. integer (piece y) then λ b. pure (sorts.Value (typed t.span int (forms.Both a b cell))))
  unfolding form_typing piece
  both_is x y e = by_rule _ (form_rule (ExprForm-F.Both (piece x) (piece y))) e (search (rules, the_lemmas))

  pub both_made : (x y : ExprTree) → t.form ≡ form.Both x y
      → made_by (typing t) s ≡ (let s1 = after temporary s in sorts.Value (typed t.span int (forms.Both (made_by (integer (piece x)) s1) (made_by (integer (piece y)) (after (integer (piece x)) s1)) (made_by temporary s))))
  both_made x y e = ap (λ r. made_by r s) (both_is x y e) ∙ simp (then_made, pure_made)

  pub both_after : (x y : ExprTree) → t.form ≡ form.Both x y → after (typing t) s ≡ after (integer (piece y)) (after (integer (piece x)) (after temporary s))
  both_after x y e = ap (λ r. after r s) (both_is x y e) ∙ simp (then_after, pure_after)

  name_is : (w : List ℕ) → t.form ≡ form.Name w → typing t ≡ name_at t.span w
  unfolding form_typing piece
  name_is w e = by_rule _ (form_rule (ExprForm-F.Name w)) e (search (rules, the_lemmas))

  pub name_made : (w : List ℕ) → t.form ≡ form.Name w → made_by (typing t) s ≡ made_by (name_at t.span w) s
  name_made w e = ap (λ r. made_by r s) (name_is w e)

  pub name_after : (w : List ℕ) → t.form ≡ form.Name w → after (typing t) s ≡ after (name_at t.span w) s
  name_after w e = ap (λ r. after r s) (name_is w e)

  element_is : (w : List ℕ) (x : ExprTree) → t.form ≡ form.Element w x → typing t ≡ (array_at t.span w then λ v. integer (piece x) then λ i. pure (sorts.Value (load_of t.span v (Some i))))
  unfolding form_typing piece
  element_is w x e = by_rule _ (form_rule (ExprForm-F.Element w (piece x))) e (search (rules, the_lemmas))

  pub element_made : (w : List ℕ) (x : ExprTree) → t.form ≡ form.Element w x
      → made_by (typing t) s ≡ sorts.Value (load_of t.span (made_by (array_at t.span w) s) (Some (made_by (integer (piece x)) (after (array_at t.span w) s))))
  element_made w x e = ap (λ r. made_by r s) (element_is w x e) ∙ simp (then_made, pure_made)

  pub element_after : (w : List ℕ) (x : ExprTree) → t.form ≡ form.Element w x → after (typing t) s ≡ after (integer (piece x)) (after (array_at t.span w) s)
  element_after w x e = ap (λ r. after r s) (element_is w x e) ∙ simp (then_after, pure_after)

  either_is : (x y : ExprTree) → t.form ≡ form.Either x y → typing t ≡ (temporary then λ cell. integer (piece x) then λ a. integer (piece y) then λ b. pure (sorts.Value (typed t.span int (forms.Either a b cell))))
  unfolding form_typing piece
  either_is x y e = by_rule _ (form_rule (ExprForm-F.Either (piece x) (piece y))) e (search (rules, the_lemmas))

  pub either_made : (x y : ExprTree) → t.form ≡ form.Either x y
      → made_by (typing t) s ≡ (let s1 = after temporary s in sorts.Value (typed t.span int (forms.Either (made_by (integer (piece x)) s1) (made_by (integer (piece y)) (after (integer (piece x)) s1)) (made_by temporary s))))
  either_made x y e = ap (λ r. made_by r s) (either_is x y e) ∙ simp (then_made, pure_made)

  pub either_after : (x y : ExprTree) → t.form ≡ form.Either x y → after (typing t) s ≡ after (integer (piece y)) (after (integer (piece x)) (after temporary s))
  either_after x y e = ap (λ r. after r s) (either_is x y e) ∙ simp (then_after, pure_after)

  choice_is : (x y z : ExprTree) → t.form ≡ form.Choice x y z
      → typing t ≡ (temporary then λ cell. integer (piece x) then λ a. integer (piece y) then λ b. integer (piece z) then λ c. pure (sorts.Value (choice_of t.span a b c cell)))
  unfolding form_typing piece
  choice_is x y z e = by_rule _ (form_rule (ExprForm-F.Choice (piece x) (piece y) (piece z))) e (search (rules, the_lemmas))

  pub choice_made : (x y z : ExprTree) → t.form ≡ form.Choice x y z
      → made_by (typing t) s ≡ (let s1 = after temporary s in let s2 = after (integer (piece x)) s1 in let s3 = after (integer (piece y)) s2 in
      sorts.Value (choice_of t.span (made_by (integer (piece x)) s1) (made_by (integer (piece y)) s2) (made_by (integer (piece z)) s3) (made_by temporary s)))
  choice_made x y z e = ap (λ r. made_by r s) (choice_is x y z e) ∙ simp (then_made, pure_made)

  pub choice_after : (x y z : ExprTree) → t.form ≡ form.Choice x y z → after (typing t) s ≡ after (integer (piece z)) (after (integer (piece y)) (after (integer (piece x)) (after temporary s)))
  choice_after x y z e = ap (λ r. after r s) (choice_is x y z e) ∙ simp (then_after, pure_after)

  call_is : (w : List ℕ) (xs : List ExprTree) → t.form ≡ form.Call w xs → typing t ≡ (call_rule t.span w (map piece xs) then λ c. pure (called t.span c.0 c.1))
  unfolding form_typing piece
  call_is w xs e = by_rule _ (form_rule (ExprForm-F.Call w (map piece xs))) e (search (rules, the_lemmas))

  pub call_made : (w : List ℕ) (xs : List ExprTree) (k : Option Kind) (c : TypedCall) → t.form ≡ form.Call w xs
      → (k, c) ≡ made_by (call_rule t.span w (map piece xs)) s → made_by (typing t) s ≡ called t.span k c
  call_made w xs k c e h = ap (λ r. made_by r s) (call_is w xs e) ∙ simp (then_made, pure_made) (ap (λ (d : Option Kind × TypedCall). called t.span d.0 d.1) (sym h))

  pub call_after : (w : List ℕ) (xs : List ExprTree) → t.form ≡ form.Call w xs → after (typing t) s ≡ after (call_rule t.span w (map piece xs)) s
  call_after w xs e = ap (λ r. after r s) (call_is w xs e) ∙ simp (then_after, pure_after)

pub ruleset form_laws = (either_made, either_after, choice_made, choice_after, call_made, call_after, number_made, number_after, binary_made, binary_after, unary_made, unary_after, cast_made, cast_after, plus_made, plus_after, both_made, both_after, name_made, name_after, element_made, element_after)

-- ---- calls

module _ (span : Span) (w : List ℕ) (xs : List ExprTree) (s : Typer) where
  pub call_rule_made : made_by (call_rule span w (map piece xs)) s
      ≡ (let s1 = after temporary s in let f = made_by (function_at span w (length xs)) s1 in
      (f.result, call_of f (made_by (arguments (map piece xs) f.parameters) (after (function_at span w (length xs)) s1)) (made_by temporary s)))
  unfolding call_rule
  call_rule_made = simp (then_made, pure_made, length-map)

  pub call_rule_after : after (call_rule span w (map piece xs)) s
      ≡ (let s1 = after temporary s in after (arguments (map piece xs) (made_by (function_at span w (length xs)) s1).parameters) (after (function_at span w (length xs)) s1))
  unfolding call_rule
  call_rule_after = simp (then_after, pure_after, length-map)

pub ruleset call_laws = (call_rule_made, call_rule_after)

-- ---- arguments

module _ (span : Span) (kind : Kind) (n : ℕ) (v : Variable) (s : Typer) where
  pub lent_made : made_by (lent span kind n (sorts.Array v)) s ≡ array_given v
  lent_made = simp (then_made, pure_made)

  pub lent_after : after (lent span kind n (sorts.Array v)) s ≡ after (expect 35 span (same_kind v.kind kind && same_length v.length n)) s
  lent_after = simp (then_after, pure_after)

pub joined_none : (g : Given) → joined g nothing_given ≡ g
joined_none g = λ i. record { words = append-nil g.words i; arrays = append-nil g.arrays i }

pub joined_again : (g h k : Given) → joined (joined g h) k ≡ joined g (joined h k)
joined_again g h k = λ i. record { words = append_assoc g.words h.words k.words i; arrays = append_assoc g.arrays h.arrays k.arrays i }

joined_word : (g : Given) (e : TypedExpr) → joined g (word_given e) ≡ record { words = g.words ++ e ∷ []; arrays = g.arrays }
joined_word g e = λ i. record { words = g.words ++ e ∷ []; arrays = append-nil g.arrays i }

joined_array : (g : Given) (v : Variable) → joined g (array_given v) ≡ record { words = g.words; arrays = g.arrays ++ v ∷ [] }
joined_array g v = λ i. record { words = append-nil g.words i; arrays = g.arrays ++ v ∷ [] }

module _ (span : Span) (kind : Kind) (n : ℕ) (s : Typer) (g : Given) where
  pub array_joins : (v : Variable) → joined g (made_by (lent span kind n (sorts.Array v)) s) ≡ record { words = g.words; arrays = g.arrays ++ v ∷ [] }
  array_joins v = ap (joined g) (lent_made span kind n v s) ∙ joined_array g v

  pub value_joins : (e : TypedExpr) → joined g (made_by (lent span kind n (sorts.Value e)) s) ≡ g
  value_joins e = ap (joined g) (fault_made 35 span nothing_given s) ∙ joined_none g

  pub other_joins : joined g (made_by (lent span kind n sorts.Other) s) ≡ g
  other_joins = ap (joined g) (fault_made 35 span nothing_given s) ∙ joined_none g

pub ruleset lent_laws = (lent_after, array_joins, value_joins, other_joins, fault_after)

module _ (x : ExprTree) (s : Typer) (g : Given) where
  pub extra_joins : (p : Option ParameterKind) → p ≡ None → joined g (made_by (argument p (piece x)) s) ≡ record { words = g.words ++ made_by (integer (piece x)) s ∷ []; arrays = g.arrays }
  unfolding argument
  extra_joins p e = rw e (ap (joined g) (then_made (integer (piece x)) (λ a. pure (word_given a)) s ∙ pure_made _ _) ∙ joined_word g _)

  pub extra_after : (p : Option ParameterKind) → p ≡ None → after (argument p (piece x)) s ≡ after (integer (piece x)) s
  unfolding argument
  extra_after p e = rw e (simp (then_after, pure_after))

  pub word_joins : (p : Option ParameterKind) (q : ParameterKind) → p ≡ Some q → q.length ≡ None
      → joined g (made_by (argument p (piece x)) s) ≡ record { words = g.words ++ converted_to q.kind (made_by (integer (piece x)) s) ∷ []; arrays = g.arrays }
  unfolding argument
  word_joins p q e f = rw (e, f) (ap (joined g) (then_made (integer (piece x)) (λ a. pure (word_given (converted_to q.kind a))) s ∙ pure_made _ _) ∙ joined_word g _)

  pub word_after : (p : Option ParameterKind) (q : ParameterKind) → p ≡ Some q → q.length ≡ None → after (argument p (piece x)) s ≡ after (integer (piece x)) s
  unfolding argument
  word_after p q e f = rw (e, f) (simp (then_after, pure_after))

  pub array_argument_made : (p : Option ParameterKind) (q : ParameterKind) (n : ℕ) → p ≡ Some q → q.length ≡ Some n
      → made_by (argument p (piece x)) s ≡ made_by (lent x.span q.kind n (made_by (typing x) s)) (after (typing x) s)
  unfolding argument
  array_argument_made p q n e f = rw (e, f) (then_made (typing x) (lent (piece x).span q.kind n) s ∙ ap (λ span. made_by (lent span q.kind n (made_by (typing x) s)) (after (typing x) s)) (piece_span x))

  pub array_argument_after : (p : Option ParameterKind) (q : ParameterKind) (n : ℕ) → p ≡ Some q → q.length ≡ Some n
      → after (argument p (piece x)) s ≡ after (lent x.span q.kind n (made_by (typing x) s)) (after (typing x) s)
  unfolding argument
  array_argument_after p q n e f = rw (e, f) (then_after (typing x) (lent (piece x).span q.kind n) s ∙ ap (λ span. after (lent span q.kind n (made_by (typing x) s)) (after (typing x) s)) (piece_span x))

pub ruleset argument_laws = (extra_joins, extra_after, word_joins, word_after, array_argument_made, array_argument_after)

module _ (ps : List ParameterKind) (i : ℕ) (s : Typer) where
  none_made : made_by (arguments_from i [] ps) s ≡ nothing_given
  unfolding arguments_from
  none_made = pure_made nothing_given s

  none_after : after (arguments_from i [] ps) s ≡ s
  unfolding arguments_from
  none_after = pure_after nothing_given s

  more_made : (x : Piece) (xs : List Piece) → made_by (arguments_from i (x ∷ xs) ps) s
      ≡ joined (made_by (argument (slice_get ps i) x) s) (made_by (arguments_from (i + 1) xs ps) (after (argument (slice_get ps i) x) s))
  unfolding arguments_from
  more_made x xs = simp (then_made, pure_made)

  more_after : (x : Piece) (xs : List Piece) → after (arguments_from i (x ∷ xs) ps) s ≡ after (arguments_from (i + 1) xs ps) (after (argument (slice_get ps i) x) s)
  unfolding arguments_from
  more_after x xs = simp (then_after, pure_after)

-- what is given so far, and what the arguments that are left give, is what all give
pub record Left (ps : List ParameterKind) (all : List Piece) (s0 : Typer) (i : ℕ) (rest : List Piece) (given : Given) (s : Typer) : Type 0 where
  pub made : made_by (arguments all ps) s0 ≡ joined given (made_by (arguments_from i rest ps) s)
  pub state : after (arguments all ps) s0 ≡ after (arguments_from i rest ps) s

pub left_init : (ps : List ParameterKind) (all : List Piece) (s0 : Typer) → Left ps all s0 0 all nothing_given s0
left_init ps all s0 = record { made = refl; state = refl }

pub left_turn : (ps : List ParameterKind) (all : List Piece) (s0 : Typer) (list : List ExprTree) (i : ℕ) (x : ExprTree) (given given' : Given) (p : Option ParameterKind) (s s' : Typer) → i < length list → x ≡ get_or list i x
    → p ≡ slice_get ps i → given' ≡ joined given (made_by (argument p (piece x)) s) → s' ≡ after (argument p (piece x)) s
    → Left ps all s0 i (map piece (drop i list)) given s → Left ps all s0 (i + 1) (map piece (drop (i + 1) list)) given' s'
left_turn ps all s0 list i x given given' p s s' within is ep eg es l =
    let here : drop i list ≡ x ∷ drop (i + 1) list = subst (λ y. drop i list ≡ y ∷ drop (i + 1) list) (sym is) (drop_more list i x within) in
    let ys = map piece (drop (i + 1) list) in
    let all' : map piece (drop i list) ≡ piece x ∷ ys = ap (map piece) here in
    record {
      made =
          l.made ∙ ap (λ zs. joined given (made_by (arguments_from i zs ps) s)) all' ∙ ap (joined given) (more_made ps i s (piece x) ys)
          ∙ sym (joined_again given (made_by (argument (slice_get ps i) (piece x)) s) _) ∙ rw (eg, es, ep) refl;
      state = l.state ∙ ap (λ zs. after (arguments_from i zs ps) s) all' ∙ more_after ps i s (piece x) ys ∙ rw (es, ep) refl;
    }

module _ (ps : List ParameterKind) (all : List Piece) (s0 : Typer) (list : List ExprTree) (i : ℕ) (given : Given) (s : Typer) (end : length list ≤ i) (l : Left ps all s0 i (map piece (drop i list)) given s) where
  none_left : map piece (drop i list) ≡ []
  none_left = ap (map piece) (drop_all i list end)

  pub left_made : given ≡ made_by (arguments all ps) s0
  left_made = sym (l.made ∙ ap (λ zs. joined given (made_by (arguments_from i zs ps) s)) none_left ∙ ap (joined given) (none_made ps i s) ∙ joined_none given)

  pub left_after : s ≡ after (arguments all ps) s0
  left_after = sym (l.state ∙ ap (λ zs. after (arguments_from i zs ps) s) none_left ∙ none_after ps i s)

-- ---- constant expressions

module _ (kind : Option Kind) (t : ExprTree) (s : Typer) where
  pub constant_made : made_by (constant kind t) s
      ≡ (let e = made_by (integer (piece t)) (numbered_from 0 s) in
      made_by (constant_of t.span (folded (fitted kind e))) (numbered_from s.temporary (after (integer (piece t)) (numbered_from 0 s))))
  unfolding constant
  constant_made = simp (then_made, uncounted_made, uncounted_after)

  pub constant_after : after (constant kind t) s
      ≡ (let e = made_by (integer (piece t)) (numbered_from 0 s) in
      after (constant_of t.span (folded (fitted kind e))) (numbered_from s.temporary (after (integer (piece t)) (numbered_from 0 s))))
  unfolding constant
  constant_after = simp (then_after, uncounted_made, uncounted_after)

pub ruleset constant_laws = (constant_made, constant_after, pure_made, pure_after, fault_made, fault_after)
