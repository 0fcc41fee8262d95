-- The faults of expressions.
use Rattle.std.proofs.Common.{◌≡◌, ℕ, ◌+◌, Bool, true, List, [], ◌∷◌, map, length, Option, Some, None, refl, sym, subst, rules}
use Rattle.std.specs.Prelude.{IsTrue, ◌&&◌, slice_get}
use Rattle.std.specs.List.{AllByRecursion, list_all}
use Rattle.fq_core.specs.declared.span.Span.{Span}
use Rattle.c_values.specs.declared.kinds.Kind.{Kind}
use Rattle.c_values.specs.declared.operators.UnaryOp.{UnaryOp}
use Rattle.c_values.specs.declared.operators.BinaryOp.{BinaryOp}
use Rattle.c_values.specs.Kind.{is_kind}
use Rattle.c_values.proofs.Fitting.{and_left, and_right}
use Rattle.c_parse.specs.declared.expr.ExprForm.{ExprForm, roll-ExprForm, fold-ExprForm, the_lemmas}
use Rattle.c_parse.specs.declared.expr.ExprForm.TheOpen.{ExprForm-F, ExprTree-F}
use Rattle.c_parse.specs.declared.expr.ExprTree.{ExprTree, roll-ExprTree, ind-ExprTree}
use Rattle.c_types_laws.specs.tree_contents.Contents.{form_step, tree_passes}
use Rattle.cfa.specs.declared.parts.Variable.{Variable}
use Rattle.c_type_rules.specs.declared.constants.Folded.{Folded}
use Rattle.c_type_rules.specs.declared.constants.Folded.TheVariants as folds
use Rattle.c_type_rules.specs.declared.scopes.Bound.{Bound}
use Rattle.c_type_rules.specs.declared.scopes.ParameterKind.{ParameterKind}
use Rattle.c_type_rules.specs.declared.scopes.Signature.{Signature}
use Rattle.c_type_rules.specs.declared.scopes.Meaning.{Meaning}
use Rattle.c_type_rules.specs.declared.scopes.Meaning.TheVariants as meanings
use Rattle.c_type_rules.specs.declared.typer.Sort.{Sort}
use Rattle.c_type_rules.specs.declared.typer.Sort.TheVariants as sorts
use Rattle.c_type_rules.specs.Constants.{folded}
use Rattle.c_type_rules.specs.Rule.{Rule}
use Rattle.c_type_rules.specs.Expressions.{Piece, wanted, integer, named, name_at, array_if, array_meant, array_named, array_at, callable, function_meant, function_named, function_at, lent, argument_if, argument, arguments_from, call_rule, form_rule, form_typing, piece, fitted, constant_of, constant}
use Rattle.c_types_laws.proofs.typing_faults.Telling.{all_mapped, Tells, then_tells, pure_tells, fault_tells, expect_tells, look_tells, temporary_tells, uncounted_tells}

module _ (number : ℕ → Kind → Bool) (place : Span → Bool) where
  abbrev pub passes : ExprTree → Bool
  passes = tree_passes number place

  abbrev Fine : {A : Type 0} → Rule A → Type 0
  Fine m = Tells place m

  -- an expression whose place passes, and all of whose faults do
  pub record PieceTells (x : Piece) : Type 0 where
    pub span : IsTrue (place x.span)
    pub sort : Fine x.sort

  -- ---- names

  wanted_tells : (span : Span) → IsTrue (place span) → (s : Sort) → Fine (wanted span s)
  wanted_tells span p (sorts.Value e) = pure_tells place e
  wanted_tells span p (sorts.Array v) = fault_tells place 33 span _ refl p
  wanted_tells span p sorts.Other = fault_tells place 33 span _ refl p

  pub integer_tells : (x : Piece) → PieceTells x → Fine (integer x)
  unfolding integer
  integer_tells x h = then_tells place h.sort (wanted_tells x.span h.span)

  name_tells : (span : Span) → IsTrue (place span) → (w : List ℕ) → Fine (name_at span w)
  unfolding name_at
  name_tells span p w = then_tells place (look_tells place w) named_tells
    where
      named_tells : (found : Option Bound) → Fine (named span found)
      named_tells None = fault_tells place 30 span _ refl p
      named_tells (Some b) = pure_tells place _

  pub array_tells : (span : Span) → IsTrue (place span) → (w : List ℕ) → Fine (array_at span w)
  unfolding array_at
  array_tells span p w = then_tells place (look_tells place w) named_tells
    where
      if_tells : (v : Variable) (length : Option ℕ) → Fine (array_if span v length)
      if_tells v None = fault_tells place 33 span _ refl p
      if_tells v (Some n) = pure_tells place _

      meant_tells : (m : Meaning) → Fine (array_meant span m)
      meant_tells (meanings.Variable v) = if_tells v v.length
      meant_tells (meanings.Constant n) = fault_tells place 33 span _ refl p
      meant_tells (meanings.Function f) = fault_tells place 33 span _ refl p

      named_tells : (found : Option Bound) → Fine (array_named span found)
      named_tells None = fault_tells place 30 span _ refl p
      named_tells (Some b) = meant_tells b.meaning

  callable_tells : (span : Span) → IsTrue (place span) → (count : ℕ) (f : Signature) → Fine (callable span count f)
  unfolding callable
  callable_tells span p count f =
      then_tells place (expect_tells place 32 span _ refl p) (λ u. then_tells place (expect_tells place 39 span _ refl p) (λ v. pure_tells place f))

  function_tells : (span : Span) → IsTrue (place span) → (w : List ℕ) (count : ℕ) → Fine (function_at span w count)
  unfolding function_at
  function_tells span p w count = then_tells place (look_tells place w) named_tells
    where
      meant_tells : (m : Meaning) → Fine (function_meant span count m)
      meant_tells (meanings.Variable v) = fault_tells place 33 span _ refl p
      meant_tells (meanings.Constant n) = fault_tells place 33 span _ refl p
      meant_tells (meanings.Function f) = callable_tells span p count f

      named_tells : (found : Option Bound) → Fine (function_named span count found)
      named_tells None = fault_tells place 30 span _ refl p
      named_tells (Some b) = meant_tells b.meaning

  -- ---- calls

  lent_tells : (span : Span) → IsTrue (place span) → (kind : Kind) (n : ℕ) (s : Sort) → Fine (lent span kind n s)
  lent_tells span p kind n (sorts.Value e) = fault_tells place 35 span _ refl p
  lent_tells span p kind n (sorts.Array v) = then_tells place (expect_tells place 35 span _ refl p) (λ u. pure_tells place _)
  lent_tells span p kind n sorts.Other = fault_tells place 35 span _ refl p

  argument_if_tells : (x : Piece) → PieceTells x → (kind : Kind) (length : Option ℕ) → Fine (argument_if x kind length)
  argument_if_tells x h kind None = then_tells place (integer_tells x h) (λ a. pure_tells place _)
  argument_if_tells x h kind (Some n) = then_tells place h.sort (lent_tells x.span h.span kind n)

  argument_tells : (p : Option ParameterKind) (x : Piece) → PieceTells x → Fine (argument p x)
  unfolding argument
  argument_tells None x h = then_tells place (integer_tells x h) (λ a. pure_tells place _)
  argument_tells (Some p) x h = argument_if_tells x h p.kind p.length

  arguments_tells : (i : ℕ) (xs : List Piece) (ps : List ParameterKind) → AllByRecursion PieceTells xs → Fine (arguments_from i xs ps)
  unfolding arguments_from
  arguments_tells i [] ps h = pure_tells place _
  arguments_tells i (x ∷ xs) ps h =
      then_tells place (argument_tells (slice_get ps i) x h.0) (λ g. then_tells place (arguments_tells (i + 1) xs ps h.1) (λ k. pure_tells place _))

  pub call_tells : (span : Span) → IsTrue (place span) → (w : List ℕ) (xs : List Piece) → AllByRecursion PieceTells xs → Fine (call_rule span w xs)
  unfolding call_rule
  call_tells span p w xs h =
      then_tells place (temporary_tells place) (λ cell. then_tells place (function_tells span p w (length xs)) (λ f.
      then_tells place (arguments_tells 0 xs f.parameters h) (λ given. pure_tells place _)))

  -- ---- expressions

  abbrev form_passes : ExprForm → Bool
  form_passes = fold-ExprForm Bool Bool (form_step number place) (λ t. place t.span && t.form)

  abbrev FormTells : ExprForm → Type 0
  FormTells f = (span : Span) → IsTrue (place span) → IsTrue (form_passes f) → Fine (form_typing f span)

  abbrev TreeTells : ExprTree → Type 0
  TreeTells t = IsTrue (passes t) → PieceTells (piece t)

  form_is : (x : ExprForm-F ExprForm ExprTree) (rule : Span → Rule Sort) (b : Bool) → form_typing (roll-ExprForm x) ≡ rule → form_passes (roll-ExprForm x) ≡ b
      → ((span : Span) → IsTrue (place span) → IsTrue b → Fine (rule span)) → FormTells (roll-ExprForm x)
  form_is x rule b e g h span s p = subst (λ (r : Span → Rule Sort). Fine (r span)) (sym e) (h span s (subst IsTrue g p))

  of : (t : ExprTree) → TreeTells t → IsTrue (passes t) → Fine (integer (piece t))
  of t h p = integer_tells (piece t) (h p)

  number_at : (v : ℕ) (kind : Kind) → FormTells (roll-ExprForm (ExprForm-F.Number v kind))
  unfolding form_typing piece
  number_at v kind =
      form_is (ExprForm-F.Number v kind) (form_rule (ExprForm-F.Number v kind)) (number v kind) (search (rules, the_lemmas)) (search (rules, the_lemmas))
      (λ span s p. pure_tells place _)

  name_tree_at : (w : List ℕ) → FormTells (roll-ExprForm (ExprForm-F.Name w))
  unfolding form_typing piece
  name_tree_at w = form_is (ExprForm-F.Name w) (form_rule (ExprForm-F.Name w)) true (search (rules, the_lemmas)) (search (rules, the_lemmas)) (λ span s p. name_tells span s w)

  element_at : (w : List ℕ) (x : ExprTree) → TreeTells x → FormTells (roll-ExprForm (ExprForm-F.Element w x))
  unfolding form_typing piece tree_passes
  element_at w x h =
      form_is (ExprForm-F.Element w x) (form_rule (ExprForm-F.Element w (piece x))) (passes x) (search (rules, the_lemmas)) (search (rules, the_lemmas))
      (λ span s p. then_tells place (array_tells span s w) (λ v. then_tells place (of x h p) (λ i. pure_tells place _)))

  call_at : (w : List ℕ) (xs : List ExprTree) → AllByRecursion TreeTells xs → FormTells (roll-ExprForm (ExprForm-F.Call w xs))
  unfolding form_typing piece tree_passes
  call_at w xs h =
      form_is (ExprForm-F.Call w xs) (form_rule (ExprForm-F.Call w (map piece xs))) (list_all (λ a. a) (map passes xs)) (search (rules, the_lemmas)) (search (rules, the_lemmas))
      (λ span s p. then_tells place (call_tells span s w (map piece xs) (pieces xs h p)) (λ c. pure_tells place _))
    where
      pieces : (ts : List ExprTree) → AllByRecursion TreeTells ts → IsTrue (list_all (λ a. a) (map passes ts)) → AllByRecursion PieceTells (map piece ts)
      pieces [] k p = tt
      pieces (t ∷ ts) k p = (k.0 (and_left (passes t) (list_all (λ a. a) (map passes ts)) p), pieces ts k.1 (and_right (passes t) (list_all (λ a. a) (map passes ts)) p))

  cast_at : (kind : Kind) (x : ExprTree) → TreeTells x → FormTells (roll-ExprForm (ExprForm-F.Cast kind x))
  unfolding form_typing piece tree_passes
  cast_at kind x h =
      form_is (ExprForm-F.Cast kind x) (form_rule (ExprForm-F.Cast kind (piece x))) (is_kind kind && passes x) (search (rules, the_lemmas)) (search (rules, the_lemmas))
      (λ span s p. then_tells place (of x h (and_right (is_kind kind) (passes x) p)) (λ a. pure_tells place _))

  plus_at : (x : ExprTree) → TreeTells x → FormTells (roll-ExprForm (ExprForm-F.Plus x))
  unfolding form_typing piece tree_passes
  plus_at x h =
      form_is (ExprForm-F.Plus x) (form_rule (ExprForm-F.Plus (piece x))) (passes x) (search (rules, the_lemmas)) (search (rules, the_lemmas))
      (λ span s p. then_tells place (of x h p) (λ a. pure_tells place _))

  unary_at : (op : UnaryOp) (x : ExprTree) → TreeTells x → FormTells (roll-ExprForm (ExprForm-F.Unary op x))
  unfolding form_typing piece tree_passes
  unary_at op x h =
      form_is (ExprForm-F.Unary op x) (form_rule (ExprForm-F.Unary op (piece x))) (passes x) (search (rules, the_lemmas)) (search (rules, the_lemmas))
      (λ span s p. then_tells place (of x h p) (λ a. pure_tells place _))

  binary_at : (op : BinaryOp) (x y : ExprTree) → TreeTells x → TreeTells y → FormTells (roll-ExprForm (ExprForm-F.Binary op x y))
  unfolding form_typing piece tree_passes
  binary_at op x y h k =
      form_is (ExprForm-F.Binary op x y) (form_rule (ExprForm-F.Binary op (piece x) (piece y))) (passes x && passes y) (search (rules, the_lemmas)) (search (rules, the_lemmas))
      (λ span s p. then_tells place (of x h (and_left (passes x) (passes y) p)) (λ a. then_tells place (of y k (and_right (passes x) (passes y) p)) (λ b. pure_tells place _)))

  both_at : (x y : ExprTree) → TreeTells x → TreeTells y → FormTells (roll-ExprForm (ExprForm-F.Both x y))
  unfolding form_typing piece tree_passes
  both_at x y h k =
      form_is (ExprForm-F.Both x y) (form_rule (ExprForm-F.Both (piece x) (piece y))) (passes x && passes y) (search (rules, the_lemmas)) (search (rules, the_lemmas))
      (λ span s p. then_tells place (temporary_tells place) (λ cell. then_tells place (of x h (and_left (passes x) (passes y) p)) (λ a. then_tells place (of y k (and_right (passes x) (passes y) p)) (λ b. pure_tells place _))))

  either_at : (x y : ExprTree) → TreeTells x → TreeTells y → FormTells (roll-ExprForm (ExprForm-F.Either x y))
  unfolding form_typing piece tree_passes
  either_at x y h k =
      form_is (ExprForm-F.Either x y) (form_rule (ExprForm-F.Either (piece x) (piece y))) (passes x && passes y) (search (rules, the_lemmas)) (search (rules, the_lemmas))
      (λ span s p. then_tells place (temporary_tells place) (λ cell. then_tells place (of x h (and_left (passes x) (passes y) p)) (λ a. then_tells place (of y k (and_right (passes x) (passes y) p)) (λ b. pure_tells place _))))

  choice_at : (x y z : ExprTree) → TreeTells x → TreeTells y → TreeTells z → FormTells (roll-ExprForm (ExprForm-F.Choice x y z))
  unfolding form_typing piece tree_passes
  choice_at x y z h k l =
      form_is (ExprForm-F.Choice x y z) (form_rule (ExprForm-F.Choice (piece x) (piece y) (piece z))) (passes x && passes y && passes z) (search (rules, the_lemmas)) (search (rules, the_lemmas))
      (λ span s p.
      let two = and_left (passes x && passes y) (passes z) p in
      then_tells place (temporary_tells place) (λ cell. then_tells place (of x h (and_left (passes x) (passes y) two)) (λ a. then_tells place (of y k (and_right (passes x) (passes y) two)) (λ b.
      then_tells place (of z l (and_right (passes x && passes y) (passes z) p)) (λ c. pure_tells place _)))))

  tree_at : (x : ExprTree-F ExprForm ExprTree) → FormTells x.form → TreeTells (roll-ExprTree x)
  unfolding form_typing piece tree_passes
  tree_at x h p =
      let is : piece (roll-ExprTree x) ≡ record { span = x.span; sort = form_typing x.form x.span } = search (rules, the_lemmas) in
      let tests : passes (roll-ExprTree x) ≡ (place x.span && form_passes x.form) = search (rules, the_lemmas) in
      let both : IsTrue (place x.span && form_passes x.form) = subst IsTrue tests p in
      let s = and_left (place x.span) (form_passes x.form) both in
      subst PieceTells (sym is) (record { span = s; sort = h x.span s (and_right (place x.span) (form_passes x.form) both) })

  pub tree_tells : (t : ExprTree) → TreeTells t
  tree_tells t = ind-ExprTree FormTells TreeTells (λ x. elim [
    | ExprForm-F.Number v kind ↦ λ e. subst (λ z. FormTells (roll-ExprForm z)) e (number_at v kind)
    | ExprForm-F.Name w ↦ λ e. subst (λ z. FormTells (roll-ExprForm z)) e (name_tree_at w)
    | ExprForm-F.Element w x ↦ λ e. subst (λ z. FormTells (roll-ExprForm z)) e (element_at w x.0 x.1)
    | ExprForm-F.Call w xs ↦ λ e. subst (λ z. FormTells (roll-ExprForm z)) e (call_at w _ (all_mapped TreeTells (λ q. q.0) (λ q. q.1) xs))
    | ExprForm-F.Cast kind x ↦ λ e. subst (λ z. FormTells (roll-ExprForm z)) e (cast_at kind x.0 x.1)
    | ExprForm-F.Plus x ↦ λ e. subst (λ z. FormTells (roll-ExprForm z)) e (plus_at x.0 x.1)
    | ExprForm-F.Unary op x ↦ λ e. subst (λ z. FormTells (roll-ExprForm z)) e (unary_at op x.0 x.1)
    | ExprForm-F.Binary op x y ↦ λ e. subst (λ z. FormTells (roll-ExprForm z)) e (binary_at op x.0 y.0 x.1 y.1)
    | ExprForm-F.Both x y ↦ λ e. subst (λ z. FormTells (roll-ExprForm z)) e (both_at x.0 y.0 x.1 y.1)
    | ExprForm-F.Either x y ↦ λ e. subst (λ z. FormTells (roll-ExprForm z)) e (either_at x.0 y.0 x.1 y.1)
    | ExprForm-F.Choice x y z ↦ λ e. subst (λ w. FormTells (roll-ExprForm w)) e (choice_at x.0 y.0 z.0 x.1 y.1 z.1)
  ]) (λ x y e. subst (λ z. TreeTells (roll-ExprTree z)) e (tree_at (record { span = y.span; form = y.form.0 }) y.form.1)) t

  pub expression_tells : (t : ExprTree) → IsTrue (passes t) → Fine (integer (piece t))
  expression_tells t p = of t (tree_tells t) p

  -- ---- constant expressions

  constant_of_tells : (span : Span) → IsTrue (place span) → (f : Folded) → Fine (constant_of span f)
  constant_of_tells span s folds.Varying = fault_tells place 38 span _ refl s
  constant_of_tells span s folds.Undefined = fault_tells place 38 span _ refl s
  constant_of_tells span s (folds.Value v) = pure_tells place _

  abbrev SpanPasses : ExprTree → Type 0
  SpanPasses t = IsTrue (passes t) → IsTrue (place t.span)

  span_at : (x : ExprTree-F ExprForm ExprTree) → SpanPasses (roll-ExprTree x)
  unfolding tree_passes
  span_at x p =
      let is : (roll-ExprTree x).span ≡ x.span = search (rules, the_lemmas) in
      let tests : passes (roll-ExprTree x) ≡ (place x.span && form_passes x.form) = search (rules, the_lemmas) in
      subst (λ (s : Span). IsTrue (place s)) (sym is) (and_left (place x.span) (form_passes x.form) (subst IsTrue tests p))

  pub span_passes : (t : ExprTree) → SpanPasses t
  span_passes t = ind-ExprTree (λ f. Unit {0}) SpanPasses (λ x y e. tt) (λ x y e. subst (λ z. SpanPasses (roll-ExprTree z)) e (span_at (record { span = y.span; form = y.form.0 }))) t

  pub constant_tells : (kind : Option Kind) (t : ExprTree) → IsTrue (passes t) → Fine (constant kind t)
  unfolding constant
  constant_tells kind t p = then_tells place (uncounted_tells place (expression_tells t p)) (λ e. constant_of_tells t.span (span_passes t p) (folded (fitted kind e)))
