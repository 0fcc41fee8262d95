-- Rules that add no names and no cells of locals, as those of expressions.
use Rattle.std.proofs.Common.{◌≡◌, ℕ, ◌+◌, Bool, true, false, List, [], ◌∷◌, ◌++◌, map, length, Option, Some, None, refl, sym, subst, rules}
use Rattle.std.specs.Prelude.{slice_get}
use Rattle.std.specs.List.{AllByRecursion}
use Rattle.fq_core.specs.declared.span.Span.{Span}
use Rattle.c_values.specs.declared.kinds.Kind.{Kind}
use Rattle.c_values.specs.declared.operators.UnaryOp.{UnaryOp}
use Rattle.c_values.specs.declared.operators.BinaryOp.{BinaryOp}
use Rattle.c_parse.specs.declared.expr.ExprForm.{ExprForm, roll-ExprForm, the_lemmas}
use Rattle.c_parse.specs.declared.expr.ExprForm.TheOpen.{ExprForm-F, ExprTree-F}
use Rattle.c_parse.specs.declared.expr.ExprTree.{ExprTree, roll-ExprTree, ind-ExprTree}
use Rattle.cfa.specs.declared.parts.Variable.{Variable}
use Rattle.c_type_rules.specs.declared.scopes.Bound.{Bound}
use Rattle.c_type_rules.specs.declared.scopes.ParameterKind.{ParameterKind}
use Rattle.c_type_rules.specs.declared.scopes.Signature.{Signature}
use Rattle.c_type_rules.specs.declared.scopes.Meaning.{Meaning}
use Rattle.c_type_rules.specs.declared.scopes.Meaning.TheVariants as meanings
use Rattle.c_type_rules.specs.declared.typer.Sort.{Sort}
use Rattle.c_type_rules.specs.declared.typer.Sort.TheVariants as sorts
use Rattle.c_type_rules.specs.declared.constants.Folded.{Folded}
use Rattle.c_type_rules.specs.declared.constants.Folded.TheVariants as folds
use Rattle.c_type_rules.specs.Constants.{folded}
use Rattle.c_type_rules.specs.Rule.{At, Rule, behind, pure, ◌then◌, fault, expect, look, temporary, uncounted}
use Rattle.c_type_rules.specs.Expressions.{Piece, wanted, integer, named, name_at, array_if, array_meant, array_named, array_at, callable, function_meant, function_named, function_at, lent, argument_if, argument, arguments_from, call_rule, form_rule, form_typing, piece, fitted, constant_of, constant}

pub all_mapped : {A B : Type 0} (P : B → Type 0) (f : A → B) → ((x : A) → P (f x)) → (xs : List A) → AllByRecursion P (map f xs)
all_mapped P f h [] = tt
all_mapped P f h (x ∷ xs) = (h x, all_mapped P f h xs)

pub record Silent {A : Type 0} (m : Rule A) : Type 0 where
  pub bound : (at : At) → (m at).bound ≡ []
  pub locals : (at : At) → (m at).locals ≡ 0

-- ---- the rules that others are made of

pub then_silent : {A B : Type 0} {m : Rule A} {k : A → Rule B} → Silent m → ((x : A) → Silent (k x)) → Silent (m then k)
unfolding ◌then◌
then_silent {m = m} {k = k} h g = record {
  bound = λ at i. h.bound at i ++ (g (m at).made).bound (behind at (m at)) i;
  locals = λ at i. h.locals at i + (g (m at).made).locals (behind at (m at)) i;
}

pub pure_silent : {A : Type 0} (x : A) → Silent (pure x)
unfolding pure
pure_silent x = record { bound = λ at. refl; locals = λ at. refl }

pub fault_silent : {A : Type 0} (code : ℕ) (span : Span) (x : A) → Silent (fault code span x)
unfolding fault
fault_silent code span x = record { bound = λ at. refl; locals = λ at. refl }

pub expect_silent : (code : ℕ) (span : Span) (b : Bool) → Silent (expect code span b)
unfolding expect
expect_silent code span true = pure_silent tt
expect_silent code span false = fault_silent code span tt

pub look_silent : (w : List ℕ) → Silent (look w)
unfolding look
look_silent w = record { bound = λ at. refl; locals = λ at. refl }

pub temporary_silent : Silent temporary
unfolding temporary
temporary_silent = record { bound = λ at. refl; locals = λ at. refl }

uncounted_silent : {A : Type 0} {m : Rule A} → Silent m → Silent (uncounted m)
unfolding uncounted
uncounted_silent {m = m} h = record {
  bound = λ at. h.bound (record { bound = at.bound; labels = at.labels; cases = at.cases; level = at.level; local = at.local; temporary = 0 });
  locals = λ at. h.locals (record { bound = at.bound; labels = at.labels; cases = at.cases; level = at.level; local = at.local; temporary = 0 });
}

-- ---- names

wanted_silent : (span : Span) (s : Sort) → Silent (wanted span s)
wanted_silent span (sorts.Value e) = pure_silent _
wanted_silent span (sorts.Array v) = fault_silent 33 span _
wanted_silent span sorts.Other = fault_silent 33 span _

abbrev pub IsSilent : Piece → Type 0
IsSilent x = Silent x.sort

integer_silent : (x : Piece) → IsSilent x → Silent (integer x)
unfolding integer
integer_silent x h = then_silent h (wanted_silent x.span)

name_silent : (span : Span) (w : List ℕ) → Silent (name_at span w)
unfolding name_at
name_silent span w = then_silent (look_silent w) named_silent
  where
    named_silent : (found : Option Bound) → Silent (named span found)
    named_silent None = fault_silent 30 span _
    named_silent (Some b) = pure_silent _

array_silent : (span : Span) (w : List ℕ) → Silent (array_at span w)
unfolding array_at
array_silent span w = then_silent (look_silent w) named_silent
  where
    if_silent : (v : Variable) (length : Option ℕ) → Silent (array_if span v length)
    if_silent v None = fault_silent 33 span _
    if_silent v (Some n) = pure_silent _

    meant_silent : (m : Meaning) → Silent (array_meant span m)
    meant_silent (meanings.Variable v) = if_silent v v.length
    meant_silent (meanings.Constant n) = fault_silent 33 span _
    meant_silent (meanings.Function f) = fault_silent 33 span _

    named_silent : (found : Option Bound) → Silent (array_named span found)
    named_silent None = fault_silent 30 span _
    named_silent (Some b) = meant_silent b.meaning

callable_silent : (span : Span) (count : ℕ) (f : Signature) → Silent (callable span count f)
unfolding callable
callable_silent span count f = then_silent (expect_silent 32 span _) (λ u. then_silent (expect_silent 39 span _) (λ v. pure_silent f))

function_silent : (span : Span) (w : List ℕ) (count : ℕ) → Silent (function_at span w count)
unfolding function_at
function_silent span w count = then_silent (look_silent w) named_silent
  where
    meant_silent : (m : Meaning) → Silent (function_meant span count m)
    meant_silent (meanings.Variable v) = fault_silent 33 span _
    meant_silent (meanings.Constant n) = fault_silent 33 span _
    meant_silent (meanings.Function f) = callable_silent span count f

    named_silent : (found : Option Bound) → Silent (function_named span count found)
    named_silent None = fault_silent 30 span _
    named_silent (Some b) = meant_silent b.meaning

-- ---- calls

lent_silent : (span : Span) (kind : Kind) (n : ℕ) (s : Sort) → Silent (lent span kind n s)
lent_silent span kind n (sorts.Value e) = fault_silent 35 span _
lent_silent span kind n (sorts.Array v) = then_silent (expect_silent 35 span _) (λ u. pure_silent _)
lent_silent span kind n sorts.Other = fault_silent 35 span _

argument_if_silent : (x : Piece) → IsSilent x → (kind : Kind) (length : Option ℕ) → Silent (argument_if x kind length)
argument_if_silent x h kind None = then_silent (integer_silent x h) (λ a. pure_silent _)
argument_if_silent x h kind (Some n) = then_silent h (lent_silent x.span kind n)

argument_silent : (p : Option ParameterKind) (x : Piece) → IsSilent x → Silent (argument p x)
unfolding argument
argument_silent None x h = then_silent (integer_silent x h) (λ a. pure_silent _)
argument_silent (Some p) x h = argument_if_silent x h p.kind p.length

arguments_silent : (i : ℕ) (xs : List Piece) (ps : List ParameterKind) → AllByRecursion IsSilent xs → Silent (arguments_from i xs ps)
unfolding arguments_from
arguments_silent i [] ps h = pure_silent _
arguments_silent i (x ∷ xs) ps h = then_silent (argument_silent (slice_get ps i) x h.0) (λ g. then_silent (arguments_silent (i + 1) xs ps h.1) (λ k. pure_silent _))

call_silent : (span : Span) (w : List ℕ) (xs : List Piece) → AllByRecursion IsSilent xs → Silent (call_rule span w xs)
unfolding call_rule
call_silent span w xs h =
    then_silent temporary_silent (λ cell. then_silent (function_silent span w (length xs)) (λ f. then_silent (arguments_silent 0 xs f.parameters h) (λ given. pure_silent _)))

-- ---- expressions

abbrev FormSilent : ExprForm → Type 0
FormSilent f = (span : Span) → Silent (form_typing f span)

abbrev RuleSilent : (Span → Rule Sort) → Type 0
RuleSilent f = (span : Span) → Silent (f span)

abbrev TreeSilent : ExprTree → Type 0
TreeSilent t = IsSilent (piece t)

form_is : (x : ExprForm-F ExprForm ExprTree) (rule : Span → Rule Sort) → form_typing (roll-ExprForm x) ≡ rule → RuleSilent rule → FormSilent (roll-ExprForm x)
form_is x rule e h = subst RuleSilent (sym e) h

of : (t : ExprTree) → TreeSilent t → Silent (integer (piece t))
of t h = integer_silent (piece t) h

number_at : (v : ℕ) (kind : Kind) → FormSilent (roll-ExprForm (ExprForm-F.Number v kind))
unfolding form_typing piece
number_at v kind = form_is (ExprForm-F.Number v kind) (form_rule (ExprForm-F.Number v kind)) (search (rules, the_lemmas)) (λ span. pure_silent _)

name_tree_at : (w : List ℕ) → FormSilent (roll-ExprForm (ExprForm-F.Name w))
unfolding form_typing piece
name_tree_at w = form_is (ExprForm-F.Name w) (form_rule (ExprForm-F.Name w)) (search (rules, the_lemmas)) (λ span. name_silent span w)

element_at : (w : List ℕ) (x : ExprTree) → TreeSilent x → FormSilent (roll-ExprForm (ExprForm-F.Element w x))
unfolding form_typing piece
element_at w x h =
    form_is (ExprForm-F.Element w x) (form_rule (ExprForm-F.Element w (piece x))) (search (rules, the_lemmas))
    (λ span. then_silent (array_silent span w) (λ v. then_silent (of x h) (λ i. pure_silent _)))

call_at : (w : List ℕ) (xs : List ExprTree) → AllByRecursion TreeSilent xs → FormSilent (roll-ExprForm (ExprForm-F.Call w xs))
unfolding form_typing piece
call_at w xs h =
    form_is (ExprForm-F.Call w xs) (form_rule (ExprForm-F.Call w (map piece xs))) (search (rules, the_lemmas))
    (λ span. then_silent (call_silent span w (map piece xs) (pieces xs h)) (λ c. pure_silent _))
  where
    pieces : (ts : List ExprTree) → AllByRecursion TreeSilent ts → AllByRecursion IsSilent (map piece ts)
    pieces [] k = tt
    pieces (t ∷ ts) k = (k.0, pieces ts k.1)

cast_at : (kind : Kind) (x : ExprTree) → TreeSilent x → FormSilent (roll-ExprForm (ExprForm-F.Cast kind x))
unfolding form_typing piece
cast_at kind x h = form_is (ExprForm-F.Cast kind x) (form_rule (ExprForm-F.Cast kind (piece x))) (search (rules, the_lemmas)) (λ span. then_silent (of x h) (λ a. pure_silent _))

plus_at : (x : ExprTree) → TreeSilent x → FormSilent (roll-ExprForm (ExprForm-F.Plus x))
unfolding form_typing piece
plus_at x h = form_is (ExprForm-F.Plus x) (form_rule (ExprForm-F.Plus (piece x))) (search (rules, the_lemmas)) (λ span. then_silent (of x h) (λ a. pure_silent _))

unary_at : (op : UnaryOp) (x : ExprTree) → TreeSilent x → FormSilent (roll-ExprForm (ExprForm-F.Unary op x))
unfolding form_typing piece
unary_at op x h = form_is (ExprForm-F.Unary op x) (form_rule (ExprForm-F.Unary op (piece x))) (search (rules, the_lemmas)) (λ span. then_silent (of x h) (λ a. pure_silent _))

binary_at : (op : BinaryOp) (x y : ExprTree) → TreeSilent x → TreeSilent y → FormSilent (roll-ExprForm (ExprForm-F.Binary op x y))
unfolding form_typing piece
binary_at op x y h k =
    form_is (ExprForm-F.Binary op x y) (form_rule (ExprForm-F.Binary op (piece x) (piece y))) (search (rules, the_lemmas))
    (λ span. then_silent (of x h) (λ a. then_silent (of y k) (λ b. pure_silent _)))

both_at : (x y : ExprTree) → TreeSilent x → TreeSilent y → FormSilent (roll-ExprForm (ExprForm-F.Both x y))
unfolding form_typing piece
both_at x y h k =
    form_is (ExprForm-F.Both x y) (form_rule (ExprForm-F.Both (piece x) (piece y))) (search (rules, the_lemmas))
    (λ span. then_silent temporary_silent (λ cell. then_silent (of x h) (λ a. then_silent (of y k) (λ b. pure_silent _))))

either_at : (x y : ExprTree) → TreeSilent x → TreeSilent y → FormSilent (roll-ExprForm (ExprForm-F.Either x y))
unfolding form_typing piece
either_at x y h k =
    form_is (ExprForm-F.Either x y) (form_rule (ExprForm-F.Either (piece x) (piece y))) (search (rules, the_lemmas))
    (λ span. then_silent temporary_silent (λ cell. then_silent (of x h) (λ a. then_silent (of y k) (λ b. pure_silent _))))

choice_at : (x y z : ExprTree) → TreeSilent x → TreeSilent y → TreeSilent z → FormSilent (roll-ExprForm (ExprForm-F.Choice x y z))
unfolding form_typing piece
choice_at x y z h k l =
    form_is (ExprForm-F.Choice x y z) (form_rule (ExprForm-F.Choice (piece x) (piece y) (piece z))) (search (rules, the_lemmas))
    (λ span. then_silent temporary_silent (λ cell. then_silent (of x h) (λ a. then_silent (of y k) (λ b. then_silent (of z l) (λ c. pure_silent _)))))

tree_at : (x : ExprTree-F ExprForm ExprTree) → FormSilent x.form → TreeSilent (roll-ExprTree x)
unfolding form_typing piece
tree_at x h = subst IsSilent (sym e) (h x.span)
  where
    e : piece (roll-ExprTree x) ≡ record { span = x.span; sort = form_typing x.form x.span }
    e = search (rules, the_lemmas)

tree_silent : (t : ExprTree) → TreeSilent t
tree_silent t = ind-ExprTree FormSilent TreeSilent (λ x. elim [
  | ExprForm-F.Number v kind ↦ λ e. subst (λ z. FormSilent (roll-ExprForm z)) e (number_at v kind)
  | ExprForm-F.Name w ↦ λ e. subst (λ z. FormSilent (roll-ExprForm z)) e (name_tree_at w)
  | ExprForm-F.Element w x ↦ λ e. subst (λ z. FormSilent (roll-ExprForm z)) e (element_at w x.0 x.1)
  | ExprForm-F.Call w xs ↦ λ e. subst (λ z. FormSilent (roll-ExprForm z)) e (call_at w _ (all_mapped TreeSilent (λ q. q.0) (λ q. q.1) xs))
  | ExprForm-F.Cast kind x ↦ λ e. subst (λ z. FormSilent (roll-ExprForm z)) e (cast_at kind x.0 x.1)
  | ExprForm-F.Plus x ↦ λ e. subst (λ z. FormSilent (roll-ExprForm z)) e (plus_at x.0 x.1)
  | ExprForm-F.Unary op x ↦ λ e. subst (λ z. FormSilent (roll-ExprForm z)) e (unary_at op x.0 x.1)
  | ExprForm-F.Binary op x y ↦ λ e. subst (λ z. FormSilent (roll-ExprForm z)) e (binary_at op x.0 y.0 x.1 y.1)
  | ExprForm-F.Both x y ↦ λ e. subst (λ z. FormSilent (roll-ExprForm z)) e (both_at x.0 y.0 x.1 y.1)
  | ExprForm-F.Either x y ↦ λ e. subst (λ z. FormSilent (roll-ExprForm z)) e (either_at x.0 y.0 x.1 y.1)
  | ExprForm-F.Choice x y z ↦ λ e. subst (λ w. FormSilent (roll-ExprForm w)) e (choice_at x.0 y.0 z.0 x.1 y.1 z.1)
]) (λ x y e. subst (λ z. TreeSilent (roll-ExprTree z)) e (tree_at (record { span = y.span; form = y.form.0 }) y.form.1)) t

pub expression_silent : (t : ExprTree) → Silent (integer (piece t))
expression_silent t = integer_silent (piece t) (tree_silent t)

pub constant_silent : (kind : Option Kind) (t : ExprTree) → Silent (constant kind t)
unfolding constant
constant_silent kind t = then_silent (uncounted_silent (expression_silent t)) (λ e. of_value (folded (fitted kind e)))
  where
    of_value : (f : Folded) → Silent (constant_of t.span f)
    of_value folds.Varying = fault_silent 38 t.span _
    of_value folds.Undefined = fault_silent 38 t.span _
    of_value (folds.Value v) = pure_silent _
