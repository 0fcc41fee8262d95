-- Expressions without sequence points take no temporaries.
use Rattle.std.proofs.Common.{◌≡◌, ℕ, ◌+◌, Bool, true, false, List, Option, Some, None, refl, sym, subst, ◌∙◌, rules}
use Rattle.std.specs.Prelude.{◌||◌}
use Rattle.fq_core.specs.declared.span.Span.{Span}
use Rattle.c_values.specs.declared.kinds.Kind.{Kind}
use Rattle.c_values.specs.declared.operators.UnaryOp.{UnaryOp}
use Rattle.c_values.specs.declared.operators.BinaryOp.{BinaryOp}
use Rattle.c_parse.specs.declared.expr.ExprForm.{ExprForm, roll-ExprForm, fold-ExprForm, the_lemmas}
use Rattle.c_parse.specs.declared.expr.ExprForm.TheOpen.{ExprForm-F, ExprTree-F}
use Rattle.c_parse.specs.declared.expr.ExprTree.{ExprTree, roll-ExprTree, ind-ExprTree}
use Rattle.c_parse.specs.SequencePoints.{sequence_step, has_sequence_point}
use Rattle.cfa.specs.declared.parts.Variable.{Variable}
use Rattle.c_type_rules.specs.declared.scopes.Bound.{Bound}
use Rattle.c_type_rules.specs.declared.scopes.Meaning.{Meaning}
use Rattle.c_type_rules.specs.declared.scopes.Meaning.TheVariants as meanings
use Rattle.c_type_rules.specs.declared.typer.Sort.{Sort}
use Rattle.c_type_rules.specs.declared.typer.Sort.TheVariants as sorts
use Rattle.c_type_rules.specs.Rule.{At, Rule, behind, pure, ◌then◌, fault, look}
use Rattle.c_type_rules.specs.Expressions.{Piece, wanted, integer, named, name_at, array_if, array_meant, array_named, array_at, form_rule, form_typing, piece}
use Rattle.c_types_laws.proofs.typing_fits.Sound.{is_false}

pub record Untimed {A : Type 0} (m : Rule A) : Type 0 where
  pub temporaries : (at : At) → (m at).temporaries ≡ 0

then_untimed : {A B : Type 0} {m : Rule A} {k : A → Rule B} → Untimed m → ((x : A) → Untimed (k x)) → Untimed (m then k)
unfolding ◌then◌
then_untimed {m = m} {k = k} h g = record { temporaries = λ at i. h.temporaries at i + (g (m at).made).temporaries (behind at (m at)) i }

pure_untimed : {A : Type 0} (x : A) → Untimed (pure x)
unfolding pure
pure_untimed x = record { temporaries = λ at. refl }

fault_untimed : {A : Type 0} (code : ℕ) (span : Span) (x : A) → Untimed (fault code span x)
unfolding fault
fault_untimed code span x = record { temporaries = λ at. refl }

look_untimed : (w : List ℕ) → Untimed (look w)
unfolding look
look_untimed w = record { temporaries = λ at. refl }

abbrev IsUntimed : Piece → Type 0
IsUntimed x = Untimed x.sort

integer_untimed : (x : Piece) → IsUntimed x → Untimed (integer x)
unfolding integer
integer_untimed x h = then_untimed h wanted_untimed
  where
    wanted_untimed : (s : Sort) → Untimed (wanted x.span s)
    wanted_untimed (sorts.Value e) = pure_untimed _
    wanted_untimed (sorts.Array v) = fault_untimed 33 x.span _
    wanted_untimed sorts.Other = fault_untimed 33 x.span _

name_untimed : (span : Span) (w : List ℕ) → Untimed (name_at span w)
unfolding name_at
name_untimed span w = then_untimed (look_untimed w) named_untimed
  where
    named_untimed : (found : Option Bound) → Untimed (named span found)
    named_untimed None = fault_untimed 30 span _
    named_untimed (Some b) = pure_untimed _

array_untimed : (span : Span) (w : List ℕ) → Untimed (array_at span w)
unfolding array_at
array_untimed span w = then_untimed (look_untimed w) named_untimed
  where
    if_untimed : (v : Variable) (length : Option ℕ) → Untimed (array_if span v length)
    if_untimed v None = fault_untimed 33 span _
    if_untimed v (Some n) = pure_untimed _

    meant_untimed : (m : Meaning) → Untimed (array_meant span m)
    meant_untimed (meanings.Variable v) = if_untimed v v.length
    meant_untimed (meanings.Constant n) = fault_untimed 33 span _
    meant_untimed (meanings.Function f) = fault_untimed 33 span _

    named_untimed : (found : Option Bound) → Untimed (array_named span found)
    named_untimed None = fault_untimed 30 span _
    named_untimed (Some b) = meant_untimed b.meaning

-- ---- trees

abbrev points : ExprForm → Bool
points = fold-ExprForm Bool Bool sequence_step (λ t. t.form)

abbrev FormUntimed : ExprForm → Type 0
FormUntimed f = points f ≡ false → (span : Span) → Untimed (form_typing f span)

abbrev TreeUntimed : ExprTree → Type 0
TreeUntimed t = has_sequence_point t ≡ false → IsUntimed (piece t)

form_is : (x : ExprForm-F ExprForm ExprTree) (rule : Span → Rule Sort) (b : Bool) → form_typing (roll-ExprForm x) ≡ rule → points (roll-ExprForm x) ≡ b → (b ≡ false → (span : Span) → Untimed (rule span)) → FormUntimed (roll-ExprForm x)
form_is x rule b e g h p span = subst (λ (r : Span → Rule Sort). Untimed (r span)) (sym e) (h (sym g ∙ p) span)

one_false : (a b : Bool) → (a || b) ≡ false → a ≡ false
one_false true b h = h
one_false false b h = refl

other_false : (a b : Bool) → (a || b) ≡ false → b ≡ false
other_false true b h = absurd (is_false (sym h))
other_false false b h = h

of : (t : ExprTree) → TreeUntimed t → has_sequence_point t ≡ false → Untimed (integer (piece t))
of t h p = integer_untimed (piece t) (h p)

number_at : (v : ℕ) (kind : Kind) → FormUntimed (roll-ExprForm (ExprForm-F.Number v kind))
unfolding form_typing piece sequence_step
number_at v kind = form_is (ExprForm-F.Number v kind) (form_rule (ExprForm-F.Number v kind)) false (search (rules, the_lemmas)) (search (rules, the_lemmas)) (λ p span. pure_untimed _)

name_tree_at : (w : List ℕ) → FormUntimed (roll-ExprForm (ExprForm-F.Name w))
unfolding form_typing piece sequence_step
name_tree_at w = form_is (ExprForm-F.Name w) (form_rule (ExprForm-F.Name w)) false (search (rules, the_lemmas)) (search (rules, the_lemmas)) (λ p span. name_untimed span w)

element_at : (w : List ℕ) (x : ExprTree) → TreeUntimed x → FormUntimed (roll-ExprForm (ExprForm-F.Element w x))
unfolding form_typing piece sequence_step has_sequence_point
element_at w x h =
    form_is (ExprForm-F.Element w x) (form_rule (ExprForm-F.Element w (piece x))) (has_sequence_point x) (search (rules, the_lemmas)) (search (rules, the_lemmas))
    (λ p span. then_untimed (array_untimed span w) (λ v. then_untimed (of x h p) (λ i. pure_untimed _)))

cast_at : (kind : Kind) (x : ExprTree) → TreeUntimed x → FormUntimed (roll-ExprForm (ExprForm-F.Cast kind x))
unfolding form_typing piece sequence_step has_sequence_point
cast_at kind x h = form_is (ExprForm-F.Cast kind x) (form_rule (ExprForm-F.Cast kind (piece x))) (has_sequence_point x) (search (rules, the_lemmas)) (search (rules, the_lemmas)) (λ p span. then_untimed (of x h p) (λ a. pure_untimed _))

plus_at : (x : ExprTree) → TreeUntimed x → FormUntimed (roll-ExprForm (ExprForm-F.Plus x))
unfolding form_typing piece sequence_step has_sequence_point
plus_at x h = form_is (ExprForm-F.Plus x) (form_rule (ExprForm-F.Plus (piece x))) (has_sequence_point x) (search (rules, the_lemmas)) (search (rules, the_lemmas)) (λ p span. then_untimed (of x h p) (λ a. pure_untimed _))

unary_at : (op : UnaryOp) (x : ExprTree) → TreeUntimed x → FormUntimed (roll-ExprForm (ExprForm-F.Unary op x))
unfolding form_typing piece sequence_step has_sequence_point
unary_at op x h = form_is (ExprForm-F.Unary op x) (form_rule (ExprForm-F.Unary op (piece x))) (has_sequence_point x) (search (rules, the_lemmas)) (search (rules, the_lemmas)) (λ p span. then_untimed (of x h p) (λ a. pure_untimed _))

binary_at : (op : BinaryOp) (x y : ExprTree) → TreeUntimed x → TreeUntimed y → FormUntimed (roll-ExprForm (ExprForm-F.Binary op x y))
unfolding form_typing piece sequence_step has_sequence_point
binary_at op x y h k =
    form_is (ExprForm-F.Binary op x y) (form_rule (ExprForm-F.Binary op (piece x) (piece y))) (has_sequence_point x || has_sequence_point y) (search (rules, the_lemmas)) (search (rules, the_lemmas))
    (λ p span. then_untimed (of x h (one_false (has_sequence_point x) (has_sequence_point y) p)) (λ a. then_untimed (of y k (other_false (has_sequence_point x) (has_sequence_point y) p)) (λ b. pure_untimed _)))

-- a form that has a sequence point by itself
pointed : (x : ExprForm-F ExprForm ExprTree) → points (roll-ExprForm x) ≡ true → FormUntimed (roll-ExprForm x)
pointed x e p span = absurd (is_false (sym p ∙ e))

call_at : (w : List ℕ) (xs : List ExprTree) → FormUntimed (roll-ExprForm (ExprForm-F.Call w xs))
unfolding sequence_step has_sequence_point
call_at w xs = pointed (ExprForm-F.Call w xs) (search (rules, the_lemmas))

both_at : (x y : ExprTree) → FormUntimed (roll-ExprForm (ExprForm-F.Both x y))
unfolding sequence_step has_sequence_point
both_at x y = pointed (ExprForm-F.Both x y) (search (rules, the_lemmas))

either_at : (x y : ExprTree) → FormUntimed (roll-ExprForm (ExprForm-F.Either x y))
unfolding sequence_step has_sequence_point
either_at x y = pointed (ExprForm-F.Either x y) (search (rules, the_lemmas))

choice_at : (x y z : ExprTree) → FormUntimed (roll-ExprForm (ExprForm-F.Choice x y z))
unfolding sequence_step has_sequence_point
choice_at x y z = pointed (ExprForm-F.Choice x y z) (search (rules, the_lemmas))

tree_at : (x : ExprTree-F ExprForm ExprTree) → FormUntimed x.form → TreeUntimed (roll-ExprTree x)
unfolding form_typing piece has_sequence_point
tree_at x h p =
    let e : piece (roll-ExprTree x) ≡ record { span = x.span; sort = form_typing x.form x.span } = search (rules, the_lemmas) in
    let tests : has_sequence_point (roll-ExprTree x) ≡ points x.form = search (rules, the_lemmas) in
    subst IsUntimed (sym e) (h (sym tests ∙ p) x.span)

pub tree_untimed : (t : ExprTree) → TreeUntimed t
tree_untimed t = ind-ExprTree FormUntimed TreeUntimed (λ x. elim [
  | ExprForm-F.Number v kind ↦ λ e. subst (λ z. FormUntimed (roll-ExprForm z)) e (number_at v kind)
  | ExprForm-F.Name w ↦ λ e. subst (λ z. FormUntimed (roll-ExprForm z)) e (name_tree_at w)
  | ExprForm-F.Element w x ↦ λ e. subst (λ z. FormUntimed (roll-ExprForm z)) e (element_at w x.0 x.1)
  | ExprForm-F.Call w xs ↦ λ e. subst (λ z. FormUntimed (roll-ExprForm z)) e (call_at w _)
  | ExprForm-F.Cast kind x ↦ λ e. subst (λ z. FormUntimed (roll-ExprForm z)) e (cast_at kind x.0 x.1)
  | ExprForm-F.Plus x ↦ λ e. subst (λ z. FormUntimed (roll-ExprForm z)) e (plus_at x.0 x.1)
  | ExprForm-F.Unary op x ↦ λ e. subst (λ z. FormUntimed (roll-ExprForm z)) e (unary_at op x.0 x.1)
  | ExprForm-F.Binary op x y ↦ λ e. subst (λ z. FormUntimed (roll-ExprForm z)) e (binary_at op x.0 y.0 x.1 y.1)
  | ExprForm-F.Both x y ↦ λ e. subst (λ z. FormUntimed (roll-ExprForm z)) e (both_at x.0 y.0)
  | ExprForm-F.Either x y ↦ λ e. subst (λ z. FormUntimed (roll-ExprForm z)) e (either_at x.0 y.0)
  | ExprForm-F.Choice x y z ↦ λ e. subst (λ w. FormUntimed (roll-ExprForm w)) e (choice_at x.0 y.0 z.0)
]) (λ x y e. subst (λ z. TreeUntimed (roll-ExprTree z)) e (tree_at (record { span = y.span; form = y.form.0 }) y.form.1)) t
