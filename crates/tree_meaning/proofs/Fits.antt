-- The parts of trees that fit.
use Rattle.std.proofs.Common.{◌≡◌, ℕ, Bool, false, Option, Some, None, sym, ap, subst, ◌∙◌, rules}
use Rattle.std.specs.Prelude.{IsTrue, ◌&&◌}
use Rattle.c_values.specs.Kind.{IsKind, is_kind}
use Rattle.c_values.specs.Operations.{is_shift}
use Rattle.c_values.specs.declared.kinds.Kind.{Kind}
use Rattle.c_values.specs.declared.operators.BinaryOp.{BinaryOp}
use Rattle.c_values.specs.declared.operators.UnaryOp.{UnaryOp}
use Rattle.c_values.proofs.Fitting.{and_left, and_right}
use Rattle.c_typed_trees.specs.Fitting as fitting
use Rattle.c_typed_trees.specs.Fitting.{Nameable, Fit, CallFit, span_fits, expression_fit, expression_fits, place_fits, call_fit}
use Rattle.c_typed_trees.specs.declared.expression.TypedCall.{TypedCall}
use Rattle.c_typed_trees.specs.declared.expression.TypedExpr.{TypedExpr}
use Rattle.c_typed_trees.specs.declared.expression.TypedExprForm.{TypedExprForm, fold-TypedExprForm, the_lemmas}
use Rattle.c_typed_trees.specs.declared.expression.TypedExprForm.TheOpen.{TypedExprForm-F}
use Rattle.c_typed_trees.specs.declared.expression.TypedExprForm.TheVariants as forms
use Rattle.c_typed_trees.specs.declared.expression.TypedPlace.{TypedPlace, out-TypedPlace}
use Rattle.tree_meaning.specs.Running.{FitExpression, FitPlace, FitCall}
use Rattle.tree_meaning.proofs.ValueKinds.{meet_is}

unfoldable form_fits : Nameable → TypedExprForm → Kind → Bool
form_fits n = fold-TypedExprForm (Kind → Bool) CallFit Fit Bool (fitting.form_step n) (fitting.call_step n) (fitting.expr_step n) (fitting.place_step n)

-- ---- an expression

shaped : (n : Nameable) (x : TypedExpr) → expression_fit n x ≡ record { kind = x.kind; fits = is_kind x.kind && span_fits n x.span && form_fits n x.form x.kind }
unfolding expression_fit form_fits
shaped n x = search (rules, the_lemmas)

pub fit_kind : (n : Nameable) (x : TypedExpr) → (expression_fit n x).kind ≡ x.kind
fit_kind n x = ap (λ (f : Fit). f.kind) (shaped n x)

all_fits : (n : Nameable) (x : TypedExpr) → IsTrue (expression_fits n x) → IsTrue (is_kind x.kind && span_fits n x.span && form_fits n x.form x.kind)
all_fits n x h = subst (λ (f : Fit). IsTrue f.fits) (shaped n x) h

form_of : (n : Nameable) (x : TypedExpr) (f : TypedExprForm) (made : Kind → Bool) → x.form ≡ f → form_fits n f ≡ made → IsTrue (expression_fits n x) → IsTrue (made x.kind)
form_of n x f made e h fits =
    let own = and_right (is_kind x.kind && span_fits n x.span) (form_fits n x.form x.kind) (all_fits n x fits) in
    subst (λ (g : Kind → Bool). IsTrue (g x.kind)) h (subst (λ (g : TypedExprForm). IsTrue (form_fits n g x.kind)) e own)

-- its kind is one
pub is_of_kind : (x : TypedExpr) → FitExpression x → IsKind x.kind
is_of_kind x f = and_left (is_kind x.kind) (span_fits f.names x.span) (and_left (is_kind x.kind && span_fits f.names x.span) (form_fits f.names x.form x.kind) (all_fits f.names x f.fits))

pub load_fit : (x : TypedExpr) (p : TypedPlace) → x.form ≡ forms.Load p → FitExpression x → FitPlace p
unfolding form_fits place_fits
load_fit x p e f =
    let h : form_fits f.names (forms.Load p) ≡ fitting.form_step f.names (TypedExprForm-F.Load (place_fits f.names p)) = search (rules, the_lemmas) in
    record { names = f.names; fits = form_of f.names x _ _ e h f.fits }

pub convert_fit : (x y : TypedExpr) → x.form ≡ forms.Convert y → FitExpression x → FitExpression y
unfolding form_fits expression_fit
convert_fit x y e f =
    let h : form_fits f.names (forms.Convert y) ≡ fitting.form_step f.names (TypedExprForm-F.Convert (expression_fit f.names y)) = search (rules, the_lemmas) in
    record { names = f.names; fits = form_of f.names x _ _ e h f.fits }

pub unary_fit : (x y : TypedExpr) (op : UnaryOp) → x.form ≡ forms.Unary op y → FitExpression x → FitExpression y
unfolding form_fits expression_fit
unary_fit x y op e f =
    let h : form_fits f.names (forms.Unary op y) ≡ fitting.form_step f.names (TypedExprForm-F.Unary op (expression_fit f.names y)) = search (rules, the_lemmas) in
    record { names = f.names; fits = and_left _ _ (form_of f.names x _ _ e h f.fits) }

binary_form : (n : Nameable) (op : BinaryOp) (y z : TypedExpr) → form_fits n (forms.Binary op y z) ≡ fitting.form_step n (TypedExprForm-F.Binary op (expression_fit n y) (expression_fit n z))
unfolding form_fits expression_fit
binary_form n op y z = search (rules, the_lemmas)

pub left_fit : (x y z : TypedExpr) (op : BinaryOp) → x.form ≡ forms.Binary op y z → FitExpression x → FitExpression y
left_fit x y z op e f = record { names = f.names; fits = and_left _ _ (and_left _ _ (and_left _ _ (form_of f.names x _ _ e (binary_form f.names op y z) f.fits))) }

pub right_fit : (x y z : TypedExpr) (op : BinaryOp) → x.form ≡ forms.Binary op y z → FitExpression x → FitExpression z
right_fit x y z op e f = record { names = f.names; fits = and_right _ _ (and_left _ _ (and_left _ _ (form_of f.names x _ _ e (binary_form f.names op y z) f.fits))) }

pub operands_fit : (x y z : TypedExpr) (op : BinaryOp) → x.form ≡ forms.Binary op y z → FitExpression x → is_shift op ≡ false → z.kind ≡ y.kind
operands_fit x y z op e f s =
    let meet = and_right _ _ (and_left _ _ (form_of f.names x _ _ e (binary_form f.names op y z) f.fits)) in
    sym (fit_kind f.names z) ∙ meet_is op (expression_fit f.names y).kind (expression_fit f.names z).kind meet s ∙ fit_kind f.names y

-- the operands of `&&`, `||` and `?:`
pub both_left_fit : (x y z : TypedExpr) (cell : ℕ) → x.form ≡ forms.Both y z cell → FitExpression x → FitExpression y
unfolding form_fits expression_fit
both_left_fit x y z cell e f =
    let h : form_fits f.names (forms.Both y z cell) ≡ fitting.form_step f.names (TypedExprForm-F.Both (expression_fit f.names y) (expression_fit f.names z) cell) = search (rules, the_lemmas) in
    record { names = f.names; fits = and_left _ _ (and_left _ _ (and_left _ _ (form_of f.names x _ _ e h f.fits))) }

pub both_right_fit : (x y z : TypedExpr) (cell : ℕ) → x.form ≡ forms.Both y z cell → FitExpression x → FitExpression z
unfolding form_fits expression_fit
both_right_fit x y z cell e f =
    let h : form_fits f.names (forms.Both y z cell) ≡ fitting.form_step f.names (TypedExprForm-F.Both (expression_fit f.names y) (expression_fit f.names z) cell) = search (rules, the_lemmas) in
    record { names = f.names; fits = and_right _ _ (and_left _ _ (and_left _ _ (form_of f.names x _ _ e h f.fits))) }

pub either_left_fit : (x y z : TypedExpr) (cell : ℕ) → x.form ≡ forms.Either y z cell → FitExpression x → FitExpression y
unfolding form_fits expression_fit
either_left_fit x y z cell e f =
    let h : form_fits f.names (forms.Either y z cell) ≡ fitting.form_step f.names (TypedExprForm-F.Either (expression_fit f.names y) (expression_fit f.names z) cell) = search (rules, the_lemmas) in
    record { names = f.names; fits = and_left _ _ (and_left _ _ (and_left _ _ (form_of f.names x _ _ e h f.fits))) }

pub either_right_fit : (x y z : TypedExpr) (cell : ℕ) → x.form ≡ forms.Either y z cell → FitExpression x → FitExpression z
unfolding form_fits expression_fit
either_right_fit x y z cell e f =
    let h : form_fits f.names (forms.Either y z cell) ≡ fitting.form_step f.names (TypedExprForm-F.Either (expression_fit f.names y) (expression_fit f.names z) cell) = search (rules, the_lemmas) in
    record { names = f.names; fits = and_right _ _ (and_left _ _ (and_left _ _ (form_of f.names x _ _ e h f.fits))) }

choice_form : (n : Nameable) (w y z : TypedExpr) (cell : ℕ) → form_fits n (forms.Choice w y z cell) ≡ fitting.form_step n (TypedExprForm-F.Choice (expression_fit n w) (expression_fit n y) (expression_fit n z) cell)
unfolding form_fits expression_fit
choice_form n w y z cell = search (rules, the_lemmas)

choice_parts : (x w y z : TypedExpr) (cell : ℕ) → x.form ≡ forms.Choice w y z cell → (f : FitExpression x) → IsTrue ((expression_fit f.names w).fits && (expression_fit f.names y).fits && (expression_fit f.names z).fits)
choice_parts x w y z cell e f = and_left _ _ (and_left _ _ (and_left _ _ (form_of f.names x _ _ e (choice_form f.names w y z cell) f.fits)))

pub choice_test_fit : (x w y z : TypedExpr) (cell : ℕ) → x.form ≡ forms.Choice w y z cell → FitExpression x → FitExpression w
choice_test_fit x w y z cell e f = record { names = f.names; fits = and_left _ _ (and_left _ _ (choice_parts x w y z cell e f)) }

pub choice_yes_fit : (x w y z : TypedExpr) (cell : ℕ) → x.form ≡ forms.Choice w y z cell → FitExpression x → FitExpression y
choice_yes_fit x w y z cell e f = record { names = f.names; fits = and_right _ _ (and_left _ _ (choice_parts x w y z cell e f)) }

pub choice_no_fit : (x w y z : TypedExpr) (cell : ℕ) → x.form ≡ forms.Choice w y z cell → FitExpression x → FitExpression z
choice_no_fit x w y z cell e f = record { names = f.names; fits = and_right _ _ (choice_parts x w y z cell e f) }

pub call_form_fit : (x : TypedExpr) (q : TypedCall) → x.form ≡ forms.Call q → FitExpression x → FitCall q
unfolding form_fits call_fit
call_form_fit x q e f =
    let h : form_fits f.names (forms.Call q) ≡ fitting.form_step f.names (TypedExprForm-F.Call (call_fit f.names q)) = search (rules, the_lemmas) in
    record { names = f.names; fits = and_left _ _ (form_of f.names x _ _ e h f.fits) }

-- ---- a place

place_parts : (n : Nameable) (p : TypedPlace) (i : TypedExpr) → (out-TypedPlace p).index ≡ Some i → IsTrue (place_fits n p) → IsTrue (fitting.is_array n (out-TypedPlace p).variable && (expression_fit n i).fits)
unfolding place_fits expression_fit
place_parts n p i e h =
    let all : place_fits n p ≡ fitting.indexed n (out-TypedPlace p).variable (fit_of (out-TypedPlace p).index) = search (rules, the_lemmas) in
    subst (λ (o : Option TypedExpr). IsTrue (fitting.indexed n (out-TypedPlace p).variable (fit_of o))) e (subst IsTrue all h)
  where
    fit_of : Option TypedExpr → Option Fit
    fit_of None = None
    fit_of (Some x) = Some (expression_fit n x)

pub index_fit : (p : TypedPlace) (i : TypedExpr) → (out-TypedPlace p).index ≡ Some i → FitPlace p → FitExpression i
index_fit p i e f = record { names = f.names; fits = and_right _ _ (place_parts f.names p i e f.fits) }

pub ruleset expression_fits_laws = (is_of_kind, load_fit, convert_fit, unary_fit, left_fit, right_fit, operands_fit, both_left_fit, both_right_fit, either_left_fit, either_right_fit, choice_test_fit, choice_yes_fit, choice_no_fit, call_form_fit, index_fit)
