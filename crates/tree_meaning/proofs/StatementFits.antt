-- The parts of statements and calls that fit.
use Rattle.std.proofs.Common.{◌≡◌, ℕ, ◌<◌, Bool, true, false, List, [], ◌∷◌, map, length, get_or, Option, Some, None, refl, sym, subst, rules}
use Rattle.std.specs.Prelude.{IsTrue, ◌&&◌, slice_get}
use Rattle.std.specs.List.{list_all}
use Rattle.std.specs.Option.{option_map}
use Rattle.std.proofs.lemmas.List.Folds.{list_all_at}
use Rattle.std.proofs.lemmas.Option.{get_or_from_slice_get, slice_get_within}
use Rattle.c_values.specs.Kind.{IsKind, is_kind}
use Rattle.c_values.specs.declared.kinds.Kind.{Kind}
use Rattle.c_values.specs.declared.operators.BinaryOp.{BinaryOp}
use Rattle.c_values.proofs.Fitting.{and_left, and_right, and_both}
use Rattle.cfa.specs.Each.{matched}
use Rattle.cfa.specs.declared.parts.InputFunction.{InputFunction}
use Rattle.cfa.specs.declared.parts.Variable.{Variable}
use Rattle.c_typed_trees.specs.Fitting as fitting
use Rattle.c_typed_trees.specs.Fitting.{Nameable, Fit, CallFit, IsFitting, span_fits, expression_fit, expression_fits, option_fits, place_fits, call_fit, operator_fits, statement_fits, nameable, function_fits, word_fits, word_kinds}
use Rattle.c_typed_trees.specs.declared.expression.Callee.{Callee}
use Rattle.c_typed_trees.specs.declared.expression.Callee.TheVariants.{Defined}
use Rattle.c_typed_trees.specs.declared.expression.TypedCall.{TypedCall, out-TypedCall}
use Rattle.c_typed_trees.specs.declared.expression.TypedExpr.{TypedExpr}
use Rattle.c_typed_trees.specs.declared.expression.TypedExprForm.{the_lemmas as expression_lemmas}
use Rattle.c_typed_trees.specs.declared.expression.TypedPlace.{TypedPlace}
use Rattle.c_typed_trees.specs.declared.statement.TypedForm.{TypedForm, fold-TypedForm, the_lemmas}
use Rattle.c_typed_trees.specs.declared.statement.TypedForm.TheOpen.{TypedForm-F}
use Rattle.c_typed_trees.specs.declared.statement.TypedForm.TheVariants as forms
use Rattle.c_typed_trees.specs.declared.statement.TypedGroup.{TypedGroup, fold-TypedGroup, out-TypedGroup}
use Rattle.c_typed_trees.specs.declared.statement.TypedStatement.{TypedStatement}
use Rattle.c_typed_trees.specs.declared.unit.Typed.{Typed}
use Rattle.c_typed_trees.specs.declared.unit.TypedFunction.{TypedFunction}
use Rattle.tree_meaning.specs.Running.{FitExpression, FitExpressions, FitCall, FitStatement, FitStatements, FitUnit, FitOption, FitLast, FitArms, FitGroups, FitAssign, last_fits}

unfoldable form_fits : Nameable → TypedForm → Bool
form_fits n = fold-TypedForm Bool (Kind → Bool) Bool (fitting.statement_form n) (fitting.group_step n) (fitting.statement_step n)

unfoldable group_fits : Nameable → TypedGroup → Kind → Bool
group_fits n = fold-TypedGroup Bool (Kind → Bool) Bool (fitting.statement_form n) (fitting.group_step n) (fitting.statement_step n)

shaped : (n : Nameable) (s : TypedStatement) → statement_fits n s ≡ (span_fits n s.span && form_fits n s.form)
unfolding statement_fits form_fits
shaped n s = search (rules, the_lemmas)

form_of : (n : Nameable) (s : TypedStatement) (f : TypedForm) (made : Bool) → s.form ≡ f → form_fits n f ≡ made → IsTrue (statement_fits n s) → IsTrue made
form_of n s f made e h fits =
    let own : IsTrue (form_fits n s.form) = and_right (span_fits n s.span) (form_fits n s.form) (subst IsTrue (shaped n s) fits) in
    subst IsTrue h (subst (λ (g : TypedForm). IsTrue (form_fits n g)) e own)

all_of : {A : Type 0} (test : A → Bool) (xs : List A) → IsTrue (list_all (λ fits. fits) (map test xs)) → IsTrue (list_all test xs)
all_of test [] h = refl
all_of test (x ∷ xs) h = and_both (test x) (list_all test xs) (and_left (test x) (list_all (λ fits. fits) (map test xs)) h) (all_of test xs (and_right (test x) (list_all (λ fits. fits) (map test xs)) h))

-- one of a list
pub one_fits : {A : Type 0} (test : A → Bool) (xs : List A) (i : ℕ) (d : A) → i < length xs → IsTrue (list_all test xs) → IsTrue (test (get_or xs i d))
one_fits test xs i d lt h = by (test (get_or xs i d)) refl
  where
    by : (b : Bool) → test (get_or xs i d) ≡ b → IsTrue (test (get_or xs i d))
    by true e = e
    by false e = let no = list_all_at test xs i d lt e in absurd (cc)

pub block_fit : (s : TypedStatement) (body : List TypedStatement) → s.form ≡ forms.Block body → FitStatement s → FitStatements body
unfolding form_fits statement_fits
block_fit s body e f =
    let h : form_fits f.names (forms.Block body) ≡ list_all (λ fits. fits) (map (statement_fits f.names) body) = search (rules, the_lemmas) in
    record { names = f.names; fits = all_of (statement_fits f.names) body (form_of f.names s _ _ e h f.fits) }

pub local_fit : (s : TypedStatement) (v : Variable) (o : Option TypedExpr) → s.form ≡ forms.Local v o → FitStatement s → FitOption o
unfolding form_fits
local_fit s v o e f =
    let h : form_fits f.names (forms.Local v o) ≡ fitting.statement_form f.names (TypedForm-F.Local v o) = search (rules, the_lemmas) in
    record { names = f.names; fits = and_right (fitting.is_integer f.names v) (option_fits f.names o) (form_of f.names s _ _ e h f.fits) }

pub array_fit : (s : TypedStatement) (v : Variable) (list : List TypedExpr) → s.form ≡ forms.LocalArray v list → FitStatement s → FitExpressions list
unfolding form_fits
array_fit s v list e f =
    let h : form_fits f.names (forms.LocalArray v list) ≡ fitting.statement_form f.names (TypedForm-F.LocalArray v list) = search (rules, the_lemmas) in
    record { names = f.names; fits = and_right (fitting.is_array f.names v) (list_all (expression_fits f.names) list) (and_left (fitting.is_array f.names v && list_all (expression_fits f.names) list) (fitting.begins_within f.names v.length (length list)) (form_of f.names s _ _ e h f.fits)) }

pub assign_fit : (s : TypedStatement) (p : TypedPlace) (op : Option (BinaryOp × Kind)) (x : TypedExpr) → s.form ≡ forms.Assign p op x → FitStatement s → FitAssign p op x
unfolding form_fits
assign_fit s p op x e f =
    let h : form_fits f.names (forms.Assign p op x) ≡ fitting.statement_form f.names (TypedForm-F.Assign p op x) = search (rules, the_lemmas) in
    let all : IsTrue (place_fits f.names p && operator_fits f.names op x && expression_fits f.names x) = form_of f.names s _ _ e h f.fits in
    let both : IsTrue (place_fits f.names p && operator_fits f.names op x) = and_left _ _ all in
    record { names = f.names; place = and_left _ _ both; operator = and_right _ _ both; value = and_right _ _ all }

pub call_fit_of : (s : TypedStatement) (q : TypedCall) → s.form ≡ forms.Call q → FitStatement s → FitCall q
unfolding form_fits
call_fit_of s q e f =
    let h : form_fits f.names (forms.Call q) ≡ fitting.statement_form f.names (TypedForm-F.Call q) = search (rules, the_lemmas) in
    record { names = f.names; fits = form_of f.names s _ _ e h f.fits }

pub label_fit : (s : TypedStatement) (name : List ℕ) (body : TypedStatement) → s.form ≡ forms.Label name body → FitStatement s → FitStatement body
unfolding form_fits statement_fits
label_fit s name body e f =
    let h : form_fits f.names (forms.Label name body) ≡ statement_fits f.names body = search (rules, the_lemmas) in
    record { names = f.names; fits = form_of f.names s _ _ e h f.fits }

last_if : (n : Nameable) (o : Option TypedStatement) → IsTrue (fitting.statement_if n (option_map (statement_fits n) o)) → IsTrue (last_fits n o)
last_if n None h = refl
last_if n (Some s) h = h

abbrev paired : Nameable → TypedExpr × TypedStatement → TypedExpr × Bool
paired n arm = (arm.0, statement_fits n arm.1)

if_form : (n : Nameable) (list : List (TypedExpr × TypedStatement)) (o : Option TypedStatement) → form_fits n (forms.If list o) ≡ (fitting.arms_fit n (map (paired n) list) && fitting.statement_if n (option_map (statement_fits n) o))
unfolding form_fits statement_fits
if_form n list o = search (rules, the_lemmas)

pub arms_fit : (s : TypedStatement) (list : List (TypedExpr × TypedStatement)) (o : Option TypedStatement) → s.form ≡ forms.If list o → FitStatement s → FitArms list
arms_fit s list o e f =
    let n = f.names in
    let all = form_of n s _ _ e (if_form n list o) f.fits in
    record { names = n; fits = by list (and_left (fitting.arms_fit n (map (paired n) list)) (fitting.statement_if n (option_map (statement_fits n) o)) all) }
  where
    each : (l : List (TypedExpr × TypedStatement)) → IsTrue (list_all (fitting.arm_fits f.names) (map (paired f.names) l)) → IsTrue (list_all (λ (arm : TypedExpr × TypedStatement). expression_fits f.names arm.0 && statement_fits f.names arm.1) l)
    each [] h = refl
    each (x ∷ xs) h = and_both _ _ (and_left (fitting.arm_fits f.names (paired f.names x)) (list_all (fitting.arm_fits f.names) (map (paired f.names) xs)) h) (each xs (and_right (fitting.arm_fits f.names (paired f.names x)) (list_all (fitting.arm_fits f.names) (map (paired f.names) xs)) h))

    by : (l : List (TypedExpr × TypedStatement)) → IsTrue (fitting.arms_fit f.names (map (paired f.names) l)) → IsTrue (list_all (λ (arm : TypedExpr × TypedStatement). expression_fits f.names arm.0 && statement_fits f.names arm.1) l)
    by [] h = refl
    by (x ∷ xs) h = each (x ∷ xs) h

pub else_fit : (s : TypedStatement) (list : List (TypedExpr × TypedStatement)) (o : Option TypedStatement) → s.form ≡ forms.If list o → FitStatement s → FitLast o
else_fit s list o e f =
    let n = f.names in
    let all = form_of n s _ _ e (if_form n list o) f.fits in
    record { names = n; fits = last_if n o (and_right (fitting.arms_fit n (map (paired n) list)) (fitting.statement_if n (option_map (statement_fits n) o)) all) }

while_form : (n : Nameable) (test : TypedExpr) (body : TypedStatement) → form_fits n (forms.While test body) ≡ (expression_fits n test && statement_fits n body)
unfolding form_fits statement_fits
while_form n test body = search (rules, the_lemmas)

pub while_test_fit : (s : TypedStatement) (test : TypedExpr) (body : TypedStatement) → s.form ≡ forms.While test body → FitStatement s → FitExpression test
while_test_fit s test body e f = record { names = f.names; fits = and_left _ _ (form_of f.names s _ _ e (while_form f.names test body) f.fits) }

pub while_body_fit : (s : TypedStatement) (test : TypedExpr) (body : TypedStatement) → s.form ≡ forms.While test body → FitStatement s → FitStatement body
while_body_fit s test body e f = record { names = f.names; fits = and_right _ _ (form_of f.names s _ _ e (while_form f.names test body) f.fits) }

do_form : (n : Nameable) (body : TypedStatement) (test : TypedExpr) → form_fits n (forms.Do body test) ≡ (statement_fits n body && expression_fits n test)
unfolding form_fits statement_fits
do_form n body test = search (rules, the_lemmas)

pub do_test_fit : (s : TypedStatement) (body : TypedStatement) (test : TypedExpr) → s.form ≡ forms.Do body test → FitStatement s → FitExpression test
do_test_fit s body test e f = record { names = f.names; fits = and_right _ _ (form_of f.names s _ _ e (do_form f.names body test) f.fits) }

pub do_body_fit : (s : TypedStatement) (body : TypedStatement) (test : TypedExpr) → s.form ≡ forms.Do body test → FitStatement s → FitStatement body
do_body_fit s body test e f = record { names = f.names; fits = and_left _ _ (form_of f.names s _ _ e (do_form f.names body test) f.fits) }

for_form : (n : Nameable) (first : List TypedStatement) (test : Option TypedExpr) (next : Option TypedStatement) (body : TypedStatement)
    → form_fits n (forms.For first test next body) ≡ (list_all (λ fits. fits) (map (statement_fits n) first) && option_fits n test && fitting.statement_if n (option_map (statement_fits n) next) && statement_fits n body)
unfolding form_fits statement_fits
for_form n first test next body = search (rules, the_lemmas)

pub for_first_fit : (s : TypedStatement) (first : List TypedStatement) (test : Option TypedExpr) (next : Option TypedStatement) (body : TypedStatement) → s.form ≡ forms.For first test next body → FitStatement s → FitStatements first
for_first_fit s first test next body e f = record { names = f.names; fits = all_of (statement_fits f.names) first (and_left _ _ (and_left _ _ (and_left _ _ (form_of f.names s _ _ e (for_form f.names first test next body) f.fits)))) }

pub for_test_fit : (s : TypedStatement) (first : List TypedStatement) (test : Option TypedExpr) (next : Option TypedStatement) (body : TypedStatement) → s.form ≡ forms.For first test next body → FitStatement s → FitOption test
for_test_fit s first test next body e f = record { names = f.names; fits = and_right _ _ (and_left _ _ (and_left _ _ (form_of f.names s _ _ e (for_form f.names first test next body) f.fits))) }

pub for_next_fit : (s : TypedStatement) (first : List TypedStatement) (test : Option TypedExpr) (next : Option TypedStatement) (body : TypedStatement) → s.form ≡ forms.For first test next body → FitStatement s → FitLast next
for_next_fit s first test next body e f = record { names = f.names; fits = last_if f.names next (and_right _ _ (and_left _ _ (form_of f.names s _ _ e (for_form f.names first test next body) f.fits))) }

pub for_body_fit : (s : TypedStatement) (first : List TypedStatement) (test : Option TypedExpr) (next : Option TypedStatement) (body : TypedStatement) → s.form ≡ forms.For first test next body → FitStatement s → FitStatement body
for_body_fit s first test next body e f = record { names = f.names; fits = and_right _ _ (form_of f.names s _ _ e (for_form f.names first test next body) f.fits) }

switch_form : (n : Nameable) (x : TypedExpr) (cell : ℕ) (groups : List TypedGroup) → form_fits n (forms.Switch x cell groups) ≡ (expression_fits n x && fitting.is_cell n cell && list_all (λ (g : Kind → Bool). g (expression_fit n x).kind) (map (group_fits n) groups))
unfolding form_fits group_fits
switch_form n x cell groups = search (rules, the_lemmas)

group_form : (n : Nameable) (g : TypedGroup) (kind : Kind) → group_fits n g kind ≡ (fitting.labels_fit n kind (out-TypedGroup g).labels && list_all (λ fits. fits) (map (statement_fits n) (out-TypedGroup g).body))
unfolding group_fits statement_fits
group_form n g kind = search (rules, the_lemmas)

pub switch_value_fit : (s : TypedStatement) (x : TypedExpr) (cell : ℕ) (groups : List TypedGroup) → s.form ≡ forms.Switch x cell groups → FitStatement s → FitExpression x
switch_value_fit s x cell groups e f = record { names = f.names; fits = and_left _ _ (and_left _ _ (form_of f.names s _ _ e (switch_form f.names x cell groups) f.fits)) }

abbrev bodies : Nameable → TypedGroup → Bool
bodies n g = list_all (statement_fits n) (out-TypedGroup g).body

abbrev kind_of : Nameable → TypedExpr → Kind
kind_of n x = (expression_fit n x).kind

pub groups_fit : (s : TypedStatement) (x : TypedExpr) (cell : ℕ) (groups : List TypedGroup) → s.form ≡ forms.Switch x cell groups → FitStatement s → FitGroups groups
groups_fit s x cell groups e f =
    let n = f.names in
    record { names = n; fits = each groups (and_right (expression_fits n x && fitting.is_cell n cell) _ (form_of n s _ _ e (switch_form n x cell groups) f.fits)) }
  where
    one : (g : TypedGroup) → IsTrue (group_fits f.names g (kind_of f.names x)) → IsTrue (bodies f.names g)
    one g h = all_of (statement_fits f.names) (out-TypedGroup g).body (and_right (fitting.labels_fit f.names (kind_of f.names x) (out-TypedGroup g).labels) (list_all (λ fits. fits) (map (statement_fits f.names) (out-TypedGroup g).body)) (subst IsTrue (group_form f.names g (kind_of f.names x)) h))

    each : (l : List TypedGroup) → IsTrue (list_all (λ (g : Kind → Bool). g (kind_of f.names x)) (map (group_fits f.names) l)) → IsTrue (list_all (bodies f.names) l)
    each [] h = refl
    each (g ∷ gs) h = and_both (bodies f.names g) (list_all (bodies f.names) gs) (one g (and_left (group_fits f.names g (kind_of f.names x)) (list_all (λ (g' : Kind → Bool). g' (kind_of f.names x)) (map (group_fits f.names) gs)) h)) (each gs (and_right (group_fits f.names g (kind_of f.names x)) (list_all (λ (g' : Kind → Bool). g' (kind_of f.names x)) (map (group_fits f.names) gs)) h))

pub return_fit : (s : TypedStatement) (x : Option TypedExpr) → s.form ≡ forms.Return x → FitStatement s → FitOption x
unfolding form_fits
return_fit s x e f =
    let h : form_fits f.names (forms.Return x) ≡ option_fits f.names x = search (rules, the_lemmas) in
    record { names = f.names; fits = form_of f.names s _ _ e h f.fits }

pub assert_fit : (s : TypedStatement) (x : TypedExpr) → s.form ≡ forms.Assert x → FitStatement s → FitExpression x
unfolding form_fits
assert_fit s x e f =
    let h : form_fits f.names (forms.Assert x) ≡ expression_fits f.names x = search (rules, the_lemmas) in
    record { names = f.names; fits = form_of f.names s _ _ e h f.fits }

pub assume_fit : (s : TypedStatement) (x : TypedExpr) → s.form ≡ forms.Assume x → FitStatement s → FitExpression x
unfolding form_fits
assume_fit s x e f =
    let h : form_fits f.names (forms.Assume x) ≡ expression_fits f.names x = search (rules, the_lemmas) in
    record { names = f.names; fits = form_of f.names s _ _ e h f.fits }

-- ---- calls

words_match : (n : Nameable) (ws : List TypedExpr) (ks : List Kind) → IsTrue (matched (word_fits n) (map (expression_fit n) ws) ks) → IsTrue (list_all (expression_fits n) ws)
words_match n [] ks h = refl
words_match n (w ∷ ws) [] h = absurd (cc)
words_match n (w ∷ ws) (k ∷ ks) h =
    and_both (expression_fits n w) (list_all (expression_fits n) ws) (and_left _ _ (and_left (word_fits n (expression_fit n w) k) (matched (word_fits n) (map (expression_fit n) ws) ks) h))
    (words_match n ws ks (and_right (word_fits n (expression_fit n w) k) (matched (word_fits n) (map (expression_fit n) ws) ks) h))

pub words_fit : (q : TypedCall) (callee : ℕ) → (out-TypedCall q).callee ≡ Defined callee → FitCall q → FitExpressions (out-TypedCall q).words
unfolding call_fit expression_fit
words_fit q callee e f =
    let n = f.names in
    let d = out-TypedCall q in
    let whole : call_fit n q ≡ fitting.in_cell n d.cell (fitting.callee_fits n d.callee (map (expression_fit n) d.words) d.arrays) = search (rules, expression_lemmas) in
    let fits : IsTrue ((fitting.callee_fits n d.callee (map (expression_fit n) d.words) d.arrays).fits && fitting.is_cell n d.cell) = subst (λ (q' : CallFit). IsTrue q'.fits) whole f.fits in
    let own : IsTrue (fitting.defined_fits n (slice_get n.functions callee) (map (expression_fit n) d.words) d.arrays).fits =
    subst (λ (q' : Callee). IsTrue (fitting.callee_fits n q' (map (expression_fit n) d.words) d.arrays).fits) e (and_left _ _ fits) in
    record { names = n; fits = by (slice_get n.functions callee) own }
  where
    by : (o : Option TypedFunction) → IsTrue (fitting.defined_fits f.names o (map (expression_fit f.names) (out-TypedCall q).words) (out-TypedCall q).arrays).fits → IsTrue (list_all (expression_fits f.names) (out-TypedCall q).words)
    by None h = absurd (cc)
    by (Some g) h = words_match f.names (out-TypedCall q).words (word_kinds g) (and_left _ _ h)

-- ---- the unit

pub body_fit : (t : Typed) (i : ℕ) (g : TypedFunction) → slice_get t.functions i ≡ Some g → FitUnit t → FitStatements g.body
body_fit t i g e f =
    let lt = slice_get_within t.functions i g e in
    let is : get_or t.functions i g ≡ g = get_or_from_slice_get t.functions i g g e in
    let all : IsTrue (function_fits t f.files g) = subst (λ (g' : TypedFunction). IsTrue (function_fits t f.files g')) is (one_fits (function_fits t f.files) t.functions i g lt f.fits.functions) in
    record { names = nameable t f.files g; fits = and_right _ (list_all (statement_fits (nameable t f.files g)) g.body) all }

pub answer_kind : (t : Typed) (i : ℕ) (g : InputFunction) → slice_get t.inputs i ≡ Some g → FitUnit t → IsKind g.result
answer_kind t i g e f =
    let lt = slice_get_within t.inputs i g e in
    let is : get_or t.inputs i g ≡ g = get_or_from_slice_get t.inputs i g g e in
    subst (λ (g' : InputFunction). IsKind g'.result) is (one_fits (λ (g' : InputFunction). is_kind g'.result) t.inputs i g lt f.fits.inputs)

-- ---- one of a list

pub statement_of : (ss : List TypedStatement) (i : ℕ) (s : TypedStatement) → i < length ss → s ≡ get_or ss i s → FitStatements ss → FitStatement s
statement_of ss i s lt is f = record { names = f.names; fits = subst (λ (q : TypedStatement). IsTrue (statement_fits f.names q)) (sym is) (one_fits (statement_fits f.names) ss i s lt f.fits) }

pub expression_of : (xs : List TypedExpr) (i : ℕ) (x : TypedExpr) → i < length xs → x ≡ get_or xs i x → FitExpressions xs → FitExpression x
expression_of xs i x lt is f = record { names = f.names; fits = subst (λ (q : TypedExpr). IsTrue (expression_fits f.names q)) (sym is) (one_fits (expression_fits f.names) xs i x lt f.fits) }

pub arm_test_of : (xs : List (TypedExpr × TypedStatement)) (i : ℕ) (x : TypedExpr × TypedStatement) → i < length xs → x ≡ get_or xs i x → FitArms xs → FitExpression x.0
arm_test_of xs i x lt is f =
    record { names = f.names; fits = and_left (expression_fits f.names x.0) (statement_fits f.names x.1) (subst (λ (q : TypedExpr × TypedStatement). IsTrue (expression_fits f.names q.0 && statement_fits f.names q.1)) (sym is) (one_fits (λ (q : TypedExpr × TypedStatement). expression_fits f.names q.0 && statement_fits f.names q.1) xs i x lt f.fits)) }

pub arm_body_of : (xs : List (TypedExpr × TypedStatement)) (i : ℕ) (x : TypedExpr × TypedStatement) → i < length xs → x ≡ get_or xs i x → FitArms xs → FitStatement x.1
arm_body_of xs i x lt is f =
    record { names = f.names; fits = and_right (expression_fits f.names x.0) (statement_fits f.names x.1) (subst (λ (q : TypedExpr × TypedStatement). IsTrue (expression_fits f.names q.0 && statement_fits f.names q.1)) (sym is) (one_fits (λ (q : TypedExpr × TypedStatement). expression_fits f.names q.0 && statement_fits f.names q.1) xs i x lt f.fits)) }

pub group_body_of : (gs : List TypedGroup) (i : ℕ) (g : TypedGroup) → i < length gs → g ≡ get_or gs i g → FitGroups gs → FitStatements (out-TypedGroup g).body
group_body_of gs i g lt is f =
    record { names = f.names; fits = subst (λ (q : TypedGroup). IsTrue (list_all (statement_fits f.names) (out-TypedGroup q).body)) (sym is) (one_fits (λ (q : TypedGroup). list_all (statement_fits f.names) (out-TypedGroup q).body) gs i g lt f.fits) }

pub option_of : (o : Option TypedExpr) (x : TypedExpr) → o ≡ Some x → FitOption o → FitExpression x
option_of o x e f = record { names = f.names; fits = subst (λ (q : Option TypedExpr). IsTrue (option_fits f.names q)) e f.fits }

pub last_of : (o : Option TypedStatement) (s : TypedStatement) → o ≡ Some s → FitLast o → FitStatement s
last_of o s e f = record { names = f.names; fits = subst (λ (q : Option TypedStatement). IsTrue (last_fits f.names q)) e f.fits }
