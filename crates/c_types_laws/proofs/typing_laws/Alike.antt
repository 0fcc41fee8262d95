-- Rules that do the same wherever their temporaries begin, but for the numbers of these.
use Rattle.std.proofs.Common.{◌≡◌, ℕ, ◌+◌, Bool, true, false, List, [], ◌∷◌, ◌++◌, map, length, Option, Some, None, refl, sym, ap, subst, ◌∙◌, rules}
use Rattle.std.specs.Prelude.{slice_get, ◌==◌}
use Rattle.std.specs.Option.{is_some}
use Rattle.std.specs.List.{AllByRecursion}
use Rattle.fq_core.specs.declared.span.Span.{Span}
use Rattle.c_values.specs.declared.kinds.Kind.{Kind}
use Rattle.c_values.specs.declared.operators.UnaryOp.{UnaryOp}
use Rattle.c_values.specs.declared.operators.BinaryOp.{BinaryOp}
use Rattle.c_values.specs.Operations.{unary_kind, binary_kind}
use Rattle.c_parse.specs.declared.expr.ExprForm.{ExprForm, roll-ExprForm, the_lemmas}
use Rattle.c_parse.specs.declared.expr.ExprForm.TheOpen.{ExprForm-F, ExprTree-F}
use Rattle.c_parse.specs.declared.expr.ExprTree.{ExprTree, roll-ExprTree, ind-ExprTree}
use Rattle.cfa.specs.declared.parts.Variable.{Variable}
use Rattle.c_typed_trees.specs.declared.expression.TypedExpr.{TypedExpr}
use Rattle.c_typed_trees.specs.declared.expression.TypedCall.{TypedCall}
use Rattle.c_type_rules.specs.declared.scopes.Bound.{Bound}
use Rattle.c_type_rules.specs.declared.scopes.ParameterKind.{ParameterKind}
use Rattle.c_type_rules.specs.declared.scopes.Signature.{Signature}
use Rattle.c_type_rules.specs.declared.scopes.Meaning.{Meaning}
use Rattle.c_type_rules.specs.declared.scopes.Meaning.TheVariants as meanings
use Rattle.c_type_rules.specs.declared.typer.Sort.{Sort}
use Rattle.c_type_rules.specs.declared.typer.Sort.TheVariants as sorts
use Rattle.c_type_rules.specs.declared.constants.Folded.{Folded}
use Rattle.c_type_rules.specs.declared.constants.Folded.TheVariants as folds
use Rattle.c_type_rules.specs.Constants.{folded}
use Rattle.c_type_rules.specs.Kinds.{promotion, operand_kind, left_kind, meeting}
use Rattle.c_type_rules.specs.Rule.{At, Rule, behind, pure, ◌then◌, fault, expect, look, is_label, is_case, here, temporary, local, bind, bind_label, bind_case, in_scope, in_switch, uncounted, each, alone_in}
use Rattle.c_type_rules.specs.Expressions.{Piece, missing_at, wanted, integer, meant, named, name_at, no_variable, array_if, array_meant, array_named, array_at, no_function, callable, function_meant, function_named, function_at, nothing_given, lent, argument_if, argument, arguments_from, arguments, call_of, call_rule, called, form_rule, form_typing, piece, load_of, fitted, constant_of, constant}

-- where temporaries begin at a number
abbrev pub timed : ℕ → At → At
timed t at = record { bound = at.bound; labels = at.labels; cases = at.cases; level = at.level; local = at.local; temporary = t }

-- two rules make things that are related, and add the same names, labels, values of `case` and cells of locals
pub record Alike {A : Type 0} (R : A → A → Type 0) (m n : Rule A) : Type 0 where
  pub made : (at : At) (t u : ℕ) → R (m (timed t at)).made (n (timed u at)).made
  pub bound : (at : At) (t u : ℕ) → (m (timed t at)).bound ≡ (n (timed u at)).bound
  pub labels : (at : At) (t u : ℕ) → (m (timed t at)).labels ≡ (n (timed u at)).labels
  pub cases : (at : At) (t u : ℕ) → (m (timed t at)).cases ≡ (n (timed u at)).cases
  pub locals : (at : At) (t u : ℕ) → (m (timed t at)).locals ≡ (n (timed u at)).locals

abbrev pub Any : {A : Type 0} → A → A → Type 0
Any a b = Unit {0}

abbrev pub Equal : {A : Type 0} → A → A → Type 0
Equal a b = a ≡ b

-- ---- one rule and then another

module _ {A B : Type 0} {R : A → A → Type 0} {S : B → B → Type 0} {m n : Rule A} {k l : A → Rule B} (h : Alike R m n) (g : (x y : A) → R x y → Alike S (k x) (l y)) where
  abbrev base : At → ℕ → At
  base at t =
      let d = m (timed t at) in
      record { bound = at.bound ++ d.bound; labels = at.labels ++ d.labels; cases = at.cases ++ d.cases; level = at.level; local = at.local + d.locals; temporary = 0 }

  there : (at : At) (t u : ℕ) → behind (timed u at) (n (timed u at)) ≡ timed (u + (n (timed u at)).temporaries) (base at t)
  there at t u = λ i. record {
    bound = at.bound ++ sym (h.bound at t u) i;
    labels = at.labels ++ sym (h.labels at t u) i;
    cases = at.cases ++ sym (h.cases at t u) i;
    level = at.level;
    local = at.local + sym (h.locals at t u) i;
    temporary = u + (n (timed u at)).temporaries;
  }

  next : (at : At) (t u : ℕ) → Alike S (k (m (timed t at)).made) (l (n (timed u at)).made)
  next at t u = g (m (timed t at)).made (n (timed u at)).made (h.made at t u)

  pub then_alike : Alike S (m then k) (n then l)
  unfolding ◌then◌
  then_alike = record {
    made = λ at t u.
        subst (λ (a : At). S (k (m (timed t at)).made (behind (timed t at) (m (timed t at)))).made (l (n (timed u at)).made a).made) (sym (there at t u))
        ((next at t u).made (base at t) (t + (m (timed t at)).temporaries) (u + (n (timed u at)).temporaries));
    bound = λ at t u i. h.bound at t u i ++ ((next at t u).bound (base at t) (t + (m (timed t at)).temporaries) (u + (n (timed u at)).temporaries) ∙ ap (λ (a : At). (l (n (timed u at)).made a).bound) (sym (there at t u))) i;
    labels = λ at t u i. h.labels at t u i ++ ((next at t u).labels (base at t) (t + (m (timed t at)).temporaries) (u + (n (timed u at)).temporaries) ∙ ap (λ (a : At). (l (n (timed u at)).made a).labels) (sym (there at t u))) i;
    cases = λ at t u i. h.cases at t u i ++ ((next at t u).cases (base at t) (t + (m (timed t at)).temporaries) (u + (n (timed u at)).temporaries) ∙ ap (λ (a : At). (l (n (timed u at)).made a).cases) (sym (there at t u))) i;
    locals = λ at t u i. h.locals at t u i + ((next at t u).locals (base at t) (t + (m (timed t at)).temporaries) (u + (n (timed u at)).temporaries) ∙ ap (λ (a : At). (l (n (timed u at)).made a).locals) (sym (there at t u))) i;
  }

-- ---- the rules that others are made of

module _ {A : Type 0} (R : A → A → Type 0) (x y : A) (r : R x y) where
  pub pure_alike : Alike R (pure x) (pure y)
  unfolding pure
  pure_alike = record { made = λ at t u. r; bound = λ at t u. refl; labels = λ at t u. refl; cases = λ at t u. refl; locals = λ at t u. refl }

  pub fault_alike : (code : ℕ) (span : Span) → Alike R (fault code span x) (fault code span y)
  unfolding fault
  fault_alike code span = record { made = λ at t u. r; bound = λ at t u. refl; labels = λ at t u. refl; cases = λ at t u. refl; locals = λ at t u. refl }

pub expect_alike : (code : ℕ) (span : Span) (b : Bool) → Alike Any (expect code span b) (expect code span b)
unfolding expect
expect_alike code span true = pure_alike Any tt tt tt
expect_alike code span false = fault_alike Any tt tt tt code span

pub look_alike : (w : List ℕ) → Alike Equal (look w) (look w)
unfolding look
look_alike w = record { made = λ at t u. refl; bound = λ at t u. refl; labels = λ at t u. refl; cases = λ at t u. refl; locals = λ at t u. refl }

pub is_label_alike : (w : List ℕ) → Alike Equal (is_label w) (is_label w)
unfolding is_label
is_label_alike w = record { made = λ at t u. refl; bound = λ at t u. refl; labels = λ at t u. refl; cases = λ at t u. refl; locals = λ at t u. refl }

pub is_case_alike : (v : Option ℕ) → Alike Equal (is_case v) (is_case v)
unfolding is_case
is_case_alike v = record { made = λ at t u. refl; bound = λ at t u. refl; labels = λ at t u. refl; cases = λ at t u. refl; locals = λ at t u. refl }

pub here_alike : Alike Equal here here
unfolding here
here_alike = record { made = λ at t u. refl; bound = λ at t u. refl; labels = λ at t u. refl; cases = λ at t u. refl; locals = λ at t u. refl }

pub temporary_alike : Alike Any temporary temporary
unfolding temporary
temporary_alike = record { made = λ at t u. tt; bound = λ at t u. refl; labels = λ at t u. refl; cases = λ at t u. refl; locals = λ at t u. refl }

pub local_alike : (cells : ℕ) → Alike Equal (local cells) (local cells)
unfolding local
local_alike cells = record { made = λ at t u. refl; bound = λ at t u. refl; labels = λ at t u. refl; cases = λ at t u. refl; locals = λ at t u. refl }

pub bind_alike : (b : Bound) → Alike Any (bind b) (bind b)
unfolding bind
bind_alike b = record { made = λ at t u. tt; bound = λ at t u. refl; labels = λ at t u. refl; cases = λ at t u. refl; locals = λ at t u. refl }

pub bind_label_alike : (w : List ℕ) → Alike Any (bind_label w) (bind_label w)
unfolding bind_label
bind_label_alike w = record { made = λ at t u. tt; bound = λ at t u. refl; labels = λ at t u. refl; cases = λ at t u. refl; locals = λ at t u. refl }

pub bind_case_alike : (v : Option ℕ) → Alike Any (bind_case v) (bind_case v)
unfolding bind_case
bind_case_alike v = record { made = λ at t u. tt; bound = λ at t u. refl; labels = λ at t u. refl; cases = λ at t u. refl; locals = λ at t u. refl }

module _ {A : Type 0} {R : A → A → Type 0} {m n : Rule A} (h : Alike R m n) where
  abbrev deeper : At → At
  deeper at = record { bound = at.bound; labels = at.labels; cases = at.cases; level = at.level + 1; local = at.local; temporary = 0 }

  abbrev bare : At → At
  bare at = record { bound = at.bound; labels = at.labels; cases = []; level = at.level; local = at.local; temporary = 0 }

  pub scope_alike : Alike R (in_scope m) (in_scope n)
  unfolding in_scope
  scope_alike = record { made = λ at t u. h.made (deeper at) t u; bound = λ at t u. refl; labels = λ at t u. h.labels (deeper at) t u; cases = λ at t u. h.cases (deeper at) t u; locals = λ at t u. h.locals (deeper at) t u }

  pub switch_alike : Alike R (in_switch m) (in_switch n)
  unfolding in_switch
  switch_alike = record { made = λ at t u. h.made (bare at) t u; bound = λ at t u. h.bound (bare at) t u; labels = λ at t u. h.labels (bare at) t u; cases = λ at t u. refl; locals = λ at t u. h.locals (bare at) t u }

pub uncounted_alike : {A : Type 0} (m : Rule A) → Alike Equal (uncounted m) (uncounted m)
unfolding uncounted
uncounted_alike m = record { made = λ at t u. refl; bound = λ at t u. refl; labels = λ at t u. refl; cases = λ at t u. refl; locals = λ at t u. refl }

pub alone_alike : {A : Type 0} {R : A → A → Type 0} {m : Rule A} → Alike R m m → Alike Any (alone_in m) (alone_in m)
alone_alike h = then_alike h (λ x y r. pure_alike Any (x ∷ []) (y ∷ []) tt)

pub each_alike : {X A : Type 0} (f : X → Rule (List A)) → ((x : X) → Alike Any (f x) (f x)) → (xs : List X) → Alike Any (each f xs) (each f xs)
unfolding each
each_alike f h [] = pure_alike Any [] [] tt
each_alike f h (x ∷ xs) = then_alike (h x) (λ ys ys' r. then_alike (each_alike f h xs) (λ zs zs' s. pure_alike Any (ys ++ zs) (ys' ++ zs') tt))

-- what a rule makes of what is there is the same
pub from_equal : {A B : Type 0} {R : B → B → Type 0} (k : A → Rule B) → ((x : A) → Alike R (k x) (k x)) → (x y : A) → x ≡ y → Alike R (k x) (k y)
from_equal {R = R} k h x y e = subst (λ z. Alike R (k x) (k z)) e (h x)

-- ---- names

abbrev pub SameKind : TypedExpr → TypedExpr → Type 0
SameKind a b = a.kind ≡ b.kind

abbrev pub SameSort : Sort → Sort → Type 0
SameSort (sorts.Value a) (sorts.Value b) = SameKind a b
SameSort (sorts.Array v) (sorts.Array w) = v ≡ w
SameSort sorts.Other sorts.Other = Unit {0}
SameSort (sorts.Value a) (sorts.Array w) = ⊥
SameSort (sorts.Value a) sorts.Other = ⊥
SameSort (sorts.Array v) (sorts.Value b) = ⊥
SameSort (sorts.Array v) sorts.Other = ⊥
SameSort sorts.Other (sorts.Value b) = ⊥
SameSort sorts.Other (sorts.Array w) = ⊥

same_self : (s : Sort) → SameSort s s
same_self (sorts.Value a) = refl
same_self (sorts.Array v) = refl
same_self sorts.Other = tt

wanted_alike : (span : Span) (x y : Sort) → SameSort x y → Alike SameKind (wanted span x) (wanted span y)
wanted_alike span (sorts.Value a) (sorts.Value b) r = pure_alike SameKind a b r
wanted_alike span (sorts.Array v) (sorts.Array w) r = fault_alike SameKind (missing_at span) (missing_at span) refl 33 span
wanted_alike span sorts.Other sorts.Other r = fault_alike SameKind (missing_at span) (missing_at span) refl 33 span
wanted_alike span (sorts.Value a) (sorts.Array w) r = absurd r
wanted_alike span (sorts.Value a) sorts.Other r = absurd r
wanted_alike span (sorts.Array v) (sorts.Value b) r = absurd r
wanted_alike span (sorts.Array v) sorts.Other r = absurd r
wanted_alike span sorts.Other (sorts.Value b) r = absurd r
wanted_alike span sorts.Other (sorts.Array w) r = absurd r

abbrev pub IsAlike : Piece → Type 0
IsAlike x = Alike SameSort x.sort x.sort

pub integer_alike : (x : Piece) → IsAlike x → Alike SameKind (integer x) (integer x)
unfolding integer
integer_alike x h = then_alike h (λ a b r. wanted_alike x.span a b r)

named_alike : (span : Span) (found : Option Bound) → Alike SameSort (named span found) (named span found)
named_alike span None = fault_alike SameSort (sorts.Value (missing_at span)) (sorts.Value (missing_at span)) refl 30 span
named_alike span (Some b) = pure_alike SameSort (meant span b.meaning) (meant span b.meaning) (same_self (meant span b.meaning))

name_alike : (span : Span) (w : List ℕ) → Alike SameSort (name_at span w) (name_at span w)
unfolding name_at
name_alike span w = then_alike (look_alike w) (from_equal (named span) (named_alike span))

array_if_alike : (span : Span) (v : Variable) (length : Option ℕ) → Alike Equal (array_if span v length) (array_if span v length)
array_if_alike span v None = fault_alike Equal no_variable no_variable refl 33 span
array_if_alike span v (Some n) = pure_alike Equal v v refl

array_meant_alike : (span : Span) (m : Meaning) → Alike Equal (array_meant span m) (array_meant span m)
array_meant_alike span (meanings.Variable v) = array_if_alike span v v.length
array_meant_alike span (meanings.Constant n) = fault_alike Equal no_variable no_variable refl 33 span
array_meant_alike span (meanings.Function f) = fault_alike Equal no_variable no_variable refl 33 span

array_named_alike : (span : Span) (found : Option Bound) → Alike Equal (array_named span found) (array_named span found)
array_named_alike span None = fault_alike Equal no_variable no_variable refl 30 span
array_named_alike span (Some b) = array_meant_alike span b.meaning

pub array_alike : (span : Span) (w : List ℕ) → Alike Equal (array_at span w) (array_at span w)
unfolding array_at
array_alike span w = then_alike (look_alike w) (from_equal (array_named span) (array_named_alike span))

callable_alike : (span : Span) (count : ℕ) (f : Signature) → Alike Equal (callable span count f) (callable span count f)
unfolding callable
callable_alike span count f = then_alike (expect_alike 32 span (length f.parameters == count)) (λ a b r. then_alike (expect_alike 39 span (is_some f.callee)) (λ a b r. pure_alike Equal f f refl))

function_meant_alike : (span : Span) (count : ℕ) (m : Meaning) → Alike Equal (function_meant span count m) (function_meant span count m)
function_meant_alike span count (meanings.Variable v) = fault_alike Equal no_function no_function refl 33 span
function_meant_alike span count (meanings.Constant n) = fault_alike Equal no_function no_function refl 33 span
function_meant_alike span count (meanings.Function f) = callable_alike span count f

function_named_alike : (span : Span) (count : ℕ) (found : Option Bound) → Alike Equal (function_named span count found) (function_named span count found)
function_named_alike span count None = fault_alike Equal no_function no_function refl 30 span
function_named_alike span count (Some b) = function_meant_alike span count b.meaning

function_alike : (span : Span) (w : List ℕ) (count : ℕ) → Alike Equal (function_at span w count) (function_at span w count)
unfolding function_at
function_alike span w count = then_alike (look_alike w) (from_equal (function_named span count) (function_named_alike span count))

-- ---- calls

lent_alike : (span : Span) (kind : Kind) (n : ℕ) (x y : Sort) → SameSort x y → Alike Any (lent span kind n x) (lent span kind n y)
lent_alike span kind n (sorts.Value a) (sorts.Value b) r = fault_alike Any nothing_given nothing_given tt 35 span
lent_alike span kind n (sorts.Array v) (sorts.Array w) r = subst (λ (z : Variable). Alike Any (lent span kind n (sorts.Array v)) (lent span kind n (sorts.Array z))) r (then_alike (expect_alike 35 span _) (λ a b s. pure_alike Any _ _ tt))
lent_alike span kind n sorts.Other sorts.Other r = fault_alike Any nothing_given nothing_given tt 35 span
lent_alike span kind n (sorts.Value a) (sorts.Array w) r = absurd r
lent_alike span kind n (sorts.Value a) sorts.Other r = absurd r
lent_alike span kind n (sorts.Array v) (sorts.Value b) r = absurd r
lent_alike span kind n (sorts.Array v) sorts.Other r = absurd r
lent_alike span kind n sorts.Other (sorts.Value b) r = absurd r
lent_alike span kind n sorts.Other (sorts.Array w) r = absurd r

argument_if_alike : (x : Piece) → IsAlike x → (kind : Kind) (length : Option ℕ) → Alike Any (argument_if x kind length) (argument_if x kind length)
argument_if_alike x h kind None = then_alike (integer_alike x h) (λ a b r. pure_alike Any _ _ tt)
argument_if_alike x h kind (Some n) = then_alike h (λ a b r. lent_alike x.span kind n a b r)

argument_alike : (p : Option ParameterKind) (x : Piece) → IsAlike x → Alike Any (argument p x) (argument p x)
unfolding argument
argument_alike None x h = then_alike (integer_alike x h) (λ a b r. pure_alike Any _ _ tt)
argument_alike (Some p) x h = argument_if_alike x h p.kind p.length

abbrev pub AreAlike : List Piece → Type 0
AreAlike [] = Unit {0}
AreAlike (x ∷ xs) = IsAlike x × AreAlike xs

arguments_alike : (i : ℕ) (xs : List Piece) (ps : List ParameterKind) → AreAlike xs → Alike Any (arguments_from i xs ps) (arguments_from i xs ps)
unfolding arguments_from
arguments_alike i [] ps h = pure_alike Any nothing_given nothing_given tt
arguments_alike i (x ∷ xs) ps h = then_alike (argument_alike (slice_get ps i) x h.0) (λ a b r. then_alike (arguments_alike (i + 1) xs ps h.1) (λ c d s. pure_alike Any _ _ tt))

abbrev pub SameResult : (Option Kind × TypedCall) → (Option Kind × TypedCall) → Type 0
SameResult c d = c.0 ≡ d.0

called_with : (xs : List Piece) (cell : ℕ) (f : Signature) → AreAlike xs → (cell' : ℕ) → Alike SameResult (arguments xs f.parameters then λ given. pure (f.result, call_of f given cell)) (arguments xs f.parameters then λ given. pure (f.result, call_of f given cell'))
called_with xs cell f h cell' = then_alike (arguments_alike 0 xs f.parameters h) (λ a b r. pure_alike SameResult (f.result, call_of f a cell) (f.result, call_of f b cell') refl)

pub call_alike : (span : Span) (w : List ℕ) (xs : List Piece) → AreAlike xs → Alike SameResult (call_rule span w xs) (call_rule span w xs)
unfolding call_rule
call_alike span w xs h =
    then_alike temporary_alike (λ cell cell' r. then_alike (function_alike span w (length xs)) (λ f g e.
    subst (λ (z : Signature). Alike SameResult (arguments xs f.parameters then λ given. pure (f.result, call_of f given cell)) (arguments xs z.parameters then λ given. pure (z.result, call_of z given cell'))) e (called_with xs cell f h cell')))

same_called : (span : Span) (k : Option Kind) (c d : TypedCall) → SameSort (called span k c) (called span k d)
same_called span None c d = tt
same_called span (Some kind) c d = refl

-- ---- expressions

abbrev IsSteady : ExprForm → Type 0
IsSteady f = (span : Span) → Alike SameSort (form_typing f span) (form_typing f span)

abbrev IsSteadyRule : (Span → Rule Sort) → Type 0
IsSteadyRule f = (span : Span) → Alike SameSort (f span) (f span)

form_is : (x : ExprForm-F ExprForm ExprTree) (rule : Span → Rule Sort) → form_typing (roll-ExprForm x) ≡ rule → IsSteadyRule rule → IsSteady (roll-ExprForm x)
form_is x rule e h = subst IsSteadyRule (sym e) h

number_at : (v : ℕ) (kind : Kind) → IsSteady (roll-ExprForm (ExprForm-F.Number v kind))
unfolding form_typing piece
number_at v kind = form_is (ExprForm-F.Number v kind) (form_rule (ExprForm-F.Number v kind)) (search (rules, the_lemmas)) (λ span. pure_alike SameSort _ _ refl)

name_tree_at : (w : List ℕ) → IsSteady (roll-ExprForm (ExprForm-F.Name w))
unfolding form_typing piece
name_tree_at w = form_is (ExprForm-F.Name w) (form_rule (ExprForm-F.Name w)) (search (rules, the_lemmas)) (λ span. name_alike span w)

element_at : (w : List ℕ) (x : ExprTree) → IsAlike (piece x) → IsSteady (roll-ExprForm (ExprForm-F.Element w x))
unfolding form_typing piece
element_at w x h =
    form_is (ExprForm-F.Element w x) (form_rule (ExprForm-F.Element w (piece x))) (search (rules, the_lemmas))
    (λ span. then_alike (array_alike span w) (from_equal (λ v. integer (piece x) then λ i. pure (sorts.Value (load_of span v (Some i)))) (λ v. then_alike (integer_alike (piece x) h) (λ a b r. pure_alike SameSort _ _ refl))))

call_at : (w : List ℕ) (xs : List ExprTree) → AllByRecursion (λ (x : ExprTree). IsAlike (piece x)) xs → IsSteady (roll-ExprForm (ExprForm-F.Call w xs))
unfolding form_typing piece
call_at w xs h =
    form_is (ExprForm-F.Call w xs) (form_rule (ExprForm-F.Call w (map piece xs))) (search (rules, the_lemmas))
    (λ span. then_alike (call_alike span w (map piece xs) (pieces xs h)) (λ c d r.
    pure_alike SameSort (called span c.0 c.1) (called span d.0 d.1) (subst (λ (k : Option Kind). SameSort (called span c.0 c.1) (called span k d.1)) r (same_called span c.0 c.1 d.1))))
  where
    pieces : (ts : List ExprTree) → AllByRecursion (λ (x : ExprTree). IsAlike (piece x)) ts → AreAlike (map piece ts)
    pieces [] k = tt
    pieces (t ∷ ts) k = (k.0, pieces ts k.1)

cast_at : (kind : Kind) (x : ExprTree) → IsAlike (piece x) → IsSteady (roll-ExprForm (ExprForm-F.Cast kind x))
unfolding form_typing piece
cast_at kind x h =
    form_is (ExprForm-F.Cast kind x) (form_rule (ExprForm-F.Cast kind (piece x))) (search (rules, the_lemmas))
    (λ span. then_alike (integer_alike (piece x) h) (λ a b r. pure_alike SameSort _ _ refl))

plus_at : (x : ExprTree) → IsAlike (piece x) → IsSteady (roll-ExprForm (ExprForm-F.Plus x))
unfolding form_typing piece
plus_at x h =
    form_is (ExprForm-F.Plus x) (form_rule (ExprForm-F.Plus (piece x))) (search (rules, the_lemmas))
    (λ span. then_alike (integer_alike (piece x) h) (λ a b r. pure_alike SameSort _ _ (ap promotion r)))

unary_at : (op : UnaryOp) (x : ExprTree) → IsAlike (piece x) → IsSteady (roll-ExprForm (ExprForm-F.Unary op x))
unfolding form_typing piece
unary_at op x h =
    form_is (ExprForm-F.Unary op x) (form_rule (ExprForm-F.Unary op (piece x))) (search (rules, the_lemmas))
    (λ span. then_alike (integer_alike (piece x) h) (λ a b r. pure_alike SameSort _ _ (ap (λ k. unary_kind op (operand_kind op k)) r)))

binary_at : (op : BinaryOp) (x y : ExprTree) → IsAlike (piece x) → IsAlike (piece y) → IsSteady (roll-ExprForm (ExprForm-F.Binary op x y))
unfolding form_typing piece
binary_at op x y h k =
    form_is (ExprForm-F.Binary op x y) (form_rule (ExprForm-F.Binary op (piece x) (piece y))) (search (rules, the_lemmas))
    (λ span. then_alike (integer_alike (piece x) h) (λ a b r. then_alike (integer_alike (piece y) k) (λ c d s.
    pure_alike SameSort _ _ (λ i. binary_kind op (left_kind op (r i) (s i))))))

both_at : (x y : ExprTree) → IsAlike (piece x) → IsAlike (piece y) → IsSteady (roll-ExprForm (ExprForm-F.Both x y))
unfolding form_typing piece
both_at x y h k =
    form_is (ExprForm-F.Both x y) (form_rule (ExprForm-F.Both (piece x) (piece y))) (search (rules, the_lemmas))
    (λ span. then_alike temporary_alike (λ n m u. then_alike (integer_alike (piece x) h) (λ a b r. then_alike (integer_alike (piece y) k) (λ c d s. pure_alike SameSort _ _ refl))))

either_at : (x y : ExprTree) → IsAlike (piece x) → IsAlike (piece y) → IsSteady (roll-ExprForm (ExprForm-F.Either x y))
unfolding form_typing piece
either_at x y h k =
    form_is (ExprForm-F.Either x y) (form_rule (ExprForm-F.Either (piece x) (piece y))) (search (rules, the_lemmas))
    (λ span. then_alike temporary_alike (λ n m u. then_alike (integer_alike (piece x) h) (λ a b r. then_alike (integer_alike (piece y) k) (λ c d s. pure_alike SameSort _ _ refl))))

choice_at : (x y z : ExprTree) → IsAlike (piece x) → IsAlike (piece y) → IsAlike (piece z) → IsSteady (roll-ExprForm (ExprForm-F.Choice x y z))
unfolding form_typing piece
choice_at x y z h k l =
    form_is (ExprForm-F.Choice x y z) (form_rule (ExprForm-F.Choice (piece x) (piece y) (piece z))) (search (rules, the_lemmas))
    (λ span. then_alike temporary_alike (λ n m u. then_alike (integer_alike (piece x) h) (λ a b r. then_alike (integer_alike (piece y) k) (λ c d s. then_alike (integer_alike (piece z) l) (λ e f q.
    pure_alike SameSort _ _ (λ i. meeting (s i) (q i)))))))

tree_at : (x : ExprTree-F ExprForm ExprTree) → IsSteady x.form → IsAlike (piece (roll-ExprTree x))
unfolding form_typing piece
tree_at x h = subst IsAlike (sym e) (h x.span)
  where
    e : piece (roll-ExprTree x) ≡ record { span = x.span; sort = form_typing x.form x.span }
    e = search (rules, the_lemmas)

module _ {S : Type 0} (f : S → ExprTree) (g : (q : S) → IsAlike (piece (f q))) where
  all_alike : (ys : List S) → AllByRecursion (λ (x : ExprTree). IsAlike (piece x)) (map f ys)
  all_alike [] = tt
  all_alike (y ∷ ys) = (g y, all_alike ys)

-- an expression is the same wherever its temporaries begin, but for their numbers
pub tree_alike : (t : ExprTree) → IsAlike (piece t)
tree_alike t = ind-ExprTree IsSteady (λ x. IsAlike (piece x)) (λ x. elim [
  | ExprForm-F.Number v kind ↦ λ e. subst (λ z. IsSteady (roll-ExprForm z)) e (number_at v kind)
  | ExprForm-F.Name w ↦ λ e. subst (λ z. IsSteady (roll-ExprForm z)) e (name_tree_at w)
  | ExprForm-F.Element w x ↦ λ e. subst (λ z. IsSteady (roll-ExprForm z)) e (element_at w x.0 x.1)
  | ExprForm-F.Call w xs ↦ λ e. subst (λ z. IsSteady (roll-ExprForm z)) e (call_at w _ (all_alike (λ q. q.0) (λ q. q.1) xs))
  | ExprForm-F.Cast kind x ↦ λ e. subst (λ z. IsSteady (roll-ExprForm z)) e (cast_at kind x.0 x.1)
  | ExprForm-F.Plus x ↦ λ e. subst (λ z. IsSteady (roll-ExprForm z)) e (plus_at x.0 x.1)
  | ExprForm-F.Unary op x ↦ λ e. subst (λ z. IsSteady (roll-ExprForm z)) e (unary_at op x.0 x.1)
  | ExprForm-F.Binary op x y ↦ λ e. subst (λ z. IsSteady (roll-ExprForm z)) e (binary_at op x.0 y.0 x.1 y.1)
  | ExprForm-F.Both x y ↦ λ e. subst (λ z. IsSteady (roll-ExprForm z)) e (both_at x.0 y.0 x.1 y.1)
  | ExprForm-F.Either x y ↦ λ e. subst (λ z. IsSteady (roll-ExprForm z)) e (either_at x.0 y.0 x.1 y.1)
  | ExprForm-F.Choice x y z ↦ λ e. subst (λ w. IsSteady (roll-ExprForm w)) e (choice_at x.0 y.0 z.0 x.1 y.1 z.1)
]) (λ x y e. subst (λ z. IsAlike (piece (roll-ExprTree z))) e (tree_at (record { span = y.span; form = y.form.0 }) y.form.1)) t

pub constant_alike : (kind : Option Kind) (t : ExprTree) → Alike Equal (constant kind t) (constant kind t)
unfolding constant
constant_alike kind t = then_alike (uncounted_alike (integer (piece t))) (from_equal (λ e. constant_of t.span (folded (fitted kind e))) (λ e. at t.span (folded (fitted kind e))))
  where
    at : (span : Span) (f : Folded) → Alike Equal (constant_of span f) (constant_of span f)
    at span folds.Varying = fault_alike Equal None None refl 38 span
    at span folds.Undefined = fault_alike Equal None None refl 38 span
    at span (folds.Value v) = pure_alike Equal (Some v) (Some v) refl
