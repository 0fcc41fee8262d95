-- Rules of expressions that number temporaries upward: what they make stands from where the temporaries begin to where
-- they end, where the names in scope lie below a cell.
use Rattle.std.proofs.Common.{◌≡◌, ℕ, zero, suc, ◌+◌, ◌≤◌, Bool, true, false, List, [], ◌∷◌, ◌++◌, map, length, Option, Some, None, refl, sym, ap, subst, arith, rules}
use Rattle.std.specs.Prelude.{slice_get, ◌==◌}
use Rattle.std.specs.Option.{is_some}
use Rattle.std.specs.List.{AllByRecursion}
use Rattle.fq_core.specs.declared.span.Span.{Span}
use Rattle.c_values.specs.declared.kinds.Kind.{Kind}
use Rattle.c_values.specs.declared.operators.UnaryOp.{UnaryOp}
use Rattle.c_values.specs.declared.operators.BinaryOp.{BinaryOp}
use Rattle.c_values.specs.Kind.{int}
use Rattle.c_parse.specs.declared.expr.ExprForm.{ExprForm, roll-ExprForm, the_lemmas}
use Rattle.c_parse.specs.declared.expr.ExprForm.TheOpen.{ExprForm-F, ExprTree-F}
use Rattle.c_parse.specs.declared.expr.ExprTree.{ExprTree, roll-ExprTree, ind-ExprTree}
use Rattle.cfa.specs.declared.parts.Variable.{Variable}
use Rattle.c_typed_trees.specs.declared.expression.TypedExpr.{TypedExpr}
use Rattle.c_typed_trees.specs.declared.expression.TypedCall.{TypedCall}
use Rattle.c_type_rules.specs.declared.scopes.Bound.{Bound}
use Rattle.c_type_rules.specs.declared.scopes.ParameterKind.{ParameterKind}
use Rattle.c_type_rules.specs.declared.scopes.Signature.{Signature}
use Rattle.c_type_rules.specs.declared.scopes.Meaning.{Meaning}
use Rattle.c_type_rules.specs.declared.scopes.Meaning.TheVariants as meanings
use Rattle.c_type_rules.specs.declared.typer.Given.{Given}
use Rattle.c_type_rules.specs.declared.typer.Sort.{Sort}
use Rattle.c_type_rules.specs.declared.typer.Sort.TheVariants as sorts
use Rattle.c_type_rules.specs.declared.constants.Folded.{Folded}
use Rattle.c_type_rules.specs.declared.constants.Folded.TheVariants as folds
use Rattle.c_type_rules.specs.Constants.{folded}
use Rattle.c_type_rules.specs.Kinds.{promotion, operand_kind, left_kind, right_kind, meeting}
use Rattle.c_type_rules.specs.Rule.{At, Done, Rule, behind, pure, ◌then◌, fault, expect, look, is_label, is_case, here, temporary, local, bind, bind_label, bind_case, in_scope, in_switch, uncounted, each, alone_in}
use Rattle.c_type_rules.specs.Scopes.{bound_at}
use Rattle.c_type_rules.specs.Expressions.{Piece, missing_at, converted_to, wanted, integer, variable_sort, meant, named as name_found, name_at, no_variable, array_if, array_meant, array_named, array_at, callable, function_meant, function_named, function_at, nothing_given, word_given, array_given, joined, lent, argument_if, argument, arguments_from, callee_or, call_of, call_rule, called, form_rule, form_typing, piece, fitted, constant_of, constant}
use Rattle.tree_meaning_laws.specs.temporaries_apart.Named.{Named, named, call_named, IsBelow}
use Rattle.tree_meaning_laws.proofs.temporaries_apart.Stands.{Stands, none_stands, least, alone_stands, ListStands, lists_stand, TreeStands, constant_stands, convert_stands, unary_stands, binary_stands, both_stands, either_stands, choice_stands, called_stands, whole_stands, element_stands, load_stands, call_stands, converted_stands}
use Rattle.c_types_laws.proofs.typing_fits.Silent.{Silent, all_mapped, constant_silent}
use Rattle.c_types_laws.proofs.typing_fits.Sound.{all_append}

-- ---- names in scope

abbrev pub MeaningBelow : ℕ → Meaning → Type 0
MeaningBelow end (meanings.Variable v) = IsBelow end v
MeaningBelow end (meanings.Constant n) = Unit {0}
MeaningBelow end (meanings.Function f) = Unit {0}

abbrev pub NamesBelow : ℕ → List Bound → Type 0
NamesBelow end bs = AllByRecursion (λ (b : Bound). MeaningBelow end b.meaning) bs

abbrev pub FoundBelow : ℕ → Option Bound → Type 0
FoundBelow end None = Unit {0}
FoundBelow end (Some b) = MeaningBelow end b.meaning

pub names_append : (end : ℕ) (xs ys : List Bound) → NamesBelow end xs → NamesBelow end ys → NamesBelow end (xs ++ ys)
names_append end = all_append (λ (b : Bound). MeaningBelow end b.meaning)

at_place : (end : ℕ) (bs : List Bound) (i : ℕ) → NamesBelow end bs → FoundBelow end (slice_get bs i)
at_place end [] i h = tt
at_place end (b ∷ bs) zero h = h.0
at_place end (b ∷ bs) (suc i) h = at_place end bs i h.1

at_any : (end : ℕ) (bs : List Bound) (o : Option ℕ) → NamesBelow end bs → FoundBelow end (bound_at bs o)
at_any end bs None h = tt
at_any end bs (Some i) h = at_place end bs i h

-- ---- rules

pub record Kept {A : Type 0} (end : ℕ) (P : A → Type 0) (d : Done A) : Type 0 where
  pub made : P d.made
  pub bound : NamesBelow end d.bound

-- where temporaries begin at a number, P of the number behind them and of what is made
pub record Numbered {A : Type 0} (end from : ℕ) (P : ℕ → A → Type 0) (m : Rule A) : Type 0 where
  pub run : (at : At) → at.temporary ≡ from → NamesBelow end at.bound → at.local + (m at).locals ≤ end → Kept end (P (from + (m at).temporaries)) (m at)

-- no temporary is numbered, and R of what is made
abbrev pub Same : {A : Type 0} → ℕ → (A → Type 0) → ℕ → A → Type 0
Same from R to x = (to ≡ from) × R x

abbrev pub Any : {A : Type 0} → A → Type 0
Any x = Unit {0}

module _ {A B : Type 0} {end from : ℕ} {P : ℕ → A → Type 0} {Q : ℕ → B → Type 0} {m : Rule A} {k : A → Rule B} where
  pub then_numbered : Numbered end from P m → ((x : A) (to : ℕ) → P to x → Numbered end to Q (k x)) → Numbered end from Q (m then k)
  unfolding ◌then◌
  then_numbered h g = record {
    run = λ at same names room.
        let d = m at in
        let e = k d.made (behind at d) in
        let first : Kept end (P (from + d.temporaries)) d = h.run at same names (omega arith) in
        let second : Kept end (Q (from + d.temporaries + e.temporaries)) e =
        (g d.made (from + d.temporaries) first.made).run (behind at d) (ap (λ n. n + d.temporaries) same) (names_append end at.bound d.bound names first.bound) (omega arith) in
        let last : from + d.temporaries + e.temporaries ≡ from + (d.temporaries + e.temporaries) = omega arith in
        record { made = subst (λ n. Q n e.made) last second.made; bound = names_append end d.bound e.bound first.bound second.bound };
  }

-- behind a rule that numbers none
pub then_same : {A B : Type 0} {end from : ℕ} {R : A → Type 0} {Q : ℕ → B → Type 0} {m : Rule A} {k : A → Rule B} → Numbered end from (Same from R) m → ((x : A) → R x → Numbered end from Q (k x)) → Numbered end from Q (m then k)
then_same {end = end} {Q = Q} {k = k} h g = then_numbered h (λ x to p. subst (λ n. Numbered end n Q (k x)) (sym p.0) (g x p.1))

module _ {end from : ℕ} where
  pub pure_numbered : {A : Type 0} {P : ℕ → A → Type 0} (x : A) → P from x → Numbered end from P (pure x)
  unfolding pure
  pure_numbered {P = P} x p = record { run = λ at same names room. record { made = subst (λ n. P n x) (let e : from ≡ from + 0 = omega arith in e) p; bound = tt } }

  pub fault_numbered : {A : Type 0} {P : ℕ → A → Type 0} (code : ℕ) (span : Span) (x : A) → P from x → Numbered end from P (fault code span x)
  unfolding fault
  fault_numbered {P = P} code span x p = record { run = λ at same names room. record { made = subst (λ n. P n x) (let e : from ≡ from + 0 = omega arith in e) p; bound = tt } }

  pub pure_same : {A : Type 0} {R : A → Type 0} (x : A) → R x → Numbered end from (Same from R) (pure x)
  pure_same x r = pure_numbered x (refl, r)

  pub fault_same : {A : Type 0} {R : A → Type 0} (code : ℕ) (span : Span) (x : A) → R x → Numbered end from (Same from R) (fault code span x)
  fault_same code span x r = fault_numbered code span x (refl, r)

  pub expect_same : (code : ℕ) (span : Span) (b : Bool) → Numbered end from (Same from Any) (expect code span b)
  unfolding expect
  expect_same code span true = pure_same tt tt
  expect_same code span false = fault_same code span tt tt

  pub look_same : (w : List ℕ) → Numbered end from (Same from (FoundBelow end)) (look w)
  unfolding look
  look_same w = record { run = λ at same names room. record { made = ((let e : from + 0 ≡ from = omega arith in e), at_any end at.bound _ names); bound = tt } }

  pub is_label_same : (w : List ℕ) → Numbered end from (Same from Any) (is_label w)
  unfolding is_label
  is_label_same w = record { run = λ at same names room. record { made = ((let e : from + 0 ≡ from = omega arith in e), tt); bound = tt } }

  pub is_case_same : (v : Option ℕ) → Numbered end from (Same from Any) (is_case v)
  unfolding is_case
  is_case_same v = record { run = λ at same names room. record { made = ((let e : from + 0 ≡ from = omega arith in e), tt); bound = tt } }

  pub here_same : Numbered end from (Same from Any) here
  unfolding here
  here_same = record { run = λ at same names room. record { made = ((let e : from + 0 ≡ from = omega arith in e), tt); bound = tt } }

  pub local_same : (cells : ℕ) → Numbered end from (Same from (λ cell. cell + cells ≤ end)) (local cells)
  unfolding local
  local_same cells = record { run = λ at same names room. record { made = ((let e : from + 0 ≡ from = omega arith in e), room); bound = tt } }

  pub bind_same : (b : Bound) → MeaningBelow end b.meaning → Numbered end from (Same from Any) (bind b)
  unfolding bind
  bind_same b h = record { run = λ at same names room. record { made = ((let e : from + 0 ≡ from = omega arith in e), tt); bound = (h, tt) } }

  pub bind_label_same : (w : List ℕ) → Numbered end from (Same from Any) (bind_label w)
  unfolding bind_label
  bind_label_same w = record { run = λ at same names room. record { made = ((let e : from + 0 ≡ from = omega arith in e), tt); bound = tt } }

  pub bind_case_same : (v : Option ℕ) → Numbered end from (Same from Any) (bind_case v)
  unfolding bind_case
  bind_case_same v = record { run = λ at same names room. record { made = ((let e : from + 0 ≡ from = omega arith in e), tt); bound = tt } }

  -- a rule that adds no names and numbers no temporary
  pub silent_same : {A : Type 0} {m : Rule A} → Silent m → ((at : At) → (m at).temporaries ≡ 0) → Numbered end from (Same from Any) m
  silent_same {m = m} quiet none = record {
    run = λ at same names room.
        let n = none at in
        let e : from + (m at).temporaries ≡ from = omega arith in
        record { made = (e, tt); bound = subst (NamesBelow end) (sym (quiet.bound at)) tt };
  }

-- the next temporary
temporary_numbered : {end from : ℕ} → Numbered end from (λ to cell. (to ≡ from + 1) × (cell ≡ from)) temporary
unfolding temporary
temporary_numbered = record { run = λ at same names room. record { made = (refl, same); bound = tt } }

pub after_temporary : {B : Type 0} {end from : ℕ} {Q : ℕ → B → Type 0} (k : ℕ → Rule B) → Numbered end (from + 1) Q (k from) → Numbered end from Q (temporary then k)
after_temporary {end = end} {from = from} {Q = Q} k h =
    then_numbered temporary_numbered (λ cell to p. subst (λ c. Numbered end to Q (k c)) (sym p.1) (subst (λ n. Numbered end n Q (k from)) (sym p.0) h))

module _ {A : Type 0} {end from : ℕ} {P : ℕ → A → Type 0} {m : Rule A} (h : Numbered end from P m) where
  pub scope_numbered : Numbered end from P (in_scope m)
  unfolding in_scope
  scope_numbered = record {
    run = λ at same names room.
        let inner : At = record { bound = at.bound; labels = at.labels; cases = at.cases; level = at.level + 1; local = at.local; temporary = at.temporary } in
        let d : Kept end (P (from + (m inner).temporaries)) (m inner) = h.run inner same names room in
        record { made = d.made; bound = tt };
  }

  pub switch_numbered : Numbered end from P (in_switch m)
  unfolding in_switch
  switch_numbered = record {
    run = λ at same names room.
        let inner : At = record { bound = at.bound; labels = at.labels; cases = []; level = at.level; local = at.local; temporary = at.temporary } in
        let d : Kept end (P (from + (m inner).temporaries)) (m inner) = h.run inner same names room in
        record { made = d.made; bound = d.bound };
  }

-- lists of things, by what each names
pub alone_numbered : {A : Type 0} {end from : ℕ} (f : A → Named) {m : Rule A} → Numbered end from (λ to x. Stands end from to (f x)) m → Numbered end from (ListStands f end from) (alone_in m)
alone_numbered {end = end} {from = from} f h = then_numbered h (λ x to p. pure_numbered (x ∷ []) (alone_stands end from to (f x) p))

pub each_numbered : {X A : Type 0} {P : X → Type 0} (end : ℕ) (f : A → Named) (g : X → Rule (List A)) → ((x : X) → P x → (from : ℕ) → Numbered end from (ListStands f end from) (g x))
    → (xs : List X) → AllByRecursion P xs → (from : ℕ) → Numbered end from (ListStands f end from) (each g xs)
unfolding each
each_numbered end f g h [] ps from = pure_numbered [] (none_stands end from from (omega arith))
each_numbered end f g h (x ∷ xs) ps from =
    then_numbered (h x ps.0 from) (λ ys mid p. then_numbered (each_numbered end f g h xs ps.1 mid) (λ zs to q. pure_numbered (ys ++ zs) (lists_stand f end from mid to ys zs p q)))

pub each_same : {X A : Type 0} {end from : ℕ} (g : X → Rule (List A)) → ((x : X) → Numbered end from (Same from Any) (g x)) → (xs : List X) → Numbered end from (Same from Any) (each g xs)
unfolding each
each_same g h [] = pure_same [] tt
each_same g h (x ∷ xs) = then_same (h x) (λ ys p. then_same (each_same g h xs) (λ zs q. pure_same (ys ++ zs) tt))

pub alone_same : {A : Type 0} {end from : ℕ} {R : A → Type 0} {m : Rule A} → Numbered end from (Same from R) m → Numbered end from (Same from Any) (alone_in m)
alone_same h = then_same h (λ x p. pure_same (x ∷ []) tt)

-- ---- constants

none_of : (span : Span) (f : Folded) (at : At) → (constant_of span f at).temporaries ≡ 0
unfolding fault pure
none_of span folds.Varying at = refl
none_of span folds.Undefined at = refl
none_of span (folds.Value v) at = refl

no_temporaries : (kind : Option Kind) (t : ExprTree) (at : At) → (constant kind t at).temporaries ≡ 0
unfolding constant ◌then◌ uncounted
no_temporaries kind t at = ap (λ n. 0 + n) (none_of t.span (folded (fitted kind (uncounted (integer (piece t)) at).made)) (behind at (uncounted (integer (piece t)) at)))

pub constant_same : {end from : ℕ} (kind : Option Kind) (t : ExprTree) → Numbered end from (Same from Any) (constant kind t)
constant_same kind t = silent_same (constant_silent kind t) (no_temporaries kind t)

-- ---- expressions, where there is a cell for the result

abbrev pub SortStands : (end from to : ℕ) → Sort → Type 0
SortStands end from to (sorts.Value e) = TreeStands end from to e
SortStands end from to (sorts.Array v) = (from ≤ to) × IsBelow end v
SortStands end from to sorts.Other = from ≤ to

abbrev pub GivenStands : (end from to : ℕ) → Given → Type 0
GivenStands end from to g = ListStands named end from to g.words × AllByRecursion (IsBelow end) g.arrays

module _ (end : ℕ) (some : 1 ≤ end) where
  abbrev pub IsNumbered : Piece → Type 0
  IsNumbered x = (from : ℕ) → Numbered end from (SortStands end from) x.sort

  no_variable_below : IsBelow end no_variable
  no_variable_below = some

  missing_stands : (span : Span) (from to : ℕ) → from ≤ to → TreeStands end from to (missing_at span)
  missing_stands span from to l = load_stands end span no_variable None from to (whole_stands end no_variable from to some l)

  wanted_numbered : (span : Span) (from to : ℕ) (s : Sort) → SortStands end from to s → Numbered end to (TreeStands end from) (wanted span s)
  wanted_numbered span from to (sorts.Value e) h = pure_numbered e h
  wanted_numbered span from to (sorts.Array v) h = fault_numbered 33 span _ (missing_stands span from to h.0)
  wanted_numbered span from to sorts.Other h = fault_numbered 33 span _ (missing_stands span from to h)

  pub integer_numbered : (x : Piece) → IsNumbered x → (from : ℕ) → Numbered end from (TreeStands end from) (integer x)
  unfolding integer
  integer_numbered x h from = then_numbered (h from) (λ s to p. wanted_numbered x.span from to s p)

  whole_sort : (span : Span) (v : Variable) (from : ℕ) → IsBelow end v → (length : Option ℕ) → SortStands end from from (variable_sort span v length)
  whole_sort span v from h None = load_stands end span v None from from (whole_stands end v from from h (omega arith))
  whole_sort span v from h (Some m) = (omega arith, h)

  meant_stands : (span : Span) (from : ℕ) (m : Meaning) → MeaningBelow end m → SortStands end from from (meant span m)
  meant_stands span from (meanings.Variable v) h = whole_sort span v from h v.length
  meant_stands span from (meanings.Constant n) h = constant_stands end span int n from from (omega arith)
  meant_stands span from (meanings.Function f) h = (let l : from ≤ from = omega arith in l)

  found_numbered : (span : Span) (from : ℕ) (found : Option Bound) → FoundBelow end found → Numbered end from (SortStands end from) (name_found span found)
  found_numbered span from None h = fault_numbered 30 span _ (missing_stands span from from (omega arith))
  found_numbered span from (Some b) h = pure_numbered (meant span b.meaning) (meant_stands span from b.meaning h)

  name_numbered : (span : Span) (w : List ℕ) (from : ℕ) → Numbered end from (SortStands end from) (name_at span w)
  unfolding name_at
  name_numbered span w from = then_same (look_same w) (λ found p. found_numbered span from found p)

  pub array_same : (span : Span) (w : List ℕ) (from : ℕ) → Numbered end from (Same from (IsBelow end)) (array_at span w)
  unfolding array_at
  array_same span w from = then_same (look_same w) (λ found p. of_found found p)
    where
      if_array : (v : Variable) → IsBelow end v → (length : Option ℕ) → Numbered end from (Same from (IsBelow end)) (array_if span v length)
      if_array v h None = fault_same 33 span _ some
      if_array v h (Some m) = pure_same v h

      of_meaning : (m : Meaning) → MeaningBelow end m → Numbered end from (Same from (IsBelow end)) (array_meant span m)
      of_meaning (meanings.Variable v) h = if_array v h v.length
      of_meaning (meanings.Constant n) h = fault_same 33 span _ some
      of_meaning (meanings.Function f) h = fault_same 33 span _ some

      of_found : (found : Option Bound) → FoundBelow end found → Numbered end from (Same from (IsBelow end)) (array_named span found)
      of_found None h = fault_same 30 span _ some
      of_found (Some b) h = of_meaning b.meaning h

  callable_same : (span : Span) (count : ℕ) (f : Signature) (from : ℕ) → Numbered end from (Same from Any) (callable span count f)
  unfolding callable
  callable_same span count f from = then_same (expect_same 32 span (length f.parameters == count)) (λ u p. then_same (expect_same 39 span (is_some f.callee)) (λ v q. pure_same f tt))

  function_same : (span : Span) (w : List ℕ) (count from : ℕ) → Numbered end from (Same from Any) (function_at span w count)
  unfolding function_at
  function_same span w count from = then_same (look_same w) (λ found p. of_found found)
    where
      of_meaning : (m : Meaning) → Numbered end from (Same from Any) (function_meant span count m)
      of_meaning (meanings.Variable v) = fault_same 33 span _ tt
      of_meaning (meanings.Constant n) = fault_same 33 span _ tt
      of_meaning (meanings.Function f) = callable_same span count f from

      of_found : (found : Option Bound) → Numbered end from (Same from Any) (function_named span count found)
      of_found None = fault_same 30 span _ tt
      of_found (Some b) = of_meaning b.meaning

  -- ---- calls

  nothing_stands : (from to : ℕ) → from ≤ to → GivenStands end from to nothing_given
  nothing_stands from to l = (none_stands end from to l, tt)

  word_stands : (from to : ℕ) (e : TypedExpr) → TreeStands end from to e → GivenStands end from to (word_given e)
  word_stands from to e h = (alone_stands end from to (named e) h, tt)

  array_stands : (from to : ℕ) (v : Variable) → from ≤ to → IsBelow end v → GivenStands end from to (array_given v)
  array_stands from to v l h = (none_stands end from to l, (h, tt))

  joined_stands : (from mid to : ℕ) (g h : Given) → GivenStands end from mid g → GivenStands end mid to h → GivenStands end from to (joined g h)
  joined_stands from mid to g h a b = (lists_stand named end from mid to g.words h.words a.0 b.0, all_append (IsBelow end) g.arrays h.arrays a.1 b.1)

  lent_numbered : (span : Span) (kind : Kind) (n from to : ℕ) (s : Sort) → SortStands end from to s → Numbered end to (GivenStands end from) (lent span kind n s)
  lent_numbered span kind n from to (sorts.Value e) h = fault_numbered 35 span _ (nothing_stands from to (least end from to (named e) h))
  lent_numbered span kind n from to (sorts.Array v) h = then_same (expect_same 35 span _) (λ u p. pure_numbered (array_given v) (array_stands from to v h.0 h.1))
  lent_numbered span kind n from to sorts.Other h = fault_numbered 35 span _ (nothing_stands from to h)

  argument_if_numbered : (x : Piece) → IsNumbered x → (kind : Kind) (length : Option ℕ) (from : ℕ) → Numbered end from (GivenStands end from) (argument_if x kind length)
  argument_if_numbered x h kind None from = then_numbered (integer_numbered x h from) (λ a to p. pure_numbered (word_given (converted_to kind a)) (word_stands from to (converted_to kind a) (converted_stands end kind a from to p)))
  argument_if_numbered x h kind (Some n) from = then_numbered (h from) (λ s to p. lent_numbered x.span kind n from to s p)

  argument_numbered : (p : Option ParameterKind) (x : Piece) → IsNumbered x → (from : ℕ) → Numbered end from (GivenStands end from) (argument p x)
  unfolding argument
  argument_numbered None x h from = then_numbered (integer_numbered x h from) (λ a to p. pure_numbered (word_given a) (word_stands from to a p))
  argument_numbered (Some p) x h from = argument_if_numbered x h p.kind p.length from

  arguments_numbered : (i : ℕ) (xs : List Piece) (ps : List ParameterKind) → AllByRecursion IsNumbered xs → (from : ℕ) → Numbered end from (GivenStands end from) (arguments_from i xs ps)
  unfolding arguments_from
  arguments_numbered i [] ps h from = pure_numbered nothing_given (nothing_stands from from (omega arith))
  arguments_numbered i (x ∷ xs) ps h from =
      then_numbered (argument_numbered (slice_get ps i) x h.0 from) (λ g mid p. then_numbered (arguments_numbered (i + 1) xs ps h.1 mid) (λ k to q. pure_numbered (joined g k) (joined_stands from mid to g k p q)))

  abbrev pub CallStands : (from to : ℕ) → Option Kind × TypedCall → Type 0
  CallStands from to c = Stands end from to (call_named c.1)

  pub call_numbered : (span : Span) (w : List ℕ) (xs : List Piece) → AllByRecursion IsNumbered xs → (from : ℕ) → Numbered end from (CallStands from) (call_rule span w xs)
  unfolding call_rule
  call_numbered span w xs h from =
      after_temporary _ (then_same (function_same span w (length xs) (from + 1)) (λ f p. then_numbered (arguments_numbered 0 xs f.parameters h (from + 1)) (λ g to q.
      pure_numbered (f.result, call_of f g from) (call_stands end (callee_or f.callee) g.words g.arrays from to q.1 q.0))))

  called_sort : (span : Span) (k : Option Kind) (c : TypedCall) (from to : ℕ) → Stands end from to (call_named c) → SortStands end from to (called span k c)
  called_sort span None c from to h = least end from to (call_named c) h
  called_sort span (Some kind) c from to h = called_stands end span kind c from to h

  -- ---- trees

  abbrev FormNumbered : ExprForm → Type 0
  FormNumbered f = (span : Span) (from : ℕ) → Numbered end from (SortStands end from) (form_typing f span)

  abbrev RuleNumbered : (Span → Rule Sort) → Type 0
  RuleNumbered f = (span : Span) (from : ℕ) → Numbered end from (SortStands end from) (f span)

  abbrev TreeNumbered : ExprTree → Type 0
  TreeNumbered t = IsNumbered (piece t)

  form_is : (x : ExprForm-F ExprForm ExprTree) (rule : Span → Rule Sort) → form_typing (roll-ExprForm x) ≡ rule → RuleNumbered rule → FormNumbered (roll-ExprForm x)
  form_is x rule e h = subst RuleNumbered (sym e) h

  of : (t : ExprTree) → TreeNumbered t → (from : ℕ) → Numbered end from (TreeStands end from) (integer (piece t))
  of t h from = integer_numbered (piece t) h from

  number_at : (v : ℕ) (kind : Kind) → FormNumbered (roll-ExprForm (ExprForm-F.Number v kind))
  unfolding form_typing piece
  number_at v kind = form_is (ExprForm-F.Number v kind) (form_rule (ExprForm-F.Number v kind)) (search (rules, the_lemmas)) (λ span from. pure_numbered _ (constant_stands end span kind v from from (omega arith)))

  name_tree_at : (w : List ℕ) → FormNumbered (roll-ExprForm (ExprForm-F.Name w))
  unfolding form_typing piece
  name_tree_at w = form_is (ExprForm-F.Name w) (form_rule (ExprForm-F.Name w)) (search (rules, the_lemmas)) (λ span from. name_numbered span w from)

  element_at : (w : List ℕ) (x : ExprTree) → TreeNumbered x → FormNumbered (roll-ExprForm (ExprForm-F.Element w x))
  unfolding form_typing piece
  element_at w x h =
      form_is (ExprForm-F.Element w x) (form_rule (ExprForm-F.Element w (piece x))) (search (rules, the_lemmas))
      (λ span from. then_same (array_same span w from) (λ v p. then_numbered (of x h from) (λ i to q. pure_numbered _ (load_stands end span v (Some i) from to (element_stands end v i from to p q)))))

  call_at : (w : List ℕ) (xs : List ExprTree) → AllByRecursion TreeNumbered xs → FormNumbered (roll-ExprForm (ExprForm-F.Call w xs))
  unfolding form_typing piece
  call_at w xs h =
      form_is (ExprForm-F.Call w xs) (form_rule (ExprForm-F.Call w (map piece xs))) (search (rules, the_lemmas))
      (λ span from. then_numbered (call_numbered span w (map piece xs) (pieces xs h) from) (λ c to p. pure_numbered (called span c.0 c.1) (called_sort span c.0 c.1 from to p)))
    where
      pieces : (ts : List ExprTree) → AllByRecursion TreeNumbered ts → AllByRecursion IsNumbered (map piece ts)
      pieces [] k = tt
      pieces (t ∷ ts) k = (k.0, pieces ts k.1)

  cast_at : (kind : Kind) (x : ExprTree) → TreeNumbered x → FormNumbered (roll-ExprForm (ExprForm-F.Cast kind x))
  unfolding form_typing piece
  cast_at kind x h =
      form_is (ExprForm-F.Cast kind x) (form_rule (ExprForm-F.Cast kind (piece x))) (search (rules, the_lemmas)) (λ span from. then_numbered (of x h from) (λ a to p. pure_numbered _ (convert_stands end span kind a from to p)))

  plus_at : (x : ExprTree) → TreeNumbered x → FormNumbered (roll-ExprForm (ExprForm-F.Plus x))
  unfolding form_typing piece
  plus_at x h =
      form_is (ExprForm-F.Plus x) (form_rule (ExprForm-F.Plus (piece x))) (search (rules, the_lemmas)) (λ span from. then_numbered (of x h from) (λ a to p. pure_numbered _ (convert_stands end span (promotion a.kind) a from to p)))

  unary_at : (op : UnaryOp) (x : ExprTree) → TreeNumbered x → FormNumbered (roll-ExprForm (ExprForm-F.Unary op x))
  unfolding form_typing piece
  unary_at op x h =
      form_is (ExprForm-F.Unary op x) (form_rule (ExprForm-F.Unary op (piece x))) (search (rules, the_lemmas))
      (λ span from. then_numbered (of x h from) (λ a to p. pure_numbered _ (unary_stands end span _ op (converted_to (operand_kind op a.kind) a) from to (converted_stands end (operand_kind op a.kind) a from to p))))

  binary_at : (op : BinaryOp) (x y : ExprTree) → TreeNumbered x → TreeNumbered y → FormNumbered (roll-ExprForm (ExprForm-F.Binary op x y))
  unfolding form_typing piece
  binary_at op x y h k =
      form_is (ExprForm-F.Binary op x y) (form_rule (ExprForm-F.Binary op (piece x) (piece y))) (search (rules, the_lemmas))
      (λ span from. then_numbered (of x h from) (λ a mid p. then_numbered (of y k mid) (λ b to q. pure_numbered _
      (binary_stands end span _ op (converted_to (left_kind op a.kind b.kind) a) (converted_to (right_kind op a.kind b.kind) b) from mid to
      (converted_stands end (left_kind op a.kind b.kind) a from mid p) (converted_stands end (right_kind op a.kind b.kind) b mid to q)))))

  both_at : (x y : ExprTree) → TreeNumbered x → TreeNumbered y → FormNumbered (roll-ExprForm (ExprForm-F.Both x y))
  unfolding form_typing piece
  both_at x y h k =
      form_is (ExprForm-F.Both x y) (form_rule (ExprForm-F.Both (piece x) (piece y))) (search (rules, the_lemmas))
      (λ span from. after_temporary _ (then_numbered (of x h (from + 1)) (λ a mid p. then_numbered (of y k mid) (λ b to q. pure_numbered _ (both_stands end span int a b from mid to p q)))))

  either_at : (x y : ExprTree) → TreeNumbered x → TreeNumbered y → FormNumbered (roll-ExprForm (ExprForm-F.Either x y))
  unfolding form_typing piece
  either_at x y h k =
      form_is (ExprForm-F.Either x y) (form_rule (ExprForm-F.Either (piece x) (piece y))) (search (rules, the_lemmas))
      (λ span from. after_temporary _ (then_numbered (of x h (from + 1)) (λ a mid p. then_numbered (of y k mid) (λ b to q. pure_numbered _ (either_stands end span int a b from mid to p q)))))

  choice_at : (x y z : ExprTree) → TreeNumbered x → TreeNumbered y → TreeNumbered z → FormNumbered (roll-ExprForm (ExprForm-F.Choice x y z))
  unfolding form_typing piece
  choice_at x y z h k l =
      form_is (ExprForm-F.Choice x y z) (form_rule (ExprForm-F.Choice (piece x) (piece y) (piece z))) (search (rules, the_lemmas))
      (λ span from. after_temporary _ (then_numbered (of x h (from + 1)) (λ a mid p. then_numbered (of y k mid) (λ b next q. then_numbered (of z l next) (λ c to r. pure_numbered _
      (choice_stands end span (meeting b.kind c.kind) a (converted_to (meeting b.kind c.kind) b) (converted_to (meeting b.kind c.kind) c) from mid next to
      p (converted_stands end (meeting b.kind c.kind) b mid next q) (converted_stands end (meeting b.kind c.kind) c next to r)))))))

  tree_at : (x : ExprTree-F ExprForm ExprTree) → FormNumbered x.form → TreeNumbered (roll-ExprTree x)
  unfolding form_typing piece
  tree_at x h = subst IsNumbered (sym e) (h x.span)
    where
      e : piece (roll-ExprTree x) ≡ record { span = x.span; sort = form_typing x.form x.span }
      e = search (rules, the_lemmas)

  pub tree_numbered : (t : ExprTree) → TreeNumbered t
  tree_numbered t = ind-ExprTree FormNumbered TreeNumbered (λ x. elim [
    | ExprForm-F.Number v kind ↦ λ e. subst (λ z. FormNumbered (roll-ExprForm z)) e (number_at v kind)
    | ExprForm-F.Name w ↦ λ e. subst (λ z. FormNumbered (roll-ExprForm z)) e (name_tree_at w)
    | ExprForm-F.Element w x ↦ λ e. subst (λ z. FormNumbered (roll-ExprForm z)) e (element_at w x.0 x.1)
    | ExprForm-F.Call w xs ↦ λ e. subst (λ z. FormNumbered (roll-ExprForm z)) e (call_at w _ (all_mapped TreeNumbered (λ q. q.0) (λ q. q.1) xs))
    | ExprForm-F.Cast kind x ↦ λ e. subst (λ z. FormNumbered (roll-ExprForm z)) e (cast_at kind x.0 x.1)
    | ExprForm-F.Plus x ↦ λ e. subst (λ z. FormNumbered (roll-ExprForm z)) e (plus_at x.0 x.1)
    | ExprForm-F.Unary op x ↦ λ e. subst (λ z. FormNumbered (roll-ExprForm z)) e (unary_at op x.0 x.1)
    | ExprForm-F.Binary op x y ↦ λ e. subst (λ z. FormNumbered (roll-ExprForm z)) e (binary_at op x.0 y.0 x.1 y.1)
    | ExprForm-F.Both x y ↦ λ e. subst (λ z. FormNumbered (roll-ExprForm z)) e (both_at x.0 y.0 x.1 y.1)
    | ExprForm-F.Either x y ↦ λ e. subst (λ z. FormNumbered (roll-ExprForm z)) e (either_at x.0 y.0 x.1 y.1)
    | ExprForm-F.Choice x y z ↦ λ e. subst (λ w. FormNumbered (roll-ExprForm w)) e (choice_at x.0 y.0 z.0 x.1 y.1 z.1)
  ]) (λ x y e. subst (λ z. TreeNumbered (roll-ExprTree z)) e (tree_at (record { span = y.span; form = y.form.0 }) y.form.1)) t

  pub expression_numbered : (t : ExprTree) (from : ℕ) → Numbered end from (TreeStands end from) (integer (piece t))
  expression_numbered t from = of t (tree_numbered t) from
