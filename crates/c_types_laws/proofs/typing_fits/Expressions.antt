-- The typed expressions of accepted units fit.
use Rattle.std.proofs.Common.{◌≡◌, ℕ, suc, ◌+◌, Bool, true, List, [], ◌∷◌, ◌++◌, map, length, Option, Some, None, refl, sym, ap, subst, ◌∙◌, arith, rules}
use Rattle.std.proofs.lemmas.List.{map-append}
use Rattle.std.specs.Prelude.{slice_get, IsTrue, ◌&&◌, ◌==◌, nat_lt}
use Rattle.std.specs.List.{AllByRecursion, list_all, filter_map, cons_option}
use Rattle.std.specs.Option.{is_some}
use Rattle.std.proofs.lemmas.Bool.Decides.{Decides-eqb}
use Rattle.std.proofs.lemmas.List.Elements.{filter_map-append}
use Rattle.fq_core.specs.declared.span.Span.{Span}
use Rattle.c_values.specs.declared.kinds.Kind.{Kind}
use Rattle.c_values.specs.declared.operators.UnaryOp.{UnaryOp}
use Rattle.c_values.specs.declared.operators.BinaryOp.{BinaryOp}
use Rattle.c_values.specs.Kind.{int, IsKind, is_kind, is_value, IsValue}
use Rattle.c_values.proofs.Fitting.{and_left, and_right, and_both}
use Rattle.c_parse.specs.declared.expr.ExprForm.{ExprForm, roll-ExprForm, fold-ExprForm, the_lemmas as tree_lemmas}
use Rattle.c_parse.specs.declared.expr.ExprForm.TheOpen.{ExprForm-F, ExprTree-F}
use Rattle.c_parse.specs.declared.expr.ExprTree.{ExprTree, roll-ExprTree, ind-ExprTree}
use Rattle.c_types_laws.specs.tree_contents.Contents.{form_step, tree_passes}
use Rattle.cfa.specs.declared.parts.InputFunction.{InputFunction}
use Rattle.cfa.specs.declared.parts.Variable.{Variable}
use Rattle.cfa.specs.Each.{matched}
use Rattle.cfa.specs.Graph.{result_kind_fits}
use Rattle.cfa.specs.Kinds.{same_kind}
use Rattle.cfa.specs.Rules.{is_length, place_fits as cell_fits}
use Rattle.cfa.specs.declared.expr.CellPlace.TheVariants as cells
use Rattle.c_typed_trees.specs.declared.expression.Callee.{Callee}
use Rattle.c_typed_trees.specs.declared.expression.Callee.TheVariants as callees
use Rattle.c_typed_trees.specs.declared.expression.TypedExpr.{TypedExpr}
use Rattle.c_typed_trees.specs.declared.expression.TypedExprForm.{the_lemmas}
use Rattle.c_typed_trees.specs.declared.expression.TypedCall.{TypedCall, roll-TypedCall}
use Rattle.c_typed_trees.specs.declared.unit.TypedFunction.{TypedFunction}
use Rattle.c_typed_trees.specs.Fitting.{Nameable, CallFit, word_kinds, span_fits, is_variable, is_array, is_cell, word_fits, array_fits, defined_fits, input_fits, callee_fits, in_cell, expression_fit, call_fit}
use Rattle.c_type_rules.specs.declared.scopes.Bound.{Bound}
use Rattle.c_type_rules.specs.declared.scopes.ParameterKind.{ParameterKind}
use Rattle.c_type_rules.specs.declared.scopes.Signature.{Signature}
use Rattle.c_type_rules.specs.declared.scopes.Meaning.{Meaning}
use Rattle.c_type_rules.specs.declared.scopes.Meaning.TheVariants as meanings
use Rattle.c_type_rules.specs.declared.typer.Given.{Given}
use Rattle.c_type_rules.specs.declared.typer.Sort.{Sort}
use Rattle.c_type_rules.specs.declared.typer.Sort.TheVariants as sorts
use Rattle.c_type_rules.specs.declared.constants.Folded.{Folded}
use Rattle.c_type_rules.specs.declared.constants.Folded.TheVariants as folds
use Rattle.c_type_rules.specs.Constants.{folded}
use Rattle.c_type_rules.specs.Kinds.{promotion}
use Rattle.c_type_rules.specs.Rule.{Rule}
use Rattle.c_type_rules.specs.Expressions.{Piece, converted_to, wanted, integer, variable_sort, meant, named, name_at, array_if, array_meant, array_named, array_at, callable, function_meant, function_named, function_at, nothing_given, word_given, array_given, joined, same_length, lent, argument_if, argument, arguments_from, callee_or, call_of, call_rule, called, form_rule, form_typing, piece, fitted, constant_of, constant}
use Rattle.c_types.specs.Functions.{taken}
use Rattle.c_types_laws.proofs.typing_fits.Silent.{all_mapped, expression_silent}
use Rattle.c_types_laws.proofs.typing_fits.Sound.{is_false, StandsFrom, DefinedAs, InputAs, CalleeIs, SignatureFits, MeaningFits, FoundFits, Limits, Sound, then_sound, pure_sound, fault_sound, expect_sound, look_sound, temporary_sound, uncounted_sound, roomier}
use Rattle.c_types_laws.proofs.typing_fits.Fine.{Fine, ValueOf, kind_same, promotion_is, constant_fine, convert_fine, both_fine, either_fine, whole_fine, element_fine, call_fine, cell_at, frame_cell, array_is, array_variable, converted_fine, converted_kind, cell_is, operator_fine, operation_fine, alternative_fine}

-- the numbers in a tree are values of their kinds, its places lie in files that are there, and its kinds are kinds
abbrev pub place_in : ℕ → Span → Bool
place_in files span = nat_lt span.file files

abbrev pub number_is : ℕ → Kind → Bool
number_is v kind = is_value kind v

abbrev pub TreePasses : ℕ → ExprTree → Type 0
TreePasses files t = IsTrue (tree_passes number_is (place_in files) t)

-- a frame of a function, or of none, in which temporaries lie
abbrev pub within : Nameable → ℕ → Limits
within n locals = record { locals = locals; temporaries = n.room.cells }

abbrev pub SortFits : Nameable → Sort → Type 0
SortFits n (sorts.Value e) = Fine n e
SortFits n (sorts.Array v) = IsTrue (is_array n v)
SortFits n sorts.Other = Unit {0}

-- ---- parameters and what is given for them

abbrev word_of : ParameterKind → Option Kind
word_of p = elim p.length [ None ↦ Some p.kind | Some length ↦ None ]

abbrev length_of : ParameterKind → Option ℕ
length_of p = p.length

filter_map_taken : {B : Type 0} (f : ParameterKind → Option B) (vs : List Variable) → filter_map (λ v. f (taken v)) vs ≡ filter_map f (map taken vs)
filter_map_taken f [] = refl
filter_map_taken f (v ∷ vs) = ap (cons_option (f (taken v))) (filter_map_taken f vs)

matched_append : {X Y : Type 0} (test : X → Y → Bool) (xs us : List X) (ys vs : List Y) → IsTrue (matched test xs ys) → IsTrue (matched test us vs) → IsTrue (matched test (xs ++ us) (ys ++ vs))
matched_append test [] us [] vs h k = k
matched_append test [] us (y ∷ ys) vs h k = absurd (is_false h)
matched_append test (x ∷ xs) us [] vs h k = absurd (is_false h)
matched_append test (x ∷ xs) us (y ∷ ys) vs h k =
    and_both (test x y) (matched test (xs ++ us) (ys ++ vs)) (and_left (test x y) (matched test xs ys) h) (matched_append test xs us ys vs (and_right (test x y) (matched test xs ys) h) k)

module _ (n : Nameable) where
  -- what is given fits some parameters
  pub record GivenFits (ps : List ParameterKind) (g : Given) : Type 0 where
    pub words : IsTrue (matched (word_fits n) (map (expression_fit n) g.words) (filter_map word_of ps))
    pub arrays : IsTrue (matched (array_fits n) g.arrays (filter_map length_of ps))

  joined_fits : (p : ParameterKind) (ps : List ParameterKind) (g h : Given) → GivenFits (p ∷ []) g → GivenFits ps h → GivenFits (p ∷ ps) (joined g h)
  joined_fits p ps g h a b = record {
    words = subst (λ xs. IsTrue (matched (word_fits n) xs (filter_map word_of (p ∷ ps)))) (sym (map-append (expression_fit n) g.words h.words))
        (subst (λ ys. IsTrue (matched (word_fits n) (map (expression_fit n) g.words ++ map (expression_fit n) h.words) ys)) (sym (filter_map-append word_of (p ∷ []) ps))
        (matched_append (word_fits n) (map (expression_fit n) g.words) (map (expression_fit n) h.words) (filter_map word_of (p ∷ [])) (filter_map word_of ps) a.words b.words));
    arrays = subst (λ ys. IsTrue (matched (array_fits n) (g.arrays ++ h.arrays) ys)) (sym (filter_map-append length_of (p ∷ []) ps))
        (matched_append (array_fits n) g.arrays h.arrays (filter_map length_of (p ∷ [])) (filter_map length_of ps) a.arrays b.arrays);
  }

  word_given_fits : (p : ParameterKind) (e : TypedExpr) → p.length ≡ None → Fine n e → e.kind ≡ p.kind → GivenFits (p ∷ []) (word_given e)
  word_given_fits p e none h k = subst (λ (o : Option ℕ). GivenFits (record { kind = p.kind; length = o } ∷ []) (word_given e)) (sym none) (record {
    words = and_both ((expression_fit n e).fits && same_kind (expression_fit n e).kind p.kind) true (and_both (expression_fit n e).fits _ h.fits (kind_same _ p.kind (h.kind_is ∙ k))) refl;
    arrays = refl;
  })

  length_same : (o : Option ℕ) (m : ℕ) → IsTrue (same_length o m) → IsTrue (is_length o m)
  length_same None m h = h
  length_same (Some own) m h = h

  array_given_fits : (p : ParameterKind) (m : ℕ) (v : Variable) → p.length ≡ Some m → IsTrue (is_array n v) → IsTrue (same_length v.length m) → GivenFits (p ∷ []) (array_given v)
  array_given_fits p m v some h k = subst (λ (o : Option ℕ). GivenFits (record { kind = p.kind; length = o } ∷ []) (array_given v)) (sym some) (record {
    words = refl;
    arrays = and_both (is_variable n v && is_length v.length m) true (and_both (is_variable n v) _ (array_variable n v h) (length_same v.length m k)) refl;
  })

-- ---- names

module _ (n : Nameable) (locals : ℕ) where
  abbrev Limit : Limits
  Limit = within n locals

  abbrev pub IsSound : Piece → Type 0
  IsSound x = Sound n Limit (SortFits n) x.sort

  wanted_sound : (span : Span) (s : Sort) → SortFits n s → Sound n Limit (Fine n) (wanted span s)
  wanted_sound span (sorts.Value e) h = pure_sound e h
  wanted_sound span (sorts.Array v) h = fault_sound 33 span _
  wanted_sound span sorts.Other h = fault_sound 33 span _

  pub integer_sound : (x : Piece) → IsSound x → Sound n Limit (Fine n) (integer x)
  unfolding integer
  integer_sound x h = then_sound h (λ s p. wanted_sound x.span s p)

  whole_fits : (span : Span) → IsTrue (span_fits n span) → (v : Variable) → IsTrue (is_variable n v) → (length : Option ℕ) → v.length ≡ length → SortFits n (variable_sort span v length)
  whole_fits span s v h None e = whole_fine n span s v h e
  whole_fits span s v h (Some m) e = array_is n v m h e

  meant_fits : (span : Span) → IsTrue (span_fits n span) → (m : Meaning) → MeaningFits n m → SortFits n (meant span m)
  meant_fits span s (meanings.Variable v) h = whole_fits span s v h v.length refl
  meant_fits span s (meanings.Constant k) h = constant_fine n span s int k h
  meant_fits span s (meanings.Function f) h = tt

  named_sound : (span : Span) → IsTrue (span_fits n span) → (found : Option Bound) → FoundFits n found → Sound n Limit (SortFits n) (named span found)
  named_sound span s None h = fault_sound 30 span _
  named_sound span s (Some b) h = pure_sound (meant span b.meaning) (meant_fits span s b.meaning h)

  name_sound : (span : Span) → IsTrue (span_fits n span) → (w : List ℕ) → Sound n Limit (SortFits n) (name_at span w)
  unfolding name_at
  name_sound span s w = then_sound (look_sound w) (λ found p. named_sound span s found p)

  abbrev IsArray : Variable → Type 0
  IsArray v = IsTrue (is_array n v)

  array_if_sound : (span : Span) (v : Variable) (length : Option ℕ) → IsTrue (is_variable n v) → v.length ≡ length → Sound n Limit IsArray (array_if span v length)
  array_if_sound span v None h e = fault_sound 33 span _
  array_if_sound span v (Some m) h e = pure_sound v (array_is n v m h e)

  array_meant_sound : (span : Span) (m : Meaning) → MeaningFits n m → Sound n Limit IsArray (array_meant span m)
  array_meant_sound span (meanings.Variable v) h = array_if_sound span v v.length h refl
  array_meant_sound span (meanings.Constant k) h = fault_sound 33 span _
  array_meant_sound span (meanings.Function f) h = fault_sound 33 span _

  array_named_sound : (span : Span) (found : Option Bound) → FoundFits n found → Sound n Limit IsArray (array_named span found)
  array_named_sound span None h = fault_sound 30 span _
  array_named_sound span (Some b) h = array_meant_sound span b.meaning h

  pub array_sound : (span : Span) (w : List ℕ) → Sound n Limit IsArray (array_at span w)
  unfolding array_at
  array_sound span w = then_sound (look_sound w) (λ found p. array_named_sound span found p)

  record Callable (count : ℕ) (f : Signature) : Type 0 where
    signature : SignatureFits n.functions n.inputs f
    count_is : length f.parameters ≡ count
    callee_is : IsTrue (is_some f.callee)

  callable_sound : (span : Span) (count : ℕ) (f : Signature) → SignatureFits n.functions n.inputs f → Sound n Limit (Callable count) (callable span count f)
  unfolding callable
  callable_sound span count f h =
      then_sound (expect_sound 32 span (length f.parameters == count)) (λ u p. then_sound (expect_sound 39 span (is_some f.callee)) (λ v q.
      pure_sound f (record { signature = h; count_is = (Decides-eqb (length f.parameters) count).0 p; callee_is = q })))

  function_meant_sound : (span : Span) (count : ℕ) (m : Meaning) → MeaningFits n m → Sound n Limit (Callable count) (function_meant span count m)
  function_meant_sound span count (meanings.Variable v) h = fault_sound 33 span _
  function_meant_sound span count (meanings.Constant k) h = fault_sound 33 span _
  function_meant_sound span count (meanings.Function f) h = callable_sound span count f h

  function_named_sound : (span : Span) (count : ℕ) (found : Option Bound) → FoundFits n found → Sound n Limit (Callable count) (function_named span count found)
  function_named_sound span count None h = fault_sound 30 span _
  function_named_sound span count (Some b) h = function_meant_sound span count b.meaning h

  function_sound : (span : Span) (w : List ℕ) (count : ℕ) → Sound n Limit (Callable count) (function_at span w count)
  unfolding function_at
  function_sound span w count = then_sound (look_sound w) (λ found p. function_named_sound span count found p)

  -- ---- calls

  lent_sound : (span : Span) (p : ParameterKind) (m : ℕ) → p.length ≡ Some m → (s : Sort) → SortFits n s → Sound n Limit (GivenFits n (p ∷ [])) (lent span p.kind m s)
  lent_sound span p m e (sorts.Value a) h = fault_sound 35 span _
  lent_sound span p m e (sorts.Array v) h =
      then_sound (expect_sound 35 span (same_kind v.kind p.kind && same_length v.length m)) (λ u t.
      pure_sound (array_given v) (array_given_fits n p m v e h (and_right (same_kind v.kind p.kind) (same_length v.length m) t)))
  lent_sound span p m e sorts.Other h = fault_sound 35 span _

  argument_if_sound : (x : Piece) → IsSound x → (p : ParameterKind) → IsKind p.kind → (length : Option ℕ) → p.length ≡ length → Sound n Limit (GivenFits n (p ∷ [])) (argument_if x p.kind length)
  argument_if_sound x h p k None e =
      then_sound (integer_sound x h) (λ a f. pure_sound (word_given (converted_to p.kind a)) (word_given_fits n p (converted_to p.kind a) e (converted_fine n p.kind a k f) (converted_kind n p.kind a)))
  argument_if_sound x h p k (Some m) e = then_sound h (λ s f. lent_sound x.span p m e s f)

  argument_sound : (o : Option ParameterKind) (p : ParameterKind) → o ≡ Some p → (x : Piece) → IsSound x → IsKind p.kind → Sound n Limit (GivenFits n (p ∷ [])) (argument o x)
  unfolding argument
  argument_sound o p e x h k = subst (λ q. Sound n Limit (GivenFits n (p ∷ [])) (argument q x)) (sym e) (argument_if_sound x h p k p.length refl)

  arguments_sound : (i : ℕ) (xs : List Piece) (all rest : List ParameterKind) → StandsFrom all i rest → length rest ≡ length xs → AllByRecursion (λ (p : ParameterKind). IsKind p.kind) rest
      → AllByRecursion IsSound xs → Sound n Limit (GivenFits n rest) (arguments_from i xs all)
  unfolding arguments_from
  arguments_sound i [] all [] b e ks hs = pure_sound nothing_given (record { words = refl; arrays = refl })
  arguments_sound i [] all (p ∷ rest) b e ks hs = absurd (omega arith)
  arguments_sound i (x ∷ xs) all [] b e ks hs = absurd (omega arith)
  arguments_sound i (x ∷ xs) all (p ∷ rest) b e ks hs =
      let first : slice_get all i ≡ Some p = (let z : i ≡ i + 0 = omega arith in ap (slice_get all) z ∙ b 0) in
      let others : StandsFrom all (i + 1) rest = λ j. (let z : i + 1 + j ≡ i + suc j = omega arith in ap (slice_get all) z ∙ b (suc j)) in
      then_sound (argument_sound (slice_get all i) p first x hs.0 ks.0) (λ g f. then_sound (arguments_sound (i + 1) xs all rest others (omega arith) ks.1 hs.1) (λ h k. pure_sound (joined g h) (joined_fits n p rest g h f k)))

  -- a call fits, and gives what its function gives
  pub record CallFine (kind : Option Kind) (c : TypedCall) : Type 0 where
    pub fits : IsTrue (call_fit n c).fits
    pub result_is : (call_fit n c).result ≡ kind
    pub of_kind : IsTrue (result_kind_fits kind)
    pub cell_lies : IsTrue (cell_fits n.room (cells.Local (cell_at c)))

  call_is : (callee : Callee) (given : Given) (cell : ℕ) (kind : Option Kind) → IsTrue (callee_fits n callee (map (expression_fit n) given.words) given.arrays).fits → (callee_fits n callee (map (expression_fit n) given.words) given.arrays).result ≡ kind
      → IsTrue (is_cell n cell) → IsTrue (result_kind_fits kind) → CallFine kind (roll-TypedCall (record { callee = callee; words = given.words; arrays = given.arrays; cell = cell }))
  unfolding call_fit expression_fit cell_at
  call_is callee given cell kind h e c k =
      let call = roll-TypedCall (record { callee = callee; words = given.words; arrays = given.arrays; cell = cell }) in
      let fit = callee_fits n callee (map (expression_fit n) given.words) given.arrays in
      let is : call_fit n call ≡ in_cell n cell fit = search (rules, the_lemmas) in
      let cell_is_there : cell_at call ≡ cell = search (rules, the_lemmas) in
      record {
        fits = subst (λ (f : CallFit). IsTrue f.fits) (sym is) (and_both fit.fits (is_cell n cell) h c);
        result_is = ap (λ (f : CallFit). f.result) is ∙ e;
        of_kind = k;
        cell_lies = subst (λ (m : ℕ). IsTrue (cell_fits n.room (cells.Local m))) (sym cell_is_there) (frame_cell n.room cell c);
      }

  defined_given : (f : Signature) (given : Given) (o : Option TypedFunction) → DefinedAs f o → GivenFits n f.parameters given
      → IsTrue (defined_fits n o (map (expression_fit n) given.words) given.arrays).fits × ((defined_fits n o (map (expression_fit n) given.words) given.arrays).result ≡ f.result)
  defined_given f given None h g = absurd h
  defined_given f given (Some d) h g = (
    and_both (matched (word_fits n) (map (expression_fit n) given.words) (word_kinds d)) _
        (subst (λ ks. IsTrue (matched (word_fits n) (map (expression_fit n) given.words) ks)) (sym (filter_map_taken word_of d.parameters ∙ ap (filter_map word_of) h.1)) g.words)
        (subst (λ ks. IsTrue (matched (array_fits n) given.arrays ks)) (sym (filter_map_taken length_of d.parameters ∙ ap (filter_map length_of) h.1)) g.arrays),
    h.0,
  )

  nothing_matched : {X Y : Type 0} (test : X → Y → Bool) (xs : List X) → IsTrue (matched test xs []) → xs ≡ []
  nothing_matched test [] h = refl
  nothing_matched test (x ∷ xs) h = absurd (is_false h)

  input_given : (f : Signature) (given : Given) (o : Option InputFunction) → InputAs f o → GivenFits n f.parameters given
      → IsTrue (input_fits n o (map (expression_fit n) given.words) given.arrays).fits × ((input_fits n o (map (expression_fit n) given.words) given.arrays).result ≡ f.result)
  input_given f given None h g = absurd h
  input_given f given (Some d) h g =
      let words = nothing_matched (word_fits n) (map (expression_fit n) given.words) (subst (λ ps. IsTrue (matched (word_fits n) (map (expression_fit n) given.words) (filter_map word_of ps))) h.1 g.words) in
      let arrays = nothing_matched (array_fits n) given.arrays (subst (λ ps. IsTrue (matched (array_fits n) given.arrays (filter_map length_of ps))) h.1 g.arrays) in
      subst (λ ws. IsTrue (input_fits n (Some d) ws given.arrays).fits × ((input_fits n (Some d) ws given.arrays).result ≡ f.result)) (sym words)
      (subst (λ vs. IsTrue (input_fits n (Some d) [] vs).fits × ((input_fits n (Some d) [] vs).result ≡ f.result)) (sym arrays) (refl, h.0))

  called_by : (f : Signature) (o : Option Callee) → IsTrue (is_some o) → CalleeIs n.functions n.inputs f o → IsTrue (result_kind_fits f.result) → (given : Given) → GivenFits n f.parameters given → (cell : ℕ) → IsTrue (is_cell n cell)
      → CallFine f.result (roll-TypedCall (record { callee = callee_or o; words = given.words; arrays = given.arrays; cell = cell }))
  called_by f None some h k given g cell c = absurd (is_false some)
  called_by f (Some (callees.Defined i)) some h k given g cell c = (let d = defined_given f given (slice_get n.functions i) h g in call_is (callees.Defined i) given cell f.result d.0 d.1 c k)
  called_by f (Some (callees.Input i)) some h k given g cell c = (let d = input_given f given (slice_get n.inputs i) h g in call_is (callees.Input i) given cell f.result d.0 d.1 c k)

  pub call_sound : (span : Span) (w : List ℕ) (xs : List Piece) → AllByRecursion IsSound xs → Sound n Limit (λ c. CallFine c.0 c.1) (call_rule span w xs)
  unfolding call_rule
  call_sound span w xs hs =
      then_sound temporary_sound (λ cell c. then_sound (function_sound span w (length xs)) (λ f k. then_sound (arguments_sound 0 xs f.parameters f.parameters (λ j. (let z : 0 + j ≡ j = omega arith in ap (slice_get f.parameters) z)) k.count_is k.signature.parameters hs) (λ given g.
      pure_sound (f.result, call_of f given cell) (called_by f f.callee k.callee_is k.signature.callee k.signature.result given g cell (cell_is n cell c)))))

  called_fits : (span : Span) → IsTrue (span_fits n span) → (kind : Option Kind) (c : TypedCall) → CallFine kind c → SortFits n (called span kind c)
  called_fits span s None c h = tt
  called_fits span s (Some kind) c h = call_fine n span s kind c h.fits h.cell_lies h.result_is h.of_kind

  -- ---- expressions

  abbrev place : Span → Bool
  place = place_in n.files

  abbrev form_passes : ExprForm → Bool
  form_passes = fold-ExprForm Bool Bool (form_step number_is place) (λ t. place t.span && t.form)

  abbrev passes : ExprTree → Bool
  passes = tree_passes number_is place

  abbrev FormSound : ExprForm → Type 0
  FormSound f = (span : Span) → IsTrue (place span) → IsTrue (form_passes f) → Sound n Limit (SortFits n) (form_typing f span)

  abbrev TreeSound : ExprTree → Type 0
  TreeSound t = TreePasses n.files t → IsSound (piece t)

  form_is : (x : ExprForm-F ExprForm ExprTree) (rule : Span → Rule Sort) (b : Bool) → form_typing (roll-ExprForm x) ≡ rule → form_passes (roll-ExprForm x) ≡ b
      → ((span : Span) → IsTrue (place span) → IsTrue b → Sound n Limit (SortFits n) (rule span)) → FormSound (roll-ExprForm x)
  form_is x rule b e g h span s p = subst (λ (r : Span → Rule Sort). Sound n Limit (SortFits n) (r span)) (sym e) (h span s (subst IsTrue g p))

  of : (t : ExprTree) → TreeSound t → TreePasses n.files t → Sound n Limit (Fine n) (integer (piece t))
  of t h p = integer_sound (piece t) (h p)

  number_at : (v : ℕ) (kind : Kind) → FormSound (roll-ExprForm (ExprForm-F.Number v kind))
  unfolding form_typing piece
  number_at v kind =
      form_is (ExprForm-F.Number v kind) (form_rule (ExprForm-F.Number v kind)) (is_value kind v) (search (rules, tree_lemmas)) (search (rules, tree_lemmas))
      (λ span s p. pure_sound _ (constant_fine n span s kind v p))

  name_tree_at : (w : List ℕ) → FormSound (roll-ExprForm (ExprForm-F.Name w))
  unfolding form_typing piece
  name_tree_at w = form_is (ExprForm-F.Name w) (form_rule (ExprForm-F.Name w)) true (search (rules, tree_lemmas)) (search (rules, tree_lemmas)) (λ span s p. name_sound span s w)

  element_at : (w : List ℕ) (x : ExprTree) → TreeSound x → FormSound (roll-ExprForm (ExprForm-F.Element w x))
  unfolding form_typing piece tree_passes
  element_at w x h =
      form_is (ExprForm-F.Element w x) (form_rule (ExprForm-F.Element w (piece x))) (passes x) (search (rules, tree_lemmas)) (search (rules, tree_lemmas))
      (λ span s p. then_sound (array_sound span w) (λ v a. then_sound (of x h p) (λ i f. pure_sound _ (element_fine n span s v i a f))))

  call_at : (w : List ℕ) (xs : List ExprTree) → AllByRecursion TreeSound xs → FormSound (roll-ExprForm (ExprForm-F.Call w xs))
  unfolding form_typing piece tree_passes
  call_at w xs h =
      form_is (ExprForm-F.Call w xs) (form_rule (ExprForm-F.Call w (map piece xs))) (list_all (λ a. a) (map passes xs)) (search (rules, tree_lemmas)) (search (rules, tree_lemmas))
      (λ span s p. then_sound (call_sound span w (map piece xs) (pieces xs h p)) (λ c k. pure_sound (called span c.0 c.1) (called_fits span s c.0 c.1 k)))
    where
      pieces : (ts : List ExprTree) → AllByRecursion TreeSound ts → IsTrue (list_all (λ a. a) (map passes ts)) → AllByRecursion IsSound (map piece ts)
      pieces [] k p = tt
      pieces (t ∷ ts) k p = (k.0 (and_left (passes t) (list_all (λ a. a) (map passes ts)) p), pieces ts k.1 (and_right (passes t) (list_all (λ a. a) (map passes ts)) p))

  cast_at : (kind : Kind) (x : ExprTree) → TreeSound x → FormSound (roll-ExprForm (ExprForm-F.Cast kind x))
  unfolding form_typing piece tree_passes
  cast_at kind x h =
      form_is (ExprForm-F.Cast kind x) (form_rule (ExprForm-F.Cast kind (piece x))) (is_kind kind && passes x) (search (rules, tree_lemmas)) (search (rules, tree_lemmas))
      (λ span s p. then_sound (of x h (and_right (is_kind kind) (passes x) p)) (λ a f. pure_sound _ (convert_fine n span s kind a (and_left (is_kind kind) (passes x) p) f)))

  plus_at : (x : ExprTree) → TreeSound x → FormSound (roll-ExprForm (ExprForm-F.Plus x))
  unfolding form_typing piece tree_passes
  plus_at x h =
      form_is (ExprForm-F.Plus x) (form_rule (ExprForm-F.Plus (piece x))) (passes x) (search (rules, tree_lemmas)) (search (rules, tree_lemmas))
      (λ span s p. then_sound (of x h p) (λ a f. pure_sound _ (convert_fine n span s (promotion a.kind) a (promotion_is a.kind f.of_kind) f)))

  unary_at : (op : UnaryOp) (x : ExprTree) → TreeSound x → FormSound (roll-ExprForm (ExprForm-F.Unary op x))
  unfolding form_typing piece tree_passes
  unary_at op x h =
      form_is (ExprForm-F.Unary op x) (form_rule (ExprForm-F.Unary op (piece x))) (passes x) (search (rules, tree_lemmas)) (search (rules, tree_lemmas))
      (λ span s p. then_sound (of x h p) (λ a f. pure_sound _ (operator_fine n span s op a f)))

  binary_at : (op : BinaryOp) (x y : ExprTree) → TreeSound x → TreeSound y → FormSound (roll-ExprForm (ExprForm-F.Binary op x y))
  unfolding form_typing piece tree_passes
  binary_at op x y h k =
      form_is (ExprForm-F.Binary op x y) (form_rule (ExprForm-F.Binary op (piece x) (piece y))) (passes x && passes y) (search (rules, tree_lemmas)) (search (rules, tree_lemmas))
      (λ span s p. then_sound (of x h (and_left (passes x) (passes y) p)) (λ a f. then_sound (of y k (and_right (passes x) (passes y) p)) (λ b g. pure_sound _ (operation_fine n span s op a b f g))))

  both_at : (x y : ExprTree) → TreeSound x → TreeSound y → FormSound (roll-ExprForm (ExprForm-F.Both x y))
  unfolding form_typing piece tree_passes
  both_at x y h k =
      form_is (ExprForm-F.Both x y) (form_rule (ExprForm-F.Both (piece x) (piece y))) (passes x && passes y) (search (rules, tree_lemmas)) (search (rules, tree_lemmas))
      (λ span s p. then_sound temporary_sound (λ cell c. then_sound (of x h (and_left (passes x) (passes y) p)) (λ a f. then_sound (of y k (and_right (passes x) (passes y) p)) (λ b g. pure_sound _ (both_fine n span s a b cell f g (cell_is n cell c))))))

  either_at : (x y : ExprTree) → TreeSound x → TreeSound y → FormSound (roll-ExprForm (ExprForm-F.Either x y))
  unfolding form_typing piece tree_passes
  either_at x y h k =
      form_is (ExprForm-F.Either x y) (form_rule (ExprForm-F.Either (piece x) (piece y))) (passes x && passes y) (search (rules, tree_lemmas)) (search (rules, tree_lemmas))
      (λ span s p. then_sound temporary_sound (λ cell c. then_sound (of x h (and_left (passes x) (passes y) p)) (λ a f. then_sound (of y k (and_right (passes x) (passes y) p)) (λ b g. pure_sound _ (either_fine n span s a b cell f g (cell_is n cell c))))))

  choice_at : (x y z : ExprTree) → TreeSound x → TreeSound y → TreeSound z → FormSound (roll-ExprForm (ExprForm-F.Choice x y z))
  unfolding form_typing piece tree_passes
  choice_at x y z h k l =
      form_is (ExprForm-F.Choice x y z) (form_rule (ExprForm-F.Choice (piece x) (piece y) (piece z))) (passes x && passes y && passes z) (search (rules, tree_lemmas)) (search (rules, tree_lemmas))
      (λ span s p.
      let two = and_left (passes x && passes y) (passes z) p in
      then_sound temporary_sound (λ cell c. then_sound (of x h (and_left (passes x) (passes y) two)) (λ t e. then_sound (of y k (and_right (passes x) (passes y) two)) (λ a f. then_sound (of z l (and_right (passes x && passes y) (passes z) p)) (λ b g.
      pure_sound _ (alternative_fine n span s t a b cell e f g (cell_is n cell c)))))))

  tree_at : (x : ExprTree-F ExprForm ExprTree) → FormSound x.form → TreeSound (roll-ExprTree x)
  unfolding form_typing piece tree_passes
  tree_at x h p =
      let is : piece (roll-ExprTree x) ≡ record { span = x.span; sort = form_typing x.form x.span } = search (rules, tree_lemmas) in
      let tests : passes (roll-ExprTree x) ≡ (place x.span && form_passes x.form) = search (rules, tree_lemmas) in
      let both : IsTrue (place x.span && form_passes x.form) = subst IsTrue tests p in
      subst IsSound (sym is) (h x.span (and_left (place x.span) (form_passes x.form) both) (and_right (place x.span) (form_passes x.form) both))

  pub tree_sound : (t : ExprTree) → TreeSound t
  tree_sound t = ind-ExprTree FormSound TreeSound (λ x. elim [
    | ExprForm-F.Number v kind ↦ λ e. subst (λ z. FormSound (roll-ExprForm z)) e (number_at v kind)
    | ExprForm-F.Name w ↦ λ e. subst (λ z. FormSound (roll-ExprForm z)) e (name_tree_at w)
    | ExprForm-F.Element w x ↦ λ e. subst (λ z. FormSound (roll-ExprForm z)) e (element_at w x.0 x.1)
    | ExprForm-F.Call w xs ↦ λ e. subst (λ z. FormSound (roll-ExprForm z)) e (call_at w _ (all_mapped TreeSound (λ q. q.0) (λ q. q.1) xs))
    | ExprForm-F.Cast kind x ↦ λ e. subst (λ z. FormSound (roll-ExprForm z)) e (cast_at kind x.0 x.1)
    | ExprForm-F.Plus x ↦ λ e. subst (λ z. FormSound (roll-ExprForm z)) e (plus_at x.0 x.1)
    | ExprForm-F.Unary op x ↦ λ e. subst (λ z. FormSound (roll-ExprForm z)) e (unary_at op x.0 x.1)
    | ExprForm-F.Binary op x y ↦ λ e. subst (λ z. FormSound (roll-ExprForm z)) e (binary_at op x.0 y.0 x.1 y.1)
    | ExprForm-F.Both x y ↦ λ e. subst (λ z. FormSound (roll-ExprForm z)) e (both_at x.0 y.0 x.1 y.1)
    | ExprForm-F.Either x y ↦ λ e. subst (λ z. FormSound (roll-ExprForm z)) e (either_at x.0 y.0 x.1 y.1)
    | ExprForm-F.Choice x y z ↦ λ e. subst (λ w. FormSound (roll-ExprForm w)) e (choice_at x.0 y.0 z.0 x.1 y.1 z.1)
  ]) (λ x y e. subst (λ z. TreeSound (roll-ExprTree z)) e (tree_at (record { span = y.span; form = y.form.0 }) y.form.1)) t

  pub expression_sound : (t : ExprTree) → TreePasses n.files t → Sound n Limit (Fine n) (integer (piece t))
  expression_sound t p = of t (tree_sound t) p

-- ---- constant expressions

abbrev pub ConstantIs : Option Kind → Option ℕ → Type 0
ConstantIs None v = Unit {0}
ConstantIs (Some kind) None = Unit {0}
ConstantIs (Some kind) (Some v) = IsValue kind v

abbrev FoldsTo : Option Kind → TypedExpr → Type 0
FoldsTo None e = Unit {0}
FoldsTo (Some kind) e = ValueOf kind (folded (converted_to kind e))

abbrev IfKind : Option Kind → Type 0
IfKind None = Unit {0}
IfKind (Some kind) = IsKind kind

module _ (n : Nameable) (l : Limits) where
  folding : (kind : Option Kind) → IfKind kind → (m : Nameable) (e : TypedExpr) → Fine m e → FoldsTo kind e
  folding None k m e h = tt
  folding (Some kind) k m e h = subst (λ q. ValueOf q (folded (converted_to kind e))) (converted_kind m kind e) (converted_fine m kind e k h).value

  constant_of_sound : (kind : Option Kind) (span : Span) (e : TypedExpr) → FoldsTo kind e → Sound n l (ConstantIs kind) (constant_of span (folded (fitted kind e)))
  constant_of_sound None span e h = free (folded e)
    where
      free : (f : Folded) → Sound n l (ConstantIs None) (constant_of span f)
      free folds.Varying = fault_sound 38 span None
      free folds.Undefined = fault_sound 38 span None
      free (folds.Value v) = pure_sound (Some v) tt
  constant_of_sound (Some kind) span e h = valued (folded (converted_to kind e)) h
    where
      valued : (f : Folded) → ValueOf kind f → Sound n l (ConstantIs (Some kind)) (constant_of span f)
      valued folds.Varying k = fault_sound 38 span None
      valued folds.Undefined k = fault_sound 38 span None
      valued (folds.Value v) k = pure_sound (Some v) k

  weaker : (kind : Option Kind) → IfKind kind → (t : ExprTree) → TreePasses n.files t → (cells : ℕ)
      → Sound (roomier cells n) (record { locals = l.locals; temporaries = (roomier cells n).room.cells }) (FoldsTo kind) (integer (piece t))
  weaker kind k t p cells =
      let h = expression_sound (roomier cells n) l.locals t p in
      record { run = λ at names none locals temporaries. (let d = h.run at names none locals temporaries in record { made = folding kind k (roomier cells n) _ d.made; bound = d.bound }) }

  pub constant_sound : (kind : Option Kind) → IfKind kind → (t : ExprTree) → TreePasses n.files t → Sound n l (ConstantIs kind) (constant kind t)
  unfolding constant
  constant_sound kind k t p = then_sound (uncounted_sound (expression_silent t) (weaker kind k t p)) (λ e h. constant_of_sound kind t.span e h)
