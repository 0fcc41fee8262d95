-- What the trees of expressions make, where they fit: it leads on, and meets the rules.
use Rattle.std.proofs.Common.{◌≡◌, ℕ, ◌<◌, Bool, List, [], ◌∷◌, map, length, Option, Some, None, refl, sym, ap, subst, ◌∙◌, rules}
use Rattle.std.specs.Prelude.{IsTrue, IfSome, ◌&&◌, nat_lt, slice_get}
use Rattle.std.specs.List.{AllZip, AllByRecursion}
use Rattle.std.specs.Option.{option_map}
use Rattle.fq_core.specs.declared.span.Span.{Span}
use Rattle.c_values.specs.Kind.{int, is_kind}
use Rattle.c_values.specs.Operations.{unary_kind, binary_kind}
use Rattle.c_values.specs.declared.kinds.Kind.{Kind}
use Rattle.c_values.specs.declared.operators.BinaryOp.{BinaryOp}
use Rattle.c_values.specs.declared.operators.UnaryOp.{UnaryOp}
use Rattle.c_values.specs.declared.operators.UnaryOp.TheVariants as unary
use Rattle.c_values.proofs.Fitting.{and_left, and_right}
use Rattle.cfa.specs.declared.parts.InputFunction.{InputFunction}
use Rattle.cfa.specs.declared.parts.Variable.{Variable}
use Rattle.cfa.specs.Each.{matched}
use Rattle.cfa.specs.Kinds.{same_kind}
use Rattle.c_typed_trees.specs.declared.expression.Callee.{Callee}
use Rattle.c_typed_trees.specs.declared.expression.Callee.TheVariants.{Defined, Input}
use Rattle.c_typed_trees.specs.declared.expression.TypedCall.{TypedCall, ind-TypedCall, roll-TypedCall}
use Rattle.c_typed_trees.specs.declared.expression.TypedExpr.{TypedExpr, ind-TypedExpr, roll-TypedExpr}
use Rattle.c_typed_trees.specs.declared.expression.TypedExprForm.{TypedExprForm, fold-TypedExprForm, roll-TypedExprForm, the_lemmas as expression_lemmas}
use Rattle.c_typed_trees.specs.declared.expression.TypedExprForm.TheOpen.{TypedExpr-F, TypedExprForm-F, TypedPlace-F}
use Rattle.c_typed_trees.specs.declared.expression.TypedPlace.{TypedPlace, ind-TypedPlace, map-TypedPlace, roll-TypedPlace}
use Rattle.c_typed_trees.specs.declared.unit.TypedFunction.{TypedFunction}
use Rattle.c_typed_trees.specs.Fitting.{Nameable, Fit, CallFit, expression_fit, expression_fits, place_fits, call_fit, operands_meet, gives, is_cell, is_variable, span_fits, is_array, word_fits, word_kinds, array_fits, array_lengths, callee_fits, defined_fits, input_fits, indexed}
use Rattle.c_typed_trees.specs.Fitting as fitting
use Rattle.c_lower_rules.specs.graph_of.Builder.{Builder, Flow}
use Rattle.c_lower_rules.specs.declared.graph_of.parts.Around.{Around}
use Rattle.c_lower_rules.specs.declared.graph_of.parts.Operand.{Operand}
use Rattle.c_lower_rules.specs.graph_of.Expressions.{Calling, Value, Spot, Shaped, unary_value, unary_pure, binary_pure, truth_pure, other_cond, both_cond, either_cond, shape_of, value_of, spot_of, calling_of, form_step}
use Rattle.c_lower_rules.proofs.graph_rules.Settings.{Setting}
use Rattle.c_lower_rules.proofs.graph_rules.Operands.{same_kind_is, integer_variable, array_variable}
use Rattle.c_lower_rules.proofs.graph_rules.WaysFlows as ways
use Rattle.c_lower_rules.proofs.graph_rules.SitsFlows as sits
use Rattle.c_lower_rules.proofs.graph_rules.SitsValues as value
use Rattle.c_lower_rules.proofs.graph_rules.SitsSwitch.{span_there}

-- a form's test of its kind
unfoldable pub form_fits : Nameable → TypedExprForm → Kind → Bool
form_fits n = fold-TypedExprForm (Kind → Bool) CallFit Fit Bool (fitting.form_step n) (fitting.call_step n) (fitting.expr_step n) (fitting.place_step n)

-- the value leads on, and meets the rules
pub record ValueHolds (c : Setting) (x : Value) (kind : Kind) : Type 0 where
  pub ways : ways.IsValue x
  pub sits : sits.IsValue c x kind

pub record CallHolds (c : Setting) (call : Calling) (result : Option Kind) : Type 0 where
  pub ways : AllByRecursion ways.IsValue call.words
  pub sits : sits.CallFits c call.callee call.words call.arrays result
  pub cell : IsTrue (nat_lt call.cell c.names.room.cells)

pub record SpotHolds (c : Setting) (p : Spot) : Type 0 where
  pub ways : ways.IsSpot p
  pub sits : sits.SpotFits c p
  pub variable : IsTrue (is_variable c.names p.variable)

module _ (c : Setting) where
  abbrev kind_in : TypedExpr → Kind
  kind_in x = (expression_fit c.names x).kind

  abbrev FormHas : TypedExprForm → Type 0
  FormHas f = (span : Span) (kind : Kind) → span.file < length c.graph.files → IsTrue (is_kind kind) → IsTrue (form_fits c.names f kind) → ValueHolds c (shape_of f span kind) kind

  abbrev CallHas : TypedCall → Type 0
  CallHas call = IsTrue (call_fit c.names call).fits → CallHolds c (calling_of call) (call_fit c.names call).result

  abbrev pub ValueHas : TypedExpr → Type 0
  ValueHas x = IsTrue (expression_fits c.names x) → ValueHolds c (value_of x) (expression_fit c.names x).kind

  abbrev PlaceHas : TypedPlace → Type 0
  PlaceHas p = IsTrue (place_fits c.names p) → SpotHolds c (spot_of p)

  -- a form is what its step makes
  form_is : (x : TypedExprForm-F TypedExprForm TypedCall TypedExpr TypedPlace) (made : Shaped) (fit : Kind → Bool) → shape_of (roll-TypedExprForm x) ≡ made → form_fits c.names (roll-TypedExprForm x) ≡ fit
      → ((span : Span) (kind : Kind) → span.file < length c.graph.files → IsTrue (is_kind kind) → IsTrue (fit kind) → ValueHolds c (made span kind) kind) → FormHas (roll-TypedExprForm x)
  form_is x made fit e f h span kind file k fits = subst (λ (m : Shaped). ValueHolds c (m span kind) kind) (sym e) (h span kind file k (subst (λ (g : Kind → Bool). IsTrue (g kind)) f fits))

  -- an expression that a condition doesn't split
  unsplit_holds : (span : Span) (kind : Kind) (x : Around → Flow Operand) → span.file < length c.graph.files → ways.IsPure x → sits.IsPure c (sits.OperandFits c kind) x → ValueHolds c (record { span = span; kind = kind; pure = x; cond = other_cond span x }) kind
  unsplit_holds span kind x file h k = record { ways = ways.unsplit_is span kind x h; sits = record { span = file; same = refl; pure = k; cond = value.other_is c span kind x file k } }

  split_holds : (span : Span) (kind : Kind) (x : Around → Flow Operand) (t : Around → ℕ → ℕ → ℕ → Builder) → span.file < length c.graph.files → ways.IsPure x → sits.IsPure c (sits.OperandFits c kind) x → ways.IsTesting t → sits.IsTesting c t → ValueHolds c (record { span = span; kind = kind; pure = x; cond = t }) kind
  split_holds span kind x t file h k g i = record { ways = record { pure = h; cond = g }; sits = record { span = file; same = refl; pure = k; cond = i } }

  constant_at : (n : ℕ) → FormHas (roll-TypedExprForm (TypedExprForm-F.Constant n))
  unfolding shape_of form_fits
  constant_at n = form_is (TypedExprForm-F.Constant n) (form_step (TypedExprForm-F.Constant n)) (fitting.form_step c.names (TypedExprForm-F.Constant n)) (search (rules, expression_lemmas)) (search (rules, expression_lemmas))
      (λ span kind file k fits. unsplit_holds span kind _ file (λ u. ways.give_is _) (value.constant_is c n kind fits))

  load_at : (p : TypedPlace) → PlaceHas p → FormHas (roll-TypedExprForm (TypedExprForm-F.Load p))
  unfolding shape_of spot_of form_fits place_fits
  load_at p h = form_is (TypedExprForm-F.Load p) (form_step (TypedExprForm-F.Load (spot_of p))) (fitting.form_step c.names (TypedExprForm-F.Load (place_fits c.names p))) (search (rules, expression_lemmas)) (search (rules, expression_lemmas))
      (λ span kind file k fits. let P = h fits in unsplit_holds span kind _ file (ways.load_is (spot_of p) kind P.ways) (value.load_is c (spot_of p) kind P.sits k))

  convert_at : (x : TypedExpr) → ValueHas x → FormHas (roll-TypedExprForm (TypedExprForm-F.Convert x))
  unfolding shape_of value_of form_fits expression_fit
  convert_at x h = form_is (TypedExprForm-F.Convert x) (form_step (TypedExprForm-F.Convert (value_of x))) (fitting.form_step c.names (TypedExprForm-F.Convert (expression_fit c.names x))) (search (rules, expression_lemmas)) (search (rules, expression_lemmas))
      (λ span kind file k fits. let X = h fits in unsplit_holds span kind _ file (ways.convert_is (value_of x) kind X.ways.pure) (value.convert_is c (value_of x) (kind_in x) kind X.sits.pure k))

  -- an operator on an operand of a kind
  own_pure : (x : Value) (own : Kind) → ValueHolds c x own → sits.IsPure c (sits.OperandFits c x.kind) x.pure
  own_pure x own h = subst (λ q. sits.IsPure c (sits.OperandFits c q) x.pure) (sym h.sits.same) h.sits.pure

  unary_holds : (span : Span) (kind own : Kind) (op : UnaryOp) (x : Value) → span.file < length c.graph.files → ValueHolds c x own → kind ≡ unary_kind op own → ValueHolds c (unary_value span kind op x) kind
  unary_holds span kind own op x file h same = by op (subst (λ q. sits.IsPure c (sits.OperandFits c q) (unary_pure op x)) kinds (value.unary_is c op x (own_pure x own h)))
    where
      kinds : unary_kind op x.kind ≡ kind
      kinds = ap (unary_kind op) h.sits.same ∙ sym same

      by : (o : UnaryOp) → sits.IsPure c (sits.OperandFits c kind) (unary_pure o x) → ValueHolds c (unary_value span kind o x) kind
      by unary.Not g = split_holds span kind _ _ file (ways.unary_is unary.Not x h.ways.pure) g (ways.not_is x h.ways.cond) (value.not_is c x h.sits.cond)
      by unary.Neg g = unsplit_holds span kind _ file (ways.unary_is unary.Neg x h.ways.pure) g
      by unary.Complement g = unsplit_holds span kind _ file (ways.unary_is unary.Complement x h.ways.pure) g

  unary_at : (op : UnaryOp) (x : TypedExpr) → ValueHas x → FormHas (roll-TypedExprForm (TypedExprForm-F.Unary op x))
  unfolding shape_of value_of form_fits expression_fit
  unary_at op x h = form_is (TypedExprForm-F.Unary op x) (form_step (TypedExprForm-F.Unary op (value_of x))) (fitting.form_step c.names (TypedExprForm-F.Unary op (expression_fit c.names x))) (search (rules, expression_lemmas)) (search (rules, expression_lemmas))
      (λ span kind file k fits.
      let own : IsTrue (expression_fits c.names x && same_kind kind (unary_kind op (kind_in x))) = fits in
      unary_holds span kind (kind_in x) op (value_of x) file (h (and_left _ _ own)) (same_kind_is _ _ (and_right _ _ own)))

  binary_holds : (span : Span) (kind own right : Kind) (op : BinaryOp) (x y : Value) → span.file < length c.graph.files → ValueHolds c x own → ValueHolds c y right → IsTrue (operands_meet op own right) → kind ≡ binary_kind op own
      → ValueHolds c (record { span = span; kind = kind; pure = binary_pure op x y; cond = other_cond span (binary_pure op x y) }) kind
  binary_holds span kind own right op x y file h i m same =
      let meets = subst (λ q. IsTrue (operands_meet op q right)) (sym h.sits.same) m in
      let kinds : binary_kind op x.kind ≡ kind = ap (binary_kind op) h.sits.same ∙ sym same in
      unsplit_holds span kind _ file (ways.binary_is op x y h.ways.pure i.ways.pure)
      (subst (λ q. sits.IsPure c (sits.OperandFits c q) (binary_pure op x y)) kinds (value.binary_is c op x y right (own_pure x own h) i.sits.pure meets))

  binary_at : (op : BinaryOp) (x y : TypedExpr) → ValueHas x → ValueHas y → FormHas (roll-TypedExprForm (TypedExprForm-F.Binary op x y))
  unfolding shape_of value_of form_fits expression_fit
  binary_at op x y h i = form_is (TypedExprForm-F.Binary op x y) (form_step (TypedExprForm-F.Binary op (value_of x) (value_of y))) (fitting.form_step c.names (TypedExprForm-F.Binary op (expression_fit c.names x) (expression_fit c.names y))) (search (rules, expression_lemmas)) (search (rules, expression_lemmas))
      (λ span kind file k fits.
      let all : IsTrue (expression_fits c.names x && expression_fits c.names y && operands_meet op (kind_in x) (kind_in y) && same_kind kind (binary_kind op (kind_in x))) = fits in
      let most : IsTrue (expression_fits c.names x && expression_fits c.names y && operands_meet op (kind_in x) (kind_in y)) = and_left _ _ all in
      let both : IsTrue (expression_fits c.names x && expression_fits c.names y) = and_left _ _ most in
      binary_holds span kind (kind_in x) (kind_in y) op (value_of x) (value_of y) file (h (and_left _ _ both)) (i (and_right _ _ both)) (and_right _ _ most) (same_kind_is _ _ (and_right _ _ all)))

  -- `&&` and `||`
  truth_holds : (t : Around → ℕ → ℕ → ℕ → Builder) (cell : ℕ) (span : Span) (kind : Kind) → span.file < length c.graph.files → IsTrue (is_kind kind) → IsTrue (is_cell c.names cell) → ways.IsTesting t → sits.IsTesting c t
      → ValueHolds c (record { span = span; kind = kind; pure = truth_pure t cell kind; cond = t }) kind
  truth_holds t cell span kind file k h g i = split_holds span kind _ t file (ways.truth_is t cell kind g) (value.truth_is c t cell kind i h k) g i

  both_at : (x y : TypedExpr) (cell : ℕ) → ValueHas x → ValueHas y → FormHas (roll-TypedExprForm (TypedExprForm-F.Both x y cell))
  unfolding shape_of value_of form_fits expression_fit
  both_at x y cell h i = form_is (TypedExprForm-F.Both x y cell) (form_step (TypedExprForm-F.Both (value_of x) (value_of y) cell)) (fitting.form_step c.names (TypedExprForm-F.Both (expression_fit c.names x) (expression_fit c.names y) cell)) (search (rules, expression_lemmas)) (search (rules, expression_lemmas))
      (λ span kind file k fits.
      let all : IsTrue (expression_fits c.names x && expression_fits c.names y && is_cell c.names cell && same_kind kind int) = fits in
      let most : IsTrue (expression_fits c.names x && expression_fits c.names y && is_cell c.names cell) = and_left _ _ all in
      let both : IsTrue (expression_fits c.names x && expression_fits c.names y) = and_left _ _ most in
      let X = h (and_left _ _ both) in
      let Y = i (and_right _ _ both) in
      truth_holds (both_cond (value_of x) (value_of y)) cell span kind file k (and_right _ _ most) (ways.both_is (value_of x) (value_of y) X.ways.cond Y.ways.cond) (value.both_is c (value_of x) (value_of y) Y.sits.span X.sits.cond Y.sits.cond))

  either_at : (x y : TypedExpr) (cell : ℕ) → ValueHas x → ValueHas y → FormHas (roll-TypedExprForm (TypedExprForm-F.Either x y cell))
  unfolding shape_of value_of form_fits expression_fit
  either_at x y cell h i = form_is (TypedExprForm-F.Either x y cell) (form_step (TypedExprForm-F.Either (value_of x) (value_of y) cell)) (fitting.form_step c.names (TypedExprForm-F.Either (expression_fit c.names x) (expression_fit c.names y) cell)) (search (rules, expression_lemmas)) (search (rules, expression_lemmas))
      (λ span kind file k fits.
      let all : IsTrue (expression_fits c.names x && expression_fits c.names y && is_cell c.names cell && same_kind kind int) = fits in
      let most : IsTrue (expression_fits c.names x && expression_fits c.names y && is_cell c.names cell) = and_left _ _ all in
      let both : IsTrue (expression_fits c.names x && expression_fits c.names y) = and_left _ _ most in
      let X = h (and_left _ _ both) in
      let Y = i (and_right _ _ both) in
      truth_holds (either_cond (value_of x) (value_of y)) cell span kind file k (and_right _ _ most) (ways.either_is (value_of x) (value_of y) X.ways.cond Y.ways.cond) (value.either_is c (value_of x) (value_of y) Y.sits.span X.sits.cond Y.sits.cond))

  choice_at : (t x y : TypedExpr) (cell : ℕ) → ValueHas t → ValueHas x → ValueHas y → FormHas (roll-TypedExprForm (TypedExprForm-F.Choice t x y cell))
  unfolding shape_of value_of form_fits expression_fit
  choice_at t x y cell g h i = form_is (TypedExprForm-F.Choice t x y cell) (form_step (TypedExprForm-F.Choice (value_of t) (value_of x) (value_of y) cell)) (fitting.form_step c.names (TypedExprForm-F.Choice (expression_fit c.names t) (expression_fit c.names x) (expression_fit c.names y) cell)) (search (rules, expression_lemmas)) (search (rules, expression_lemmas))
      (λ span kind file k fits.
      let all : IsTrue (expression_fits c.names t && expression_fits c.names x && expression_fits c.names y && is_cell c.names cell && same_kind kind (kind_in x) && same_kind kind (kind_in y)) = fits in
      let some : IsTrue (expression_fits c.names t && expression_fits c.names x && expression_fits c.names y && is_cell c.names cell) = and_left _ _ (and_left _ _ all) in
      let three : IsTrue (expression_fits c.names t && expression_fits c.names x && expression_fits c.names y) = and_left _ _ some in
      let two : IsTrue (expression_fits c.names t && expression_fits c.names x) = and_left _ _ three in
      let T = g (and_left _ _ two) in
      let X = h (and_right _ _ two) in
      let Y = i (and_right _ _ three) in
      unsplit_holds span kind _ file (ways.choice_is (value_of t) (value_of x) (value_of y) cell kind T.ways.cond X.ways.pure Y.ways.pure)
      (value.choice_is c (value_of t) (value_of x) (value_of y) cell kind (kind_in x) (kind_in y) T.sits.cond X.sits.pure Y.sits.pure (and_right _ _ some) k))

  gives_is : (o : Option Kind) (kind : Kind) → IsTrue (gives o kind) → o ≡ Some kind
  gives_is None kind h = absurd (cc)
  gives_is (Some own) kind h = ap Some (same_kind_is own kind h)

  call_form_at : (call : TypedCall) → CallHas call → FormHas (roll-TypedExprForm (TypedExprForm-F.Call call))
  unfolding shape_of calling_of form_fits call_fit
  call_form_at call h = form_is (TypedExprForm-F.Call call) (form_step (TypedExprForm-F.Call (calling_of call))) (fitting.form_step c.names (TypedExprForm-F.Call (call_fit c.names call))) (search (rules, expression_lemmas)) (search (rules, expression_lemmas))
      (λ span kind file k fits.
      let both : IsTrue ((call_fit c.names call).fits && gives (call_fit c.names call).result kind) = fits in
      let C = h (and_left _ _ both) in
      unsplit_holds span kind _ file (ways.call_pure_is (calling_of call) kind C.ways)
      (value.call_pure_is c (calling_of call) (call_fit c.names call).result kind C.sits (gives_is (call_fit c.names call).result kind (and_right _ _ both)) C.cell k))

  -- ---- calls, places and expressions

  -- words that match their kinds
  words_hold : (xs : List TypedExpr) (kinds : List Kind) → AllByRecursion ValueHas xs → IsTrue (matched (word_fits c.names) (map (expression_fit c.names) xs) kinds) → AllByRecursion ways.IsValue (map value_of xs) × AllZip (sits.IsValue c) (map value_of xs) kinds
  words_hold [] [] hs m = (tt, tt)
  words_hold [] (k ∷ ks) hs m = absurd (cc)
  words_hold (x ∷ xs) [] hs m = absurd (cc)
  words_hold (x ∷ xs) (k ∷ ks) hs m =
      let all : IsTrue (expression_fits c.names x && same_kind (kind_in x) k && matched (word_fits c.names) (map (expression_fit c.names) xs) ks) = m in
      let own : IsTrue (expression_fits c.names x && same_kind (kind_in x) k) = and_left _ _ all in
      let X = hs.0 (and_left _ _ own) in
      let R = words_hold xs ks hs.1 (and_right _ _ all) in
      ((X.ways, R.0), (subst (sits.IsValue c (value_of x)) (same_kind_is (kind_in x) k (and_right _ _ own)) X.sits, R.1))

  defined_holds : (j : ℕ) (o : Option TypedFunction) (xs : List TypedExpr) (arrays : List Variable) → slice_get c.names.functions j ≡ o → AllByRecursion ValueHas xs → IsTrue (defined_fits c.names o (map (expression_fit c.names) xs) arrays).fits
      → AllByRecursion ways.IsValue (map value_of xs) × sits.DefinedFits c j (map value_of xs) arrays (defined_fits c.names o (map (expression_fit c.names) xs) arrays).result
  defined_holds j None xs arrays e hs m = absurd (cc)
  defined_holds j (Some f) xs arrays e hs m =
      let all : IsTrue (matched (word_fits c.names) (map (expression_fit c.names) xs) (word_kinds f) && matched (array_fits c.names) arrays (array_lengths f)) = m in
      let W = words_hold xs (word_kinds f) hs (and_left _ _ all) in
      (W.0, record { callee = f; there = e; given_words = W.1; given_arrays = and_right _ _ all; same = refl })

  input_holds : (j : ℕ) (o : Option InputFunction) (xs : List TypedExpr) (arrays : List Variable) → slice_get c.names.inputs j ≡ o → IsTrue (input_fits c.names o (map (expression_fit c.names) xs) arrays).fits
      → AllByRecursion ways.IsValue (map value_of xs) × sits.InputFits c j (map value_of xs) (input_fits c.names o (map (expression_fit c.names) xs) arrays).result
  input_holds j None xs arrays e m = absurd (cc)
  input_holds j (Some f) [] [] e m = (tt, record { input = f; there = e; given_words = tt })
  input_holds j (Some f) [] (v ∷ vs) e m = absurd (cc)
  input_holds j (Some f) (x ∷ xs) arrays e m = absurd (cc)

  callee_holds : (callee : Callee) (xs : List TypedExpr) (arrays : List Variable) → AllByRecursion ValueHas xs → IsTrue (callee_fits c.names callee (map (expression_fit c.names) xs) arrays).fits
      → AllByRecursion ways.IsValue (map value_of xs) × sits.CallFits c callee (map value_of xs) arrays (callee_fits c.names callee (map (expression_fit c.names) xs) arrays).result
  callee_holds (Defined j) xs arrays hs m = defined_holds j (slice_get c.names.functions j) xs arrays refl hs m
  callee_holds (Input j) xs arrays hs m = input_holds j (slice_get c.names.inputs j) xs arrays refl m

  call_at : (callee : Callee) (words : List TypedExpr) (arrays : List Variable) (cell : ℕ) → AllByRecursion ValueHas words → CallHas (roll-TypedCall (record { callee = callee; words = words; arrays = arrays; cell = cell }))
  unfolding calling_of value_of call_fit expression_fit
  call_at callee words arrays cell hs fits =
      let own : IsTrue ((callee_fits c.names callee (map (expression_fit c.names) words) arrays).fits && is_cell c.names cell) = subst (λ (q : CallFit). IsTrue q.fits) f fits in
      let H = callee_holds callee words arrays hs (and_left _ _ own) in
      subst (λ (q : Calling). CallHolds c q (call_fit c.names (roll-TypedCall (record { callee = callee; words = words; arrays = arrays; cell = cell }))).result) (sym e)
      (subst (λ (q : CallFit). CallHolds c (record { callee = callee; words = map value_of words; arrays = arrays; cell = cell }) q.result) (sym f) (record { ways = H.0; sits = H.1; cell = and_right _ _ own }))
    where
      e : calling_of (roll-TypedCall (record { callee = callee; words = words; arrays = arrays; cell = cell })) ≡ record { callee = callee; words = map value_of words; arrays = arrays; cell = cell }
      e = search (rules, expression_lemmas)

      f : call_fit c.names (roll-TypedCall (record { callee = callee; words = words; arrays = arrays; cell = cell })) ≡ fitting.call_step c.names (record { callee = callee; words = map (expression_fit c.names) words; arrays = arrays; cell = cell })
      f = search (rules, expression_lemmas)

  index_holds : (v : Variable) (o : Option TypedExpr) → IfSome o ValueHas → IsTrue (indexed c.names v (option_map (expression_fit c.names) o)) → SpotHolds c (record { variable = v; index = option_map value_of o })
  index_holds v None h m = record { ways = tt; sits = m; variable = integer_variable c.names v m }
  index_holds v (Some x) h m =
      let both : IsTrue (is_array c.names v && expression_fits c.names x) = m in
      let X = h (and_right _ _ both) in
      record { ways = X.ways; sits = (and_left _ _ both, (kind_in x, X.sits)); variable = array_variable c.names v (and_left _ _ both) }

  place_at : (z : TypedPlace-F TypedExprForm TypedCall TypedExpr TypedPlace) → IfSome z.index ValueHas → PlaceHas (roll-TypedPlace z)
  unfolding spot_of value_of place_fits expression_fit
  place_at z h fits = subst (SpotHolds c) (sym e) (index_holds z.variable z.index h (subst IsTrue f fits))
    where
      e : spot_of (roll-TypedPlace z) ≡ record { variable = z.variable; index = option_map value_of z.index }
      e = search (rules, expression_lemmas)

      f : place_fits c.names (roll-TypedPlace z) ≡ indexed c.names z.variable (option_map (expression_fit c.names) z.index)
      f = search (rules, expression_lemmas)

  expression_at : (x : TypedExpr-F TypedExprForm TypedCall TypedExpr TypedPlace) → FormHas x.form → ValueHas (roll-TypedExpr x)
  unfolding value_of shape_of expression_fit form_fits
  expression_at x h fits =
      let all : IsTrue (is_kind x.kind && span_fits c.names x.span && form_fits c.names x.form x.kind) = subst (λ (q : Fit). IsTrue q.fits) f fits in
      let most : IsTrue (is_kind x.kind && span_fits c.names x.span) = and_left _ _ all in
      let X = h x.span x.kind (span_there c x.span (and_right _ _ most)) (and_left _ _ most) (and_right _ _ all) in
      subst (λ (q : Value). ValueHolds c q (expression_fit c.names (roll-TypedExpr x)).kind) (sym e)
      (subst (λ (q : Fit). ValueHolds c (record { span = x.span; kind = x.kind; pure = (shape_of x.form x.span x.kind).pure; cond = (shape_of x.form x.span x.kind).cond }) q.kind) (sym f)
      (record { ways = record { pure = X.ways.pure; cond = X.ways.cond }; sits = record { span = span_there c x.span (and_right _ _ most); same = refl; pure = X.sits.pure; cond = X.sits.cond } }))
    where
      e : value_of (roll-TypedExpr x) ≡ record { span = x.span; kind = x.kind; pure = (shape_of x.form x.span x.kind).pure; cond = (shape_of x.form x.span x.kind).cond }
      e = search (rules, expression_lemmas)

      f : expression_fit c.names (roll-TypedExpr x) ≡ record { kind = x.kind; fits = is_kind x.kind && span_fits c.names x.span && form_fits c.names x.form x.kind }
      f = search (rules, expression_lemmas)

  -- a place whose index is given with what holds of it
  place_has : (y : TypedPlace-F ((f : TypedExprForm) × FormHas f) ((q : TypedCall) × CallHas q) ((x : TypedExpr) × ValueHas x) ((p : TypedPlace) × PlaceHas p))
      → PlaceHas (roll-TypedPlace (map-TypedPlace _ _ _ _ TypedExprForm TypedCall TypedExpr TypedPlace (λ q. q.0) (λ q. q.0) (λ q. q.0) (λ q. q.0) y))
  place_has y = place_at _ (index y.variable y.index)
    where
      index : (v : Variable) (o : Option ((x : TypedExpr) × ValueHas x))
          → IfSome (map-TypedPlace ((f : TypedExprForm) × FormHas f) ((q : TypedCall) × CallHas q) ((x : TypedExpr) × ValueHas x) ((p : TypedPlace) × PlaceHas p) TypedExprForm TypedCall TypedExpr TypedPlace (λ q. q.0) (λ q. q.0) (λ q. q.0) (λ q. q.0) (record { variable = v; index = o })).index ValueHas
      index v None = tt
      index v (Some q) = q.1

  module _ {S : Type 0} (f : S → TypedExpr) (g : (q : S) → ValueHas (f q)) where
    all_have : (ys : List S) → AllByRecursion ValueHas (map f ys)
    all_have [] = tt
    all_have (y ∷ ys) = (g y, all_have ys)

  pub value_holds : (x : TypedExpr) → ValueHas x
  value_holds x = ind-TypedExpr FormHas CallHas ValueHas PlaceHas
      (λ x'. elim [
        | TypedExprForm-F.Constant n ↦ λ e. subst (λ z. FormHas (roll-TypedExprForm z)) e (constant_at n)
        | TypedExprForm-F.Load p ↦ λ e. subst (λ z. FormHas (roll-TypedExprForm z)) e (load_at p.0 p.1)
        | TypedExprForm-F.Convert y ↦ λ e. subst (λ z. FormHas (roll-TypedExprForm z)) e (convert_at y.0 y.1)
        | TypedExprForm-F.Unary op y ↦ λ e. subst (λ z. FormHas (roll-TypedExprForm z)) e (unary_at op y.0 y.1)
        | TypedExprForm-F.Binary op y z' ↦ λ e. subst (λ z. FormHas (roll-TypedExprForm z)) e (binary_at op y.0 z'.0 y.1 z'.1)
        | TypedExprForm-F.Both y z' cell ↦ λ e. subst (λ z. FormHas (roll-TypedExprForm z)) e (both_at y.0 z'.0 cell y.1 z'.1)
        | TypedExprForm-F.Either y z' cell ↦ λ e. subst (λ z. FormHas (roll-TypedExprForm z)) e (either_at y.0 z'.0 cell y.1 z'.1)
        | TypedExprForm-F.Choice t y z' cell ↦ λ e. subst (λ z. FormHas (roll-TypedExprForm z)) e (choice_at t.0 y.0 z'.0 cell t.1 y.1 z'.1)
        | TypedExprForm-F.Call q ↦ λ e. subst (λ z. FormHas (roll-TypedExprForm z)) e (call_form_at q.0 q.1)
      ])
      (λ x' y e. subst (λ z. CallHas (roll-TypedCall z)) e (call_at y.callee _ y.arrays y.cell (all_have (λ q. q.0) (λ q. q.1) y.words)))
      (λ x' y e. subst (λ z. ValueHas (roll-TypedExpr z)) e (expression_at (record { span = y.span; kind = y.kind; form = y.form.0 }) y.form.1))
      (λ x' y e. subst (λ z. PlaceHas (roll-TypedPlace z)) e (place_has y)) x

  -- ---- calls and places by themselves

  pub spot_holds : (p : TypedPlace) → IsTrue (place_fits c.names p) → SpotHolds c (spot_of p)
  spot_holds p = ind-TypedPlace (λ f. Unit {0}) (λ q. Unit {0}) (λ x. Unit {0}) PlaceHas (λ x y e. tt) (λ x y e. tt) (λ x y e. tt) (λ x y e. place_at x (index x.index)) p
    where
      index : (o : Option TypedExpr) → IfSome o ValueHas
      index None = tt
      index (Some x) = value_holds x

  pub call_holds : (q : TypedCall) → IsTrue (call_fit c.names q).fits → CallHolds c (calling_of q) (call_fit c.names q).result
  call_holds q = ind-TypedCall (λ f. Unit {0}) CallHas (λ x. Unit {0}) (λ p. Unit {0}) (λ x y e. tt) (λ x y e. call_at x.callee x.words x.arrays x.cell (words x.words)) (λ x y e. tt) (λ x y e. tt) q
    where
      words : (xs : List TypedExpr) → AllByRecursion ValueHas xs
      words [] = tt
      words (x ∷ xs) = (value_holds x, words xs)
