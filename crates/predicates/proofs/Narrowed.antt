-- What an expression is in a scope depends on the variables alone that have its names.
use Rattle.std.proofs.Common.{◌≡◌, ℕ, zero, suc, ◌<◌, Bool, true, false, List, [], ◌∷◌, ◌++◌, map, length, Option, Some, None, refl, sym, ap, subst, ◌∙◌, rules, arith}
use Rattle.std.specs.Prelude.{◌||◌, cond, option_map, option_to_list, slice_get}
use Rattle.std.specs.List.{flat_map, list_all}
use Rattle.std.specs.Str.{bytes_eq}
use Rattle.std.proofs.lemmas.Bool.{and_from, and_parts, or_left, or_right}
use Rattle.std.proofs.lemmas.List.{append-nil}
use Rattle.std.proofs.lemmas.List.Folds.{list_all-append}
use Rattle.std.proofs.lemmas.Option.{same_Some}
use Rattle.fq_core.specs.declared.span.Span.{Span}
use Rattle.c_values.specs.declared.kinds.Kind.{Kind}
use Rattle.c_values.specs.declared.operators.BinaryOp.{BinaryOp}
use Rattle.c_values.specs.declared.operators.UnaryOp.{UnaryOp}
use Rattle.c_lex.proofs.TableLaws.{bytes_same, same_bytes}
use Rattle.c_parse.specs.declared.expr.ExprForm.{ExprForm, fold-ExprForm, roll-ExprForm, the_lemmas}
use Rattle.c_parse.specs.declared.expr.ExprForm.TheOpen.{ExprForm-F, ExprTree-F}
use Rattle.c_parse.specs.declared.expr.ExprTree.{ExprTree, ind-ExprTree, roll-ExprTree}
use Rattle.c_parse.specs.SequencePoints.{has_sequence_point, sequence_step}
use Rattle.cfa.specs.declared.expr.Expr.{Expr}
use Rattle.cfa.specs.declared.parts.Scope.{Scope}
use Rattle.cfa.specs.declared.parts.Variable.{Variable}
use Rattle.cfa.specs.Names.{is_named, visible}
use Rattle.c_type_rules.specs.declared.scopes.Bound.{Bound}
use Rattle.c_type_rules.specs.declared.scopes.Meaning.{Meaning}
use Rattle.c_type_rules.specs.declared.scopes.Meaning.TheVariants as meanings
use Rattle.c_type_rules.specs.declared.typer.Sort.{Sort}
use Rattle.c_type_rules.specs.declared.typer.Sort.TheVariants as sorts
use Rattle.c_type_rules.specs.Expressions.{Piece, array_at, array_if, array_meant, array_named, form_rule, form_typing, integer, name_at, named, piece, typing, wanted}
use Rattle.c_type_rules.specs.Rule.{At, Rule, behind, fault, look, pure, ◌then◌}
use Rattle.c_type_rules.specs.Scopes.{bound_at, has_name, last_place, newest, or_first}
use Rattle.c_type_rules.proofs.ScopeLaws.{placed}
use Rattle.c_types.specs.Declarations.{bound_as}
use Rattle.c_types.specs.Scoped.{at_scope, done_expr, expression_in, faultless_expr, names_in}
use Rattle.predicates.specs.Narrowing.{IsMeaning, names_of, names_step, narrowed, seen}

true_and_false : {b : Bool} → b ≡ true → b ≡ false → ⊥
true_and_false p q = let both : true ≡ false = sym p ∙ q in cc

-- ---- the newest of a name, where one more is bound

get_before : {X : Type 0} (xs ys : List X) (i : ℕ) → i < length xs → slice_get (xs ++ ys) i ≡ slice_get xs i
get_before [] ys i h = absurd (omega arith)
get_before (x ∷ xs) ys zero h = refl
get_before (x ∷ xs) ys (suc i) h = get_before xs ys i (omega arith)

get_last : {X : Type 0} (xs : List X) (x : X) → slice_get (xs ++ x ∷ []) (length xs) ≡ Some x
get_last [] x = refl
get_last (y ∷ xs) x = get_last xs x

first_within : (o : Option ℕ) (t : Bool) (i n : ℕ) → ((j : ℕ) → o ≡ Some j → j < n) → or_first o t ≡ Some i → i < suc n
first_within (Some j) t i n h k = let same : suc j ≡ i = cc in let below : j < n = h j refl in omega arith
first_within None true i n h k = let same : 0 ≡ i = cc in omega arith
first_within None false i n h k = absurd (cc)

last_within : (bs : List Bound) (w : List ℕ) (i : ℕ) → last_place bs w ≡ Some i → i < length bs
unfolding last_place
last_within [] w i h = absurd (cc)
last_within (b ∷ bs) w i h = first_within (last_place bs w) (bytes_eq b.name w) i (length bs) (last_within bs w) h

at_before : (bs cs : List Bound) (o : Option ℕ) → ((i : ℕ) → o ≡ Some i → i < length bs) → bound_at (bs ++ cs) o ≡ bound_at bs o
at_before bs cs None h = refl
at_before bs cs (Some i) h = get_before bs cs i (h i refl)

module _ (w : List ℕ) where
  push_hit : (bs : List Bound) (b : Bound) → bytes_eq b.name w ≡ true → newest w (bs ++ b ∷ []) ≡ Some b
  push_hit bs b h =
      let place : last_place (bs ++ b ∷ []) w ≡ Some (length bs) = placed w bs b ∙ ap (λ t. cond t (Some (length bs)) (last_place bs w)) h in
      ap (bound_at (bs ++ b ∷ [])) place ∙ get_last bs b

  push_miss : (bs : List Bound) (b : Bound) → bytes_eq b.name w ≡ false → newest w (bs ++ b ∷ []) ≡ newest w bs
  push_miss bs b h =
      let place : last_place (bs ++ b ∷ []) w ≡ last_place bs w = placed w bs b ∙ ap (λ t. cond t (Some (length bs)) (last_place bs w)) h in
      ap (bound_at (bs ++ b ∷ [])) place ∙ at_before bs (b ∷ []) (last_place bs w) (last_within bs w)

  newest_by : (v : Variable) (vs : List Variable) → newest w (names_in vs) ≡ option_map (bound_as 0) (visible w vs) → (t : Bool) → is_named w v ≡ t
      → newest w (names_in vs ++ bound_as 0 v ∷ []) ≡ option_map (bound_as 0) (cond t (Some v) (visible w vs))
  newest_by v vs e true h = push_hit (names_in vs) (bound_as 0 v) h
  newest_by v vs e false h = push_miss (names_in vs) (bound_as 0 v) h ∙ e

  -- what is bound to a name last is the variable that the name stands for
  newest_visible : (vs : List Variable) → newest w (names_in vs) ≡ option_map (bound_as 0) (visible w vs)
  unfolding names_in last_place
  newest_visible [] = refl
  newest_visible (v ∷ vs) = newest_by v vs (newest_visible vs) _ refl

-- ---- the variables that names stand for

module _ (vs : List Variable) where
  found_case : (w : List ℕ) (u v : Variable) (us : List Variable) → (visible w us ≡ Some v → is_named w v ≡ true) → (t : Bool) → is_named w u ≡ t → cond t (Some u) (visible w us) ≡ Some v → is_named w v ≡ true
  found_case w u v us f true h e = let same : u ≡ v = same_Some u v e in ap (is_named w) (sym same) ∙ h
  found_case w u v us f false h e = f e

  found_named : (w : List ℕ) (v : Variable) (us : List Variable) → visible w us ≡ Some v → is_named w v ≡ true
  found_named w v [] e = cc
  found_named w v (u ∷ us) e = found_case w u v us (found_named w v us) _ refl e

  abbrev row_of : List (List ℕ) → List Variable
  row_of ns = flat_map option_to_list (map (λ n. visible n vs) ns)

  -- what stands for one name doesn't have another
  not_other : (n w : List ℕ) (v : Variable) → visible n vs ≡ Some v → (n ≡ w → ⊥) → (t : Bool) → is_named w v ≡ t → is_named w v ≡ false
  not_other n w v e apart true h = absurd (apart (sym (same_bytes v.name n (found_named n v vs e)) ∙ same_bytes v.name w h))
  not_other n w v e apart false h = h

  passed : (n w : List ℕ) (rest : List Variable) → (n ≡ w → ⊥) → (o : Option Variable) → visible n vs ≡ o → visible w (option_to_list o ++ rest) ≡ visible w rest
  passed n w rest apart None e = refl
  passed n w rest apart (Some v) e = ap (λ t. cond t (Some v) (visible w rest)) (not_other n w v e apart _ refl)

  none_case : (n w : List ℕ) (rest : List Variable) → visible w vs ≡ None → visible w rest ≡ None → (t : Bool) → bytes_eq n w ≡ t → visible w (option_to_list (visible n vs) ++ rest) ≡ None
  none_case n w rest none e true h = ap (λ o. visible w (option_to_list o ++ rest)) (ap (λ m. visible m vs) (same_bytes n w h) ∙ none) ∙ e
  none_case n w rest none e false h = passed n w rest (λ same. true_and_false (ap (λ m. bytes_eq m w) same ∙ bytes_same w) h) _ refl ∙ e

  none_seen : (w : List ℕ) → visible w vs ≡ None → (ns : List (List ℕ)) → visible w (row_of ns) ≡ None
  none_seen w none [] = refl
  none_seen w none (n ∷ ns) = none_case n w (row_of ns) none (none_seen w none ns) _ refl

  own_case : (w : List ℕ) (ns : List (List ℕ)) (o : Option Variable) → visible w vs ≡ o → visible w (option_to_list o ++ row_of ns) ≡ o
  own_case w ns None e = none_seen w e ns
  own_case w ns (Some v) e = ap (λ t. cond t (Some v) (visible w (row_of ns))) (found_named w v vs e)

  one_case : (n w : List ℕ) (ns : List (List ℕ)) → (has_name ns w ≡ true → visible w (row_of ns) ≡ visible w vs) → (t : Bool) → bytes_eq n w ≡ t → (t || has_name ns w) ≡ true
      → visible w (option_to_list (visible n vs) ++ row_of ns) ≡ visible w vs
  one_case n w ns f true h has = ap (λ m. visible w (option_to_list (visible m vs) ++ row_of ns)) (same_bytes n w h) ∙ own_case w ns _ refl
  one_case n w ns f false h has = passed n w (row_of ns) (λ same. true_and_false (ap (λ m. bytes_eq m w) same ∙ bytes_same w) h) _ refl ∙ f has

  -- each of the names stands for the same among the variables that they stand for
  visible_seen : (w : List ℕ) (ns : List (List ℕ)) → has_name ns w ≡ true → visible w (row_of ns) ≡ visible w vs
  unfolding has_name
  visible_seen w [] has = cc
  visible_seen w (n ∷ ns) has = one_case n w ns (visible_seen w ns) _ refl has

module _ (ns : List (List ℕ)) where
  newest_kept : (vs : List Variable) (w : List ℕ) → has_name ns w ≡ true → newest w (names_in (row_of vs ns)) ≡ newest w (names_in vs)
  newest_kept vs w has = newest_visible w (row_of vs ns) ∙ ap (option_map (bound_as 0)) (visible_seen vs w ns has) ∙ sym (newest_visible w vs)

  -- ---- rules that look up no other names

  record Agree (at bt : At) : Type 0 where
    newest_of : (w : List ℕ) → has_name ns w ≡ true → newest w at.bound ≡ newest w bt.bound

  record Steady {A : Type 0} (m : Rule A) : Type 0 where
    made : (at bt : At) → Agree at bt → (m at).made ≡ (m bt).made
    faults : (at bt : At) → Agree at bt → (m at).faults ≡ (m bt).faults
    bound : (at : At) → (m at).bound ≡ []

  behind_is : {A : Type 0} (m : Rule A) → Steady m → (at : At) (w : List ℕ) → newest w (behind at (m at)).bound ≡ newest w at.bound
  behind_is m h at w = ap (λ bs. newest w (at.bound ++ bs)) (h.bound at) ∙ ap (newest w) (append-nil at.bound)

  behind_agrees : {A : Type 0} (m : Rule A) → Steady m → (at bt : At) → Agree at bt → Agree (behind at (m at)) (behind bt (m bt))
  behind_agrees m h at bt a = record { newest_of = λ w has. behind_is m h at w ∙ a.newest_of w has ∙ sym (behind_is m h bt w) }

  then_steady : {A B : Type 0} {m : Rule A} {k : A → Rule B} → Steady m → ((x : A) → Steady (k x)) → Steady (m then k)
  unfolding ◌then◌
  then_steady {m = m} {k = k} h g = record {
    made =
        λ at bt a. (g (m at).made).made (behind at (m at)) (behind bt (m bt)) (behind_agrees m h at bt a)
        ∙ ap (λ x. (k x (behind bt (m bt))).made) (h.made at bt a);
    faults =
        λ at bt a. ap (λ fs. fs ++ (k (m at).made (behind at (m at))).faults) (h.faults at bt a)
        ∙ ap (λ fs. (m bt).faults ++ fs) ((g (m at).made).faults (behind at (m at)) (behind bt (m bt)) (behind_agrees m h at bt a)
        ∙ ap (λ x. (k x (behind bt (m bt))).faults) (h.made at bt a));
    bound = λ at i. h.bound at i ++ (g (m at).made).bound (behind at (m at)) i;
  }

  pure_steady : {A : Type 0} (x : A) → Steady (pure x)
  unfolding pure
  pure_steady x = record { made = λ at bt a. refl; faults = λ at bt a. refl; bound = λ at. refl }

  fault_steady : {A : Type 0} (code : ℕ) (span : Span) (x : A) → Steady (fault code span x)
  unfolding fault
  fault_steady code span x = record { made = λ at bt a. refl; faults = λ at bt a. refl; bound = λ at. refl }

  look_steady : (w : List ℕ) → has_name ns w ≡ true → Steady (look w)
  unfolding look
  look_steady w has = record { made = λ at bt a. a.newest_of w has; faults = λ at bt a. refl; bound = λ at. refl }

  abbrev IsSteady : Piece → Type 0
  IsSteady x = Steady x.sort

  integer_steady : (x : Piece) → IsSteady x → Steady (integer x)
  unfolding integer
  integer_steady x h = then_steady h wanted_steady
    where
      wanted_steady : (s : Sort) → Steady (wanted x.span s)
      wanted_steady (sorts.Value e) = pure_steady _
      wanted_steady (sorts.Array v) = fault_steady 33 x.span _
      wanted_steady sorts.Other = fault_steady 33 x.span _

  name_steady : (span : Span) (w : List ℕ) → has_name ns w ≡ true → Steady (name_at span w)
  unfolding name_at
  name_steady span w has = then_steady (look_steady w has) named_steady
    where
      named_steady : (found : Option Bound) → Steady (named span found)
      named_steady None = fault_steady 30 span _
      named_steady (Some b) = pure_steady _

  array_steady : (span : Span) (w : List ℕ) → has_name ns w ≡ true → Steady (array_at span w)
  unfolding array_at
  array_steady span w has = then_steady (look_steady w has) named_steady
    where
      if_steady : (v : Variable) (length : Option ℕ) → Steady (array_if span v length)
      if_steady v None = fault_steady 33 span _
      if_steady v (Some n) = pure_steady _

      meant_steady : (m : Meaning) → Steady (array_meant span m)
      meant_steady (meanings.Variable v) = if_steady v v.length
      meant_steady (meanings.Constant n) = fault_steady 33 span _
      meant_steady (meanings.Function f) = fault_steady 33 span _

      named_steady : (found : Option Bound) → Steady (array_named span found)
      named_steady None = fault_steady 30 span _
      named_steady (Some b) = meant_steady b.meaning

  -- ---- trees

  abbrev points : ExprForm → Bool
  points = fold-ExprForm Bool Bool sequence_step (λ t. t.form)

  abbrev form_names : ExprForm → List (List ℕ)
  form_names = fold-ExprForm (List (List ℕ)) (List (List ℕ)) names_step (λ t. t.form)

  abbrev Had : List (List ℕ) → Type 0
  Had ws = list_all (has_name ns) ws ≡ true

  had_left : (xs ys : List (List ℕ)) → Had (xs ++ ys) → Had xs
  had_left xs ys h = (and_parts _ _ (sym (list_all-append (has_name ns) xs ys) ∙ h)).0

  had_right : (xs ys : List (List ℕ)) → Had (xs ++ ys) → Had ys
  had_right xs ys h = (and_parts _ _ (sym (list_all-append (has_name ns) xs ys) ∙ h)).1

  abbrev FormSteady : ExprForm → Type 0
  FormSteady f = points f ≡ false → Had (form_names f) → (span : Span) → Steady (form_typing f span)

  abbrev TreeSteady : ExprTree → Type 0
  TreeSteady t = has_sequence_point t ≡ false → Had (names_of t) → IsSteady (piece t)

  form_is : (x : ExprForm-F ExprForm ExprTree) (rule : Span → Rule Sort) (b : Bool) (ws : List (List ℕ)) → form_typing (roll-ExprForm x) ≡ rule → points (roll-ExprForm x) ≡ b
      → form_names (roll-ExprForm x) ≡ ws → (b ≡ false → Had ws → (span : Span) → Steady (rule span)) → FormSteady (roll-ExprForm x)
  form_is x rule b ws e g n h p had span = subst (λ (r : Span → Rule Sort). Steady (r span)) (sym e) (h (sym g ∙ p) (subst Had n had) span)

  one_false : (a b : Bool) → (a || b) ≡ false → a ≡ false
  one_false true b h = h
  one_false false b h = refl

  other_false : (a b : Bool) → (a || b) ≡ false → b ≡ false
  other_false true b h = absurd (true_and_false refl h)
  other_false false b h = h

  of : (t : ExprTree) → TreeSteady t → has_sequence_point t ≡ false → Had (names_of t) → Steady (integer (piece t))
  of t h p had = integer_steady (piece t) (h p had)

  number_at : (v : ℕ) (kind : Kind) → FormSteady (roll-ExprForm (ExprForm-F.Number v kind))
  unfolding form_typing piece sequence_step
  number_at v kind = form_is (ExprForm-F.Number v kind) (form_rule (ExprForm-F.Number v kind)) false [] (search (rules, the_lemmas)) (search (rules, the_lemmas)) (search (rules, the_lemmas)) (λ p had span. pure_steady _)

  name_tree_at : (w : List ℕ) → FormSteady (roll-ExprForm (ExprForm-F.Name w))
  unfolding form_typing piece sequence_step
  name_tree_at w =
      form_is (ExprForm-F.Name w) (form_rule (ExprForm-F.Name w)) false (w ∷ []) (search (rules, the_lemmas)) (search (rules, the_lemmas)) (search (rules, the_lemmas))
      (λ p had span. name_steady span w (and_parts _ _ had).0)

  element_at : (w : List ℕ) (x : ExprTree) → TreeSteady x → FormSteady (roll-ExprForm (ExprForm-F.Element w x))
  unfolding form_typing piece sequence_step has_sequence_point names_of
  element_at w x h =
      form_is (ExprForm-F.Element w x) (form_rule (ExprForm-F.Element w (piece x))) (has_sequence_point x) (w ∷ names_of x) (search (rules, the_lemmas)) (search (rules, the_lemmas)) (search (rules, the_lemmas))
      (λ p had span. then_steady (array_steady span w (and_parts _ _ had).0) (λ v. then_steady (of x h p (and_parts _ _ had).1) (λ i. pure_steady _)))

  cast_at : (kind : Kind) (x : ExprTree) → TreeSteady x → FormSteady (roll-ExprForm (ExprForm-F.Cast kind x))
  unfolding form_typing piece sequence_step has_sequence_point names_of
  cast_at kind x h =
      form_is (ExprForm-F.Cast kind x) (form_rule (ExprForm-F.Cast kind (piece x))) (has_sequence_point x) (names_of x) (search (rules, the_lemmas)) (search (rules, the_lemmas)) (search (rules, the_lemmas))
      (λ p had span. then_steady (of x h p had) (λ a. pure_steady _))

  plus_at : (x : ExprTree) → TreeSteady x → FormSteady (roll-ExprForm (ExprForm-F.Plus x))
  unfolding form_typing piece sequence_step has_sequence_point names_of
  plus_at x h =
      form_is (ExprForm-F.Plus x) (form_rule (ExprForm-F.Plus (piece x))) (has_sequence_point x) (names_of x) (search (rules, the_lemmas)) (search (rules, the_lemmas)) (search (rules, the_lemmas))
      (λ p had span. then_steady (of x h p had) (λ a. pure_steady _))

  unary_at : (op : UnaryOp) (x : ExprTree) → TreeSteady x → FormSteady (roll-ExprForm (ExprForm-F.Unary op x))
  unfolding form_typing piece sequence_step has_sequence_point names_of
  unary_at op x h =
      form_is (ExprForm-F.Unary op x) (form_rule (ExprForm-F.Unary op (piece x))) (has_sequence_point x) (names_of x) (search (rules, the_lemmas)) (search (rules, the_lemmas)) (search (rules, the_lemmas))
      (λ p had span. then_steady (of x h p had) (λ a. pure_steady _))

  binary_at : (op : BinaryOp) (x y : ExprTree) → TreeSteady x → TreeSteady y → FormSteady (roll-ExprForm (ExprForm-F.Binary op x y))
  unfolding form_typing piece sequence_step has_sequence_point names_of
  binary_at op x y h k =
      form_is (ExprForm-F.Binary op x y) (form_rule (ExprForm-F.Binary op (piece x) (piece y))) (has_sequence_point x || has_sequence_point y) (names_of x ++ names_of y) (search (rules, the_lemmas)) (search (rules, the_lemmas)) (search (rules, the_lemmas))
      (λ p had span. then_steady (of x h (one_false (has_sequence_point x) (has_sequence_point y) p) (had_left (names_of x) (names_of y) had))
      (λ a. then_steady (of y k (other_false (has_sequence_point x) (has_sequence_point y) p) (had_right (names_of x) (names_of y) had)) (λ b. pure_steady _)))

  -- a form that has a sequence point by itself
  pointed : (x : ExprForm-F ExprForm ExprTree) → points (roll-ExprForm x) ≡ true → FormSteady (roll-ExprForm x)
  pointed x e p had span = absurd (true_and_false e p)

  call_at : (w : List ℕ) (xs : List ExprTree) → FormSteady (roll-ExprForm (ExprForm-F.Call w xs))
  unfolding sequence_step has_sequence_point
  call_at w xs = pointed (ExprForm-F.Call w xs) (search (rules, the_lemmas))

  both_at : (x y : ExprTree) → FormSteady (roll-ExprForm (ExprForm-F.Both x y))
  unfolding sequence_step has_sequence_point
  both_at x y = pointed (ExprForm-F.Both x y) (search (rules, the_lemmas))

  either_at : (x y : ExprTree) → FormSteady (roll-ExprForm (ExprForm-F.Either x y))
  unfolding sequence_step has_sequence_point
  either_at x y = pointed (ExprForm-F.Either x y) (search (rules, the_lemmas))

  choice_at : (x y z : ExprTree) → FormSteady (roll-ExprForm (ExprForm-F.Choice x y z))
  unfolding sequence_step has_sequence_point
  choice_at x y z = pointed (ExprForm-F.Choice x y z) (search (rules, the_lemmas))

  tree_at : (x : ExprTree-F ExprForm ExprTree) → FormSteady x.form → TreeSteady (roll-ExprTree x)
  unfolding form_typing piece has_sequence_point names_of
  tree_at x h p had =
      let e : piece (roll-ExprTree x) ≡ record { span = x.span; sort = form_typing x.form x.span } = search (rules, the_lemmas) in
      let tests : has_sequence_point (roll-ExprTree x) ≡ points x.form = search (rules, the_lemmas) in
      let names : names_of (roll-ExprTree x) ≡ form_names x.form = search (rules, the_lemmas) in
      subst IsSteady (sym e) (h (sym tests ∙ p) (subst Had names had) x.span)

  tree_steady : (t : ExprTree) → TreeSteady t
  tree_steady t = ind-ExprTree FormSteady TreeSteady (λ x. elim [
    | ExprForm-F.Number v kind ↦ λ e. subst (λ z. FormSteady (roll-ExprForm z)) e (number_at v kind)
    | ExprForm-F.Name w ↦ λ e. subst (λ z. FormSteady (roll-ExprForm z)) e (name_tree_at w)
    | ExprForm-F.Element w x ↦ λ e. subst (λ z. FormSteady (roll-ExprForm z)) e (element_at w x.0 x.1)
    | ExprForm-F.Call w xs ↦ λ e. subst (λ z. FormSteady (roll-ExprForm z)) e (call_at w _)
    | ExprForm-F.Cast kind x ↦ λ e. subst (λ z. FormSteady (roll-ExprForm z)) e (cast_at kind x.0 x.1)
    | ExprForm-F.Plus x ↦ λ e. subst (λ z. FormSteady (roll-ExprForm z)) e (plus_at x.0 x.1)
    | ExprForm-F.Unary op x ↦ λ e. subst (λ z. FormSteady (roll-ExprForm z)) e (unary_at op x.0 x.1)
    | ExprForm-F.Binary op x y ↦ λ e. subst (λ z. FormSteady (roll-ExprForm z)) e (binary_at op x.0 y.0 x.1 y.1)
    | ExprForm-F.Both x y ↦ λ e. subst (λ z. FormSteady (roll-ExprForm z)) e (both_at x.0 y.0)
    | ExprForm-F.Either x y ↦ λ e. subst (λ z. FormSteady (roll-ExprForm z)) e (either_at x.0 y.0)
    | ExprForm-F.Choice x y z ↦ λ e. subst (λ w. FormSteady (roll-ExprForm w)) e (choice_at x.0 y.0 z.0)
  ]) (λ x y e. subst (λ z. TreeSteady (roll-ExprTree z)) e (tree_at (record { span = y.span; form = y.form.0 }) y.form.1)) t

  -- ---- the expression

  same_unless : (b : Bool) (x y : Option Expr) → (b ≡ false → x ≡ y) → cond b None x ≡ cond b None y
  same_unless true x y h = refl
  same_unless false x y h = h refl

  at_narrowed : (s : Scope) → Agree (at_scope (narrowed ns s)) (at_scope s)
  at_narrowed s = record { newest_of = newest_kept s.variables }

  same_done : (s : Scope) (t : ExprTree) → Had (names_of t) → has_sequence_point t ≡ false → done_expr (typing t (at_scope (narrowed ns s))) ≡ done_expr (typing t (at_scope s))
  same_done s t had p =
      let steady = tree_steady t p had in
      let faults = steady.faults (at_scope (narrowed ns s)) (at_scope s) (at_narrowed s) in
      let made = steady.made (at_scope (narrowed ns s)) (at_scope s) (at_narrowed s) in
      (λ i. faultless_expr (faults i) (made i))

  pub narrowing : (s : Scope) (t : ExprTree) → Had (names_of t) → expression_in (narrowed ns s) t ≡ expression_in s t
  unfolding expression_in
  narrowing s t had = same_unless (has_sequence_point t) _ _ (same_done s t had)

-- ---- an expression has all of its names

all_more : (ns ms ws : List (List ℕ)) → ((w : List ℕ) → has_name ns w ≡ true → has_name ms w ≡ true) → list_all (has_name ns) ws ≡ true → list_all (has_name ms) ws ≡ true
all_more ns ms [] f h = refl
all_more ns ms (w ∷ ws) f h = let parts = and_parts _ _ h in and_from _ _ (f w parts.0) (all_more ns ms ws f parts.1)

all_own : (ws : List (List ℕ)) → list_all (has_name ws) ws ≡ true
unfolding has_name
all_own [] = refl
all_own (w ∷ ws) = and_from _ _ (or_left _ _ (bytes_same w)) (all_more ws (w ∷ ws) ws (λ v h. or_right _ _ h) (all_own ws))

-- what an expression is among the variables that its names stand for, it is wherever they stand for these
pub is_meaning : (t : ExprTree) (row : List (Option Variable)) (meaning : Option Expr) → expression_in (seen row) t ≡ meaning → IsMeaning t row meaning
is_meaning t row meaning e s at = sym (narrowing (names_of t) s t (all_own (names_of t))) ∙ ap (λ r. expression_in (seen r) t) at ∙ e
