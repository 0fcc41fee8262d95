-- An expression passes where its tokens do.
use Rattle.std.proofs.Common.{◌≡◌, ◌≢◌, ℕ, Bool, true, List, [], ◌∷◌, ◌++◌, refl, sym, subst, rules}
use Rattle.std.specs.Prelude.{◌&&◌, IsTrue, map}
use Rattle.std.specs.List.{list_all}
use Rattle.fq_core.specs.declared.span.Span.{Span}
use Rattle.c_values.specs.declared.kinds.Kind.{Kind}
use Rattle.c_values.specs.Kind.{IsKind, is_kind}
use Rattle.c_values.proofs.Fitting.{and_left, and_right, and_both}
use Rattle.c_parse.specs.declared.expr.ExprForm.{the_lemmas as expr_lemmas}
use Rattle.c_parse.specs.declared.expr.ExprForm.TheVariants as form
use Rattle.c_parse.specs.declared.expr.ExprTree.{ExprTree}
use Rattle.c_parse.specs.declared.operator.Infix.{Infix}
use Rattle.c_parse.specs.declared.operator.Infix.TheVariants as infixes
use Rattle.c_parse.specs.declared.operator.Prefix.{Prefix}
use Rattle.c_parse.specs.declared.operator.Prefix.TheVariants as prefixes
use Rattle.c_parse.specs.declared.sign.Symbol.TheVariants as symbols
use Rattle.c_parse.specs.declared.sign.Terminal.{Terminal}
use Rattle.c_parse.specs.Grammar.{Text, symbol, name_token, number_token, first_span, Derives, DerivesChoice, DerivesArguments, a_plain, a_choice, a_number, a_name, an_element, a_bare_call, a_call, parens, a_cast, a_prefix, an_infix, the_last, one_more}
use Rattle.c_parse.specs.Trees.{tree, prefixed, joined, prefix_symbol, infix_symbol}
use Rattle.c_types_laws.specs.tree_contents.Contents.{tree_passes}
use Rattle.c_types_laws.proofs.tree_contents.WrittenKinds.{words_kind}
use Rattle.c_types_laws.proofs.tree_contents.Tokens.{Good, good_left, good_right, good_tail, good_span, good_sign, good_place, some_behind}

module _ (number : ℕ → Kind → Bool) (place : Span → Bool) where
  abbrev pub Passes : ExprTree → Type 0
  Passes t = IsTrue (tree_passes number place t)

  abbrev pub AllPass : List ExprTree → Type 0
  AllPass ts = IsTrue (list_all (tree_passes number place) ts)

  -- ---- one form at a time

  made : (b : Bool) (t : ExprTree) → tree_passes number place t ≡ b → IsTrue b → Passes t
  made b t e h = subst IsTrue (sym e) h

  number_passes : (s : Span) (n : ℕ) (kind : Kind) → IsTrue (place s) → IsTrue (number n kind) → Passes (tree s (form.Number n kind))
  unfolding tree_passes
  number_passes s n kind p h = made (place s && number n kind) _ (search (rules, expr_lemmas)) (and_both (place s) (number n kind) p h)

  name_passes : (s : Span) (w : Text) → IsTrue (place s) → Passes (tree s (form.Name w))
  unfolding tree_passes
  name_passes s w p = made (place s && true) _ (search (rules, expr_lemmas)) (and_both (place s) true p refl)

  element_passes : (s : Span) (w : Text) (t : ExprTree) → IsTrue (place s) → Passes t → Passes (tree s (form.Element w t))
  unfolding tree_passes
  element_passes s w t p h = made (place s && tree_passes number place t) _ (search (rules, expr_lemmas)) (and_both (place s) (tree_passes number place t) p h)

  arguments_of : (ts : List ExprTree) → AllPass ts → IsTrue (list_all (λ a. a) (map (tree_passes number place) ts))
  arguments_of [] h = refl
  arguments_of (t ∷ ts) h =
      let rest = list_all (tree_passes number place) ts in
      and_both (tree_passes number place t) _ (and_left (tree_passes number place t) rest h) (arguments_of ts (and_right (tree_passes number place t) rest h))

  call_passes : (s : Span) (w : Text) (ts : List ExprTree) → IsTrue (place s) → AllPass ts → Passes (tree s (form.Call w ts))
  unfolding tree_passes
  call_passes s w ts p h = made (place s && list_all (λ a. a) (map (tree_passes number place) ts)) _ (search (rules, expr_lemmas)) (and_both (place s) _ p (arguments_of ts h))

  cast_passes : (s : Span) (kind : Kind) (t : ExprTree) → IsTrue (place s) → IsKind kind → Passes t → Passes (tree s (form.Cast kind t))
  unfolding tree_passes
  cast_passes s kind t p k h = made (place s && (is_kind kind && tree_passes number place t)) _ (search (rules, expr_lemmas)) (and_both (place s) _ p (and_both (is_kind kind) (tree_passes number place t) k h))

  prefixed_passes : (s : Span) (op : Prefix) (t : ExprTree) → IsTrue (place s) → Passes t → Passes (tree s (prefixed op t))
  unfolding tree_passes
  prefixed_passes s prefixes.Plus t p h = made (place s && tree_passes number place t) _ (search (rules, expr_lemmas)) (and_both (place s) (tree_passes number place t) p h)
  prefixed_passes s (prefixes.Unary op) t p h = made (place s && tree_passes number place t) _ (search (rules, expr_lemmas)) (and_both (place s) (tree_passes number place t) p h)

  both_of : (s : Span) (a b : ExprTree) → IsTrue (place s) → Passes a → Passes b → IsTrue (place s && (tree_passes number place a && tree_passes number place b))
  both_of s a b p h k = and_both (place s) _ p (and_both (tree_passes number place a) (tree_passes number place b) h k)

  joined_passes : (s : Span) (op : Infix) (a b : ExprTree) → IsTrue (place s) → Passes a → Passes b → Passes (tree s (joined op a b))
  unfolding tree_passes
  joined_passes s (infixes.Binary op) a b p h k = made (place s && (tree_passes number place a && tree_passes number place b)) _ (search (rules, expr_lemmas)) (both_of s a b p h k)
  joined_passes s infixes.Both a b p h k = made (place s && (tree_passes number place a && tree_passes number place b)) _ (search (rules, expr_lemmas)) (both_of s a b p h k)
  joined_passes s infixes.Either a b p h k = made (place s && (tree_passes number place a && tree_passes number place b)) _ (search (rules, expr_lemmas)) (both_of s a b p h k)

  choice_form_passes : (s : Span) (c a b : ExprTree) → IsTrue (place s) → Passes c → Passes a → Passes b → Passes (tree s (form.Choice c a b))
  unfolding tree_passes
  choice_form_passes s c a b p h k l =
      made (place s && (tree_passes number place c && tree_passes number place a && tree_passes number place b)) _ (search (rules, expr_lemmas))
      (and_both (place s) _ p (and_both (tree_passes number place c && tree_passes number place a) (tree_passes number place b) (and_both (tree_passes number place c) (tree_passes number place a) h k) l))

  all_more : (t : ExprTree) (ts : List ExprTree) → Passes t → AllPass ts → AllPass (t ∷ ts)
  all_more t ts h k = and_both (tree_passes number place t) (list_all (tree_passes number place) ts) h k

  -- ---- the tokens between two symbols, and behind one

  abbrev pub Fine : List Terminal → Type 0
  Fine ts = Good number place ts

  pub inner : (a b : Terminal) (ts : List Terminal) → Fine (a ∷ (ts ++ b ∷ [])) → Fine ts
  inner a b ts h = good_left number place ts (b ∷ []) (good_tail number place a (ts ++ b ∷ []) h)

  pub behind : (xs : List Terminal) (t : Terminal) (ts : List Terminal) → Fine (xs ++ t ∷ ts) → Fine ts
  behind xs t ts h = good_tail number place t ts (good_right number place xs (t ∷ ts) h)

  pub before : (xs : List Terminal) (t : Terminal) (ts : List Terminal) → Fine (xs ++ t ∷ ts) → Fine xs
  before xs t ts h = good_left number place xs (t ∷ ts) h

  -- ---- all expressions

  pub operand_some : {k : ℕ} {t : ExprTree} {ts : List Terminal} → Derives k t ts → ts ≢ []
  operand_some a_number e = cc
  operand_some a_name e = cc
  operand_some (an_element q r d) e = cc
  operand_some (a_bare_call q r) e = cc
  operand_some (a_call q r d) e = cc
  operand_some (parens p q d) e = cc
  operand_some (a_cast q w h d) e = cc
  operand_some (a_prefix op d) e = cc
  operand_some (an_infix op {xs = xs} {ys = ys} p h a b) e = some_behind xs (symbol (infix_symbol op) p) ys e

  pub choice_some : {t : ExprTree} {ts : List Terminal} → DerivesChoice t ts → ts ≢ []
  choice_some (a_plain d) e = operand_some d e
  choice_some (a_choice {xs = xs} {ys = ys} {zs = zs} p q c a b) e = some_behind xs (symbol symbols.Question p) (ys ++ symbol symbols.Colon q ∷ zs) e

  mutual
    pub choice_passes : {t : ExprTree} {ts : List Terminal} → DerivesChoice t ts → Fine ts → Passes t
    choice_passes (a_plain d) h = operand_passes d h
    choice_passes (a_choice {xs = xs} {ys = ys} {zs = zs} p q c a b) h =
        let rest = behind xs (symbol symbols.Question p) (ys ++ symbol symbols.Colon q ∷ zs) h in
        let front = before xs (symbol symbols.Question p) (ys ++ symbol symbols.Colon q ∷ zs) h in
        choice_form_passes (first_span xs) _ _ _ (good_place number place xs (operand_some c) front) (operand_passes c front)
        (choice_passes a (before ys (symbol symbols.Colon q) zs rest)) (choice_passes b (behind ys (symbol symbols.Colon q) zs rest))

    operand_passes : {k : ℕ} {t : ExprTree} {ts : List Terminal} → Derives k t ts → Fine ts → Passes t
    operand_passes (a_number {n = n} {kind = kind} {p = p}) h = number_passes p n kind (good_span number place (number_token n kind p) [] h) (good_sign number place (number_token n kind p) [] h)
    operand_passes (a_name {w = w} {p = p}) h = name_passes p w (good_span number place (name_token w p) [] h)
    operand_passes (an_element {w = w} {p = p} {ts = ts} q r d) h =
        let rest = good_tail number place (name_token w p) (symbol symbols.OpenIndex q ∷ (ts ++ symbol symbols.CloseIndex r ∷ [])) h in
        element_passes p w _ (good_span number place (name_token w p) (symbol symbols.OpenIndex q ∷ (ts ++ symbol symbols.CloseIndex r ∷ [])) h) (choice_passes d (inner (symbol symbols.OpenIndex q) (symbol symbols.CloseIndex r) ts rest))
    operand_passes (a_bare_call {w = w} {p = p} q r) h = call_passes p w [] (good_span number place (name_token w p) (symbol symbols.Open q ∷ symbol symbols.Close r ∷ []) h) refl
    operand_passes (a_call {w = w} {p = p} {ts = ts} q r d) h =
        let rest = good_tail number place (name_token w p) (symbol symbols.Open q ∷ (ts ++ symbol symbols.Close r ∷ [])) h in
        call_passes p w _ (good_span number place (name_token w p) (symbol symbols.Open q ∷ (ts ++ symbol symbols.Close r ∷ [])) h) (arguments_pass d (inner (symbol symbols.Open q) (symbol symbols.Close r) ts rest))
    operand_passes (parens {ts = ts} p q d) h = choice_passes d (inner (symbol symbols.Open p) (symbol symbols.Close q) ts h)
    operand_passes (a_cast {p = p} {kind = kind} {type = type} {ts = ts} q w k d) h =
        let rest = good_tail number place (symbol symbols.Open p) (type ++ symbol symbols.Close q ∷ ts) h in
        cast_passes p kind _ (good_span number place (symbol symbols.Open p) (type ++ symbol symbols.Close q ∷ ts) h) (words_kind _ kind k) (operand_passes d (behind type (symbol symbols.Close q) ts rest))
    operand_passes (a_prefix {p = p} op {ts = ts} d) h =
        prefixed_passes p op _ (good_span number place (symbol (prefix_symbol op) p) ts h) (operand_passes d (good_tail number place (symbol (prefix_symbol op) p) ts h))
    operand_passes (an_infix op {xs = xs} {ys = ys} p k a b) h =
        let front = before xs (symbol (infix_symbol op) p) ys h in
        joined_passes (first_span xs) op _ _ (good_place number place xs (operand_some a) front) (operand_passes a front) (operand_passes b (behind xs (symbol (infix_symbol op) p) ys h))

    pub arguments_pass : {args : List ExprTree} {ts : List Terminal} → DerivesArguments args ts → Fine ts → AllPass args
    arguments_pass (the_last d) h = all_more _ [] (choice_passes d h) refl
    arguments_pass (one_more {ts = ts} {us = us} p d ds) h = all_more _ _ (choice_passes d (before ts (symbol symbols.Comma p) us h)) (arguments_pass ds (behind ts (symbol symbols.Comma p) us h))
