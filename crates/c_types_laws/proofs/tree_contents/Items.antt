-- Items pass where their tokens do.
use Rattle.std.proofs.Common.{◌≢◌, ℕ, Bool, true, List, [], ◌∷◌, ◌++◌, Option, refl}
use Rattle.std.specs.Prelude.{◌&&◌, IsTrue}
use Rattle.std.specs.List.{list_all}
use Rattle.fq_core.specs.declared.span.Span.{Span}
use Rattle.c_values.specs.declared.kinds.Kind.{Kind}
use Rattle.c_values.specs.Kind.{is_kind}
use Rattle.c_values.proofs.Fitting.{and_both}
use Rattle.c_parse.specs.declared.expr.ExprTree.{ExprTree}
use Rattle.c_parse.specs.declared.expr.Ident.{Ident}
use Rattle.c_parse.specs.declared.sign.Symbol.{Symbol}
use Rattle.c_parse.specs.declared.sign.Symbol.TheVariants as symbols
use Rattle.c_parse.specs.declared.sign.Terminal.{Terminal}
use Rattle.c_parse.specs.declared.statement.CaseLabel.{CaseLabel}
use Rattle.c_parse.specs.declared.statement.Declarator.{Declarator}
use Rattle.c_parse.specs.declared.statement.Group.{Group}
use Rattle.c_parse.specs.declared.statement.Initial.{Initial}
use Rattle.c_parse.specs.declared.statement.PlaceTree.{PlaceTree}
use Rattle.c_parse.specs.declared.statement.Statement.{Statement}
use Rattle.c_parse.specs.declared.unit.Body.{Body}
use Rattle.c_parse.specs.declared.unit.Item.{Item}
use Rattle.c_parse.specs.declared.unit.Parameter.{Parameter}
use Rattle.c_parse.specs.Declarations.{DerivesType, a_type, DerivesBracketed, no_bracket, in_brackets, DerivesFirst, no_first, one_first, some_first, DerivesDeclarator, a_declarator, DerivesDeclarators}
use Rattle.c_parse.specs.Grammar.{symbol, name_token, first_span, end, word}
use Rattle.c_parse.specs.Items.{DerivesResult, nothing_given, a_kind, DerivesNamed, without_name, with_name, DerivesParameter, a_parameter, DerivesParameters, no_parameter, void_parameter, some_parameters, DerivesEnd, declared, defined, DerivesConstant, plain_constant, with_value, DerivesItem, a_function, some_variables, some_constants, DerivesItems, no_items, an_item_and}
use Rattle.c_parse.specs.Separated.{DerivesSeparated, the_only, the_only_with_comma, and_others}
use Rattle.c_parse.specs.Statements.{DerivesPlace, a_place, DerivesSimple, an_assignment, a_step_after, a_step_before, a_bare_run, a_run, DerivesLocal, a_local, DerivesOptional, no_choice, some_choice, DerivesBegin, begins_not, begins_simple, begins_local, DerivesNext, no_next, a_next, DerivesLabel, a_case, a_default, DerivesLabels, last_label, more_labels, DerivesStatement, a_block, an_empty, a_simple, a_label, an_if, a_while, a_do, a_for, a_switch, a_break, a_continue, a_return, an_assert, an_assume, DerivesBody, no_more, local_then, statement_then, DerivesArms, an_arm, DerivesElse, no_else, an_else, else_if, DerivesGroups, no_group, a_group}
use Rattle.c_parse.specs.StatementTrees.{group}
use Rattle.c_parse.specs.Types.{kind_of}
use Rattle.c_types_laws.specs.tree_contents.Contents.{tree_passes, optional_passes, place_passes, initial_passes, declarator_passes, label_passes, statement_passes, group_passes, name_passes, parameter_passes, body_passes, result_passes, constant_passes, item_passes}
use Rattle.c_types_laws.proofs.tree_contents.WrittenKinds.{words_kind}
use Rattle.c_types_laws.proofs.tree_contents.Tokens.{Good, good_left, good_right, good_append, good_tail, good_span, good_place}
use Rattle.c_types_laws.proofs.tree_contents.Expressions.{choice_passes, arguments_pass, inner, behind, before}
use Rattle.c_types_laws.proofs.tree_contents.Statements.{ArmPasses, ArmsPass, OptionalPasses, first_arm, block_passes, empty_passes, break_passes, continue_passes, local_passes, assign_passes, step_passes, call_passes, labelled_passes, if_passes, while_passes, do_passes, for_passes, switch_passes, return_passes, assert_passes, assume_passes, group_is}

-- a type is a kind
type_kind : {ts : List Terminal} {kind : Kind} → DerivesType kind ts → IsTrue (is_kind kind)
type_kind (a_type {kind = kind} {words = words} d k) = words_kind words kind k

-- a type has a word
words_some : {ts : List Terminal} {kind : Kind} → DerivesType kind ts → ts ≢ []
unfolding kind_of
words_some (a_type end k) e = absurd (cc)
words_some (a_type (word p d) k) e = cc

pub append_some : (xs ys : List Terminal) → ys ≢ [] → xs ++ ys ≢ []
append_some [] ys some e = some e
append_some (x ∷ xs) ys some e = cc

module _ (number : ℕ → Kind → Bool) (place : Span → Bool) where
  abbrev Fine : List Terminal → Type 0
  Fine ts = Good number place ts

  -- the front and the rest of tokens that pass, and the first token and the others
  left : (xs ys : List Terminal) → Fine (xs ++ ys) → Fine xs
  left = good_left number place

  right : (xs ys : List Terminal) → Fine (xs ++ ys) → Fine ys
  right = good_right number place

  tail : (t : Terminal) (ts : List Terminal) → Fine (t ∷ ts) → Fine ts
  tail = good_tail number place

  span : (t : Terminal) (ts : List Terminal) → Fine (t ∷ ts) → IsTrue (place t.span)
  span = good_span number place

  -- ---- declarations

  bracketed_passes : {o : Option ExprTree} {ts : List Terminal} → DerivesBracketed o ts → Fine ts → IsTrue (optional_passes number place o)
  bracketed_passes no_bracket h = refl
  bracketed_passes (in_brackets {ts = ts} p q d) h = choice_passes number place d (inner number place (symbol symbols.OpenIndex p) (symbol symbols.CloseIndex q) ts h)

  separated_pass : {Y : Type 0} {One : Y → List Terminal → Type 0} {comma : Bool} {last : Symbol} (f : Y → Bool) → ((y : Y) (ts : List Terminal) → One y ts → Fine ts → IsTrue (f y)) → {ys : List Y} {ts : List Terminal} → DerivesSeparated One comma last ys ts → Fine ts → IsTrue (list_all f ys)
  separated_pass {last = last} f each (the_only {y = y} {ts = ts} q d) h = and_both (f y) true (each y ts d (left ts (symbol last q ∷ []) h)) refl
  separated_pass {last = last} f each (the_only_with_comma {y = y} {ts = ts} p q c d) h = and_both (f y) true (each y ts d (left ts (symbol symbols.Comma p ∷ symbol last q ∷ []) h)) refl
  separated_pass f each (and_others {y = y} {ys = ys} {ts = ts} {us = us} q d ds) h =
      and_both (f y) (list_all f ys) (each y ts d (before number place ts (symbol symbols.Comma q) us h)) (separated_pass f each ds (behind number place ts (symbol symbols.Comma q) us h))

  first_passes : {o : Option Initial} {ts : List Terminal} → DerivesFirst o ts → Fine ts → IsTrue (initial_passes number place o)
  first_passes no_first h = refl
  first_passes (one_first {ts = ts} p d) h = choice_passes number place d (tail (symbol symbols.Assign p) ts h)
  first_passes (some_first {ts = ts} p q d) h = separated_pass (tree_passes number place) (λ y ts e g. choice_passes number place e g) d (tail (symbol symbols.OpenBrace q) ts (tail (symbol symbols.Assign p) (symbol symbols.OpenBrace q ∷ ts) h))

  declarator_is : {d : Declarator} {ts : List Terminal} → DerivesDeclarator d ts → Fine ts → IsTrue (declarator_passes number place d)
  declarator_is (a_declarator {w = w} {p = p} {length = length} {first = first} {xs = xs} {ys = ys} b f) h =
      let rest = tail (name_token w p) (xs ++ ys) h in
      and_both (place p && optional_passes number place length) (initial_passes number place first)
      (and_both (place p) (optional_passes number place length) (span (name_token w p) (xs ++ ys) h) (bracketed_passes b (left xs ys rest))) (first_passes f (right xs ys rest))

  declarators_pass : {ds : List Declarator} {ts : List Terminal} → DerivesDeclarators ds ts → Fine ts → IsTrue (list_all (declarator_passes number place) ds)
  declarators_pass d h = separated_pass (declarator_passes number place) (λ y ts e g. declarator_is e g) d h

  -- ---- simple statements

  place_is : {p : PlaceTree} {ts : List Terminal} → DerivesPlace p ts → Fine ts → IsTrue (place_passes number place p)
  place_is (a_place {w = w} {p = p} {index = index} {ts = ts} b) h = and_both (place p) (optional_passes number place index) (span (name_token w p) ts h) (bracketed_passes b (tail (name_token w p) ts h))

  place_some : {p : PlaceTree} {ts : List Terminal} → DerivesPlace p ts → ts ≢ []
  place_some (a_place b) e = cc

  simple_passes : {s : Statement} {ts : List Terminal} → DerivesSimple s ts → Fine ts → IsTrue (statement_passes number place s)
  simple_passes (an_assignment {to = to} {op = op} {t = t} {xs = xs} {ys = ys} m q d a c) h =
      let front = before number place xs (symbol m q) ys h in
      assign_passes number place (first_span xs) to op t (good_place number place xs (place_some d) front) (place_is d front) (choice_passes number place c (behind number place xs (symbol m q) ys h))
  simple_passes (a_step_after {to = to} {up = up} {xs = xs} m q d s) h =
      let front = left xs (symbol m q ∷ []) h in
      step_passes number place (first_span xs) to up (good_place number place xs (place_some d) front) (place_is d front)
  simple_passes (a_step_before {to = to} {up = up} {xs = xs} m q s d) h = step_passes number place q to up (span (symbol m q) xs h) (place_is d (tail (symbol m q) xs h))
  simple_passes (a_bare_run {w = w} {p = p} q r) h =
      let here = span (name_token w p) (symbol symbols.Open q ∷ symbol symbols.Close r ∷ []) h in
      call_passes number place p w p [] here here refl
  simple_passes (a_run {w = w} {p = p} {ts = ts} q r d) h =
      let here = span (name_token w p) (symbol symbols.Open q ∷ (ts ++ symbol symbols.Close r ∷ [])) h in
      let rest = tail (name_token w p) (symbol symbols.Open q ∷ (ts ++ symbol symbols.Close r ∷ [])) h in
      call_passes number place p w p _ here here (arguments_pass number place d (inner number place (symbol symbols.Open q) (symbol symbols.Close r) ts rest))

  local_is : {s : Statement} {ts : List Terminal} → DerivesLocal s ts → Fine ts → IsTrue (statement_passes number place s)
  local_is (a_local {kind = kind} {ds = ds} {consts = consts} {type = type} {ts = ts} c t d) h =
      let rest = right consts (type ++ ts) h in
      local_passes number place (first_span (consts ++ type)) kind ds
      (good_place number place (consts ++ type) (append_some consts type (words_some t)) (good_append number place consts type (left consts (type ++ ts) h) (left type ts rest))) (type_kind t) (declarators_pass d (right type ts rest))

  -- ---- statements

  optional_is : {o : Option ExprTree} {ts : List Terminal} → DerivesOptional o ts → Fine ts → IsTrue (optional_passes number place o)
  optional_is no_choice h = refl
  optional_is (some_choice d) h = choice_passes number place d h

  begin_passes : {o : Option Statement} {ts : List Terminal} → DerivesBegin o ts → Fine ts → IsTrue (OptionalPasses number place o)
  begin_passes (begins_not p) h = refl
  begin_passes (begins_simple {ts = ts} p d) h = simple_passes d (left ts (symbol symbols.Semicolon p ∷ []) h)
  begin_passes (begins_local d) h = local_is d h

  next_passes : {o : Option Statement} {ts : List Terminal} → DerivesNext o ts → Fine ts → IsTrue (OptionalPasses number place o)
  next_passes no_next h = refl
  next_passes (a_next d) h = simple_passes d h

  label_is : {l : CaseLabel} {ts : List Terminal} → DerivesLabel l ts → Fine ts → IsTrue (label_passes number place l)
  label_is (a_case {t = t} {ts = ts} p q d) h =
      and_both (place p) (tree_passes number place t) (span (symbol symbols.Case p) (ts ++ symbol symbols.Colon q ∷ []) h) (choice_passes number place d (inner number place (symbol symbols.Case p) (symbol symbols.Colon q) ts h))
  label_is (a_default p q) h = and_both (place p) true (span (symbol symbols.Default p) (symbol symbols.Colon q ∷ []) h) refl

  labels_pass : {ls : List CaseLabel} {ts : List Terminal} → DerivesLabels ls ts → Fine ts → IsTrue (list_all (label_passes number place) ls)
  labels_pass (last_label {l = l} d) h = and_both (label_passes number place l) true (label_is d h) refl
  labels_pass (more_labels {l = l} {ls = ls} {ts = ts} {us = us} d ds) h = and_both (label_passes number place l) (list_all (label_passes number place) ls) (label_is d (left ts us h)) (labels_pass ds (right ts us h))

  arms_some : {o : Bool} {arms : List (ExprTree × Statement)} {otherwise : Option Statement} {ts : List Terminal} → DerivesArms o arms otherwise ts → IsTrue (list_all (ArmPasses number place) arms) → ArmsPass number place arms
  arms_some (an_arm {c = c} {s = s} {arms = arms} p q d b e f) h = first_arm number place (c, s) arms h

  mutual
    statement_is : {o : Bool} {s : Statement} {ts : List Terminal} → DerivesStatement o s ts → Fine ts → IsTrue (statement_passes number place s)
    statement_is (a_block {p = p} {ss = ss} {ts = ts} q d) h =
        block_passes number place p ss (span (symbol symbols.OpenBrace p) (ts ++ symbol symbols.CloseBrace q ∷ []) h) (body_is d (inner number place (symbol symbols.OpenBrace p) (symbol symbols.CloseBrace q) ts h))
    statement_is (an_empty {p = p}) h = empty_passes number place p (span (symbol symbols.Semicolon p) [] h)
    statement_is (a_simple {ts = ts} q d) h = simple_passes d (left ts (symbol symbols.Semicolon q ∷ []) h)
    statement_is (a_label {w = w} {p = p} {s = s} {ts = ts} q d) h =
        let here = span (name_token w p) (symbol symbols.Colon q ∷ ts) h in
        labelled_passes number place p w p s here here (statement_is d (tail (symbol symbols.Colon q) ts (tail (name_token w p) (symbol symbols.Colon q ∷ ts) h)))
    statement_is (an_if {p = p} {arms = arms} {otherwise = otherwise} {ts = ts} d) h =
        let rest = arms_are d (tail (symbol symbols.If p) ts h) in
        if_passes number place p arms otherwise (span (symbol symbols.If p) ts h) (arms_some d rest.0) rest.1
    statement_is (a_while {p = p} {c = c} {s = s} {xs = xs} {ys = ys} q r d b) h =
        let rest = tail (symbol symbols.Open q) (xs ++ symbol symbols.Close r ∷ ys) (tail (symbol symbols.While p) (symbol symbols.Open q ∷ (xs ++ symbol symbols.Close r ∷ ys)) h) in
        while_passes number place p c s (span (symbol symbols.While p) (symbol symbols.Open q ∷ (xs ++ symbol symbols.Close r ∷ ys)) h) (choice_passes number place d (before number place xs (symbol symbols.Close r) ys rest)) (statement_is b (behind number place xs (symbol symbols.Close r) ys rest))
    statement_is (a_do {p = p} {s = s} {c = c} {xs = xs} {ys = ys} q r u v b d) h =
        let whole = xs ++ symbol symbols.While q ∷ symbol symbols.Open r ∷ (ys ++ symbol symbols.Close u ∷ symbol symbols.Semicolon v ∷ []) in
        let rest = tail (symbol symbols.Do p) whole h in
        let test = tail (symbol symbols.Open r) (ys ++ symbol symbols.Close u ∷ symbol symbols.Semicolon v ∷ []) (behind number place xs (symbol symbols.While q) (symbol symbols.Open r ∷ (ys ++ symbol symbols.Close u ∷ symbol symbols.Semicolon v ∷ [])) rest) in
        do_passes number place p s c (span (symbol symbols.Do p) whole h) (statement_is b (left xs _ rest)) (choice_passes number place d (left ys _ test))
    statement_is (a_for {p = p} {first = first} {next = next} {test = test} {s = s} {xs = xs} {ys = ys} {zs = zs} {us = us} q r u b o n d) h =
        let parts = xs ++ (ys ++ symbol symbols.Semicolon r ∷ (zs ++ symbol symbols.Close u ∷ us)) in
        let rest = tail (symbol symbols.Open q) parts (tail (symbol symbols.For p) (symbol symbols.Open q ∷ parts) h) in
        let from_test = right xs (ys ++ symbol symbols.Semicolon r ∷ (zs ++ symbol symbols.Close u ∷ us)) rest in
        let from_next = behind number place ys (symbol symbols.Semicolon r) (zs ++ symbol symbols.Close u ∷ us) from_test in
        for_passes number place p first test next s (span (symbol symbols.For p) (symbol symbols.Open q ∷ parts) h) (begin_passes b (left xs _ rest)) (optional_is o (left ys _ from_test)) (next_passes n (left zs _ from_next)) (statement_is d (behind number place zs (symbol symbols.Close u) us from_next))
    statement_is (a_switch {p = p} {c = c} {gs = gs} {xs = xs} {ys = ys} q r u v d g) h =
        let groups = ys ++ symbol symbols.CloseBrace v ∷ [] in
        let parts = xs ++ symbol symbols.Close r ∷ symbol symbols.OpenBrace u ∷ groups in
        let rest = tail (symbol symbols.Open q) parts (tail (symbol symbols.Switch p) (symbol symbols.Open q ∷ parts) h) in
        let inside = tail (symbol symbols.OpenBrace u) groups (behind number place xs (symbol symbols.Close r) (symbol symbols.OpenBrace u ∷ groups) rest) in
        switch_passes number place p c gs (span (symbol symbols.Switch p) (symbol symbols.Open q ∷ parts) h) (choice_passes number place d (left xs _ rest)) (groups_are g (left ys _ inside))
    statement_is (a_break {p = p} q) h = break_passes number place p (span (symbol symbols.Break p) (symbol symbols.Semicolon q ∷ []) h)
    statement_is (a_continue {p = p} q) h = continue_passes number place p (span (symbol symbols.Continue p) (symbol symbols.Semicolon q ∷ []) h)
    statement_is (a_return {p = p} {value = value} {ts = ts} q d) h =
        return_passes number place p value (span (symbol symbols.Return p) (ts ++ symbol symbols.Semicolon q ∷ []) h) (optional_is d (inner number place (symbol symbols.Return p) (symbol symbols.Semicolon q) ts h))
    statement_is (an_assert {p = p} {t = t} {ts = ts} q r u d) h =
        let parts = ts ++ symbol symbols.Close r ∷ symbol symbols.Semicolon u ∷ [] in
        assert_passes number place p t (span (symbol symbols.Assert p) (symbol symbols.Open q ∷ parts) h) (choice_passes number place d (left ts _ (tail (symbol symbols.Open q) parts (tail (symbol symbols.Assert p) (symbol symbols.Open q ∷ parts) h))))
    statement_is (an_assume {p = p} {t = t} {ts = ts} q r u d) h =
        let parts = ts ++ symbol symbols.Close r ∷ symbol symbols.Semicolon u ∷ [] in
        assume_passes number place p t (span (symbol symbols.Assume p) (symbol symbols.Open q ∷ parts) h) (choice_passes number place d (left ts _ (tail (symbol symbols.Open q) parts (tail (symbol symbols.Assume p) (symbol symbols.Open q ∷ parts) h))))

    body_is : {ss : List Statement} {ts : List Terminal} → DerivesBody ss ts → Fine ts → IsTrue (list_all (statement_passes number place) ss)
    body_is no_more h = refl
    body_is (local_then {s = s} {ss = ss} {xs = xs} {ys = ys} d ds) h = and_both (statement_passes number place s) (list_all (statement_passes number place) ss) (local_is d (left xs ys h)) (body_is ds (right xs ys h))
    body_is (statement_then {s = s} {ss = ss} {xs = xs} {ys = ys} d ds) h = and_both (statement_passes number place s) (list_all (statement_passes number place) ss) (statement_is d (left xs ys h)) (body_is ds (right xs ys h))

    arms_are : {o : Bool} {arms : List (ExprTree × Statement)} {otherwise : Option Statement} {ts : List Terminal} → DerivesArms o arms otherwise ts → Fine ts → IsTrue (list_all (ArmPasses number place) arms) × IsTrue (OptionalPasses number place otherwise)
    arms_are (an_arm {c = c} {s = s} {arms = arms} {xs = xs} {ys = ys} {zs = zs} p q d b e f) h =
        let rest = tail (symbol symbols.Open p) (xs ++ symbol symbols.Close q ∷ (ys ++ zs)) h in
        let body = behind number place xs (symbol symbols.Close q) (ys ++ zs) rest in
        let others = else_is f (right ys zs body) in (
          and_both (ArmPasses number place (c, s)) (list_all (ArmPasses number place) arms)
              (and_both (tree_passes number place c) (statement_passes number place s) (choice_passes number place d (left xs _ rest)) (statement_is b (left ys zs body))) others.0,
          others.1,
        )

    else_is : {o : Bool} {arms : List (ExprTree × Statement)} {otherwise : Option Statement} {ts : List Terminal} → DerivesElse o arms otherwise ts → Fine ts → IsTrue (list_all (ArmPasses number place) arms) × IsTrue (OptionalPasses number place otherwise)
    else_is no_else h = (refl, refl)
    else_is (an_else {ts = ts} p n d) h = (refl, statement_is d (tail (symbol symbols.Else p) ts h))
    else_is (else_if {ts = ts} p q d) h = arms_are d (tail (symbol symbols.If q) ts (tail (symbol symbols.Else p) (symbol symbols.If q ∷ ts) h))

    groups_are : {gs : List Group} {ts : List Terminal} → DerivesGroups gs ts → Fine ts → IsTrue (list_all (group_passes number place) gs)
    groups_are no_group h = refl
    groups_are (a_group {ls = ls} {ss = ss} {gs = gs} {xs = xs} {ys = ys} {zs = zs} l b e g) h =
        let rest = right xs (ys ++ zs) h in
        and_both (group_passes number place (group ls ss)) (list_all (group_passes number place) gs) (group_is number place ls ss (labels_pass l (left xs (ys ++ zs) h)) (body_is b (left ys zs rest))) (groups_are g (right ys zs rest))

  -- ---- items

  result_some : {o : Option Kind} {ts : List Terminal} → DerivesResult o ts → ts ≢ []
  result_some (nothing_given p) e = cc
  result_some (a_kind d) e = words_some d e

  result_kind : {o : Option Kind} {ts : List Terminal} → DerivesResult o ts → IsTrue (result_passes number place o)
  result_kind (nothing_given p) = refl
  result_kind (a_kind d) = type_kind d

  named_passes : {name : Option Ident} {length : Option ExprTree} {ts : List Terminal} → DerivesNamed name length ts → Fine ts → IsTrue (name_passes number place name) × IsTrue (optional_passes number place length)
  named_passes without_name h = (refl, refl)
  named_passes (with_name {w = w} {p = p} {ts = ts} b) h = (span (name_token w p) ts h, bracketed_passes b (tail (name_token w p) ts h))

  parameter_is : {p : Parameter} {ts : List Terminal} → DerivesParameter p ts → Fine ts → IsTrue (parameter_passes number place p)
  parameter_is (a_parameter {kind = kind} {name = name} {length = length} {consts = consts} {type = type} {ts = ts} c t d) h =
      let rest = right consts (type ++ ts) h in
      let at = good_place number place (consts ++ type) (append_some consts type (words_some t)) (good_append number place consts type (left consts (type ++ ts) h) (left type ts rest)) in
      let named = named_passes d (right type ts rest) in
      let before_kind = place (first_span (consts ++ type)) && name_passes number place name && optional_passes number place length in
      and_both before_kind (is_kind kind)
      (and_both (place (first_span (consts ++ type)) && name_passes number place name) (optional_passes number place length)
      (and_both (place (first_span (consts ++ type))) (name_passes number place name) at named.0) named.1) (type_kind t)

  parameters_pass : {ps : List Parameter} {ts : List Terminal} → DerivesParameters ps ts → Fine ts → IsTrue (list_all (parameter_passes number place) ps)
  parameters_pass (no_parameter q) h = refl
  parameters_pass (void_parameter p q) h = refl
  parameters_pass (some_parameters d) h = separated_pass (parameter_passes number place) (λ y ts e g. parameter_is e g) d h

  end_passes : {body : Option Body} {ts : List Terminal} → DerivesEnd body ts → Fine ts → IsTrue (body_passes number place body)
  end_passes (declared p) h = refl
  end_passes (defined {ss = ss} {ts = ts} p q d) h =
      let rest = tail (symbol symbols.OpenBrace p) (ts ++ symbol symbols.CloseBrace q ∷ []) h in
      and_both (list_all (statement_passes number place) ss) (place q) (body_is d (left ts _ rest)) (span (symbol symbols.CloseBrace q) [] (right ts (symbol symbols.CloseBrace q ∷ []) rest))

  constant_is : {c : Ident × Option ExprTree} {ts : List Terminal} → DerivesConstant c ts → Fine ts → IsTrue (constant_passes number place c)
  constant_is (plain_constant {w = w} {p = p}) h = and_both (place p) true (span (name_token w p) [] h) refl
  constant_is (with_value {w = w} {p = p} {t = t} {ts = ts} q d) h =
      and_both (place p) (tree_passes number place t) (span (name_token w p) (symbol symbols.Assign q ∷ ts) h) (choice_passes number place d (tail (symbol symbols.Assign q) ts (tail (name_token w p) (symbol symbols.Assign q ∷ ts) h)))

  item_is : {i : Item} {ts : List Terminal} → DerivesItem i ts → Fine ts → IsTrue (item_passes number place i)
  item_is (a_function {result = result} {w = w} {ps = ps} {body = body} {before = front} {type = type} {ts = ts} {us = us} p q b r d e) h =
      let named = name_token w p ∷ symbol symbols.Open q ∷ (ts ++ us) in
      let rest = right front (type ++ named) h in
      let behind_type = right type named rest in
      let inside = tail (symbol symbols.Open q) (ts ++ us) (tail (name_token w p) (symbol symbols.Open q ∷ (ts ++ us)) behind_type) in
      let at = good_place number place (front ++ type) (append_some front type (result_some r)) (good_append number place front type (left front (type ++ named) h) (left type named rest)) in
      and_both (place (first_span (front ++ type)) && place p && list_all (parameter_passes number place) ps && body_passes number place body) (result_passes number place result)
      (and_both (place (first_span (front ++ type)) && place p && list_all (parameter_passes number place) ps) (body_passes number place body)
      (and_both (place (first_span (front ++ type)) && place p) (list_all (parameter_passes number place) ps) (and_both (place (first_span (front ++ type))) (place p) at (span (name_token w p) (symbol symbols.Open q ∷ (ts ++ us)) behind_type)) (parameters_pass d (left ts us inside)))
      (end_passes e (right ts us inside))) (result_kind r)
  item_is (some_variables {kind = kind} {ds = ds} {before = front} {type = type} {ts = ts} b t d) h =
      let rest = right front (type ++ ts) h in
      let at = good_place number place (front ++ type) (append_some front type (words_some t)) (good_append number place front type (left front (type ++ ts) h) (left type ts rest)) in
      and_both (place (first_span (front ++ type)) && list_all (declarator_passes number place) ds) (is_kind kind)
      (and_both (place (first_span (front ++ type))) (list_all (declarator_passes number place) ds) at (declarators_pass d (right type ts rest))) (type_kind t)
  item_is (some_constants {cs = cs} {tag = tag} {ts = ts} p q r g d) h =
      let listed = symbol symbols.OpenBrace q ∷ (ts ++ symbol symbols.Semicolon r ∷ []) in
      let rest = tail (symbol symbols.OpenBrace q) (ts ++ symbol symbols.Semicolon r ∷ []) (right tag listed (tail (symbol symbols.Enum p) (tag ++ listed) h)) in
      and_both (place p) (list_all (constant_passes number place) cs) (span (symbol symbols.Enum p) (tag ++ listed) h) (separated_pass (constant_passes number place) (λ y us e k. constant_is e k) d (left ts _ rest))

  pub items_pass : {is : List Item} {ts : List Terminal} → DerivesItems is ts → Fine ts → IsTrue (list_all (item_passes number place) is)
  items_pass no_items h = refl
  items_pass (an_item_and {i = i} {is = is} {ts = ts} {us = us} d ds) h = and_both (item_passes number place i) (list_all (item_passes number place) is) (item_is d (left ts us h)) (items_pass ds (right ts us h))
