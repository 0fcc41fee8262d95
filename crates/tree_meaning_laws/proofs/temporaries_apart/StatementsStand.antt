-- Statements whose names stand, form by form.
use Rattle.std.proofs.Common.{◌≡◌, ℕ, ◌+◌, ◌≤◌, List, [], ◌∷◌, map, Option, Some, None, refl, sym, ap, subst, ◌∙◌, rules}
use Rattle.std.specs.Prelude.{option_map}
use Rattle.fq_core.specs.declared.span.Span.{Span}
use Rattle.c_values.specs.declared.operators.BinaryOp.{BinaryOp}
use Rattle.cfa.specs.declared.parts.Variable.{Variable}
use Rattle.c_typed_trees.specs.declared.expression.TypedExpr.{TypedExpr}
use Rattle.c_typed_trees.specs.declared.expression.TypedPlace.{TypedPlace, out-TypedPlace}
use Rattle.c_typed_trees.specs.declared.expression.TypedCall.{TypedCall}
use Rattle.c_typed_trees.specs.declared.statement.TypedStatement.{TypedStatement}
use Rattle.c_typed_trees.specs.declared.statement.TypedGroup.{TypedGroup}
use Rattle.c_typed_trees.specs.declared.statement.TypedForm.{the_lemmas}
use Rattle.c_typed_trees.specs.declared.statement.TypedForm.TheVariants as forms
use Rattle.c_type_rules.specs.Kinds.{left_kind, right_kind}
use Rattle.c_type_rules.specs.Expressions.{converted_to}
use Rattle.c_types.specs.Declarations.{statement_of}
use Rattle.c_types.specs.Statements.{assigned, one_of, group_of}
use Rattle.tree_meaning_laws.specs.temporaries_apart.Named.{Named, no_names, names_then, names_in_order, names_if, names_at, with_variables, named, place_named, call_named, option_named, arm_named, statement_named, group_named, IsBelow}
use Rattle.tree_meaning_laws.proofs.temporaries_apart.Stands.{Stands, none_stands, then_stands, at_stands, with_stands, only_stands, ListStands, TreeStands, converted_stands}

abbrev pub StatementStands : (end from to : ℕ) → TypedStatement → Type 0
StatementStands end from to s = Stands end from to (statement_named s)

abbrev pub StatementsStand : (end from to : ℕ) → List TypedStatement → Type 0
StatementsStand end from to ss = ListStands statement_named end from to ss

-- an arm of an `if`
abbrev pub arm_names : TypedExpr × TypedStatement → Named
arm_names arm = names_then (named arm.0) (statement_named arm.1)

abbrev named_arm : TypedExpr × TypedStatement → TypedExpr × Named
named_arm arm = (arm.0, statement_named arm.1)

same_arms : (arms : List (TypedExpr × TypedStatement)) → map arm_named (map named_arm arms) ≡ map arm_names arms
same_arms [] = refl
same_arms (a ∷ arms) = ap (λ ns. arm_names a ∷ ns) (same_arms arms)

abbrev pub optional : Option TypedStatement → Named
optional o = names_if (option_map statement_named o)

module _ (end : ℕ) (span : Span) where
  pub empty_stands : (from to : ℕ) → from ≤ to → StatementStands end from to (statement_of span forms.Empty)
  unfolding statement_named
  empty_stands from to l = subst (Stands end from to) (sym is) (none_stands end from to l)
    where
      is : statement_named (statement_of span forms.Empty) ≡ no_names
      is = search (rules, the_lemmas)

  pub break_stands : (from to : ℕ) → from ≤ to → StatementStands end from to (statement_of span forms.Break)
  unfolding statement_named
  break_stands from to l = subst (Stands end from to) (sym is) (none_stands end from to l)
    where
      is : statement_named (statement_of span forms.Break) ≡ no_names
      is = search (rules, the_lemmas)

  pub continue_stands : (from to : ℕ) → from ≤ to → StatementStands end from to (statement_of span forms.Continue)
  unfolding statement_named
  continue_stands from to l = subst (Stands end from to) (sym is) (none_stands end from to l)
    where
      is : statement_named (statement_of span forms.Continue) ≡ no_names
      is = search (rules, the_lemmas)

  pub block_stands : (ss : List TypedStatement) (from to : ℕ) → StatementsStand end from to ss → StatementStands end from to (statement_of span (forms.Block ss))
  unfolding statement_named
  block_stands ss from to h = subst (Stands end from to) (sym is) h
    where
      is : statement_named (statement_of span (forms.Block ss)) ≡ names_in_order (map statement_named ss)
      is = search (rules, the_lemmas)

  pub local_stands : (v : Variable) (first : Option TypedExpr) (from to : ℕ) → IsBelow end v → Stands end from to (option_named first) → StatementStands end from to (statement_of span (forms.Local v first))
  unfolding statement_named
  local_stands v first from to h k = subst (Stands end from to) (sym is) (with_stands end from to (v ∷ []) (option_named first) (h, tt) k)
    where
      is : statement_named (statement_of span (forms.Local v first)) ≡ with_variables (v ∷ []) (option_named first)
      is = search (rules, the_lemmas)

  pub array_stands : (v : Variable) (list : List TypedExpr) (from to : ℕ) → IsBelow end v → ListStands named end from to list → StatementStands end from to (statement_of span (forms.LocalArray v list))
  unfolding statement_named
  array_stands v list from to h k = subst (Stands end from to) (sym is) (with_stands end from to (v ∷ []) (names_in_order (map named list)) (h, tt) k)
    where
      is : statement_named (statement_of span (forms.LocalArray v list)) ≡ with_variables (v ∷ []) (names_in_order (map named list))
      is = search (rules, the_lemmas)

  pub assigned_stands : (to : TypedPlace) (op : Option BinaryOp) (a : TypedExpr) (from mid last : ℕ) → Stands end from mid (place_named to) → TreeStands end mid last a → StatementStands end from last (statement_of span (assigned to op a))
  unfolding statement_named
  assigned_stands to None a from mid last h k =
      let e = converted_to (out-TypedPlace to).variable.kind a in
      let is : statement_named (statement_of span (forms.Assign to None e)) ≡ names_then (place_named to) (named e) = search (rules, the_lemmas) in
      subst (Stands end from last) (sym is) (then_stands end from mid last (place_named to) (named e) h (converted_stands end (out-TypedPlace to).variable.kind a mid last k))
  assigned_stands to (Some op) a from mid last h k =
      let kind = (out-TypedPlace to).variable.kind in
      let e = converted_to (right_kind op kind a.kind) a in
      let is : statement_named (statement_of span (forms.Assign to (Some (op, left_kind op kind a.kind)) e)) ≡ names_then (place_named to) (named e) = search (rules, the_lemmas) in
      subst (Stands end from last) (sym is) (then_stands end from mid last (place_named to) (named e) h (converted_stands end (right_kind op kind a.kind) a mid last k))

  pub call_statement_stands : (c : TypedCall) (from to : ℕ) → Stands end from to (call_named c) → StatementStands end from to (statement_of span (forms.Call c))
  unfolding statement_named
  call_statement_stands c from to h = subst (Stands end from to) (sym is) h
    where
      is : statement_named (statement_of span (forms.Call c)) ≡ call_named c
      is = search (rules, the_lemmas)

  pub label_stands : (name : List ℕ) (body : TypedStatement) (from to : ℕ) → StatementStands end from to body → StatementStands end from to (statement_of span (forms.Label name body))
  unfolding statement_named
  label_stands name body from to h = subst (Stands end from to) (sym is) h
    where
      is : statement_named (statement_of span (forms.Label name body)) ≡ statement_named body
      is = search (rules, the_lemmas)

  pub if_stands : (arms : List (TypedExpr × TypedStatement)) (otherwise : Option TypedStatement) (from mid to : ℕ) → ListStands arm_names end from mid arms → Stands end mid to (optional otherwise) → StatementStands end from to (statement_of span (forms.If arms otherwise))
  unfolding statement_named
  if_stands arms otherwise from mid to h k =
      subst (Stands end from to) (sym (is ∙ ap (λ (ns : List Named). names_then (names_in_order ns) (optional otherwise)) (same_arms arms))) (then_stands end from mid to (names_in_order (map arm_names arms)) (optional otherwise) h k)
    where
      is : statement_named (statement_of span (forms.If arms otherwise)) ≡ names_then (names_in_order (map arm_named (map named_arm arms))) (optional otherwise)
      is = search (rules, the_lemmas)

  pub while_stands : (test : TypedExpr) (body : TypedStatement) (from mid to : ℕ) → TreeStands end from mid test → StatementStands end mid to body → StatementStands end from to (statement_of span (forms.While test body))
  unfolding statement_named
  while_stands test body from mid to h k = subst (Stands end from to) (sym is) (then_stands end from mid to (named test) (statement_named body) h k)
    where
      is : statement_named (statement_of span (forms.While test body)) ≡ names_then (named test) (statement_named body)
      is = search (rules, the_lemmas)

  pub do_stands : (body : TypedStatement) (test : TypedExpr) (from mid to : ℕ) → StatementStands end from mid body → TreeStands end mid to test → StatementStands end from to (statement_of span (forms.Do body test))
  unfolding statement_named
  do_stands body test from mid to h k = subst (Stands end from to) (sym is) (then_stands end from mid to (statement_named body) (named test) h k)
    where
      is : statement_named (statement_of span (forms.Do body test)) ≡ names_then (statement_named body) (named test)
      is = search (rules, the_lemmas)

  pub for_stands : (first : List TypedStatement) (test : Option TypedExpr) (next : Option TypedStatement) (body : TypedStatement) (a b c d e : ℕ) → StatementsStand end a b first → Stands end b c (option_named test) → Stands end c d (optional next)
      → StatementStands end d e body → StatementStands end a e (statement_of span (forms.For first test next body))
  unfolding statement_named
  for_stands first test next body a b c d e h k l m =
      subst (Stands end a e) (sym is)
      (then_stands end a b e (names_in_order (map statement_named first)) (names_then (option_named test) (names_then (optional next) (statement_named body))) h
      (then_stands end b c e (option_named test) (names_then (optional next) (statement_named body)) k (then_stands end c d e (optional next) (statement_named body) l m)))
    where
      is : statement_named (statement_of span (forms.For first test next body)) ≡ names_then (names_in_order (map statement_named first)) (names_then (option_named test) (names_then (optional next) (statement_named body)))
      is = search (rules, the_lemmas)

  pub switch_stands : (value : TypedExpr) (cell : ℕ) (groups : List TypedGroup) (mid to : ℕ) → TreeStands end (cell + 1) mid value → ListStands group_named end mid to groups → StatementStands end cell to (statement_of span (forms.Switch value cell groups))
  unfolding statement_named group_named
  switch_stands value cell groups mid to h k =
      subst (Stands end cell to) (sym is)
      (at_stands end cell to (names_then (named value) (names_in_order (map group_named groups))) (then_stands end (cell + 1) mid to (named value) (names_in_order (map group_named groups)) h k))
    where
      is : statement_named (statement_of span (forms.Switch value cell groups)) ≡ names_at cell (names_then (named value) (names_in_order (map group_named groups)))
      is = search (rules, the_lemmas)

  pub return_stands : (value : Option TypedExpr) (from to : ℕ) → Stands end from to (option_named value) → StatementStands end from to (statement_of span (forms.Return value))
  unfolding statement_named
  return_stands value from to h = subst (Stands end from to) (sym is) h
    where
      is : statement_named (statement_of span (forms.Return value)) ≡ option_named value
      is = search (rules, the_lemmas)

  pub assert_stands : (test : TypedExpr) (from to : ℕ) → TreeStands end from to test → StatementStands end from to (statement_of span (forms.Assert test))
  unfolding statement_named
  assert_stands test from to h = subst (Stands end from to) (sym is) h
    where
      is : statement_named (statement_of span (forms.Assert test)) ≡ named test
      is = search (rules, the_lemmas)

  pub assume_stands : (test : TypedExpr) (from to : ℕ) → TreeStands end from to test → StatementStands end from to (statement_of span (forms.Assume test))
  unfolding statement_named
  assume_stands test from to h = subst (Stands end from to) (sym is) h
    where
      is : statement_named (statement_of span (forms.Assume test)) ≡ named test
      is = search (rules, the_lemmas)

  pub one_stands : (ss : List TypedStatement) (from to : ℕ) → StatementsStand end from to ss → StatementStands end from to (one_of span ss)
  one_stands [] from to h = empty_stands from to h.ascend
  one_stands (s ∷ []) from to h = only_stands end from to (statement_named s) h
  one_stands (s ∷ t ∷ rest) from to h = block_stands (s ∷ t ∷ rest) from to h

pub group_stands : (end : ℕ) (labels : List (Span × Option ℕ)) (body : List TypedStatement) (from to : ℕ) → StatementsStand end from to body → Stands end from to (group_named (group_of labels body))
unfolding group_named statement_named
group_stands end labels body from to h = subst (Stands end from to) (sym is) h
  where
    is : group_named (group_of labels body) ≡ names_in_order (map statement_named body)
    is = search (rules, the_lemmas)
