-- The statements that the syntax has: what follows the passes of `for` is simple.
use Rattle.std.proofs.Common.{◌≡◌, Bool, true, List, map, Option, refl, sym, subst, rules}
use Rattle.std.specs.Prelude.{◌&&◌, IsTrue, option_map}
use Rattle.c_values.proofs.Fitting.{and_both}
use Rattle.fq_core.specs.declared.span.Span.{Span}
use Rattle.c_parse.specs.declared.expr.ExprTree.{ExprTree}
use Rattle.c_parse.specs.declared.expr.Ident.{Ident}
use Rattle.c_parse.specs.declared.sign.Terminal.{Terminal}
use Rattle.c_parse.specs.declared.statement.CaseLabel.{CaseLabel}
use Rattle.c_parse.specs.declared.statement.Form.{Form, the_lemmas}
use Rattle.c_parse.specs.declared.statement.Form.TheVariants as form
use Rattle.c_parse.specs.declared.statement.Group.{Group}
use Rattle.c_parse.specs.declared.statement.Statement.{Statement}
use Rattle.c_parse.specs.declared.unit.Body.{Body}
use Rattle.c_parse.specs.declared.unit.Item.{Item}
use Rattle.c_parse.specs.Items.{DerivesEnd, declared, defined, DerivesItem, a_function, some_variables, some_constants, DerivesItems, no_items, an_item_and}
use Rattle.c_parse.specs.Statements.{DerivesSimple, an_assignment, a_step_after, a_step_before, a_bare_run, a_run, DerivesLocal, a_local, DerivesBegin, begins_not, begins_simple, begins_local, DerivesNext, no_next, a_next, DerivesStatement, a_block, an_empty, a_simple, a_label, an_if, a_while, a_do, a_for, a_switch, a_break, a_continue, a_return, an_assert, an_assume, DerivesBody, no_more, local_then, statement_then, DerivesArms, an_arm, DerivesElse, no_else, an_else, else_if, DerivesGroups, no_group, a_group}
use Rattle.c_parse.specs.StatementTrees.{statement, ident, group}
use Rattle.tree_meaning_laws.specs.for_steps.Simple.{Simple, inner, all_simple, if_simple, next_simple, arms_simple, groups_simple, simple, group_simple, body_simple, item_simple, items_simple}

abbrev pub Steps : Statement → Type 0
Steps s = IsTrue (simple s).steps

abbrev pub AllSteps : List Statement → Type 0
AllSteps ss = IsTrue (all_simple (map simple ss))

abbrev pub arm_simple : ExprTree × Statement → ExprTree × Simple
arm_simple arm = (arm.0, simple arm.1)

made : (s : Statement) (m : Simple) → simple s ≡ m → IsTrue m.steps → Steps s
made s m e h = subst (λ (q : Simple). IsTrue q.steps) (sym e) h

-- each form, by its parts
block_is : (p : Span) (ss : List Statement) → simple (statement p (form.Block ss)) ≡ inner (all_simple (map simple ss))
unfolding simple
block_is p ss = search (rules, the_lemmas)

plain_is : (p : Span) (f : Form) → simple (statement p f) ≡ inner true → Steps (statement p f)
plain_is p f e = made (statement p f) (inner true) e refl

label_steps : (p : Span) (w : Ident) (s : Statement) → simple (statement p (form.Label w s)) ≡ inner (simple s).steps
unfolding simple
label_steps p w s = search (rules, the_lemmas)

if_steps : (p : Span) (arms : List (ExprTree × Statement)) (o : Option Statement) → simple (statement p (form.If arms o)) ≡ inner (arms_simple (map arm_simple arms) && if_simple (option_map simple o))
unfolding simple
if_steps p arms o = search (rules, the_lemmas)

while_steps : (p : Span) (t : ExprTree) (s : Statement) → simple (statement p (form.While t s)) ≡ inner (simple s).steps
unfolding simple
while_steps p t s = search (rules, the_lemmas)

do_steps : (p : Span) (s : Statement) (t : ExprTree) → simple (statement p (form.Do s t)) ≡ inner (simple s).steps
unfolding simple
do_steps p s t = search (rules, the_lemmas)

for_is : (p : Span) (first : Option Statement) (t : Option ExprTree) (next : Option Statement) (s : Statement) → simple (statement p (form.For first t next s)) ≡ inner (if_simple (option_map simple first) && next_simple (option_map simple next) && (simple s).steps)
unfolding simple
for_is p first t next s = search (rules, the_lemmas)

switch_steps : (p : Span) (t : ExprTree) (gs : List Group) → simple (statement p (form.Switch t gs)) ≡ inner (groups_simple (map group_simple gs))
unfolding simple group_simple
switch_steps p t gs = search (rules, the_lemmas)

group_steps : (ls : List CaseLabel) (ss : List Statement) → group_simple (group ls ss) ≡ all_simple (map simple ss)
unfolding simple group_simple
group_steps ls ss = search (rules, the_lemmas)

-- an assignment, a step or a call
simple_is : {s : Statement} {ts : List Terminal} → DerivesSimple s ts → simple s ≡ record { is_simple = true; steps = true }
unfolding simple
simple_is (an_assignment m q p e d) = search (rules, the_lemmas)
simple_is (a_step_after m q p e) = search (rules, the_lemmas)
simple_is (a_step_before m q e p) = search (rules, the_lemmas)
simple_is (a_bare_run q r) = search (rules, the_lemmas)
simple_is (a_run q r d) = search (rules, the_lemmas)

local_is : {s : Statement} {ts : List Terminal} → DerivesLocal s ts → Steps s
unfolding simple
local_is (a_local {kind = kind} {ds = ds} {consts = consts} {type = type} a b c) = plain_is _ (form.Local kind ds) (search (rules, the_lemmas))

simple_steps : {s : Statement} {ts : List Terminal} → DerivesSimple s ts → Steps s
simple_steps {s = s} d = made s _ (simple_is d) refl

begin_steps : {o : Option Statement} {ts : List Terminal} → DerivesBegin o ts → IsTrue (if_simple (option_map simple o))
begin_steps (begins_not p) = refl
begin_steps (begins_simple p d) = simple_steps d
begin_steps (begins_local d) = local_is d

next_steps : {o : Option Statement} {ts : List Terminal} → DerivesNext o ts → IsTrue (next_simple (option_map simple o))
next_steps no_next = refl
next_steps (a_next {s = s} d) = subst (λ (q : Simple). IsTrue (q.is_simple && q.steps)) (sym (simple_is d)) refl

mutual
  unfolding simple

  statement_steps : {o : Bool} {s : Statement} {ts : List Terminal} → DerivesStatement o s ts → Steps s
  statement_steps (a_block {p = p} {ss = ss} q d) = made _ _ (block_is p ss) (body_steps d)
  statement_steps (an_empty {p = p}) = plain_is p form.Empty (search (rules, the_lemmas))
  statement_steps (a_simple q d) = simple_steps d
  statement_steps (a_label {w = w} {p = p} {s = s} q d) = made _ _ (label_steps p (ident w p) s) (statement_steps d)
  statement_steps (an_if {p = p} {arms = arms} {otherwise = otherwise} d) = let A = arms_steps d in made _ _ (if_steps p arms otherwise) (and_both _ _ A.0 A.1)
  statement_steps (a_while {p = p} {c = c} {s = s} q r d b) = made _ _ (while_steps p c s) (statement_steps b)
  statement_steps (a_do {p = p} {s = s} {c = c} q r u v b d) = made _ _ (do_steps p s c) (statement_steps b)
  statement_steps (a_for {p = p} {first = first} {next = next} {test = test} {s = s} q r u b o n d) =
      made _ _ (for_is p first test next s) (and_both (if_simple (option_map simple first) && next_simple (option_map simple next)) _ (and_both (if_simple (option_map simple first)) _ (begin_steps b) (next_steps n)) (statement_steps d))
  statement_steps (a_switch {p = p} {c = c} {gs = gs} q r u v d g) = made _ _ (switch_steps p c gs) (groups_steps g)
  statement_steps (a_break {p = p} q) = plain_is p form.Break (search (rules, the_lemmas))
  statement_steps (a_continue {p = p} q) = plain_is p form.Continue (search (rules, the_lemmas))
  statement_steps (a_return {p = p} {value = value} q d) = plain_is p (form.Return value) (search (rules, the_lemmas))
  statement_steps (an_assert {p = p} {t = t} q r u d) = plain_is p (form.Assert t) (search (rules, the_lemmas))
  statement_steps (an_assume {p = p} {t = t} q r u d) = plain_is p (form.Assume t) (search (rules, the_lemmas))

  body_steps : {ss : List Statement} {ts : List Terminal} → DerivesBody ss ts → AllSteps ss
  body_steps no_more = refl
  body_steps (local_then {s = s} {ss = ss} d ds) = and_both (simple s).steps (all_simple (map simple ss)) (local_is d) (body_steps ds)
  body_steps (statement_then {s = s} {ss = ss} d ds) = and_both (simple s).steps (all_simple (map simple ss)) (statement_steps d) (body_steps ds)

  arms_steps : {o : Bool} {arms : List (ExprTree × Statement)} {otherwise : Option Statement} {ts : List Terminal} → DerivesArms o arms otherwise ts → IsTrue (arms_simple (map arm_simple arms)) × IsTrue (if_simple (option_map simple otherwise))
  arms_steps (an_arm {s = s} {arms = arms} p q d b e f) = let others = else_steps f in (and_both (simple s).steps (arms_simple (map arm_simple arms)) (statement_steps b) others.0, others.1)

  else_steps : {o : Bool} {arms : List (ExprTree × Statement)} {otherwise : Option Statement} {ts : List Terminal} → DerivesElse o arms otherwise ts → IsTrue (arms_simple (map arm_simple arms)) × IsTrue (if_simple (option_map simple otherwise))
  else_steps no_else = (refl, refl)
  else_steps (an_else p n d) = (refl, statement_steps d)
  else_steps (else_if p q d) = arms_steps d

  groups_steps : {gs : List Group} {ts : List Terminal} → DerivesGroups gs ts → IsTrue (groups_simple (map group_simple gs))
  groups_steps no_group = refl
  groups_steps (a_group {ls = ls} {ss = ss} {gs = gs} l b e g) = and_both (group_simple (group ls ss)) (groups_simple (map group_simple gs)) (subst IsTrue (sym (group_steps ls ss)) (body_steps b)) (groups_steps g)

end_steps : {body : Option Body} {ts : List Terminal} → DerivesEnd body ts → IsTrue (body_simple body)
end_steps (declared p) = refl
end_steps (defined p q d) = body_steps d

item_steps : {i : Item} {ts : List Terminal} → DerivesItem i ts → IsTrue (item_simple i)
item_steps (a_function p q b r d e) = end_steps e
item_steps (some_variables b t d) = refl
item_steps (some_constants p q r g d) = refl

pub items_steps : {is : List Item} {ts : List Terminal} → DerivesItems is ts → IsTrue (items_simple is)
items_steps no_items = refl
items_steps (an_item_and {i = i} {is = is} d ds) = and_both (item_simple i) (items_simple is) (item_steps d) (items_steps ds)
