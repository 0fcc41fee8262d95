-- Statements and declarations that are the same wherever their temporaries begin.
use Rattle.std.proofs.Common.{◌≡◌, ℕ, Bool, true, false, not, List, [], ◌∷◌, map, length, Option, Some, None, refl, sym, subst, rules}
use Rattle.std.specs.Prelude.{IfSome, option_map}
use Rattle.std.specs.List.{AllByRecursion}
use Rattle.fq_core.specs.declared.span.Span.{Span}
use Rattle.c_values.specs.declared.kinds.Kind.{Kind}
use Rattle.c_values.specs.declared.operators.BinaryOp.{BinaryOp}
use Rattle.c_parse.specs.declared.expr.ExprTree.{ExprTree}
use Rattle.c_parse.specs.declared.expr.Ident.{Ident}
use Rattle.c_parse.specs.declared.statement.CaseLabel.{CaseLabel}
use Rattle.c_parse.specs.declared.statement.Declarator.{Declarator}
use Rattle.c_parse.specs.declared.statement.Initial.{Initial}
use Rattle.c_parse.specs.declared.statement.Initial.TheVariants as initials
use Rattle.c_parse.specs.declared.statement.PlaceTree.{PlaceTree}
use Rattle.c_parse.specs.declared.statement.Form.{Form, roll-Form, the_lemmas}
use Rattle.c_parse.specs.declared.statement.Form.TheOpen.{Form-F, Group-F, Statement-F}
use Rattle.c_parse.specs.declared.statement.Statement.{Statement, roll-Statement, ind-Statement}
use Rattle.c_parse.specs.declared.statement.Group.{Group, roll-Group}
use Rattle.c_parse.specs.declared.unit.Body.{Body}
use Rattle.cfa.specs.declared.parts.Variable.{Variable}
use Rattle.cfa.specs.declared.parts.VariablePlace.TheVariants as places
use Rattle.c_typed_trees.specs.declared.statement.TypedStatement.{TypedStatement}
use Rattle.c_type_rules.specs.declared.scopes.Bound.{Bound}
use Rattle.c_type_rules.specs.declared.scopes.Meaning.{Meaning}
use Rattle.c_type_rules.specs.declared.scopes.Meaning.TheVariants as meanings
use Rattle.c_type_rules.specs.Kinds.{promotion}
use Rattle.c_type_rules.specs.Rule.{At, Rule, pure, ◌then◌, expect, look, bind_label, bind_case, local, bind, in_scope, in_switch, each, alone_in}
use Rattle.c_type_rules.specs.Expressions.{integer, piece, no_variable}
use Rattle.c_types.specs.declared.around.Around.{Around}
use Rattle.c_types.specs.declared.parameters.Parameters.{Parameters}
use Rattle.c_types.specs.Declarations.{same_level, unused, bound_as, bind_variable, variable_of, is_array_length, length_if, length_within, length_at, cells_of, is_list_for, value_for, values_for, begun, local_rule, locals_rule}
use Rattle.c_types.specs.Statements.{in_loop, in_cases, integer_if, integer_meant, integer_named, variable_at, place_rule, Part, GroupPart, in_turn, single, alone, arm_rule, arms_rule, last_rule, first_rule, test_rule, next_rule, unused_label, fresh, case_valued, case_rule, cases_rule, group_rule, groups_rule, return_rule, call_statement, form_rule, form_of, group, part, statement_rule, statements_typing}
use Rattle.c_types.specs.Functions.{in_frame, bind_parameters, in_function, body_rule}
use Rattle.c_types_laws.proofs.typing_laws.Alike.{Alike, Any, Equal, SameKind, then_alike, pure_alike, fault_alike, expect_alike, look_alike, is_label_alike, is_case_alike, here_alike, temporary_alike, local_alike, bind_alike, bind_label_alike, bind_case_alike, scope_alike, switch_alike, alone_alike, each_alike, from_equal, integer_alike, array_alike, call_alike, tree_alike, constant_alike, AreAlike}

abbrev IsSteady : {A : Type 0} → Rule A → Type 0
IsSteady m = Alike Any m m

of_tree : (t : ExprTree) → Alike SameKind (integer (piece t)) (integer (piece t))
of_tree t = integer_alike (piece t) (tree_alike t)

-- a part whose making is of no concern, and then another
follows : {A B : Type 0} {R : A → A → Type 0} {m : Rule A} {k l : A → Rule B} → Alike R m m → ((x y : A) → Alike Any (k x) (l y)) → Alike Any (m then k) (m then l)
follows h g = then_alike h (λ x y r. g x y)

makes : {A : Type 0} (x y : A) → Alike Any (pure x) (pure y)
makes x y = pure_alike Any x y tt

-- ---- declarations

unused_steady : (d : Ident) → IsSteady (unused d)
unfolding unused
unused_steady d =
    then_alike here_alike (from_equal (λ level. look d.name then λ found. expect 31 d.span (not (same_level level found)))
    (λ level. then_alike (look_alike d.name) (from_equal (λ found. expect 31 d.span (not (same_level level found))) (λ found. expect_alike 31 d.span (not (same_level level found))))))

bound_steady : (v : Variable) → IsSteady (bind_variable v)
unfolding bind_variable
bound_steady v = then_alike here_alike (from_equal (λ level. bind (bound_as level v)) (λ level. bind_alike (bound_as level v)))

length_if_steady : (span : Span) (n : ℕ) (t : Bool) → Alike Equal (length_if span n t) (length_if span n t)
length_if_steady span n true = pure_alike Equal (Some n) (Some n) refl
length_if_steady span n false = fault_alike Equal (Some 0) (Some 0) refl 34 span

within_steady : (span : Span) (n : Option ℕ) → Alike Equal (length_within span n) (length_within span n)
within_steady span None = pure_alike Equal (Some 0) (Some 0) refl
within_steady span (Some n) = length_if_steady span n (is_array_length n)

length_steady : (span : Span) (t : Option ExprTree) → Alike Equal (length_at span t) (length_at span t)
unfolding length_at
length_steady span None = pure_alike Equal None None refl
length_steady span (Some t) = then_alike (constant_alike None t) (from_equal (length_within span) (within_steady span))

value_steady : (kind : Kind) (t : ExprTree) → IsSteady (value_for kind t)
unfolding value_for
value_steady kind t = follows (of_tree t) (λ x y. makes _ _)

values_steady : (kind : Kind) (ts : List ExprTree) → IsSteady (values_for kind ts)
unfolding values_for
values_steady kind ts = each_alike (λ t. alone_in (value_for kind t)) (λ t. alone_alike (value_steady kind t)) ts

begun_steady : (span : Span) (d : Ident) (v : Variable) (length : Option ℕ) (first : Option Initial) → IsSteady (begun span d v length first)
begun_steady span d v None None = makes _ _
begun_steady span d v None (Some (initials.One t)) = follows (value_steady v.kind t) (λ x y. makes _ _)
begun_steady span d v None (Some (initials.List ts)) = follows (expect_alike 33 d.span false) (λ x y. follows (values_steady v.kind ts) (λ x y. makes _ _))
begun_steady span d v (Some n) None = makes _ _
begun_steady span d v (Some n) (Some (initials.One t)) = follows (expect_alike 33 d.span false) (λ x y. follows (value_steady v.kind t) (λ x y. makes _ _))
begun_steady span d v (Some n) (Some (initials.List ts)) = follows (expect_alike 34 d.span (is_list_for n (length ts))) (λ x y. follows (values_steady v.kind ts) (λ x y. makes _ _))

local_steady : (span : Span) (kind : Kind) (d : Declarator) → IsSteady (local_rule span kind d)
unfolding local_rule
local_steady span kind d =
    follows (unused_steady d.name) (λ x y.
    then_alike (length_steady d.name.span d.length) (from_equal (λ length. local (cells_of length) then λ cell. bind_variable (variable_of d.name.name kind length (places.Local cell)) then λ u. begun span d.name (variable_of d.name.name kind length (places.Local cell)) length d.first) (λ length.
    then_alike (local_alike (cells_of length)) (from_equal (λ cell. bind_variable (variable_of d.name.name kind length (places.Local cell)) then λ u. begun span d.name (variable_of d.name.name kind length (places.Local cell)) length d.first) (λ cell.
    follows (bound_steady (variable_of d.name.name kind length (places.Local cell))) (λ x y. begun_steady span d.name (variable_of d.name.name kind length (places.Local cell)) length d.first))))))

locals_steady : (span : Span) (kind : Kind) (ds : List Declarator) → IsSteady (locals_rule span kind ds)
unfolding locals_rule
locals_steady span kind ds = each_alike (λ d. alone_in (local_rule span kind d)) (λ d. alone_alike (local_steady span kind d)) ds

-- ---- parts of statements

integer_if_steady : (span : Span) (v : Variable) (length : Option ℕ) → Alike Equal (integer_if span v length) (integer_if span v length)
integer_if_steady span v None = pure_alike Equal v v refl
integer_if_steady span v (Some n) = fault_alike Equal no_variable no_variable refl 33 span

meant_steady : (span : Span) (m : Meaning) → Alike Equal (integer_meant span m) (integer_meant span m)
meant_steady span (meanings.Variable v) = integer_if_steady span v v.length
meant_steady span (meanings.Constant n) = fault_alike Equal no_variable no_variable refl 33 span
meant_steady span (meanings.Function f) = fault_alike Equal no_variable no_variable refl 33 span

named_steady : (span : Span) (found : Option Bound) → Alike Equal (integer_named span found) (integer_named span found)
named_steady span None = fault_alike Equal no_variable no_variable refl 30 span
named_steady span (Some b) = meant_steady span b.meaning

variable_steady : (span : Span) (w : List ℕ) → Alike Equal (variable_at span w) (variable_at span w)
unfolding variable_at
variable_steady span w = then_alike (look_alike w) (from_equal (integer_named span) (named_steady span))

place_steady : (d : Ident) (index : Option ExprTree) → IsSteady (place_rule d index)
unfolding place_rule
place_steady d None = follows (variable_steady d.span d.name) (λ x y. makes _ _)
place_steady d (Some t) = follows (array_alike d.span d.name) (λ x y. follows (of_tree t) (λ x y. makes _ _))

label_steady : (d : Ident) → IsSteady (unused_label d)
unfolding unused_label
label_steady d =
    then_alike (is_label_alike d.name) (from_equal (λ here. expect 31 d.span (not here) then λ u. bind_label d.name)
    (λ here. follows (expect_alike 31 d.span (not here)) (λ x y. bind_label_alike d.name)))

fresh_steady : (span : Span) (v : Option ℕ) → IsSteady (fresh span v)
unfolding fresh
fresh_steady span v =
    then_alike (is_case_alike v) (from_equal (λ here. expect 31 span (not here) then λ u. bind_case v then λ u. pure (span, v))
    (λ here. follows (expect_alike 31 span (not here)) (λ x y. follows (bind_case_alike v) (λ x y. makes _ _))))

valued_steady : (span : Span) (v : Option ℕ) → IsSteady (case_valued span v)
valued_steady span None = makes _ _
valued_steady span (Some v) = fresh_steady span (Some v)

case_steady : (kind : Kind) (span : Span) (value : Option ExprTree) → IsSteady (case_rule kind span value)
unfolding case_rule
case_steady kind span None = fresh_steady span None
case_steady kind span (Some t) = then_alike (constant_alike (Some kind) t) (from_equal (case_valued span) (valued_steady span))

cases_steady : (kind : Kind) (labels : List CaseLabel) → IsSteady (cases_rule kind labels)
unfolding cases_rule
cases_steady kind labels = each_alike (λ c. alone_in (case_rule kind c.span c.value)) (λ c. alone_alike (case_steady kind c.span c.value)) labels

test_steady : (t : Option ExprTree) → IsSteady (test_rule t)
unfolding test_rule
test_steady None = makes _ _
test_steady (Some t) = follows (of_tree t) (λ x y. makes _ _)

return_steady : (result : Option Kind) (span : Span) (t : Option ExprTree) → IsSteady (return_rule result span t)
return_steady None span None = makes _ _
return_steady (Some kind) span (Some t) = follows (of_tree t) (λ x y. makes _ _)
return_steady None span (Some t) = follows (expect_alike 29 span false) (λ x y. follows (of_tree t) (λ x y. makes _ _))
return_steady (Some kind) span None = follows (expect_alike 29 span false) (λ x y. makes _ _)

call_steady : (span : Span) (d : Ident) (ts : List ExprTree) → IsSteady (call_statement span d ts)
unfolding call_statement
call_steady span d ts = follows (call_alike d.span d.name (map piece ts) (pieces ts)) (λ x y. makes _ _)
  where
    pieces : (xs : List ExprTree) → AreAlike (map piece xs)
    pieces [] = tt
    pieces (x ∷ xs) = (tree_alike x, pieces xs)

-- ---- statements

abbrev Steady : Part → Type 0
Steady p = (u : Around) → IsSteady (p.rule u)

abbrev AreSteady : List Part → Type 0
AreSteady ps = AllByRecursion Steady ps

turn_steady : (u : Around) (ps : List Part) → AreSteady ps → IsSteady (in_turn u ps)
unfolding each
turn_steady u [] h = makes _ _
turn_steady u (p ∷ ps) h = follows (h.0 u) (λ x y. follows (turn_steady u ps h.1) (λ x y. makes _ _))

single_steady : (u : Around) (p : Part) → Steady p → IsSteady (single u p)
unfolding single
single_steady u p h = follows (h u) (λ x y. makes _ _)

alone_steady : (u : Around) (p : Part) → Steady p → IsSteady (alone u p)
unfolding alone
alone_steady u p h = scope_alike (single_steady u p h)

arms_steady : (u : Around) (arms : List (ExprTree × Part)) → AllByRecursion (λ (a : ExprTree × Part). Steady a.1) arms → IsSteady (arms_rule u arms)
unfolding each arm_rule
arms_steady u [] h = makes _ _
arms_steady u (a ∷ arms) h =
    follows (alone_alike {R = Any} (follows (of_tree a.0) (λ x y. follows (alone_steady u a.1 h.0) (λ x y. makes _ _)))) (λ x y. follows (arms_steady u arms h.1) (λ x y. makes _ _))

last_steady : (u : Around) (o : Option Part) → IfSome o Steady → IsSteady (last_rule u o)
unfolding last_rule
last_steady u None h = makes _ _
last_steady u (Some p) h = follows (alone_steady u p h) (λ x y. makes _ _)

first_steady : (u : Around) (o : Option Part) → IfSome o Steady → IsSteady (first_rule u o)
unfolding first_rule
first_steady u None h = makes _ _
first_steady u (Some p) h = h u

next_steady : (u : Around) (o : Option Part) → IfSome o Steady → IsSteady (next_rule u o)
unfolding next_rule
next_steady u None h = makes _ _
next_steady u (Some p) h = follows (single_steady u p h) (λ x y. makes _ _)

abbrev GroupSteady : GroupPart → Type 0
GroupSteady g = AreSteady g.body

groups_steady : (u : Around) (kind : Kind) (gs : List GroupPart) → AllByRecursion GroupSteady gs → IsSteady (groups_rule u kind gs)
unfolding each group_rule
groups_steady u kind [] h = makes _ _
groups_steady u kind (g ∷ gs) h =
    follows (alone_alike {R = Any} (follows (cases_steady kind g.labels) (λ x y. follows (turn_steady u g.body h.0) (λ x y. makes _ _)))) (λ x y. follows (groups_steady u kind gs h.1) (λ x y. makes _ _))

-- ---- trees

abbrev Shaped : Form → Type 0
Shaped f = (u : Around) (span : Span) → IsSteady (form_of f u span)

abbrev ShapedRule : (Around → Span → Rule (List TypedStatement)) → Type 0
ShapedRule f = (u : Around) (span : Span) → IsSteady (f u span)

abbrev GroupMade : Group → Type 0
GroupMade g = GroupSteady (group g)

abbrev Made : Statement → Type 0
Made s = Steady (part s)

form_is : (x : Form-F Form Group Statement) (rule : Around → Span → Rule (List TypedStatement)) → form_of (roll-Form x) ≡ rule → ShapedRule rule → Shaped (roll-Form x)
form_is x rule e h = subst ShapedRule (sym e) h

parts_are : (ss : List Statement) → AllByRecursion Made ss → AreSteady (map part ss)
parts_are [] h = tt
parts_are (s ∷ ss) h = (h.0, parts_are ss h.1)

some_part : (o : Option Statement) → IfSome o Made → IfSome (option_map part o) Steady
some_part None h = tt
some_part (Some s) h = h

block_at : (ss : List Statement) → AllByRecursion Made ss → Shaped (roll-Form (Form-F.Block ss))
unfolding form_of part
block_at ss h = form_is (Form-F.Block ss) (form_rule (Form-F.Block (map part ss))) (search (rules, the_lemmas)) (λ u span. follows (scope_alike (turn_steady u (map part ss) (parts_are ss h))) (λ x y. makes _ _))

empty_at : Shaped (roll-Form Form-F.Empty)
unfolding form_of part
empty_at = form_is Form-F.Empty (form_rule Form-F.Empty) (search (rules, the_lemmas)) (λ u span. makes _ _)

local_at : (kind : Kind) (ds : List Declarator) → Shaped (roll-Form (Form-F.Local kind ds))
unfolding form_of part
local_at kind ds = form_is (Form-F.Local kind ds) (form_rule (Form-F.Local kind ds)) (search (rules, the_lemmas)) (λ u span. locals_steady span kind ds)

assign_at : (p : PlaceTree) (op : Option BinaryOp) (t : ExprTree) → Shaped (roll-Form (Form-F.Assign p op t))
unfolding form_of part
assign_at p op t =
    form_is (Form-F.Assign p op t) (form_rule (Form-F.Assign p op t)) (search (rules, the_lemmas))
    (λ u span. follows (place_steady p.name p.index) (λ x y. follows (of_tree t) (λ x y. makes _ _)))

step_at : (p : PlaceTree) (up : Bool) → Shaped (roll-Form (Form-F.Step p up))
unfolding form_of part
step_at p up = form_is (Form-F.Step p up) (form_rule (Form-F.Step p up)) (search (rules, the_lemmas)) (λ u span. follows (place_steady p.name p.index) (λ x y. makes _ _))

call_at : (d : Ident) (ts : List ExprTree) → Shaped (roll-Form (Form-F.Call d ts))
unfolding form_of part
call_at d ts = form_is (Form-F.Call d ts) (form_rule (Form-F.Call d ts)) (search (rules, the_lemmas)) (λ u span. call_steady span d ts)

label_at : (d : Ident) (b : Statement) → Made b → Shaped (roll-Form (Form-F.Label d b))
unfolding form_of part
label_at d b h =
    form_is (Form-F.Label d b) (form_rule (Form-F.Label d (part b))) (search (rules, the_lemmas))
    (λ u span. follows (label_steady d) (λ x y. follows (single_steady u (part b) h) (λ x y. makes _ _)))

if_at : (arms : List (ExprTree × Statement)) (last : Option Statement) → AllByRecursion (λ (a : ExprTree × Statement). Made a.1) arms → IfSome last Made → Shaped (roll-Form (Form-F.If arms last))
unfolding form_of part
if_at arms last h k =
    form_is (Form-F.If arms last) (form_rule (Form-F.If (map (λ (a : ExprTree × Statement). (a.0, part a.1)) arms) (option_map part last))) (search (rules, the_lemmas))
    (λ u span. follows (arms_steady u _ (pieces arms h)) (λ x y. follows (last_steady u (option_map part last) (some_part last k)) (λ x y. makes _ _)))
  where
    pieces : (list : List (ExprTree × Statement)) → AllByRecursion (λ (a : ExprTree × Statement). Made a.1) list → AllByRecursion (λ (a : ExprTree × Part). Steady a.1) (map (λ (a : ExprTree × Statement). (a.0, part a.1)) list)
    pieces [] h = tt
    pieces (a ∷ list) h = (h.0, pieces list h.1)

while_at : (t : ExprTree) (b : Statement) → Made b → Shaped (roll-Form (Form-F.While t b))
unfolding form_of part
while_at t b h =
    form_is (Form-F.While t b) (form_rule (Form-F.While t (part b))) (search (rules, the_lemmas))
    (λ u span. follows (of_tree t) (λ x y. follows (alone_steady (in_loop u) (part b) h) (λ x y. makes _ _)))

do_at : (b : Statement) (t : ExprTree) → Made b → Shaped (roll-Form (Form-F.Do b t))
unfolding form_of part
do_at b t h =
    form_is (Form-F.Do b t) (form_rule (Form-F.Do (part b) t)) (search (rules, the_lemmas))
    (λ u span. follows (alone_steady (in_loop u) (part b) h) (λ x y. follows (of_tree t) (λ x y. makes _ _)))

for_at : (first : Option Statement) (test : Option ExprTree) (next : Option Statement) (b : Statement) → IfSome first Made → IfSome next Made → Made b → Shaped (roll-Form (Form-F.For first test next b))
unfolding form_of part
for_at first test next b h k l =
    form_is (Form-F.For first test next b) (form_rule (Form-F.For (option_map part first) test (option_map part next) (part b))) (search (rules, the_lemmas))
    (λ u span. scope_alike (follows (first_steady u (option_map part first) (some_part first h)) (λ x y. follows (test_steady test) (λ x y.
    follows (next_steady u (option_map part next) (some_part next k)) (λ x y. follows (alone_steady (in_loop u) (part b) l) (λ x y. makes _ _))))))

switch_at : (t : ExprTree) (gs : List Group) → AllByRecursion GroupMade gs → Shaped (roll-Form (Form-F.Switch t gs))
unfolding form_of part group
switch_at t gs h =
    form_is (Form-F.Switch t gs) (form_rule (Form-F.Switch t (map group gs))) (search (rules, the_lemmas))
    (λ u span. follows temporary_alike (λ c d. then_alike (of_tree t) (λ a b r. then_alike {R = Any}
    (subst (λ (k : Kind). Alike Any (in_scope (in_switch (groups_rule (in_cases u) (promotion a.kind) (map group gs)))) (in_scope (in_switch (groups_rule (in_cases u) (promotion k) (map group gs))))) r
    (scope_alike (switch_alike (groups_steady (in_cases u) (promotion a.kind) (map group gs) (pieces gs h))))) (λ x y s. makes _ _))))
  where
    pieces : (list : List Group) → AllByRecursion GroupMade list → AllByRecursion GroupSteady (map group list)
    pieces [] h = tt
    pieces (g ∷ list) h = (h.0, pieces list h.1)

break_at : Shaped (roll-Form Form-F.Break)
unfolding form_of part
break_at = form_is Form-F.Break (form_rule Form-F.Break) (search (rules, the_lemmas)) (λ u span. follows (expect_alike 29 span u.breaks) (λ x y. makes _ _))

continue_at : Shaped (roll-Form Form-F.Continue)
unfolding form_of part
continue_at = form_is Form-F.Continue (form_rule Form-F.Continue) (search (rules, the_lemmas)) (λ u span. follows (expect_alike 29 span u.continues) (λ x y. makes _ _))

return_at : (t : Option ExprTree) → Shaped (roll-Form (Form-F.Return t))
unfolding form_of part
return_at t = form_is (Form-F.Return t) (form_rule (Form-F.Return t)) (search (rules, the_lemmas)) (λ u span. return_steady u.result span t)

assert_at : (t : ExprTree) → Shaped (roll-Form (Form-F.Assert t))
unfolding form_of part
assert_at t = form_is (Form-F.Assert t) (form_rule (Form-F.Assert t)) (search (rules, the_lemmas)) (λ u span. follows (of_tree t) (λ x y. makes _ _))

assume_at : (t : ExprTree) → Shaped (roll-Form (Form-F.Assume t))
unfolding form_of part
assume_at t = form_is (Form-F.Assume t) (form_rule (Form-F.Assume t)) (search (rules, the_lemmas)) (λ u span. follows (of_tree t) (λ x y. makes _ _))

group_at : (x : Group-F Form Group Statement) → AllByRecursion Made x.body → GroupMade (roll-Group x)
unfolding form_of part group
group_at x h = subst GroupSteady (sym e) (parts_are x.body h)
  where
    e : group (roll-Group x) ≡ record { labels = x.labels; body = map part x.body }
    e = search (rules, the_lemmas)

statement_at : (x : Statement-F Form Group Statement) → Shaped x.form → Made (roll-Statement x)
unfolding form_of part
statement_at x h = subst Steady (sym e) (λ u. h u x.span)
  where
    e : part (roll-Statement x) ≡ record { span = x.span; rule = λ u. form_of x.form u x.span }
    e = search (rules, the_lemmas)

module _ {S : Type 0} (f : S → Statement) (g : (q : S) → Made (f q)) where
  all_made : (ys : List S) → AllByRecursion Made (map f ys)
  all_made [] = tt
  all_made (y ∷ ys) = (g y, all_made ys)

  all_arms : (ys : List (ExprTree × S)) → AllByRecursion (λ (a : ExprTree × Statement). Made a.1) (map (λ (a : ExprTree × S). (a.0, f a.1)) ys)
  all_arms [] = tt
  all_arms (y ∷ ys) = (g y.1, all_arms ys)

module _ {S : Type 0} (f : S → Group) (g : (q : S) → GroupMade (f q)) where
  all_groups : (ys : List S) → AllByRecursion GroupMade (map f ys)
  all_groups [] = tt
  all_groups (y ∷ ys) = (g y, all_groups ys)

pub statement_steady : (s : Statement) → Made s
statement_steady s = ind-Statement Shaped GroupMade Made (λ x. elim [
  | Form-F.Block ys ↦ λ e. subst (λ z. Shaped (roll-Form z)) e (block_at _ (all_made (λ q. q.0) (λ q. q.1) ys))
  | Form-F.Empty ↦ λ e. subst (λ z. Shaped (roll-Form z)) e empty_at
  | Form-F.Local kind ds ↦ λ e. subst (λ z. Shaped (roll-Form z)) e (local_at kind ds)
  | Form-F.Assign p op t ↦ λ e. subst (λ z. Shaped (roll-Form z)) e (assign_at p op t)
  | Form-F.Step p up ↦ λ e. subst (λ z. Shaped (roll-Form z)) e (step_at p up)
  | Form-F.Call d ts ↦ λ e. subst (λ z. Shaped (roll-Form z)) e (call_at d ts)
  | Form-F.Label d b ↦ λ e. subst (λ z. Shaped (roll-Form z)) e (label_at d b.0 b.1)
  | Form-F.If arms None ↦ λ e. subst (λ z. Shaped (roll-Form z)) e (if_at _ None (all_arms (λ q. q.0) (λ q. q.1) arms) tt)
  | Form-F.If arms (Some o) ↦ λ e. subst (λ z. Shaped (roll-Form z)) e (if_at _ (Some o.0) (all_arms (λ q. q.0) (λ q. q.1) arms) o.1)
  | Form-F.While t b ↦ λ e. subst (λ z. Shaped (roll-Form z)) e (while_at t b.0 b.1)
  | Form-F.Do b t ↦ λ e. subst (λ z. Shaped (roll-Form z)) e (do_at b.0 t b.1)
  | Form-F.For None test None b ↦ λ e. subst (λ z. Shaped (roll-Form z)) e (for_at None test None b.0 tt tt b.1)
  | Form-F.For (Some o) test None b ↦ λ e. subst (λ z. Shaped (roll-Form z)) e (for_at (Some o.0) test None b.0 o.1 tt b.1)
  | Form-F.For None test (Some n) b ↦ λ e. subst (λ z. Shaped (roll-Form z)) e (for_at None test (Some n.0) b.0 tt n.1 b.1)
  | Form-F.For (Some o) test (Some n) b ↦ λ e. subst (λ z. Shaped (roll-Form z)) e (for_at (Some o.0) test (Some n.0) b.0 o.1 n.1 b.1)
  | Form-F.Switch t gs ↦ λ e. subst (λ z. Shaped (roll-Form z)) e (switch_at t _ (all_groups (λ q. q.0) (λ q. q.1) gs))
  | Form-F.Break ↦ λ e. subst (λ z. Shaped (roll-Form z)) e break_at
  | Form-F.Continue ↦ λ e. subst (λ z. Shaped (roll-Form z)) e continue_at
  | Form-F.Return t ↦ λ e. subst (λ z. Shaped (roll-Form z)) e (return_at t)
  | Form-F.Assert t ↦ λ e. subst (λ z. Shaped (roll-Form z)) e (assert_at t)
  | Form-F.Assume t ↦ λ e. subst (λ z. Shaped (roll-Form z)) e (assume_at t)
]) (λ x y e. subst (λ z. GroupMade (roll-Group z)) e (group_at (record { labels = y.labels; body = map (λ q. q.0) y.body }) (all_made (λ q. q.0) (λ q. q.1) y.body)))
    (λ x y e. subst (λ z. Made (roll-Statement z)) e (statement_at (record { span = y.span; form = y.form.0 }) y.form.1)) s

-- ---- bodies

bound_parameters_steady : (vs : List Variable) → IsSteady (bind_parameters vs)
unfolding bind_parameters
bound_parameters_steady [] = pure_alike Any tt tt tt
bound_parameters_steady (v ∷ vs) = follows (bound_steady v) (λ x y. bound_parameters_steady vs)

statements_steady : (u : Around) (ss : List Statement) → IsSteady (statements_typing u ss)
statements_steady u ss = each_alike (statement_rule u) (λ s. statement_steady s u) ss

body_steady : (result : Option Kind) (ps : Parameters) (b : Body) → IsSteady (body_rule result ps b)
unfolding body_rule
body_steady result ps b = scope_alike (follows (bound_parameters_steady ps.variables) (λ x y. statements_steady (in_function result) b.statements))

pub same_locals : (result : Option Kind) (ps : Parameters) (b : Body) (at : At) (first temporary : ℕ)
    → (body_rule result ps b (in_frame first temporary at)).locals ≡ (body_rule result ps b (in_frame first 0 at)).locals
same_locals result ps b at first temporary = (body_steady result ps b).locals (in_frame first 0 at) temporary 0
