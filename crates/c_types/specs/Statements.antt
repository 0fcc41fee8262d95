-- The typing of statements (ISO/IEC 9899:2011, 6.8), a rule for each form.
use Rattle.std.specs.Prelude.{ℕ, Bool, true, false, not, if◌then◌else◌, List, [], ◌∷◌, map, length, Option, Some, None}
use Rattle.fq_core.specs.declared.span.Span.{Span}
use Rattle.c_values.specs.declared.kinds.Kind.{Kind}
use Rattle.c_values.specs.declared.operators.BinaryOp.{BinaryOp}
use Rattle.c_values.specs.declared.operators.BinaryOp.TheVariants as ops
use Rattle.c_values.specs.Kind.{int}
use Rattle.c_parse.specs.declared.expr.ExprTree.{ExprTree}
use Rattle.c_parse.specs.declared.expr.Ident.{Ident}
use Rattle.c_parse.specs.declared.statement.CaseLabel.{CaseLabel}
use Rattle.c_parse.specs.declared.statement.Form.{Form, fold-Form}
use Rattle.c_parse.specs.declared.statement.Form.TheOpen.{Form-F, Group-F, Statement-F}
use Rattle.c_parse.specs.declared.statement.Statement.{Statement, fold-Statement}
use Rattle.c_parse.specs.declared.statement.Group.{Group, fold-Group}
use Rattle.cfa.specs.declared.parts.Variable.{Variable}
use Rattle.c_typed_trees.specs.declared.expression.TypedExpr.{TypedExpr}
use Rattle.c_typed_trees.specs.declared.expression.TypedExprForm.TheVariants as values
use Rattle.c_typed_trees.specs.declared.expression.TypedPlace.{TypedPlace, out-TypedPlace}
use Rattle.c_typed_trees.specs.declared.statement.TypedStatement.{TypedStatement}
use Rattle.c_typed_trees.specs.declared.statement.TypedGroup.{TypedGroup, roll-TypedGroup}
use Rattle.c_typed_trees.specs.declared.statement.TypedForm.{TypedForm}
use Rattle.c_typed_trees.specs.declared.statement.TypedForm.TheVariants as forms
use Rattle.c_type_rules.specs.declared.scopes.Bound.{Bound}
use Rattle.c_type_rules.specs.declared.scopes.Meaning.{Meaning}
use Rattle.c_type_rules.specs.declared.scopes.Meaning.TheVariants as meanings
use Rattle.c_type_rules.specs.Kinds.{promotion, left_kind, right_kind}
use Rattle.c_type_rules.specs.Rule.{Rule, pure, ◌then◌, fault, expect, look, temporary, is_label, bind_label, is_case, bind_case, in_scope, in_switch, each, alone_in}
use Rattle.c_type_rules.specs.Expressions.{integer, piece, typed, converted_to, place_of, no_variable, array_at, call_rule, constant}
use Rattle.c_types.specs.declared.around.Around.{Around}
use Rattle.c_types.specs.Declarations.{statement_of, locals_rule}

-- ---- what surrounds a statement

abbrev pub in_loop : Around → Around
in_loop u = record { result = u.result; breaks = true; continues = true }

abbrev pub in_cases : Around → Around
in_cases u = record { result = u.result; breaks = true; continues = u.continues }

-- ---- places that are assigned to (6.5.16p2)

abbrev pub integer_if : Span → Variable → Option ℕ → Rule Variable
integer_if span v None = pure v
integer_if span v (Some length) = fault 33 span no_variable

abbrev pub integer_meant : Span → Meaning → Rule Variable
integer_meant span (meanings.Variable v) = integer_if span v v.length
integer_meant span (meanings.Constant n) = fault 33 span no_variable
integer_meant span (meanings.Function f) = fault 33 span no_variable

abbrev pub integer_named : Span → Option Bound → Rule Variable
integer_named span None = fault 30 span no_variable
integer_named span (Some b) = integer_meant span b.meaning

unfoldable pub variable_at : Span → List ℕ → Rule Variable
variable_at span w = look w then λ found. integer_named span found

unfoldable pub place_rule : Ident → Option ExprTree → Rule TypedPlace
place_rule d None = variable_at d.span d.name then λ v. pure (place_of v None)
place_rule d (Some t) = array_at d.span d.name then λ v. integer (piece t) then λ i. pure (place_of v (Some i))

-- `p = e` converts e to p's kind; `p op= e` is `p = p op e` (6.5.16.1p2, 6.5.16.2p3)
abbrev pub assigned : TypedPlace → Option BinaryOp → TypedExpr → TypedForm
assigned to None a = forms.Assign to None (converted_to (out-TypedPlace to).variable.kind a)
assigned to (Some op) a =
    let kind = (out-TypedPlace to).variable.kind in
    forms.Assign to (Some (op, left_kind op kind a.kind)) (converted_to (right_kind op kind a.kind) a)

-- `++` is `+= 1`, and `--` is `-= 1` (6.5.3.1p2)
abbrev pub step_operator : Bool → BinaryOp
step_operator true = ops.Add
step_operator false = ops.Sub

abbrev pub one_at : Span → TypedExpr
one_at span = typed span int (values.Constant 1)

-- ---- statements

-- a statement gives a list, since a declaration gives one statement for each declarator
pub record Part : Type 0 where
  pub span : Span
  pub rule : Around → Rule (List TypedStatement)

pub record GroupPart : Type 0 where
  pub labels : List CaseLabel
  pub body : List Part

abbrev pub one_of : Span → List TypedStatement → TypedStatement
one_of span [] = statement_of span forms.Empty
one_of span (s ∷ []) = s
one_of span (s ∷ t ∷ rest) = statement_of span (forms.Block (s ∷ t ∷ rest))

abbrev pub in_turn : Around → List Part → Rule (List TypedStatement)
in_turn u = each (λ p. p.rule u)

-- one statement, in the scope that is there
unfoldable pub single : Around → Part → Rule TypedStatement
single u p = p.rule u then λ list. pure (one_of p.span list)

-- a statement that stands alone is a block (6.8.4p3, 6.8.5p5)
unfoldable pub alone : Around → Part → Rule TypedStatement
alone u p = in_scope (single u p)

unfoldable pub arm_rule : Around → ExprTree × Part → Rule (TypedExpr × TypedStatement)
arm_rule u arm = integer (piece arm.0) then λ test. alone u arm.1 then λ body. pure (test, body)

abbrev pub arms_rule : Around → List (ExprTree × Part) → Rule (List (TypedExpr × TypedStatement))
arms_rule u = each (λ arm. alone_in (arm_rule u arm))

unfoldable pub last_rule : Around → Option Part → Rule (Option TypedStatement)
last_rule u None = pure None
last_rule u (Some p) = alone u p then λ s. pure (Some s)

-- the parts of a `for`: declarations before it are in scope in all of it (6.8.5.3p1)
unfoldable pub first_rule : Around → Option Part → Rule (List TypedStatement)
first_rule u None = pure []
first_rule u (Some p) = p.rule u

unfoldable pub test_rule : Option ExprTree → Rule (Option TypedExpr)
test_rule None = pure None
test_rule (Some t) = integer (piece t) then λ a. pure (Some a)

unfoldable pub next_rule : Around → Option Part → Rule (Option TypedStatement)
next_rule u None = pure None
next_rule u (Some p) = single u p then λ s. pure (Some s)

-- a label stands once in a function (6.8.1p3)
unfoldable pub unused_label : Ident → Rule (Unit {0})
unused_label d = is_label d.name then λ here. expect 31 d.span (not here) then λ u. bind_label d.name

-- a value of `case`, converted to the kind of the switch, stands once in it, and so does `default` (6.8.4.2p3, p5)
unfoldable pub fresh : Span → Option ℕ → Rule (Span × Option ℕ)
fresh span v = is_case v then λ here. expect 31 span (not here) then λ u. bind_case v then λ u. pure (span, v)

abbrev pub case_valued : Span → Option ℕ → Rule (Span × Option ℕ)
case_valued span None = pure (span, None)
case_valued span (Some v) = fresh span (Some v)

unfoldable pub case_rule : Kind → Span → Option ExprTree → Rule (Span × Option ℕ)
case_rule kind span None = fresh span None
case_rule kind span (Some t) = constant (Some kind) t then λ v. case_valued span v

unfoldable pub cases_rule : Kind → List CaseLabel → Rule (List (Span × Option ℕ))
cases_rule kind = each (λ c. alone_in (case_rule kind c.span c.value))

abbrev pub group_of : List (Span × Option ℕ) → List TypedStatement → TypedGroup
group_of labels body = roll-TypedGroup (record { labels = labels; body = body })

unfoldable pub group_rule : Around → Kind → GroupPart → Rule TypedGroup
group_rule u kind g = cases_rule kind g.labels then λ labels. in_turn u g.body then λ body. pure (group_of labels body)

abbrev pub groups_rule : Around → Kind → List GroupPart → Rule (List TypedGroup)
groups_rule u kind = each (λ g. alone_in (group_rule u kind g))

abbrev pub only : Span → TypedForm → Rule (List TypedStatement)
only span form = pure (statement_of span form ∷ [])

-- `return` has a value exactly where the function gives one (6.8.6.4p1)
abbrev pub return_rule : Option Kind → Span → Option ExprTree → Rule (List TypedStatement)
return_rule None span None = only span (forms.Return None)
return_rule (Some kind) span (Some t) = integer (piece t) then λ a. only span (forms.Return (Some (converted_to kind a)))
return_rule None span (Some t) = expect 29 span false then λ u. integer (piece t) then λ a. only span forms.Empty
return_rule (Some kind) span None = expect 29 span false then λ u. only span forms.Empty

-- the result of a call is not used
unfoldable pub call_statement : Span → Ident → List ExprTree → Rule (List TypedStatement)
call_statement span d ts = call_rule d.span d.name (map piece ts) then λ c. only span (forms.Call c.1)

-- one rule for each form; the parts are taken in the order of the text, so that temporaries are numbered in it
abbrev pub form_rule : Form-F (Around → Span → Rule (List TypedStatement)) GroupPart Part → Around → Span → Rule (List TypedStatement)
form_rule (Form-F.Block list) u span = in_scope (in_turn u list) then λ body. only span (forms.Block body)
form_rule Form-F.Empty u span = only span forms.Empty
form_rule (Form-F.Local kind list) u span = locals_rule span kind list
form_rule (Form-F.Assign p op t) u span = place_rule p.name p.index then λ to. integer (piece t) then λ a. only span (assigned to op a)
form_rule (Form-F.Step p up) u span = place_rule p.name p.index then λ to. only span (assigned to (Some (step_operator up)) (one_at span))
form_rule (Form-F.Call d ts) u span = call_statement span d ts
form_rule (Form-F.Label d body) u span = unused_label d then λ v. single u body then λ s. only span (forms.Label d.name s)
form_rule (Form-F.If arms otherwise) u span = arms_rule u arms then λ typed. last_rule u otherwise then λ last. only span (forms.If typed last)
form_rule (Form-F.While test body) u span = integer (piece test) then λ a. alone (in_loop u) body then λ b. only span (forms.While a b)
form_rule (Form-F.Do body test) u span = alone (in_loop u) body then λ b. integer (piece test) then λ a. only span (forms.Do b a)
form_rule (Form-F.For first test next body) u span =
    in_scope (first_rule u first then λ f. test_rule test then λ t. next_rule u next then λ n. alone (in_loop u) body then λ b. only span (forms.For f t n b))
form_rule (Form-F.Switch value groups) u span =
    temporary then λ cell.
    integer (piece value) then λ a.
    in_scope (in_switch (groups_rule (in_cases u) (promotion a.kind) groups)) then λ list.
    only span (forms.Switch (converted_to (promotion a.kind) a) cell list)
form_rule Form-F.Break u span = expect 29 span u.breaks then λ v. only span forms.Break
form_rule Form-F.Continue u span = expect 29 span u.continues then λ v. only span forms.Continue
form_rule (Form-F.Return value) u span = return_rule u.result span value
form_rule (Form-F.Assert test) u span = integer (piece test) then λ a. only span (forms.Assert a)
form_rule (Form-F.Assume test) u span = integer (piece test) then λ a. only span (forms.Assume a)

abbrev pub one_group : Group-F (Around → Span → Rule (List TypedStatement)) GroupPart Part → GroupPart
one_group g = record { labels = g.labels; body = g.body }

abbrev pub one_rule : Statement-F (Around → Span → Rule (List TypedStatement)) GroupPart Part → Part
one_rule s = record { span = s.span; rule = λ u. s.form u s.span }

unfoldable pub form_of : Form → Around → Span → Rule (List TypedStatement)
form_of = fold-Form (Around → Span → Rule (List TypedStatement)) GroupPart Part form_rule one_group one_rule

unfoldable pub group : Group → GroupPart
group = fold-Group (Around → Span → Rule (List TypedStatement)) GroupPart Part form_rule one_group one_rule

unfoldable pub part : Statement → Part
part = fold-Statement (Around → Span → Rule (List TypedStatement)) GroupPart Part form_rule one_group one_rule

-- what a statement or a declaration in a block becomes
abbrev pub statement_rule : Around → Statement → Rule (List TypedStatement)
statement_rule u s = (part s).rule u

abbrev pub arm_of : ExprTree × Statement → ExprTree × Part
arm_of arm = (arm.0, part arm.1)

-- the arms of an `if`, the groups of a `switch`, and the statements of a block
unfoldable pub arms_typing : Around → List (ExprTree × Statement) → Rule (List (TypedExpr × TypedStatement))
arms_typing u = each (λ (arm : ExprTree × Statement). alone_in (arm_rule u (arm_of arm)))

unfoldable pub groups_typing : Around → Kind → List Group → Rule (List TypedGroup)
groups_typing u kind = each (λ (g : Group). alone_in (group_rule u kind (group g)))

unfoldable pub switch_rule : Around → Kind → List Group → Rule (List TypedGroup)
switch_rule u kind gs = in_scope (in_switch (groups_typing u kind gs))

abbrev pub statements_typing : Around → List Statement → Rule (List TypedStatement)
statements_typing u = each (statement_rule u)
