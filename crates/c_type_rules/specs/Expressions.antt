-- The typing of expressions (ISO/IEC 9899:2011, 6.5), a rule for each form.
use Rattle.std.specs.Prelude.{ℕ, ◌+◌, Bool, false, if◌then◌else◌, ◌&&◌, ◌==◌, List, [], ◌∷◌, ◌++◌, length, Option, Some, None, slice_get}
use Rattle.std.specs.Option.{is_some}
use Rattle.fq_core.specs.declared.span.Span.{Span}
use Rattle.c_values.specs.declared.kinds.Kind.{Kind}
use Rattle.c_values.specs.declared.operators.UnaryOp.{UnaryOp}
use Rattle.c_values.specs.declared.operators.BinaryOp.{BinaryOp}
use Rattle.c_values.specs.Kind.{int}
use Rattle.c_values.specs.Operations.{unary_kind, binary_kind}
use Rattle.c_parse.specs.declared.expr.ExprForm.TheOpen.{ExprForm-F, ExprTree-F}
use Rattle.c_parse.specs.declared.expr.ExprForm.{ExprForm, fold-ExprForm}
use Rattle.c_parse.specs.declared.expr.ExprTree.{ExprTree, fold-ExprTree}
use Rattle.cfa.specs.declared.parts.Variable.{Variable}
use Rattle.cfa.specs.declared.parts.VariablePlace.TheVariants as places
use Rattle.cfa.specs.Kinds.{same_kind}
use Rattle.c_typed_trees.specs.declared.expression.Callee.{Callee}
use Rattle.c_typed_trees.specs.declared.expression.Callee.TheVariants as callees
use Rattle.c_typed_trees.specs.declared.expression.TypedExpr.{TypedExpr, roll-TypedExpr}
use Rattle.c_typed_trees.specs.declared.expression.TypedExprForm.{TypedExprForm}
use Rattle.c_typed_trees.specs.declared.expression.TypedExprForm.TheVariants as forms
use Rattle.c_typed_trees.specs.declared.expression.TypedPlace.{TypedPlace, roll-TypedPlace}
use Rattle.c_typed_trees.specs.declared.expression.TypedCall.{TypedCall, roll-TypedCall}
use Rattle.c_type_rules.specs.declared.constants.Folded.{Folded}
use Rattle.c_type_rules.specs.declared.constants.Folded.TheVariants as folds
use Rattle.c_type_rules.specs.declared.scopes.Bound.{Bound}
use Rattle.c_type_rules.specs.declared.scopes.ParameterKind.{ParameterKind}
use Rattle.c_type_rules.specs.declared.scopes.Signature.{Signature}
use Rattle.c_type_rules.specs.declared.scopes.Meaning.{Meaning}
use Rattle.c_type_rules.specs.declared.scopes.Meaning.TheVariants as meanings
use Rattle.c_type_rules.specs.declared.typer.Given.{Given}
use Rattle.c_type_rules.specs.declared.typer.Sort.{Sort}
use Rattle.c_type_rules.specs.declared.typer.Sort.TheVariants as sorts
use Rattle.c_type_rules.specs.Constants.{folded}
use Rattle.c_type_rules.specs.Kinds.{promotion, operand_kind, left_kind, right_kind, meeting}
use Rattle.c_type_rules.specs.Rule.{Rule, pure, ◌then◌, fault, expect, look, temporary, uncounted}

-- ---- typed expressions

abbrev pub typed : Span → Kind → TypedExprForm → TypedExpr
typed span kind form = roll-TypedExpr (record { span = span; kind = kind; form = form })

-- the value is converted where the kind changes (6.3.1.3)
abbrev pub converted_to : Kind → TypedExpr → TypedExpr
converted_to kind e = if same_kind e.kind kind then e else typed e.span kind (forms.Convert e)

abbrev pub unary_of : Span → UnaryOp → TypedExpr → TypedExpr
unary_of span op a =
    let kind = operand_kind op a.kind in
    typed span (unary_kind op kind) (forms.Unary op (converted_to kind a))

abbrev pub binary_of : Span → BinaryOp → TypedExpr → TypedExpr → TypedExpr
binary_of span op a b =
    let kind = left_kind op a.kind b.kind in
    typed span (binary_kind op kind) (forms.Binary op (converted_to kind a) (converted_to (right_kind op a.kind b.kind) b))

abbrev pub place_of : Variable → Option TypedExpr → TypedPlace
place_of v index = roll-TypedPlace (record { variable = v; index = index })

abbrev pub load_of : Span → Variable → Option TypedExpr → TypedExpr
load_of span v index = typed span v.kind (forms.Load (place_of v index))

-- what stands for a variable, and for an expression, that is missing: it is no constant
abbrev pub no_variable : Variable
no_variable = record { name = []; kind = int; length = None; place = places.Local 0 }

abbrev pub missing_at : Span → TypedExpr
missing_at span = load_of span no_variable None

-- ---- rules

-- an expression, with the place of its first token
pub record Piece : Type 0 where
  pub span : Span
  pub sort : Rule Sort

-- an integer is needed
abbrev pub wanted : Span → Sort → Rule TypedExpr
wanted span (sorts.Value e) = pure e
wanted span (sorts.Array v) = fault 33 span (missing_at span)
wanted span sorts.Other = fault 33 span (missing_at span)

unfoldable pub integer : Piece → Rule TypedExpr
integer x = x.sort then λ sort. wanted x.span sort

-- a name that stands alone
abbrev pub variable_sort : Span → Variable → Option ℕ → Sort
variable_sort span v None = sorts.Value (load_of span v None)
variable_sort span v (Some length) = sorts.Array v

abbrev pub meant : Span → Meaning → Sort
meant span (meanings.Variable v) = variable_sort span v v.length
meant span (meanings.Constant n) = sorts.Value (typed span int (forms.Constant n))
meant span (meanings.Function f) = sorts.Other

abbrev pub named : Span → Option Bound → Rule Sort
named span None = fault 30 span (sorts.Value (missing_at span))
named span (Some b) = pure (meant span b.meaning)

unfoldable pub name_at : Span → List ℕ → Rule Sort
name_at span w = look w then λ found. named span found

-- a name before an index
abbrev pub array_if : Span → Variable → Option ℕ → Rule Variable
array_if span v None = fault 33 span no_variable
array_if span v (Some length) = pure v

abbrev pub array_meant : Span → Meaning → Rule Variable
array_meant span (meanings.Variable v) = array_if span v v.length
array_meant span (meanings.Constant n) = fault 33 span no_variable
array_meant span (meanings.Function f) = fault 33 span no_variable

abbrev pub array_named : Span → Option Bound → Rule Variable
array_named span None = fault 30 span no_variable
array_named span (Some b) = array_meant span b.meaning

unfoldable pub array_at : Span → List ℕ → Rule Variable
array_at span w = look w then λ found. array_named span found

-- a name before arguments, so many; of the functions that are declared and not defined, those that take parameters or
-- give none can't be called
abbrev pub no_function : Signature
no_function = record { callee = None; defined = false; result = Some int; parameters = [] }

unfoldable pub callable : Span → ℕ → Signature → Rule Signature
callable span count f = expect 32 span (length f.parameters == count) then λ u. expect 39 span (is_some f.callee) then λ u. pure f

abbrev pub function_meant : Span → ℕ → Meaning → Rule Signature
function_meant span count (meanings.Variable v) = fault 33 span no_function
function_meant span count (meanings.Constant n) = fault 33 span no_function
function_meant span count (meanings.Function f) = callable span count f

abbrev pub function_named : Span → ℕ → Option Bound → Rule Signature
function_named span count None = fault 30 span no_function
function_named span count (Some b) = function_meant span count b.meaning

unfoldable pub function_at : Span → List ℕ → ℕ → Rule Signature
function_at span w count = look w then λ found. function_named span count found

-- ---- the arguments of a call (6.5.2.2)

abbrev pub nothing_given : Given
nothing_given = record { words = []; arrays = [] }

abbrev pub word_given : TypedExpr → Given
word_given e = record { words = e ∷ []; arrays = [] }

abbrev pub array_given : Variable → Given
array_given v = record { words = []; arrays = v ∷ [] }

abbrev pub joined : Given → Given → Given
joined g h = record { words = g.words ++ h.words; arrays = g.arrays ++ h.arrays }

abbrev pub same_length : Option ℕ → ℕ → Bool
same_length None n = false
same_length (Some own) n = own == n

-- a whole array of this kind and length is lent
abbrev pub lent : Span → Kind → ℕ → Sort → Rule Given
lent span kind n (sorts.Value e) = fault 35 span nothing_given
lent span kind n (sorts.Array v) = expect 35 span (same_kind v.kind kind && same_length v.length n) then λ u. pure (array_given v)
lent span kind n sorts.Other = fault 35 span nothing_given

-- an argument is converted to its parameter's kind (p7)
abbrev pub argument_if : Piece → Kind → Option ℕ → Rule Given
argument_if x kind None = integer x then λ a. pure (word_given (converted_to kind a))
argument_if x kind (Some n) = x.sort then λ sort. lent x.span kind n sort

-- one for which there is no parameter is an integer
unfoldable pub argument : Option ParameterKind → Piece → Rule Given
argument None x = integer x then λ a. pure (word_given a)
argument (Some p) x = argument_if x p.kind p.length

-- the arguments from a place on
unfoldable pub arguments_from : ℕ → List Piece → List ParameterKind → Rule Given
arguments_from i [] ps = pure nothing_given
arguments_from i (x ∷ xs) ps = argument (slice_get ps i) x then λ g. arguments_from (i + 1) xs ps then λ h. pure (joined g h)

abbrev pub arguments : List Piece → List ParameterKind → Rule Given
arguments = arguments_from 0

abbrev pub callee_or : Option Callee → Callee
callee_or None = callees.Defined 0
callee_or (Some c) = c

abbrev pub call_of : Signature → Given → ℕ → TypedCall
call_of f given cell = roll-TypedCall (record { callee = callee_or f.callee; words = given.words; arrays = given.arrays; cell = cell })

-- a call, and the kind of its result
unfoldable pub call_rule : Span → List ℕ → List Piece → Rule (Option Kind × TypedCall)
call_rule span w xs =
    temporary then λ cell.
    function_at span w (length xs) then λ f.
    arguments xs f.parameters then λ given.
    pure (f.result, call_of f given cell)

abbrev pub called : Span → Option Kind → TypedCall → Sort
called span None c = sorts.Other
called span (Some kind) c = sorts.Value (typed span kind (forms.Call c))

-- ---- expressions

-- the parts of `?:` go to their common kind (6.5.15p5)
abbrev pub choice_of : Span → TypedExpr → TypedExpr → TypedExpr → ℕ → TypedExpr
choice_of span test a b cell =
    let kind = meeting a.kind b.kind in
    typed span kind (forms.Choice test (converted_to kind a) (converted_to kind b) cell)

-- one rule for each form; the temporaries are numbered in the order of their first tokens, and of two that begin at
-- one token the outer one goes first
abbrev pub form_rule : ExprForm-F (Span → Rule Sort) Piece → Span → Rule Sort
form_rule (ExprForm-F.Number v kind) span = pure (sorts.Value (typed span kind (forms.Constant v)))
form_rule (ExprForm-F.Name w) span = name_at span w
form_rule (ExprForm-F.Element w x) span = array_at span w then λ v. integer x then λ i. pure (sorts.Value (load_of span v (Some i)))
form_rule (ExprForm-F.Unary op x) span = integer x then λ a. pure (sorts.Value (unary_of span op a))
form_rule (ExprForm-F.Binary op x y) span = integer x then λ a. integer y then λ b. pure (sorts.Value (binary_of span op a b))
form_rule (ExprForm-F.Both x y) span = temporary then λ cell. integer x then λ a. integer y then λ b. pure (sorts.Value (typed span int (forms.Both a b cell)))
form_rule (ExprForm-F.Call w xs) span = call_rule span w xs then λ c. pure (called span c.0 c.1)
form_rule (ExprForm-F.Cast kind x) span = integer x then λ a. pure (sorts.Value (typed span kind (forms.Convert a)))
form_rule (ExprForm-F.Plus x) span = integer x then λ a. pure (sorts.Value (typed span (promotion a.kind) (forms.Convert a)))
form_rule (ExprForm-F.Either x y) span = temporary then λ cell. integer x then λ a. integer y then λ b. pure (sorts.Value (typed span int (forms.Either a b cell)))
form_rule (ExprForm-F.Choice x y z) span = temporary then λ cell. integer x then λ a. integer y then λ b. integer z then λ c. pure (sorts.Value (choice_of span a b c cell))

abbrev pub tree_rule : ExprTree-F (Span → Rule Sort) Piece → Piece
tree_rule t = record { span = t.span; sort = t.form t.span }

unfoldable pub form_typing : ExprForm → Span → Rule Sort
form_typing = fold-ExprForm (Span → Rule Sort) Piece form_rule tree_rule

unfoldable pub piece : ExprTree → Piece
piece = fold-ExprTree (Span → Rule Sort) Piece form_rule tree_rule

-- what an expression stands for
abbrev pub typing : ExprTree → Rule Sort
typing t = (piece t).sort

-- ---- constant expressions (6.6)

abbrev pub fitted : Option Kind → TypedExpr → TypedExpr
fitted None e = e
fitted (Some kind) e = converted_to kind e

abbrev pub constant_of : Span → Folded → Rule (Option ℕ)
constant_of span folds.Varying = fault 38 span None
constant_of span folds.Undefined = fault 38 span None
constant_of span (folds.Value v) = pure (Some v)

-- the value of a constant expression, converted to a kind where there is one
unfoldable pub constant : Option Kind → ExprTree → Rule (Option ℕ)
constant kind t = uncounted (integer (piece t)) then λ e. constant_of t.span (folded (fitted kind e))
