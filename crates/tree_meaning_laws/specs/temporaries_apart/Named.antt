-- The cells of a frame that typed trees name: those of their calls, `&&`, `||`, `?:` and switches, which are temporaries,
-- and those of their variables.
use Rattle.std.specs.Prelude.{ℕ, ◌+◌, ◌≤◌, List, [], ◌∷◌, ◌++◌, map, Option, Some, None}
use Rattle.cfa.specs.Rules.{cell_count}
use Rattle.cfa.specs.declared.parts.Variable.{Variable}
use Rattle.cfa.specs.declared.parts.VariablePlace.{VariablePlace}
use Rattle.cfa.specs.declared.parts.VariablePlace.TheVariants as place
use Rattle.c_typed_trees.specs.declared.expression.TypedCall.{TypedCall, fold-TypedCall}
use Rattle.c_typed_trees.specs.declared.expression.TypedExprForm.TheOpen.{TypedCall-F, TypedExpr-F, TypedExprForm-F, TypedPlace-F}
use Rattle.c_typed_trees.specs.declared.expression.TypedExpr.{TypedExpr, fold-TypedExpr}
use Rattle.c_typed_trees.specs.declared.expression.TypedPlace.{TypedPlace, fold-TypedPlace}
use Rattle.c_typed_trees.specs.declared.statement.TypedForm.TheOpen.{TypedForm-F, TypedGroup-F, TypedStatement-F}
use Rattle.c_typed_trees.specs.declared.statement.TypedGroup.{TypedGroup, fold-TypedGroup}
use Rattle.c_typed_trees.specs.declared.statement.TypedStatement.{TypedStatement, fold-TypedStatement}

-- the cells of a tree's temporaries, that of each form before those of its parts, and its parts from left to right; and
-- its variables
pub record Named : Type 0 where
  pub temporaries : List ℕ
  pub variables : List Variable

abbrev pub no_names : Named
no_names = record { temporaries = []; variables = [] }

abbrev pub names_then : Named → Named → Named
names_then a b = record { temporaries = a.temporaries ++ b.temporaries; variables = a.variables ++ b.variables }

abbrev pub names_in_order : List Named → Named
names_in_order [] = no_names
names_in_order (a ∷ rest) = names_then a (names_in_order rest)

abbrev pub names_if : Option Named → Named
names_if None = no_names
names_if (Some a) = a

-- a temporary, and then the parts' names
abbrev pub names_at : ℕ → Named → Named
names_at cell a = record { temporaries = cell ∷ a.temporaries; variables = a.variables }

abbrev pub with_variables : List Variable → Named → Named
with_variables vs a = record { temporaries = a.temporaries; variables = vs ++ a.variables }

-- ---- expressions

abbrev pub form_step : TypedExprForm-F Named Named Named Named → Named
form_step (TypedExprForm-F.Constant value) = no_names
form_step (TypedExprForm-F.Load p) = p
form_step (TypedExprForm-F.Convert x) = x
form_step (TypedExprForm-F.Unary op x) = x
form_step (TypedExprForm-F.Binary op x y) = names_then x y
form_step (TypedExprForm-F.Both x y cell) = names_at cell (names_then x y)
form_step (TypedExprForm-F.Either x y cell) = names_at cell (names_then x y)
form_step (TypedExprForm-F.Choice c x y cell) = names_at cell (names_then c (names_then x y))
form_step (TypedExprForm-F.Call c) = c

abbrev pub call_step : TypedCall-F Named Named Named Named → Named
call_step c = names_at c.cell (with_variables c.arrays (names_in_order c.words))

abbrev pub expr_step : TypedExpr-F Named Named Named Named → Named
expr_step x = x.form

abbrev pub place_step : TypedPlace-F Named Named Named Named → Named
place_step p = with_variables (p.variable ∷ []) (names_if p.index)

unfoldable pub named : TypedExpr → Named
named = fold-TypedExpr Named Named Named Named form_step call_step expr_step place_step

unfoldable pub place_named : TypedPlace → Named
place_named = fold-TypedPlace Named Named Named Named form_step call_step expr_step place_step

unfoldable pub call_named : TypedCall → Named
call_named = fold-TypedCall Named Named Named Named form_step call_step expr_step place_step

abbrev pub option_named : Option TypedExpr → Named
option_named None = no_names
option_named (Some x) = named x

-- ---- statements

abbrev pub arm_named : TypedExpr × Named → Named
arm_named arm = names_then (named arm.0) arm.1

abbrev pub statement_form : TypedForm-F Named Named Named → Named
statement_form (TypedForm-F.Block body) = names_in_order body
statement_form TypedForm-F.Empty = no_names
statement_form (TypedForm-F.Local v first) = with_variables (v ∷ []) (option_named first)
statement_form (TypedForm-F.LocalArray v list) = with_variables (v ∷ []) (names_in_order (map named list))
statement_form (TypedForm-F.Assign p op e) = names_then (place_named p) (named e)
statement_form (TypedForm-F.Call c) = call_named c
statement_form (TypedForm-F.Label name body) = body
statement_form (TypedForm-F.If arms otherwise) = names_then (names_in_order (map arm_named arms)) (names_if otherwise)
statement_form (TypedForm-F.While test body) = names_then (named test) body
statement_form (TypedForm-F.Do body test) = names_then body (named test)
statement_form (TypedForm-F.For first test next body) = names_then (names_in_order first) (names_then (option_named test) (names_then (names_if next) body))
statement_form (TypedForm-F.Switch value cell groups) = names_at cell (names_then (named value) (names_in_order groups))
statement_form TypedForm-F.Break = no_names
statement_form TypedForm-F.Continue = no_names
statement_form (TypedForm-F.Return value) = option_named value
statement_form (TypedForm-F.Assert test) = named test
statement_form (TypedForm-F.Assume test) = named test

abbrev pub group_step : TypedGroup-F Named Named Named → Named
group_step g = names_in_order g.body

abbrev pub statement_step : TypedStatement-F Named Named Named → Named
statement_step s = s.form

unfoldable pub statement_named : TypedStatement → Named
statement_named = fold-TypedStatement Named Named Named statement_form group_step statement_step

unfoldable pub group_named : TypedGroup → Named
group_named = fold-TypedGroup Named Named Named statement_form group_step statement_step

abbrev pub body_named : List TypedStatement → Named
body_named ss = names_in_order (map statement_named ss)

-- ---- where the cells lie

-- numbers, each above the one before, from one on and below another
abbrev pub Ascend : ℕ → ℕ → List ℕ → Type 0
Ascend from to [] = from ≤ to
Ascend from to (x ∷ xs) = (from ≤ x) × Ascend (x + 1) to xs

abbrev pub PlaceBelow : ℕ → Option ℕ → VariablePlace → Type 0
PlaceBelow end length (place.Global cell) = Unit {0}
PlaceBelow end length (place.Local cell) = cell + cell_count length ≤ end
PlaceBelow end length (place.Lent parameter) = Unit {0}

-- a variable that lies in the frame lies there, whole, below a cell
abbrev pub IsBelow : ℕ → Variable → Type 0
IsBelow end v = PlaceBelow end v.length v.place
