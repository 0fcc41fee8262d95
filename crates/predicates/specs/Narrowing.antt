-- The names in an expression, and the part of a scope that it depends on (ISO/IEC 9899:2011, 6.2.1).
use Rattle.std.specs.Prelude.{◌≡◌, ℕ, List, [], ◌∷◌, ◌++◌, map, Option, option_to_list}
use Rattle.std.specs.List.{flat_map}
use Rattle.c_parse.specs.declared.expr.ExprForm.TheOpen.{ExprForm-F}
use Rattle.c_parse.specs.declared.expr.ExprTree.{ExprTree, fold-ExprTree}
use Rattle.c_types.specs.Scoped.{expression_in}
use Rattle.cfa.specs.declared.expr.Expr.{Expr}
use Rattle.cfa.specs.declared.parts.Scope.{Scope}
use Rattle.cfa.specs.declared.parts.Variable.{Variable}
use Rattle.cfa.specs.Names.{visible}

-- the names of a form: those of its parts and its own; what has a sequence point is typed in no scope, and has none here
abbrev pub names_step : ExprForm-F (List (List ℕ)) (List (List ℕ)) → List (List ℕ)
names_step (ExprForm-F.Number n kind) = []
names_step (ExprForm-F.Name w) = w ∷ []
names_step (ExprForm-F.Element w index) = w ∷ index
names_step (ExprForm-F.Call w arguments) = []
names_step (ExprForm-F.Cast kind operand) = operand
names_step (ExprForm-F.Plus operand) = operand
names_step (ExprForm-F.Unary op operand) = operand
names_step (ExprForm-F.Binary op left right) = left ++ right
names_step (ExprForm-F.Both left right) = []
names_step (ExprForm-F.Either left right) = []
names_step (ExprForm-F.Choice test first second) = []

unfoldable pub names_of : ExprTree → List (List ℕ)
names_of = fold-ExprTree (List (List ℕ)) (List (List ℕ)) names_step (λ t. t.form)

-- by name, what it stands for in a scope
abbrev pub sight : List (List ℕ) → Scope → List (Option Variable)
sight names s = map (λ name. visible name s.variables) names

-- the variables that names stand for, in the order of the names
abbrev pub seen : List (Option Variable) → Scope
seen row = record { variables = flat_map option_to_list row }

-- the part of a scope for which some names stand
abbrev pub narrowed : List (List ℕ) → Scope → Scope
narrowed names s = seen (sight names s)

-- an expression is this one in each scope where its names stand for these variables
abbrev pub IsMeaning : ExprTree → List (Option Variable) → Option Expr → Type 0
IsMeaning t row meaning = (s : Scope) → sight (names_of t) s ≡ row → expression_in s t ≡ meaning
