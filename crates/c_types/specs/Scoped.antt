-- The typing of one expression where the variables of a scope of the graph are declared.
use Rattle.std.specs.Prelude.{if◌then◌else◌, List, [], ◌∷◌, ◌++◌, Option, Some, None}
use Rattle.c_parse.specs.declared.expr.ExprTree.{ExprTree}
use Rattle.c_parse.specs.SequencePoints.{has_sequence_point}
use Rattle.cfa.specs.declared.expr.Expr.{Expr}
use Rattle.cfa.specs.declared.parts.Scope.{Scope}
use Rattle.cfa.specs.declared.parts.Variable.{Variable}
use Rattle.c_type_rules.specs.declared.faults.Found.{Found}
use Rattle.c_type_rules.specs.declared.scopes.Bound.{Bound}
use Rattle.c_type_rules.specs.declared.typer.Sort.{Sort}
use Rattle.c_type_rules.specs.declared.typer.Sort.TheVariants as sorts
use Rattle.c_type_rules.specs.Expressions.{typing}
use Rattle.c_type_rules.specs.Rule.{At, Done}
use Rattle.c_type_rules.specs.Values.{expr_of}
use Rattle.c_types.specs.Declarations.{bound_as}

-- the variables of a scope, the innermost first, are bound with the innermost last
unfoldable pub names_in : List Variable → List Bound
names_in [] = []
names_in (v ∷ vs) = names_in vs ++ bound_as 0 v ∷ []

abbrev pub at_scope : Scope → At
at_scope s = record { bound = names_in s.variables; labels = []; cases = []; level = 0; local = 0; temporary = 0 }

-- an array, and a function, is no expression of the graph
abbrev pub sort_expr : Sort → Option Expr
sort_expr (sorts.Value e) = Some (expr_of e)
sort_expr (sorts.Array v) = None
sort_expr sorts.Other = None

abbrev pub faultless_expr : List Found → Sort → Option Expr
faultless_expr [] sort = sort_expr sort
faultless_expr (f ∷ fs) sort = None

abbrev pub done_expr : Done Sort → Option Expr
done_expr d = faultless_expr d.faults d.made

-- the expression that a tree without sequence points is in a scope, by the same rules as in a unit: none where
-- something is wrong in it there, or where it is no integer
unfoldable pub expression_in : Scope → ExprTree → Option Expr
expression_in s t = if has_sequence_point t then None else done_expr (typing t (at_scope s))
