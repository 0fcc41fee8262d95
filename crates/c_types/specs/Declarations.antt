-- The typing of declarations (ISO/IEC 9899:2011, 6.7).
use Rattle.std.specs.Prelude.{ℕ, ◌+◌, ◌-◌, Bool, true, false, not, if◌then◌else◌, ◌&&◌, ◌||◌, ◌==◌, nat_le, List, [], ◌∷◌, ◌++◌, length, Option, Some, None}
use Rattle.std.proofs.Math.ListN.{replicate}
use Rattle.fq_core.specs.declared.span.Span.{Span}
use Rattle.c_values.specs.declared.kinds.Kind.{Kind}
use Rattle.c_values.specs.Kind.{int, is_value}
use Rattle.c_values.specs.Operations.{sum_of}
use Rattle.c_parse.specs.declared.expr.ExprTree.{ExprTree}
use Rattle.c_parse.specs.declared.expr.Ident.{Ident}
use Rattle.c_parse.specs.declared.statement.Declarator.{Declarator}
use Rattle.c_parse.specs.declared.statement.Initial.{Initial}
use Rattle.c_parse.specs.declared.statement.Initial.TheVariants as initials
use Rattle.cfa.specs.declared.parts.Variable.{Variable}
use Rattle.cfa.specs.declared.parts.VariablePlace.{VariablePlace}
use Rattle.cfa.specs.declared.parts.VariablePlace.TheVariants as places
use Rattle.c_typed_trees.specs.declared.expression.TypedExpr.{TypedExpr}
use Rattle.c_typed_trees.specs.declared.statement.TypedStatement.{TypedStatement, roll-TypedStatement}
use Rattle.c_typed_trees.specs.declared.statement.TypedForm.{TypedForm}
use Rattle.c_typed_trees.specs.declared.statement.TypedForm.TheVariants as forms
use Rattle.c_typed_trees.specs.declared.unit.Global.{Global}
use Rattle.c_type_rules.specs.declared.scopes.Bound.{Bound}
use Rattle.c_type_rules.specs.declared.scopes.Meaning.TheVariants as meanings
use Rattle.c_type_rules.specs.Rule.{Rule, pure, ◌then◌, fault, expect, look, here, local, bind, each, alone_in}
use Rattle.c_type_rules.specs.Expressions.{integer, piece, converted_to, constant}

abbrev pub statement_of : Span → TypedForm → TypedStatement
statement_of span form = roll-TypedStatement (record { span = span; form = form })

-- ---- names

abbrev pub same_level : ℕ → Option Bound → Bool
same_level level None = false
same_level level (Some b) = b.level == level

-- a name that is declared must not be bound in the same scope (6.7p3)
unfoldable pub unused : Ident → Rule (Unit {0})
unused d = here then λ level. look d.name then λ found. expect 31 d.span (not (same_level level found))

abbrev pub variable_of : List ℕ → Kind → Option ℕ → VariablePlace → Variable
variable_of w kind length place = record { name = w; kind = kind; length = length; place = place }

abbrev pub bound_as : ℕ → Variable → Bound
bound_as level v = record { name = v.name; level = level; meaning = meanings.Variable v }

-- a variable is in scope from here on (6.2.1p7)
unfoldable pub bind_variable : Variable → Rule (Unit {0})
bind_variable v = here then λ level. bind (bound_as level v)

-- ---- arrays

-- the length of an array is from 1 to 1024, by this profile; a negative number is kept as a greater one
abbrev pub is_array_length : ℕ → Bool
is_array_length n = nat_le 1 n && nat_le n 1024

-- an array whose length is wrong counts no cells
abbrev pub length_if : Span → ℕ → Bool → Rule (Option ℕ)
length_if span n true = pure (Some n)
length_if span n false = fault 34 span (Some 0)

abbrev pub length_within : Span → Option ℕ → Rule (Option ℕ)
length_within span None = pure (Some 0)
length_within span (Some n) = length_if span n (is_array_length n)

-- the length of an array with a name at this place, and none of an integer
unfoldable pub length_at : Span → Option ExprTree → Rule (Option ℕ)
length_at span None = pure None
length_at span (Some t) = constant None t then λ n. length_within span n

abbrev pub cells_of : Option ℕ → ℕ
cells_of None = 1
cells_of (Some n) = n

-- so many values for an array of this length; of one whose length is wrong nothing is said
abbrev pub is_list_for : ℕ → ℕ → Bool
is_list_for n count = nat_le count n || n == 0

-- ---- what variables of a block begin as (6.7.9)

unfoldable pub value_for : Kind → ExprTree → Rule TypedExpr
value_for kind t = integer (piece t) then λ a. pure (converted_to kind a)

unfoldable pub values_for : Kind → List ExprTree → Rule (List TypedExpr)
values_for kind = each (λ t. alone_in (value_for kind t))

-- an integer begins as a value, and an array as a list of at most its length
abbrev pub begun : Span → Ident → Variable → Option ℕ → Option Initial → Rule TypedStatement
begun span d v None None = pure (statement_of span (forms.Local v None))
begun span d v None (Some (initials.One t)) = value_for v.kind t then λ a. pure (statement_of span (forms.Local v (Some a)))
begun span d v None (Some (initials.List ts)) = expect 33 d.span false then λ u. values_for v.kind ts then λ list. pure (statement_of span forms.Empty)
begun span d v (Some n) None = pure (statement_of span (forms.LocalArray v []))
begun span d v (Some n) (Some (initials.One t)) = expect 33 d.span false then λ u. value_for v.kind t then λ a. pure (statement_of span forms.Empty)
begun span d v (Some n) (Some (initials.List ts)) = expect 34 d.span (is_list_for n (length ts)) then λ u. values_for v.kind ts then λ list. pure (statement_of span (forms.LocalArray v list))

unfoldable pub local_rule : Span → Kind → Declarator → Rule TypedStatement
local_rule span kind d =
    unused d.name then λ u.
    length_at d.name.span d.length then λ length.
    local (cells_of length) then λ cell.
    bind_variable (variable_of d.name.name kind length (places.Local cell)) then λ u.
    begun span d.name (variable_of d.name.name kind length (places.Local cell)) length d.first

-- one statement for each declarator
unfoldable pub locals_rule : Span → Kind → List Declarator → Rule (List TypedStatement)
locals_rule span kind = each (λ d. alone_in (local_rule span kind d))

-- ---- variables of the file (6.7.9p4, p10)

abbrev pub value_or_zero : Option ℕ → ℕ
value_or_zero None = 0
value_or_zero (Some v) = v

unfoldable pub first_value : Kind → ExprTree → Rule ℕ
first_value kind t = constant (Some kind) t then λ v. pure (value_or_zero v)

unfoldable pub first_values : Kind → List ExprTree → Rule (List ℕ)
first_values kind = each (λ t. alone_in (first_value kind t))

abbrev pub with_zeros : ℕ → List ℕ → List ℕ
with_zeros n vs = vs ++ replicate (n - length vs) 0

-- the first value of each cell: those that are given, and then zeros
abbrev pub begun_global : Ident → Kind → Option ℕ → Option Initial → Rule (List ℕ)
begun_global d kind None None = pure (0 ∷ [])
begun_global d kind None (Some (initials.One t)) = first_value kind t then λ v. pure (v ∷ [])
begun_global d kind None (Some (initials.List ts)) = expect 33 d.span false then λ u. first_values kind ts then λ vs. pure []
begun_global d kind (Some n) None = pure (with_zeros n [])
begun_global d kind (Some n) (Some (initials.One t)) = expect 33 d.span false then λ u. first_value kind t then λ v. pure []
begun_global d kind (Some n) (Some (initials.List ts)) = expect 34 d.span (is_list_for n (length ts)) then λ u. first_values kind ts then λ vs. pure (with_zeros n vs)

-- the globals have at most 16,384 cells, by this profile
unfoldable pub global_rule : Kind → Declarator → Rule Global
global_rule kind d =
    unused d.name then λ u.
    length_at d.name.span d.length then λ length.
    local (cells_of length) then λ cell.
    expect 37 d.name.span (nat_le (cell + cells_of length) 16384) then λ u.
    bind_variable (variable_of d.name.name kind length (places.Global cell)) then λ u.
    begun_global d.name kind length d.first then λ first.
    pure (record { variable = variable_of d.name.name kind length (places.Global cell); first = first })

unfoldable pub globals_rule : Kind → List Declarator → Rule (List Global)
globals_rule kind = each (λ d. alone_in (global_rule kind d))

-- ---- enumeration constants (6.7.2.2)

-- the value that is given, or else the one after the constant before
abbrev pub enumerated : ℕ → Option ExprTree → Rule ℕ
enumerated next None = pure next
enumerated next (Some t) = first_value int t

abbrev pub next_value : ℕ → ℕ
next_value v = if is_value int v then sum_of int v 1 else 0

abbrev pub bound_constant : List ℕ → ℕ → ℕ → Bound
bound_constant w level v = record { name = w; level = level; meaning = meanings.Constant v }

-- a constant is in scope behind its value (6.2.1p7); what is made is the value of one more
unfoldable pub constant_rule : ℕ → Ident × Option ExprTree → Rule ℕ
constant_rule next c =
    enumerated next c.1 then λ v.
    unused c.0 then λ u.
    here then λ level.
    bind (bound_constant c.0.name level v) then λ u.
    pure (next_value v)

unfoldable pub constants_from : ℕ → List (Ident × Option ExprTree) → Rule (Unit {0})
constants_from next [] = pure tt
constants_from next (c ∷ cs) = constant_rule next c then λ more. constants_from more cs
