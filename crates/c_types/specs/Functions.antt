-- The typing of functions (ISO/IEC 9899:2011, 6.7.6.3 and 6.9.1), and their frames.
use Rattle.std.specs.Prelude.{ℕ, ◌+◌, Bool, true, false, not, if◌then◌else◌, ◌&&◌, ◌||◌, ◌==◌, nat_le, List, [], ◌∷◌, ◌++◌, map, Option, Some, None}
use Rattle.std.specs.Option.{is_some}
use Rattle.fq_core.specs.declared.span.Span.{Span}
use Rattle.c_values.specs.declared.kinds.Kind.{Kind}
use Rattle.c_parse.specs.declared.expr.Ident.{Ident}
use Rattle.c_parse.specs.declared.unit.Body.{Body}
use Rattle.c_parse.specs.declared.unit.Parameter.{Parameter}
use Rattle.cfa.specs.declared.parts.Variable.{Variable}
use Rattle.cfa.specs.declared.parts.VariablePlace.{VariablePlace}
use Rattle.cfa.specs.declared.parts.VariablePlace.TheVariants as places
use Rattle.cfa.specs.Each.{matched}
use Rattle.cfa.specs.Kinds.{same_kind}
use Rattle.c_typed_trees.specs.declared.expression.Callee.{Callee}
use Rattle.c_typed_trees.specs.declared.statement.TypedStatement.{TypedStatement}
use Rattle.c_typed_trees.specs.declared.unit.TypedFunction.{TypedFunction}
use Rattle.c_type_rules.specs.declared.faults.Found.{Found}
use Rattle.c_type_rules.specs.declared.scopes.Bound.{Bound}
use Rattle.c_type_rules.specs.declared.scopes.ParameterKind.{ParameterKind}
use Rattle.c_type_rules.specs.declared.scopes.Signature.{Signature}
use Rattle.c_type_rules.specs.declared.scopes.Meaning.{Meaning}
use Rattle.c_type_rules.specs.declared.scopes.Meaning.TheVariants as meanings
use Rattle.c_type_rules.specs.declared.typer.Typer.{Typer}
use Rattle.c_type_rules.specs.Faults.{first_with}
use Rattle.c_type_rules.specs.Rule.{At, Rule, pure, ◌then◌, expect, look, here, bind, in_scope}
use Rattle.c_types.specs.declared.around.Around.{Around}
use Rattle.c_types.specs.declared.parameters.Parameters.{Parameters}
use Rattle.c_types.specs.Declarations.{unused, variable_of, bind_variable, length_at}
use Rattle.c_types.specs.Statements.{statements_typing}

-- ---- parameters

abbrev pub name_of : Option Ident → List ℕ
name_of None = []
name_of (Some d) = d.name

abbrev pub name_span : Span → Option Ident → Span
name_span span None = span
name_span span (Some d) = d.span

-- an integer has a cell of the frame, and an array is one of those that are lent
abbrev pub parameter_place : ℕ → ℕ → Option ℕ → VariablePlace
parameter_place cell lent None = places.Local cell
parameter_place cell lent (Some n) = places.Lent lent

abbrev pub cell_behind : ℕ → Option ℕ → ℕ
cell_behind cell None = cell + 1
cell_behind cell (Some n) = cell

abbrev pub lent_behind : ℕ → Option ℕ → ℕ
lent_behind lent None = lent
lent_behind lent (Some n) = lent + 1

-- the parameters of a definition have names (6.9.1p5), and no two of any function have one name (6.7p3)
abbrev pub named_parameter : Bool → Span → Option Ident → Variable → Rule Variable
named_parameter defined span None v = expect 29 span (not defined) then λ u. pure v
named_parameter defined span (Some d) v = unused d then λ u. bind_variable v then λ u. pure v

unfoldable pub parameter_rule : Bool → ℕ → ℕ → Parameter → Rule Variable
parameter_rule defined cell lent p =
    length_at (name_span p.span p.name) p.length then λ length.
    named_parameter defined p.span p.name (variable_of (name_of p.name) p.kind length (parameter_place cell lent length))

-- a parameter in front of others
abbrev pub with_parameter : Variable → Parameters → Parameters
with_parameter v ps = record { cells = ps.cells; variables = v ∷ ps.variables }

-- parameters from a cell and a place among the arrays on, and the cell behind them
unfoldable pub parameters_from : Bool → ℕ → ℕ → List Parameter → Rule Parameters
parameters_from defined cell lent [] = pure (record { cells = cell; variables = [] })
parameters_from defined cell lent (p ∷ ps) =
    parameter_rule defined cell lent p then λ v.
    parameters_from defined (cell_behind cell v.length) (lent_behind lent v.length) ps then λ rest.
    pure (with_parameter v rest)

-- the frame's first cell is the result's
abbrev pub parameters_rule : Bool → List Parameter → Rule Parameters
parameters_rule defined ps = parameters_from defined 1 0 ps

-- ---- what a function's name stands for

abbrev pub taken : Variable → ParameterKind
taken v = record { kind = v.kind; length = v.length }

abbrev pub signature_of : Option Callee → Bool → Option Kind → Parameters → Signature
signature_of callee defined result ps = record { callee = callee; defined = defined; result = result; parameters = map taken ps.variables }

abbrev pub same_optional : Option ℕ → Option ℕ → Bool
same_optional None None = true
same_optional (Some a) (Some b) = a == b
same_optional None (Some b) = false
same_optional (Some a) None = false

abbrev pub same_result : Option Kind → Option Kind → Bool
same_result None None = true
same_result (Some a) (Some b) = same_kind a b
same_result None (Some b) = false
same_result (Some a) None = false

abbrev pub same_parameter : ParameterKind → ParameterKind → Bool
same_parameter p q = same_kind p.kind q.kind && same_optional p.length q.length

abbrev pub same_signature : Signature → Signature → Bool
same_signature f g = same_result f.result g.result && matched same_parameter f.parameters g.parameters

-- a function may be declared again with the same type, and be defined once (6.7p4, 6.9p3)
abbrev pub agrees : Signature → Meaning → Bool
agrees f (meanings.Variable v) = false
agrees f (meanings.Constant n) = false
agrees f (meanings.Function g) = same_signature f g && not (f.defined && g.defined)

abbrev pub may_declare : Signature → Option Bound → Bool
may_declare f None = true
may_declare f (Some b) = agrees f b.meaning

abbrev pub is_defined : Meaning → Bool
is_defined (meanings.Variable v) = false
is_defined (meanings.Constant n) = false
is_defined (meanings.Function g) = g.defined

abbrev pub was_defined : Option Bound → Bool
was_defined None = false
was_defined (Some b) = is_defined b.meaning

abbrev pub bound_function : List ℕ → ℕ → Signature → Option Bound → Bound
bound_function w level f found = record {
  name = w;
  level = level;
  meaning = meanings.Function (record { callee = f.callee; defined = f.defined || was_defined found; result = f.result; parameters = f.parameters });
}

unfoldable pub declare : Ident → Signature → Rule (Unit {0})
declare d f =
    look d.name then λ found.
    expect 31 d.span (may_declare f found) then λ u.
    here then λ level.
    bind (bound_function d.name level f found)

-- ---- frames

-- in a frame whose locals begin at one cell, and whose temporaries begin at another
abbrev pub in_frame : ℕ → ℕ → At → At
in_frame first temporary at = record { bound = at.bound; labels = []; cases = []; level = at.level; local = first; temporary = temporary }

-- a frame has at most 16,384 cells, by this profile
abbrev pub too_large : Span → ℕ → List Found
too_large span cells = if nat_le cells 16384 then [] else record { span = span; code = 37 } ∷ []

-- What a body makes in a frame of its own, and how many cells the frame has. Its temporaries stand behind all of its
-- locals, whose cells are counted first.
unfoldable pub framed : {A : Type 0} → Span → ℕ → Rule A → Rule (ℕ × A)
framed span first m at =
    let temporaries = first + (m (in_frame first 0 at)).locals in
    let d = m (in_frame first temporaries at) in
    let cells = temporaries + d.temporaries in
    record { made = (cells, d.made); faults = d.faults ++ too_large span cells; bound = d.bound; labels = []; cases = []; locals = 0; temporaries = 0 }

-- the parameters, and then the statements of the body, are one scope (6.2.1p4)
unfoldable pub bind_parameters : List Variable → Rule (Unit {0})
bind_parameters [] = pure tt
bind_parameters (v ∷ vs) = bind_variable v then λ u. bind_parameters vs

-- outside of loops and switches
abbrev pub in_function : Option Kind → Around
in_function result = record { result = result; breaks = false; continues = false }

unfoldable pub body_rule : Option Kind → Parameters → Body → Rule (List TypedStatement)
body_rule result ps b = in_scope (bind_parameters ps.variables then λ u. statements_typing (in_function result) b.statements)

-- a function of the file
abbrev pub function_of : Span → Option Kind → Ident → Parameters → Body → ℕ × List TypedStatement → TypedFunction
function_of span result d ps b made = record {
  name = d.name;
  span = span;
  close = b.close;
  result = result;
  parameters = ps.variables;
  cells = made.0;
  body = made.1;
}

abbrev pub defined_rule : Span → Option Kind → Ident → Parameters → Option Body → Rule (List TypedFunction)
defined_rule span result d ps None = pure []
defined_rule span result d ps (Some b) = framed span ps.cells (body_rule result ps b) then λ made. pure (function_of span result d ps b made ∷ [])

-- A function is in scope in its body. The parameters of a declaration are a scope (6.2.1p4), and are bound again in that
-- of the body.
unfoldable pub function_rule : Option Callee → Span → Option Kind → Ident → List Parameter → Option Body → Rule (List TypedFunction)
function_rule callee span result d ps body =
    in_scope (parameters_rule (is_some body) ps) then λ vs.
    declare d (signature_of callee (is_some body) result vs) then λ u.
    defined_rule span result d vs body

-- ---- what frames do to the state of typing

abbrev pub frame_state : ℕ → ℕ → Typer → Typer
frame_state first temporary s = record { bound = s.bound; labels = []; cases = []; level = s.level; local = first; temporary = temporary; fault = s.fault }

abbrev pub limited : Span → ℕ → Typer → Typer
limited span cells s = record { bound = s.bound; labels = s.labels; cases = s.cases; level = s.level; local = s.local; temporary = s.temporary; fault = first_with s.fault (too_large span cells) }

-- the state without what a frame has of its own, and the state behind a frame
abbrev pub bared : Typer → Typer
bared s = record { bound = s.bound; labels = []; cases = []; level = s.level; local = s.local; temporary = s.temporary; fault = s.fault }

abbrev pub left_frame : List (List ℕ) → List (Option ℕ) → ℕ → ℕ → Typer → Typer
left_frame labels cases local temporary r = record { bound = r.bound; labels = labels; cases = cases; level = r.level; local = local; temporary = temporary; fault = r.fault }

abbrev pub unframed : Typer → Typer → Typer
unframed s r = left_frame s.labels s.cases s.local s.temporary r
