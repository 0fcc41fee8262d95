-- The typing of units (ISO/IEC 9899:2011, 6.9): which typed tree a unit has, and all that is wrong in it.
use Rattle.std.specs.Prelude.{ℕ, Bool, true, false, if◌then◌else◌, ◌||◌, List, [], ◌∷◌, ◌++◌, Option, Some, None}
use Rattle.std.specs.List.{fold}
use Rattle.c_values.specs.declared.kinds.Kind.{Kind}
use Rattle.c_parse.specs.declared.unit.Body.{Body}
use Rattle.c_parse.specs.declared.unit.Item.{Item}
use Rattle.c_parse.specs.declared.unit.Item.TheVariants as items
use Rattle.c_parse.specs.declared.unit.Parameter.{Parameter}
use Rattle.c_typed_trees.specs.declared.expression.Callee.{Callee}
use Rattle.c_typed_trees.specs.declared.expression.Callee.TheVariants as callees
use Rattle.c_typed_trees.specs.declared.unit.Typed.{Typed}
use Rattle.c_type_rules.specs.declared.faults.Found.{Found}
use Rattle.c_type_rules.specs.Rule.{At, Done, Rule, pure, ◌then◌}
use Rattle.c_type_rules.specs.Scopes.{has_name, name_place}
use Rattle.c_types.specs.declared.program.Inputs.{Inputs}
use Rattle.c_types.specs.declared.program.Program.{Program}
use Rattle.c_types.specs.declared.units.Parts.{Parts}
use Rattle.c_types.specs.Declarations.{globals_rule, constants_from}
use Rattle.c_types.specs.Functions.{function_rule}

-- ---- the functions of a unit

abbrev pub with_name : List (List ℕ) → List ℕ → List (List ℕ)
with_name names w = if has_name names w then names else names ++ w ∷ []

abbrev pub with_definition : List (List ℕ) → Item → List (List ℕ)
with_definition names (items.Function span result d ps (Some b)) = with_name names d.name
with_definition names (items.Function span result d ps None) = names
with_definition names (items.Variables span kind list) = names
with_definition names (items.Constants span list) = names

abbrev pub with_declaration : List (List ℕ) → Item → List (List ℕ)
with_declaration names (items.Function span result d ps body) = with_name names d.name
with_declaration names (items.Variables span kind list) = names
with_declaration names (items.Constants span list) = names

-- a function that is declared and nowhere defined, takes no parameters and gives an integer is an input
abbrev pub input_unless : Bool → Inputs → List ℕ → Kind → Inputs
input_unless true inputs w kind = inputs
input_unless false inputs w kind = record { names = inputs.names ++ w ∷ []; list = inputs.list ++ record { name = w; result = kind } ∷ [] }

abbrev pub with_prototype : List (List ℕ) → Inputs → Option Kind → List ℕ → List Parameter → Option Body → Inputs
with_prototype defined inputs (Some kind) w [] None = input_unless (has_name defined w || has_name inputs.names w) inputs w kind
with_prototype defined inputs None w ps body = inputs
with_prototype defined inputs (Some kind) w (p ∷ ps) body = inputs
with_prototype defined inputs (Some kind) w [] (Some b) = inputs

abbrev pub with_input : List (List ℕ) → Inputs → Item → Inputs
with_input defined inputs (items.Function span result d ps body) = with_prototype defined inputs result d.name ps body
with_input defined inputs (items.Variables span kind list) = inputs
with_input defined inputs (items.Constants span list) = inputs

-- the names of the functions that are defined, those that are declared, and the inputs, each once, in the order of the
-- source
unfoldable pub definitions_of : List Item → List (List ℕ)
definitions_of list = fold with_definition [] list

unfoldable pub declarations_of : List Item → List (List ℕ)
declarations_of list = fold with_declaration [] list

abbrev pub no_inputs : Inputs
no_inputs = record { names = []; list = [] }

abbrev pub inputs_among : List (List ℕ) → List Item → Inputs
inputs_among defined list = fold (with_input defined) no_inputs list

unfoldable pub inputs_of : List Item → Inputs
inputs_of list = inputs_among (definitions_of list) list

abbrev pub program_of : List Item → Program
program_of list = record { defined = definitions_of list; inputs = inputs_of list }

-- how a call names a function: by its place among those that are defined, wherever that is, or among the inputs
abbrev pub input_callee : Option ℕ → Option Callee
input_callee None = None
input_callee (Some i) = Some (callees.Input i)

abbrev pub callee_or_input : Option ℕ → Option ℕ → Option Callee
callee_or_input None input = input_callee input
callee_or_input (Some i) input = Some (callees.Defined i)

unfoldable pub callee_of : Program → List ℕ → Option Callee
callee_of p w = callee_or_input (name_place p.defined w) (name_place p.inputs.names w)

-- ---- items

abbrev pub no_parts : Parts
no_parts = record { globals = []; functions = [] }

abbrev pub joined_parts : Parts → Parts → Parts
joined_parts p q = record { globals = p.globals ++ q.globals; functions = p.functions ++ q.functions }

unfoldable pub item_rule : Program → Item → Rule Parts
item_rule p (items.Function span result d ps body) = function_rule (callee_of p d.name) span result d ps body then λ fs. pure (record { globals = []; functions = fs })
item_rule p (items.Variables span kind list) = globals_rule kind list then λ gs. pure (record { globals = gs; functions = [] })
item_rule p (items.Constants span list) = constants_from 0 list then λ u. pure no_parts

unfoldable pub items_rule : Program → List Item → Rule Parts
items_rule p [] = pure no_parts
items_rule p (i ∷ is) = item_rule p i then λ x. items_rule p is then λ y. pure (joined_parts x y)

-- ---- the whole

-- nothing is declared yet
abbrev pub start : At
start = record { bound = []; labels = []; cases = []; level = 0; local = 0; temporary = 0 }

abbrev pub unit_done : List Item → Done Parts
unit_done list = items_rule (program_of list) list start

-- all that is wrong in a unit, in any order
unfoldable pub faults_of : List Item → List Found
faults_of list = (unit_done list).faults

abbrev pub typed_with : List Item → Parts → Typed
typed_with list parts = record {
  globals = parts.globals;
  functions = parts.functions;
  inputs = (inputs_of list).list;
  declared = declarations_of list;
}

-- the typed tree of a unit in which nothing is wrong
unfoldable pub typed_of : List Item → Typed
typed_of list = typed_with list (unit_done list).made
