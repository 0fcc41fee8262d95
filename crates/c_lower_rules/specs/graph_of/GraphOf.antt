-- The control flow automaton of a typed unit.
use Rattle.std.specs.Prelude.{ℕ, ◌+◌, List, [], ◌∷◌, ◌++◌, map, filter_map, Option, Some, None}
use Rattle.std.specs.List.{flat_map}
use Rattle.fq_core.specs.declared.statement_kind.StatementKind.TheVariants as kinds
use Rattle.c_values.specs.declared.kinds.Kind.{Kind}
use Rattle.cfa.specs.declared.parts.Function.{Function}
use Rattle.cfa.specs.declared.parts.GraphParts.{GraphParts}
use Rattle.cfa.specs.declared.parts.Node.{Node}
use Rattle.cfa.specs.declared.parts.Scope.{Scope}
use Rattle.cfa.specs.declared.parts.Variable.{Variable}
use Rattle.c_typed_trees.specs.declared.unit.Global.{Global}
use Rattle.c_typed_trees.specs.declared.unit.Typed.{Typed}
use Rattle.c_typed_trees.specs.declared.unit.TypedFunction.{TypedFunction}
use Rattle.c_lower_rules.specs.declared.graph_of.parts.Around.{Around}
use Rattle.c_lower_rules.specs.declared.graph_of.parts.Parts.{Parts}
use Rattle.c_lower_rules.specs.graph_of.Builder.{Builder, in_order}
use Rattle.c_lower_rules.specs.graph_of.Edges.{entry_of, exit_of, node_at}
use Rattle.c_lower_rules.specs.graph_of.Statements.{block_row}
use Rattle.c_lower_rules.specs.graph_of.Table.{piece}

-- an integer parameter has no length
abbrev pub word_kind : Variable → Option Kind
word_kind v = elim v.length [ None ↦ Some v.kind | Some length ↦ None ]

-- a function: its parameters that are integers by their kinds, and those that are arrays by their lengths, each in order
abbrev pub function_of : ℕ → TypedFunction → Function
function_of i f = record {
  name = f.name;
  entry = entry_of i;
  exit = exit_of i;
  parameters = filter_map word_kind f.parameters;
  arrays = filter_map (λ (v : Variable). v.length) f.parameters;
  result = f.result;
  cells = f.cells;
}

abbrev pub functions_from : ℕ → List TypedFunction → List Function
functions_from i [] = []
functions_from i (f ∷ rest) = function_of i f ∷ functions_from (i + 1) rest

-- the variables of the file's scope
abbrev pub global_variables : Typed → List Variable
global_variables t = map (λ (g : Global). g.variable) t.globals

-- the kind and the first value of each cell of the globals
abbrev pub global_cells : Typed → List (Kind × ℕ)
global_cells t = flat_map (λ (g : Global). map (λ value. (g.variable.kind, value)) g.first) t.globals

module _ (globals : List Variable) where
  -- a function's body and its ends see the parameters and the globals
  abbrev pub outermost : TypedFunction → Scope
  outermost f = record { variables = f.parameters ++ globals }

  -- what the body of the function of a number stands in
  abbrev pub around_of : ℕ → TypedFunction → Around
  around_of i f = record {
    function = i;
    scope = i;
    sees = outermost f;
    depth = 0;
    exit = exit_of i;
    on_break = exit_of i;
    on_continue = exit_of i;
    span = f.span;
    statement = kinds.Empty;
    decision = None;
  }

  -- entries, on the line of the function's first token, and exits, on that of its closing brace
  abbrev pub ends_from : ℕ → List TypedFunction → List Node
  ends_from i [] = []
  ends_from i (f ∷ rest) = node_at (around_of i f) f.span ∷ node_at (around_of i f) f.close ∷ ends_from (i + 1) rest

  abbrev pub ends : List TypedFunction → Builder
  ends fs n e k = record { nodes = ends_from 0 fs; edges = []; scopes = map outermost fs }

  -- bodies, each as a block from its entry to its exit
  abbrev pub bodies_from : ℕ → List TypedFunction → List Builder
  bodies_from i [] = []
  bodies_from i (f ∷ rest) = block_row (map piece f.body) (around_of i f) (entry_of i) (exit_of i) ∷ bodies_from (i + 1) rest

  -- the entries, exits and outermost scopes first, then the bodies, function by function
  abbrev pub made : List TypedFunction → Parts
  made fs = in_order (ends fs ∷ bodies_from 0 fs) 0 0 0

-- the automaton of a typed unit, with the names of its files
unfoldable pub graph_of : Typed → List (List ℕ) → GraphParts
graph_of t files = record {
  files = files;
  nodes = (made (global_variables t) t.functions).nodes;
  edges = (made (global_variables t) t.functions).edges;
  functions = functions_from 0 t.functions;
  declared = t.declared;
  inputs = t.inputs;
  scopes = (made (global_variables t) t.functions).scopes;
  globals = global_cells t;
}
