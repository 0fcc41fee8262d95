-- The properties of edges by which filters keep them, as docs/QUERY.md has them.
use Rattle.std.specs.Prelude.{ℕ, Bool, true, false, ◌||◌, ◌==◌, nat_lt, List, [], ◌∷◌, length, Option, Some, None, slice_get, option_and_then, option_map}
use Rattle.std.specs.List.{filter, list_any}
use Rattle.std.specs.Option.{option_map_or}
use Rattle.std.specs.Str.{bytes_eq}
use Rattle.cfa.specs.declared.parts.Edge.{Edge}
use Rattle.cfa.specs.declared.parts.Function.{Function}
use Rattle.cfa.specs.declared.parts.GraphParts.{GraphParts}
use Rattle.cfa.specs.declared.parts.InputFunction.{InputFunction}
use Rattle.cfa.specs.declared.parts.Node.{Node}
use Rattle.cfa.specs.declared.parts.Operation.{Operation}
use Rattle.cfa.specs.declared.parts.Operation.TheVariants.{Call, Answer}
use Rattle.cfa.specs.Graph.{is_guard}
use Rattle.cfa.specs.Names.{first_named}
use Rattle.cfa.specs.Table.{outgoing_of}
use Rattle.fql_read.specs.declared.filter.FilterForm.TheOpen.{FilterForm-F}
use Rattle.filters.specs.Kinds.{same_kind}

-- an optional number is this one
abbrev pub is_number : Option ℕ → ℕ → Bool
is_number None n = false
is_number (Some m) n = m == n

-- an optional name is this one
abbrev pub is_name : Option (List ℕ) → List ℕ → Bool
is_name None name = false
is_name (Some own) name = bytes_eq own name

-- a name is among these
abbrev pub has_name : List (List ℕ) → List ℕ → Bool
has_name names name = list_any (λ own. bytes_eq own name) names

-- the function with this name
abbrev pub function_with : GraphParts → List ℕ → Option Function
function_with parts name = option_and_then (slice_get parts.functions) (first_named parts.functions name)

-- a call of the function, or an answer of the input function
abbrev pub is_call : GraphParts → List ℕ → Operation → Bool
is_call parts name (Call callee words arrays) = is_name (option_map (λ (f : Function). f.name) (slice_get parts.functions callee)) name
is_call parts name (Answer input dest) = is_name (option_map (λ (f : InputFunction). f.name) (slice_get parts.inputs input)) name
is_call parts name _ = false

-- a node, of this number, is the entry of its function
abbrev pub is_entry : GraphParts → ℕ → Node → Bool
is_entry parts n node = is_number (option_map (λ (f : Function). f.entry) (slice_get parts.functions node.function)) n

-- of the edges that lead into a node: there isn't exactly one, or it leaves a node that another edge leaves too
abbrev pub begins_behind : GraphParts → List Edge → Bool
begins_behind parts [] = true
begins_behind parts (e ∷ []) = nat_lt 1 (length (outgoing_of parts e.source))
begins_behind parts (e ∷ f ∷ rest) = true

-- a basic block begins at the node of a number: it is an entry, or the edges that lead into it say so
abbrev pub begins_block : GraphParts → ℕ → Bool
begins_block parts n = option_map_or (λ (node : Node). is_entry parts n node || begins_behind parts (filter (λ (e : Edge). e.target == n) parts.edges)) (slice_get parts.nodes n) false

-- the property that a filter of edges tests, a line for each
abbrev pub has_property : {A B : Type 0} → GraphParts → FilterForm-F A B → Edge → Bool
has_property parts (FilterForm-F.File name) e = is_name (slice_get parts.files e.span.file) name
has_property parts (FilterForm-F.Line line) e = e.span.line == line
has_property parts (FilterForm-F.Func name) e = is_number (first_named parts.functions name) e.function
has_property parts (FilterForm-F.Label name) e = is_name e.label name
has_property parts (FilterForm-F.Call name) e = is_call parts name e.operation
has_property parts (FilterForm-F.Entry name) e = is_number (option_map (λ (f : Function). f.entry) (function_with parts name)) e.source
has_property parts (FilterForm-F.Exit name) e = is_number (option_map (λ (f : Function). f.exit) (function_with parts name)) e.target
has_property parts FilterForm-F.BasicBlockEntry e = begins_block parts e.source
has_property parts FilterForm-F.ConditionEdge e = is_guard e.operation
has_property parts FilterForm-F.ConditionGraph e = e.decision
has_property parts FilterForm-F.DecisionEdge e = e.outcome
has_property parts (FilterForm-F.StatementTypes kinds) e = list_any (λ kind. same_kind kind e.statement) kinds
has_property parts (FilterForm-F.Writes name) e = has_name e.writes name
has_property parts (FilterForm-F.Reads name) e = has_name e.reads name
has_property parts _ e = false
