-- When parts make a control flow automaton.
use Rattle.std.specs.Prelude.{◌≡◌, ℕ, ◌+◌, ◌<◌, ◌≤◌, Bool, true, false, not, ◌&&◌, ◌==◌, nat_le, List, [], ◌∷◌, length, Option, Some, None, slice_get, option_and_then, IsTrue}
use Rattle.std.specs.Option.{is_some, IsSome, IsSomeAnd, OnSome}
use Rattle.std.specs.List.{filter, list_all}
use Rattle.c_values.specs.declared.kinds.Kind.{Kind}
use Rattle.c_values.specs.Kind.{is_kind}
use Rattle.cfa.specs.declared.expr.ArrayPlace.{ArrayPlace}
use Rattle.cfa.specs.declared.expr.CellPlace.{CellPlace}
use Rattle.cfa.specs.declared.expr.Expr.{Expr}
use Rattle.cfa.specs.declared.parts.Edge.{Edge}
use Rattle.cfa.specs.declared.parts.Function.{Function}
use Rattle.cfa.specs.declared.parts.GraphParts.{GraphParts}
use Rattle.cfa.specs.declared.parts.Node.{Node}
use Rattle.cfa.specs.declared.parts.Operation.{Operation}
use Rattle.cfa.specs.declared.parts.Operation.TheVariants.{Skip, Assign, Clear, Guard, Call, Return, Answer, Assert, Assume}
use Rattle.cfa.specs.declared.parts.Scope.{Scope}
use Rattle.cfa.specs.declared.parts.Variable.{Variable}
use Rattle.cfa.specs.declared.parts.VariablePlace.{VariablePlace}
use Rattle.cfa.specs.declared.parts.VariablePlace.TheVariants as variable
use Rattle.cfa.specs.Each.{Each, matched}
use Rattle.cfa.specs.Rules.{Room, cell_count, array_fits, place_fits, expr_fits, checked_kind, has_kind, is_length}

-- ---- what the numbers name

-- the places of a function name its frame's cells and the globals
abbrev pub room_of : GraphParts → Function → Room
room_of parts f = record { globals = length parts.globals; cells = f.cells; arrays = f.arrays }

-- a node that is there and belongs to a function
abbrev pub IsNodeOf : GraphParts → ℕ → ℕ → Type 0
IsNodeOf parts function node = IsSomeAnd (slice_get parts.nodes node) (λ n. n.function ≡ function)

-- the number of the function that an operation calls
abbrev pub callee_of : Operation → Option ℕ
callee_of (Call callee words arrays) = Some callee
callee_of _ = None

-- the number of the call edge that an operation returns from
abbrev pub returned_call : Operation → Option ℕ
returned_call (Return call dest) = Some call
returned_call _ = None

abbrev pub is_return : Operation → Bool
is_return op = is_some (returned_call op)

abbrev pub is_guard : Operation → Bool
is_guard (Guard test truth) = true
is_guard _ = false

-- the function that the edge of a number calls
abbrev pub function_called : GraphParts → ℕ → Option Function
function_called parts call =
    option_and_then (λ (e : Edge). option_and_then (λ callee. slice_get parts.functions callee) (callee_of e.operation)) (slice_get parts.edges call)

-- ---- an edge

-- every number in the operation, other than those of places, names a thing that is there
abbrev pub NumbersFit : GraphParts → Operation → Type 0
NumbersFit parts (Call callee words arrays) = callee < length parts.functions
NumbersFit parts (Return call dest) = call < length parts.edges
NumbersFit parts (Answer input dest) = input < length parts.inputs
NumbersFit parts _ = Unit {0}

-- an edge leaves a node of its function; a return leaves the exit of the function that was called
abbrev pub SourceFits : GraphParts → ℕ → ℕ → Operation → Type 0
SourceFits parts function source (Return call dest) = IsSomeAnd (function_called parts call) (λ f. source ≡ f.exit)
SourceFits parts function source _ = IsNodeOf parts function source

-- an edge leads to a node of its function; a call leads to the entry of the function that it calls
abbrev pub TargetFits : GraphParts → ℕ → ℕ → Operation → Type 0
TargetFits parts function target (Call callee words arrays) = IsSomeAnd (slice_get parts.functions callee) (λ f. target ≡ f.entry)
TargetFits parts function target _ = IsNodeOf parts function target

abbrev pub dest_fits : Room → Option CellPlace → Bool
dest_fits room None = true
dest_fits room (Some place) = place_fits room place

-- arrays that may be lent, of these lengths
abbrev pub arrays_fit : Room → List ArrayPlace → List ℕ → Bool
arrays_fit room places lengths = matched (array_fits room) places lengths

-- a word meets the rules, and is of a kind
abbrev pub word_fits : Room → Expr → Kind → Bool
word_fits room word kind = has_kind (checked_kind room word) kind

-- words of these kinds
abbrev pub words_fit : Room → List Expr → List Kind → Bool
words_fit room words kinds = matched (word_fits room) words kinds

-- A call has one word for each integer parameter of the callee, of its kind, and one array for each array parameter,
-- of its length (6.5.2.2p2).
abbrev pub call_fits : Room → Option Function → List Expr → List ArrayPlace → Bool
call_fits room None words arrays = false
call_fits room (Some f) words arrays = words_fit room words f.parameters && arrays_fit room arrays f.arrays

-- The places and expressions of an operation meet the rules in the room of its edge's function: places lie within the
-- globals or the frame, lent arrays have their length, operands have the kinds that operations take, and constants are
-- values of their kinds.
abbrev pub operands_fit : GraphParts → Room → Operation → Bool
operands_fit parts room Skip = true
operands_fit parts room (Assign place value) = place_fits room place && expr_fits room value
operands_fit parts room (Clear array length) = array_fits room array length
operands_fit parts room (Guard test truth) = expr_fits room test
operands_fit parts room (Call callee words arrays) = call_fits room (slice_get parts.functions callee) words arrays
operands_fit parts room (Return call dest) = dest_fits room dest
operands_fit parts room (Answer input dest) = dest_fits room dest
operands_fit parts room (Assert test) = expr_fits room test
operands_fit parts room (Assume test) = expr_fits room test

-- A call edge is followed by its return edge, which is of the same function. A return edge follows its call edge, and
-- where its result is put somewhere, the function called gives one.
abbrev pub PairFits : GraphParts → ℕ → ℕ → Operation → Type 0
PairFits parts at function (Call callee words arrays) =
    IsSomeAnd (slice_get parts.edges (at + 1)) (λ next. (next.function ≡ function) × (returned_call next.operation ≡ Some at))
PairFits parts at function (Return call dest) =
    (call + 1 ≡ at) × IsSomeAnd (function_called parts call) (λ f. OnSome dest (IsSome f.result))
PairFits parts at function _ = Unit {0}

-- The edge of a number meets the rules for edges.
pub record EdgeFits (parts : GraphParts) (at : ℕ) (e : Edge) : Type 0 where
  -- every number in it names a thing that is there
  pub file : e.span.file < length parts.files
  pub function : e.function < length parts.functions
  pub source : e.source < length parts.nodes
  pub target : e.target < length parts.nodes
  pub numbers : NumbersFit parts e.operation
  -- it goes from a node of its function to a node of its function, but for calls and returns
  pub leaves : SourceFits parts e.function e.source e.operation
  pub reaches : TargetFits parts e.function e.target e.operation
  -- its places lie within the cells, its operands have their kinds, and a call's words and arrays are the callee's
  pub operands : IsSomeAnd (slice_get parts.functions e.function) (λ f. IsTrue (operands_fit parts (room_of parts f) e.operation))
  -- calls and returns come in pairs
  pub pair : PairFits parts at e.function e.operation

-- each edge meets them
abbrev pub EdgesFit : GraphParts → Type 0
EdgesFit parts = Each parts.edges (EdgeFits parts)

-- the edge of this number is the first that doesn't
pub record IsFirstIll (parts : GraphParts) (at : ℕ) : Type 0 where
  pub within : at < length parts.edges
  pub ill : (e : Edge) → slice_get parts.edges at ≡ Some e → ¬ EdgeFits parts at e
  pub before : (i : ℕ) (e : Edge) → i < at → slice_get parts.edges i ≡ Some e → EdgeFits parts i e

-- ---- the edges that leave a node

-- the edges that leave a node, in order
abbrev pub edges_from : GraphParts → ℕ → List Edge
edges_from parts node = filter (λ (e : Edge). e.source == node) parts.edges

-- the exit of some function
abbrev pub IsExit : GraphParts → ℕ → Type 0
IsExit parts node = (k : ℕ) × IsSomeAnd (slice_get parts.functions k) (λ f. f.exit ≡ node)

-- one edge that is no guard, or two guards of one test, that of truth first
abbrev pub Continues : List Edge → Type 0
Continues [] = ⊥
Continues (e ∷ []) = IsTrue (not (is_guard e.operation))
Continues (e ∷ f ∷ []) = (test : Expr) × (e.operation ≡ Guard test true) × (f.operation ≡ Guard test false)
Continues (e ∷ f ∷ g ∷ rest) = ⊥

-- ---- the other parts

-- every number of a node names a thing that is there
pub record NodeFits (parts : GraphParts) (n : Node) : Type 0 where
  pub function : n.function < length parts.functions
  pub file : n.file < length parts.files
  pub scope : n.scope < length parts.scopes

abbrev pub result_kind_fits : Option Kind → Bool
result_kind_fits None = true
result_kind_fits (Some kind) = is_kind kind

-- the kinds of a function are kinds
abbrev pub signature_fits : Function → Bool
signature_fits f = list_all is_kind f.parameters && result_kind_fits f.result

-- The function of a number meets its rules.
pub record FunctionFits (parts : GraphParts) (at : ℕ) (f : Function) : Type 0 where
  -- its kinds are kinds
  pub signature : IsTrue (signature_fits f)
  -- its entry and exit are nodes of it
  pub entry : IsNodeOf parts at f.entry
  pub exit : IsNodeOf parts at f.exit
  -- a frame has a cell for the result and one for each integer parameter, and at most 16,384 in all
  pub least_cells : length f.parameters + 1 ≤ f.cells
  pub most_cells : f.cells ≤ 16384

-- the length of an array that is lent
abbrev pub lent_fits : Room → ℕ → Option ℕ → Bool
lent_fits room parameter None = false
lent_fits room parameter (Some length) = is_length (slice_get room.arrays parameter) length

-- a variable lies, with its whole length, within the globals or the frame, or is an array parameter of its length
abbrev pub variable_fits : Room → Option ℕ → VariablePlace → Bool
variable_fits room length (variable.Global first) = nat_le (first + cell_count length) room.globals
variable_fits room length (variable.Local first) = nat_le (first + cell_count length) room.cells
variable_fits room length (variable.Lent parameter) = lent_fits room parameter length

-- a variable of any scope is of a kind, and lies within the globals if it is one of them
abbrev pub global_fits : ℕ → Option ℕ → VariablePlace → Bool
global_fits globals length (variable.Global first) = nat_le (first + cell_count length) globals
global_fits globals length (variable.Local first) = true
global_fits globals length (variable.Lent parameter) = true

abbrev pub scope_fits : ℕ → Scope → Bool
scope_fits globals s = list_all (λ (v : Variable). is_kind v.kind && global_fits globals v.length v.place) s.variables

-- a function has room for each variable of a scope
abbrev pub scope_fits_in : Room → Scope → Bool
scope_fits_in room s = list_all (λ (v : Variable). variable_fits room v.length v.place) s.variables

-- the variables of a scope lie within the globals and the frame of a function, and the arrays that are lent are its own
abbrev pub SeesFit : GraphParts → ℕ → ℕ → Type 0
SeesFit parts function scope = (f : Function) (s : Scope) → slice_get parts.functions function ≡ Some f → slice_get parts.scopes scope ≡ Some s → IsTrue (scope_fits_in (room_of parts f) s)

-- The other parts of a graph meet their rules.
pub record RestFits (parts : GraphParts) : Type 0 where
  -- every number of a node names a thing that is there
  pub nodes : Each parts.nodes (λ i n. NodeFits parts n)
  -- functions have their entries, exits and cells
  pub functions : Each parts.functions (FunctionFits parts)
  -- the kinds of answers and globals are kinds
  pub inputs : Each parts.inputs (λ i input. IsTrue (is_kind input.result))
  pub global_kinds : Each parts.globals (λ i global. IsTrue (is_kind global.0))
  -- there are not too many cells of globals
  pub globals : length parts.globals ≤ 16384
  -- the variables of a scope are of kinds, and lie within the globals or the frame of each function with a node of it
  pub scopes : Each parts.scopes (λ i s. IsTrue (scope_fits (length parts.globals) s))
  pub variables : Each parts.nodes (λ i n. SeesFit parts n.function n.scope)
  -- every edge that leaves an exit is a return
  pub returns : Each parts.edges (λ i e. IsExit parts e.source → IsTrue (is_return e.operation))
  -- every other node has one outgoing edge that is no guard, or two guards of one test, that of truth first
  pub ways : Each parts.nodes (λ i n. ¬ IsExit parts i → Continues (edges_from parts i))

-- The parts make a control flow automaton.
pub record IsGraph (parts : GraphParts) : Type 0 where
  pub edges : EdgesFit parts
  pub rest : RestFits parts
