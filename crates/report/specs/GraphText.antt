-- How an automaton is written.
use Rattle.std.specs.Prelude.{ℕ, ◌+◌, Bool, true, false, List, [], ◌∷◌, ◌++◌, Option, None, Some, codes, length, slice_get, if◌then◌else◌}
use Rattle.std.specs.Fmt.{decimal}
use Rattle.std.specs.List.{flat_map}
use Rattle.cfa.specs.Graph.{function_called}
use Rattle.cfa.specs.declared.parts.Edge.{Edge}
use Rattle.cfa.specs.declared.parts.Function.{Function}
use Rattle.cfa.specs.declared.parts.GraphParts.{GraphParts}
use Rattle.cfa.specs.declared.parts.InputFunction.{InputFunction}
use Rattle.cfa.specs.declared.parts.Node.{Node}
use Rattle.cfa.specs.declared.parts.Operation.{Operation}
use Rattle.cfa.specs.declared.parts.Operation.TheVariants.{Skip, Assign, Clear, Guard, Call, Return, Answer, Assert, Assume}
use Rattle.fq_core.specs.declared.statement_kind.StatementKind.{StatementKind}
use Rattle.fq_core.specs.declared.statement_kind.StatementKind.TheVariants as kind
use Rattle.report.specs.Letters.{place_text}

-- ---- names

-- the name of a function, or nothing where there is none
abbrev pub function_name : Option Function → List ℕ
function_name None = []
function_name (Some f) = f.name

abbrev pub input_name : Option InputFunction → List ℕ
input_name None = []
input_name (Some f) = f.name

-- names, each after a space
abbrev pub spaced_names : List (List ℕ) → List ℕ
spaced_names names = flat_map (λ name. codes " " ++ name) names

-- ---- what is done along an edge

-- the word of a statement kind
abbrev pub kind_text : StatementKind → List ℕ
kind_text kind.If = codes "IF"
kind_text kind.For = codes "FOR"
kind_text kind.While = codes "WHILE"
kind_text kind.Do = codes "DO"
kind_text kind.Switch = codes "SWITCH"
kind_text kind.Assign = codes "ASSIGN"
kind_text kind.Call = codes "CALL"
kind_text kind.Return = codes "RETURN"
kind_text kind.Decl = codes "DECL"
kind_text kind.Assert = codes "ASSERT"
kind_text kind.Assume = codes "ASSUME"
kind_text kind.Jump = codes "JUMP"
kind_text kind.Label = codes "LABEL"
kind_text kind.Empty = codes "EMPTY"

-- an operation, with the name of the function that is called, from which it returns, or which answers
abbrev pub operation_text : GraphParts → Operation → List ℕ
operation_text graph Skip = codes "skip"
operation_text graph (Assign place value) = codes "assign"
operation_text graph (Clear array length) = codes "clear"
operation_text graph (Guard test true) = codes "guard true"
operation_text graph (Guard test false) = codes "guard false"
operation_text graph (Call callee words arrays) = codes "call " ++ function_name (slice_get graph.functions callee)
operation_text graph (Return call dest) = codes "return " ++ function_name (function_called graph call)
operation_text graph (Answer input dest) = codes "answer " ++ input_name (slice_get graph.inputs input)
operation_text graph (Assert test) = codes "assert"
operation_text graph (Assume test) = codes "assume"

-- ---- marks

-- the word of a mark, where it is set
abbrev pub mark : Bool → List ℕ → List ℕ
mark is_set word = if is_set then word else []

abbrev pub label_text : Option (List ℕ) → List ℕ
label_text None = []
label_text (Some label) = codes " label " ++ label

-- a word and names, where there are any
abbrev pub named : List ℕ → List (List ℕ) → List ℕ
named word [] = []
named word names = word ++ spaced_names names

-- each mark that an edge has, after a space
abbrev pub marks_text : Edge → List ℕ
marks_text e =
    mark e.decision (codes " decision") ++ mark e.outcome (codes " outcome") ++ mark e.enter (codes " enter") ++ mark e.back (codes " back")
    ++ label_text e.label ++ named (codes " writes") e.writes ++ named (codes " reads") e.reads

-- ---- lines

abbrev pub sizes_line : GraphParts → List ℕ
sizes_line graph =
    codes "functions " ++ decimal (length graph.functions) ++ codes " inputs " ++ decimal (length graph.inputs)
    ++ codes " nodes " ++ decimal (length graph.nodes) ++ codes " edges " ++ decimal (length graph.edges) ++ codes "\n"

-- a function, its entry and its exit
abbrev pub function_line : ℕ → Function → List ℕ
function_line number f =
    codes "function " ++ decimal number ++ codes " " ++ f.name ++ codes " entry " ++ decimal f.entry ++ codes " exit " ++ decimal f.exit ++ codes "\n"

abbrev pub input_line : ℕ → InputFunction → List ℕ
input_line number f = codes "input " ++ decimal number ++ codes " " ++ f.name ++ codes "\n"

-- a node, its function, its file and line, and how many loops it lies in
abbrev pub node_line : GraphParts → ℕ → Node → List ℕ
node_line graph number node =
    codes "node " ++ decimal number ++ codes " " ++ function_name (slice_get graph.functions node.function) ++ codes " "
    ++ place_text graph.files node.file node.line ++ codes " depth " ++ decimal node.depth ++ codes "\n"

-- the nodes from and to which an edge leads
abbrev pub edge_head : ℕ → Edge → List ℕ
edge_head number e = codes "edge " ++ decimal number ++ codes " from " ++ decimal e.source ++ codes " to " ++ decimal e.target

-- the file, the line and the column of its first byte, and the kind of its statement
abbrev pub edge_place : List (List ℕ) → Edge → List ℕ
edge_place files e = place_text files e.span.file e.span.line ++ codes ":" ++ decimal e.span.column ++ codes " " ++ kind_text e.statement

-- an edge: its nodes, its place, its operation and its marks
abbrev pub edge_line : GraphParts → ℕ → Edge → List ℕ
edge_line graph number e =
    edge_head number e ++ codes " " ++ edge_place graph.files e ++ codes " " ++ operation_text graph e.operation ++ marks_text e ++ codes "\n"

-- ---- the text

-- a line for each, from this number on
abbrev pub numbered : {X : Type 0} → (ℕ → X → List ℕ) → ℕ → List X → List ℕ
numbered line number [] = []
numbered line number (x ∷ xs) = line number x ++ numbered line (number + 1) xs

-- how many functions, input functions, nodes and edges there are, and each of them with its number
abbrev pub graph_text : GraphParts → List ℕ
graph_text graph =
    sizes_line graph
    ++ numbered function_line 0 graph.functions
    ++ numbered input_line 0 graph.inputs
    ++ numbered (node_line graph) 0 graph.nodes
    ++ numbered (edge_line graph) 0 graph.edges
