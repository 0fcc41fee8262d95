-- Nodes and edges, and what they are made within.
use Rattle.std.specs.Prelude.{ℕ, ◌+◌, ◌*◌, Bool, true, false, ◌||◌, ◌==◌, List, [], ◌∷◌, ◌++◌, Option, Some, None}
use Rattle.std.specs.Option.{is_some}
use Rattle.fq_core.specs.declared.span.Span.{Span}
use Rattle.fq_core.specs.declared.statement_kind.StatementKind.{StatementKind}
use Rattle.cfa.specs.declared.expr.CellPlace.TheVariants as place
use Rattle.cfa.specs.declared.expr.Expr.{Expr}
use Rattle.cfa.specs.declared.parts.Edge.{Edge}
use Rattle.cfa.specs.declared.parts.Node.{Node}
use Rattle.cfa.specs.declared.parts.Operation.{Operation}
use Rattle.cfa.specs.declared.parts.Operation.TheVariants.{Skip, Assign, Guard}
use Rattle.cfa.specs.declared.parts.Scope.{Scope}
use Rattle.cfa.specs.declared.parts.Variable.{Variable}
use Rattle.c_lower_rules.specs.declared.graph_of.parts.Around.{Around}
use Rattle.c_lower_rules.specs.graph_of.Builder.{Builder, node, edge, scope, in_order, numbered}

-- what stands between two nodes
abbrev pub Lowering : Type 0
Lowering = Around → ℕ → ℕ → Builder

-- function i has the entry 2i and the exit 2i + 1
abbrev pub entry_of : ℕ → ℕ
entry_of function = 2 * function

abbrev pub exit_of : ℕ → ℕ
exit_of function = 2 * function + 1

-- ---- what things are made within

-- within a statement
abbrev pub stated : Around → Span → StatementKind → Around
stated u span kind = record u { span = span; statement = kind }

-- within a loop
abbrev pub inside : Around → ℕ → ℕ → Around
inside u on_break on_continue = record u { depth = u.depth + 1; on_break = on_break; on_continue = on_continue }

-- within a `switch`
abbrev pub within : Around → ℕ → Around
within u on_break = record u { on_break = on_break }

-- within the condition of a decision that leads to one of two nodes
abbrev pub deciding : Around → ℕ → ℕ → Around
deciding u t f = record u { decision = Some (t, f) }

-- what is seen behind declarations, which hide those of their names further out
abbrev pub sees_behind : Around → List Variable → Scope
sees_behind u vs = record { variables = vs ++ u.sees.variables }

-- behind declarations a new scope begins
abbrev pub scope_behind : Around → List Variable → Builder
scope_behind u [] = in_order []
scope_behind u (v ∷ vs) = scope (sees_behind u (v ∷ vs))

abbrev pub number_behind : ℕ → List Variable → ℕ → ℕ
number_behind outer [] k = outer
number_behind outer (v ∷ vs) k = k

-- behind declarations, by the number of the next scope
abbrev pub seeing : Around → List Variable → ℕ → Around
seeing u vs k = record u { scope = number_behind u.scope vs k; sees = sees_behind u vs }

-- ---- nodes

-- a node on the line of a token
abbrev pub node_at : Around → Span → Node
node_at u span = record { function = u.function; file = span.file; line = span.line; scope = u.scope; depth = u.depth }

-- a node on the line of the innermost statement
abbrev pub node_here : Around → Builder
node_here u = node (node_at u u.span)

-- ---- edges

-- an edge of the innermost statement, with its operation and the names that this writes and reads
abbrev pub edge_of : Around → Operation → List (List ℕ) → List (List ℕ) → ℕ → ℕ → Edge
edge_of u op writes reads a z = record {
  source = a;
  target = z;
  function = u.function;
  operation = op;
  span = u.span;
  statement = u.statement;
  decision = is_some u.decision;
  outcome = false;
  label = None;
  writes = writes;
  reads = reads;
  enter = false;
  back = false;
}

abbrev pub step : Around → Operation → List (List ℕ) → List (List ℕ) → ℕ → ℕ → Builder
step u op writes reads a z = edge (edge_of u op writes reads a z)

abbrev pub skip : Around → ℕ → ℕ → Builder
skip u a z = step u Skip [] [] a z

-- the edge behind a label
abbrev pub label_edge : Around → List ℕ → ℕ → ℕ → Builder
label_edge u name a z = edge (record (edge_of u Skip [] [] a z) { label = Some name })

-- the edge that enters a loop
abbrev pub enter_edge : Around → ℕ → ℕ → Builder
enter_edge u a z = edge (record (edge_of u Skip [] [] a z) { enter = true })

-- the edge that leads back to a loop's head
abbrev pub back_edge : Around → ℕ → ℕ → Builder
back_edge u a z = edge (record (edge_of u Skip [] [] a z) { back = true })

-- a value is put into a temporary, which has no name
abbrev pub put : Around → ℕ → Expr → List (List ℕ) → ℕ → ℕ → Builder
put u cell value reads a z = step u (Assign (place.Local cell) value) [] reads a z

-- the node is one of the two that the innermost decision leads to
abbrev pub decides : Option (ℕ × ℕ) → ℕ → Bool
decides None z = false
decides (Some ends) z = z == ends.0 || z == ends.1

-- a guard, with the place of the first token of what it tests
abbrev pub guard : Around → Span → Expr → List (List ℕ) → Bool → ℕ → ℕ → Builder
guard u span test reads truth a z = edge (record (edge_of u (Guard test truth) [] reads a z) { span = span; outcome = decides u.decision z })

-- the two guards of a test, that of truth first
abbrev pub guards : Around → Span → Expr → List (List ℕ) → ℕ → ℕ → ℕ → Builder
guards u span test reads a t f = numbered (λ n e k. guard u span test reads true a t ∷ guard u span test reads false a f ∷ [])
