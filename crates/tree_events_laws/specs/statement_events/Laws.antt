-- The edges of a statement tell what happens in it.
use Rattle.std.specs.Prelude.{ℕ, IsTrue}
use Rattle.std.specs.List.{AllByRecursion}
use Rattle.c_typed_trees.specs.declared.statement.TypedStatement.{TypedStatement}
use Rattle.c_typed_trees.specs.Fitting.{statement_fits}
use Rattle.c_lower_rules.specs.graph_of.Table.{lowered}
use Rattle.tree_meaning_laws.specs.temporaries_apart.Named.{Ascend, IsBelow, statement_named}
use Rattle.tree_events.specs.Calls.{Calls}
use Rattle.tree_events.specs.Trees.{does}
use Rattle.tree_meaning_laws.specs.expression_laws.Contexts.{Context, IsContext, Held, Proper, Clear, names_of, own_activation}
use Rattle.tree_events_laws.specs.expression_events.Flows.{CallsDo}
use Rattle.tree_meaning_laws.specs.statement_laws.Steps.{stepping}
use Rattle.tree_events_laws.specs.statement_events.Simulates.{Simulates}

-- In each function that runs, a statement that fits, whose temporaries are free, is made into nodes and edges along which the
-- run does what the statement means, and the edges tell what happens in it, where it is so of calls.
abbrev pub StatementsTell : Type 0
StatementsTell =
    (c : Context) (calls : Calls) (ho : Held) (low high : ℕ) (s : TypedStatement)
    → IsContext c → CallsDo c calls → Proper c ho → Clear c ho low high
    → Ascend low high (statement_named s).temporaries → AllByRecursion (IsBelow c.locals) (statement_named s).variables
    → IsTrue (statement_fits (names_of c) s) → IsTrue (stepping s).steps
    → Simulates c ho (does c.typed calls (own_activation c) s) (lowered s)
