-- The edges of an expression tell what happens in it.
use Rattle.std.specs.Prelude.{ℕ, IsTrue}
use Rattle.std.specs.List.{AllByRecursion}
use Rattle.c_typed_trees.specs.declared.expression.TypedExpr.{TypedExpr}
use Rattle.c_typed_trees.specs.Fitting.{expression_fits}
use Rattle.c_lower_rules.specs.graph_of.Expressions.{value_of}
use Rattle.tree_meaning_laws.specs.temporaries_apart.Named.{Ascend, IsBelow, named}
use Rattle.tree_events.specs.Calls.{Calls}
use Rattle.tree_events.specs.Trees.{telling}
use Rattle.tree_meaning_laws.specs.expression_laws.Contexts.{Context, IsContext, Held, Proper, Clear, names_of, own_activation}
use Rattle.tree_events_laws.specs.expression_events.Flows.{Does, CallsDo}

-- In each function that runs, an expression that fits, whose temporaries are free, is made into nodes and edges along which
-- the run does what the expression means, and the edges tell what happens in it, where it is so of calls.
abbrev pub ExpressionsTell : Type 0
ExpressionsTell =
    (c : Context) (calls : Calls) (ho : Held) (low high : ℕ) (x : TypedExpr)
    → IsContext c → CallsDo c calls → Proper c ho → Clear c ho low high
    → Ascend low high (named x).temporaries → AllByRecursion (IsBelow c.locals) (named x).variables → IsTrue (expression_fits (names_of c) x)
    → Does c ho low high (λ at. telling c.typed calls (own_activation c) at x) (value_of x)
