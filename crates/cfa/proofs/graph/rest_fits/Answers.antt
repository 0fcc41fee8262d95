use Rattle.std.proofs.Common.{arith}
use Rattle.cfa.proofs.graph.rest_fits.Goals as goal

pub returns_fit-requires : goal.returns_fit-requires
returns_fit-requires c = c.functions_fit.ensures.0 c.if-not-functions_fit.false

pub ways_fit-requires-clause-functions : goal.ways_fit-requires-clause-functions
ways_fit-requires-clause-functions c = c.functions_fit.ensures.0 c.if-not-functions_fit.false

pub returns : goal.returns
returns c = (
  λ t. record {
    nodes = c.nodes_fit.ensures.0 c.if-not-nodes_fit.false;
    functions = c.functions_fit.ensures.0 c.if-not-functions_fit.false;
    inputs = c.inputs_fit.ensures.0 c.if-not-inputs_fit.false;
    global_kinds = c.global_kinds_fit.ensures.0 c.if-not-global_kinds_fit.false;
    globals = omega arith;
    scopes = c.scopes_fit.ensures.0 c.if-not-scopes_fit.false;
    variables = c.in_ok-fit.ensures.0 t;
    returns = c.returns_fit.ensures.0 c.if-not-returns_fit.false;
    ways = c.ways_fit.ensures.0 c.if-not-ways_fit.false;
  },
  λ rest. c.in_ok-fit.ensures.1 rest.variables,
)
