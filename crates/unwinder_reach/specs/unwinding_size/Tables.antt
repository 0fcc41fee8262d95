-- What the tables are from which pairs are weighed.
use Rattle.std.specs.Prelude.{◌≡◌, ℕ, ◌<◌, List, length, slice_index}
use Rattle.cfa.specs.declared.parts.GraphParts.{GraphParts}
use Rattle.cfa.specs.declared.state.Predicates.{Predicates}
use Rattle.unwinder_reach.specs.declared.reached.step.Step.{Step}
use Rattle.unwinder_reach.specs.declared.unwinding_size.pairs.Tables.{Tables}
use Rattle.unwinder_reach.specs.unwinding_size.Capped.{capped}
use Rattle.unwinder_reach.specs.unwinding_size.Sizes.{scope_weight, steps_into}
use Rattle.sym_expr.specs.Weights.{operations_weight}

-- weights by node and by scope, and how many steps lead to each of so many pairs, all as they are counted
pub record AreTables (parts : GraphParts) (predicates : Predicates) (pairs : ℕ) (steps : List (List Step)) (t : Tables) : Type 0 where
  pub operations : (node : ℕ) → slice_index t.operations.items node ≡ capped (operations_weight parts node)
  pub scopes : (scope : ℕ) → scope < length parts.scopes → slice_index t.scopes.items scope ≡ capped (scope_weight predicates scope)
  pub arrivals : (i : ℕ) → i < pairs → slice_index t.arrivals.items i ≡ capped (steps_into steps i)
