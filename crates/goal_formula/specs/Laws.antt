-- What follows from the limits.
use Rattle.std.specs.Prelude.{◌≡◌, ℕ, ◌+◌, ◌*◌, ◌<◌, ◌≤◌, ◌^◌, List, length, Some, slice_get}
use Rattle.cfa.specs.Contexts.{Pair}
use Rattle.cfa.specs.Graph.{IsGraph}
use Rattle.cfa.specs.Predicates.{IsPredicates}
use Rattle.cfa.specs.declared.parts.Function.{Function}
use Rattle.cfa.specs.declared.parts.GraphParts.{GraphParts}
use Rattle.cfa.specs.declared.state.Predicates.{Predicates}
use Rattle.goals.specs.GoalForm.{GoalForm}
use Rattle.goals.specs.declared.plan.Plan.{Plan}
use Rattle.unwinder_reach.specs.declared.reached.bounds.Bounds.{Bounds}
use Rattle.unwinder_reach.specs.declared.reached.step.Step.{Step}
use Rattle.unwinder.specs.Unwinding.{IsUnwound}
use Rattle.unwinder.specs.declared.unwound.Unwound.{Unwound}
use Rattle.unwinder_reach.specs.unwinding_size.Sizes.{size_sum}
use Rattle.goal_formula.specs.Exact.{most_variables}
use Rattle.goal_formula.specs.Sizes.{goal_size}

-- within the limits on the pairs that are reached, on their size sum and on the size of a goal, the most variables are fewer
-- than 2^30
abbrev pub VariablesAreFew : Type 0
VariablesAreFew =
    (parts : GraphParts) (predicates : Predicates) (entry : ℕ) (f : Function) (bounds : Bounds) (plan : Plan) (goal : GoalForm) (pairs : List Pair) (steps : List (List Step))
    → IsGraph parts → IsPredicates parts predicates → slice_get parts.functions entry ≡ Some f → bounds.answers ≤ 256
    → length pairs ≤ 50000 → size_sum parts predicates f pairs steps ≤ 4194304 → goal_size plan goal (length pairs) ≤ 8388608
    → most_variables parts predicates f bounds plan goal pairs steps < 2 ^ 30

-- the circuit of an unwinding has room for 48 gates for each unit of the greatest size of a goal
abbrev pub UnwindingsLeaveRoom : Type 0
UnwindingsLeaveRoom =
    (parts : GraphParts) (predicates : Predicates) (f : Function) (u : Unwound)
    → IsGraph parts → IsPredicates parts predicates → slice_get parts.functions u.entry ≡ Some f → IsUnwound parts predicates f u.entry u.bounds u.ends u
    → length u.circuit + 48 * 8388608 < 2 ^ 30
