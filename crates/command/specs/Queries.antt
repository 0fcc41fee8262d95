-- The query that the words give: its predicates and its goals over an automaton, or why it is refused.
use Rattle.std.specs.Prelude.{◌≡◌, ℕ, List, None, Some}
use Rattle.fq_core.specs.declared.refusal.Refusal.{Refusal}
use Rattle.cfa.specs.declared.parts.GraphParts.{GraphParts}
use Rattle.cfa.specs.declared.state.Predicates.{Predicates}
use Rattle.fql_read.specs.Asks.{Asks, IsRefusedQuery}
use Rattle.fql_read.specs.declared.query.Query.{Query}
use Rattle.predicates.specs.Outcome.{ArePredicatesOf}
use Rattle.predicates.specs.Outcome as predicates
use Rattle.goals.specs.Plans.{causes, cover_tree, first_cause, passing_tree, plan_with}
use Rattle.goals.specs.declared.plan.Plan.{Plan}

-- the bytes ask for a query that has these predicates and this plan over the automaton
pub record IsPlanned (graph : GraphParts) (bytes : List ℕ) (p : Predicates) (plan : Plan) : Type 0 where
  pub query : Query
  pub asked : Asks bytes query
  pub predicates : ArePredicatesOf graph query.predicates p
  pub no_cause : first_cause (causes graph query) ≡ None
  pub is : plan ≡ plan_with query (cover_tree graph query) (passing_tree graph query)

-- The bytes are refused: they ask for no query, its predicates are refused, or its goals are.
pub data IsRefused (graph : GraphParts) (bytes : List ℕ) (refusal : Refusal) : Type 0 where
  at_query : IsRefusedQuery bytes refusal.code refusal.place → IsRefused graph bytes refusal
  at_predicates : (query : Query) → Asks bytes query → predicates.IsRefused graph query.predicates refusal.code refusal.place → IsRefused graph bytes refusal
  at_goals : (query : Query) (p : Predicates) → Asks bytes query → ArePredicatesOf graph query.predicates p → first_cause (causes graph query) ≡ Some refusal
      → IsRefused graph bytes refusal
