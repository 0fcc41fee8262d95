-- Why a query is refused.
use Rattle.std.proofs.Common.{ℕ, List, refl}
use Rattle.std.specs.Prelude.{Result, Err, IsErrOf}
use Rattle.fq_core.specs.Refusals.{IfRefused, refusal}
use Rattle.fq_core.specs.declared.refusal.Fault.{Fault}
use Rattle.fq_core.specs.declared.refusal.Fault.TheVariants as fault
use Rattle.fq_core.specs.declared.refusal.Place.{Place}
use Rattle.cfa.specs.declared.parts.GraphParts.{GraphParts}
use Rattle.cfa.specs.declared.state.Predicates.{Predicates}
use Rattle.fql_read.specs.Asks.{Asks, IsRefusedQuery}
use Rattle.fql_read.specs.declared.query.Query.{Query}
use Rattle.predicates.specs.Outcome.{ArePredicatesOf, IsOutcome}
use Rattle.goals.specs.Plans.{IsPlanOutcome}
use Rattle.command.specs.Queries.{IsRefused, at_goals, at_predicates, at_query}

module _ (graph : GraphParts) (bytes : List ℕ) where
  abbrev failed : {T : Type 0} → Fault → Result T Fault
  failed e = Err e

  pub no_query : (e : Fault) → ((code : ℕ) (p : Place) → IsErrOf (failed {T = Query} e) (refusal code p) → IsRefusedQuery bytes code p) → IfRefused e (IsRefused graph bytes)
  no_query (fault.Refused r) cause = at_query (cause r.code r.place refl)
  no_query fault.Memory cause = tt

  module _ (query : Query) (asked : Asks bytes query) where
    pub no_predicates : (e : Fault) → IsOutcome graph query.predicates (failed e) → IfRefused e (IsRefused graph bytes)
    no_predicates (fault.Refused r) cause = at_predicates query asked cause
    no_predicates fault.Memory cause = tt

    pub no_plan : (p : Predicates) → ArePredicatesOf graph query.predicates p → (e : Fault) → IsPlanOutcome graph query (failed e) → IfRefused e (IsRefused graph bytes)
    no_plan p are (fault.Refused r) cause = at_goals query p asked are cause
    no_plan p are fault.Memory cause = tt
