use Rattle.predicates.proofs.OneOutcome.{accepts, fits, refuses}
use Rattle.predicates.proofs.resolving.resolve.Goals as goal

pub returns-clause-accepts : goal.returns-clause-accepts
returns-clause-accepts c =
    accepts c.args.graph.now c.args.query.now.predicates (c.one_outcome.ensures c.args.graph.now c.args.query.now.predicates) c.predicates_of.result c.predicates_of.ensures

pub returns-clause-refuses : goal.returns-clause-refuses
returns-clause-refuses c =
    refuses c.args.graph.now c.args.query.now.predicates (c.one_outcome.ensures c.args.graph.now c.args.query.now.predicates) c.predicates_of.result c.predicates_of.ensures

pub returns-clause-fits : goal.returns-clause-fits
returns-clause-fits c = fits c.predicates_fit.ensures c.args.graph.now c.args.query.now.predicates c.predicates_of.result c.well_formed-2.ensures c.predicates_of.ensures
