use Rattle.filters_paths.proofs.BorderLaws.{read_within}
use Rattle.filters_paths.proofs.edge_ends.target_of.Goals as goal

pub returns-clause-node : goal.returns-clause-node
returns-clause-node c = (c.well_formed-2.ensures.edges c.args.edge c.index-edges-edge.result (read_within _ _ c.edges.ensures c.args.edge c.index-edges-edge.result c.requires c.index-edges-edge.is)).target
