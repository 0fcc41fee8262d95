use Rattle.filters.proofs.BlocksLaws.{read_at}
use Rattle.filters.proofs.blocks.ends_at.Goals as goal

pub returns-clause-source : goal.returns-clause-source
returns-clause-source c = (c.well_formed-2.ensures.edges c.args.edge c.index-edges-edge.result (read_at _ _ c.edges.ensures c.args.edge c.index-edges-edge.result c.requires c.index-edges-edge.is)).source

pub returns-clause-target : goal.returns-clause-target
returns-clause-target c = (c.well_formed-2.ensures.edges c.args.edge c.index-edges-edge.result (read_at _ _ c.edges.ensures c.args.edge c.index-edges-edge.result c.requires c.index-edges-edge.is)).target
