use Rattle.filters.proofs.PartsLaws.{joined_is}
use Rattle.filters.proofs.kept.joined.Goals as goal

pub returns-clause-kept : goal.returns-clause-kept
returns-clause-kept c = joined_is c.args.combination (record { nodes = c.in_ok-nodes.nodes; edges = c.in_ok-edges.edges }) c.args.a.now c.args.b.now _ _ _ _ c.deref.ensures.value c.deref-2.ensures.value c.deref-3.ensures.value c.deref-4.ensures.value c.in_ok-nodes.ensures.each c.in_ok-edges.ensures.each
