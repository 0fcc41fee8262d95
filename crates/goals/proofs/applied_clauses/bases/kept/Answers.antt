use Rattle.goals.proofs.applied_clauses.Numbers.{target_is}
use Rattle.goals.proofs.applied_clauses.bases.kept.Goals as goal

pub returns-clause-kept : goal.returns-clause-kept
returns-clause-kept c = target_is c.args.graph.now _ c.in_ok-target.target c.as_slice-nodes.ensures.rise c.as_slice-edges.ensures.rise c.in_ok-target.ensures.within c.in_ok-target.ensures.part
