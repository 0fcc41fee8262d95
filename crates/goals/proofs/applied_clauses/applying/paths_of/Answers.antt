use Rattle.std.proofs.Common.{subst}
use Rattle.filters.specs.declared.target_graph.TargetGraph.{TargetGraph}
use Rattle.goals.specs.applied_clauses.Outcome.{IsClauseOutcome}
use Rattle.goals.specs.applied_clauses.Trees.{paths}
use Rattle.filters_paths.specs.Paths.{paths_of}
use Rattle.goals.proofs.applied_clauses.applying.paths_of.Goals as goal

pub returns : goal.returns
returns c = let P : TargetGraph → Type 0 = λ t. IsClauseOutcome (paths (paths_of c.args.graph.now t c.args.k)) c.paths_over.result in subst P c.in_ok-target.ensures.kept c.paths_over.ensures
