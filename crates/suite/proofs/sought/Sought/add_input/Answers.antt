use Rattle.std.proofs.Common.{sym, subst}
use Rattle.measurer_hits.specs.hits.Hits.{path_in}
use Rattle.path_runner.specs.declared.path.PathRecord.{PathRecord}
use Rattle.patterns.specs.Paths.{IsPath}
use Rattle.suite.proofs.Models.{has_made, record_is_path}
use Rattle.suite.proofs.sought.Sought.add_input.Goals as goal

pub run_of-requires : goal.run_of-requires
run_of-requires c =
    let g = c.args.self.now.goal.given.now in
    let e = g.planned.entry in
    let made = c.requires.1 in
    has_made e.graph.now g.planned.predicates e.function.now g.bounds g.ends c.args.input made.run e.startable made.made

pub add-requires-clause-path : goal.add-requires-clause-path
add-requires-clause-path c =
    let g = c.args.self.now.goal.given.now in
    let made = c.requires.1 in
    subst (λ (path : PathRecord). IsPath (path_in path)) (sym (c.in_ok-run.ensures made.run made.made.is_run)) (record_is_path g.planned.entry.graph.now c.args.input g.planned.predicates made.run)
