use Rattle.std.specs.Prelude.{slice_get}
use Rattle.path_runner.proofs.Records.{traced}
use Rattle.path_runner.proofs.running.trace_run.Goals as goal

pub returns-clause-states : goal.returns-clause-states
returns-clause-states c =
    let parts = c.args.graph.now in
    traced parts c.args.input.now c.args.predicates.now c.args.limit c.run_from.result (slice_get parts.functions c.args.entry) c.in_ok-first.first c.in_ok-first.ensures.start c.run_from.ensures
