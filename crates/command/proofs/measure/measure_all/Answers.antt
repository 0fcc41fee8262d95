use Rattle.std.proofs.Common.{sym, subst, ◌∙◌, ap}
use Rattle.path_runner.specs.declared.path.PathRecord.{PathRecord}
use Rattle.patterns.specs.Paths.{IsPath}
use Rattle.measurer_hits.specs.hits.Hits.{path_in}
use Rattle.command.specs.Runs.{run_of}
use Rattle.command.proofs.MeasureLaws.{ends_more, hits_more, run_is_path}
use Rattle.command.proofs.measure.measure_all.Goals as goal

pub add-requires-clause-path : goal.add-requires-clause-path
add-requires-clause-path c =
    subst (λ (r : PathRecord). IsPath (path_in r)) (sym c.in_ok-run.ensures)
    (run_is_path c.args.planned.now.entry.graph.now c.args.planned.now.entry.function.now c.args.planned.now.predicates c.args.steps.edges c.input-item.result)

pub loop-input-preserved : goal.loop-input-preserved
loop-input-preserved c =
    let is = c.in_ok-run.ensures ∙ ap (run_of c.args.planned.now.entry.graph.now c.args.planned.now.entry.function.now c.args.planned.now.predicates c.args.steps.edges) c.input-item.is in
    let new = c.in_ok-add.ensures.hits in
    record {
      ends =
          ends_more c.args.planned.now.entry.graph.now c.args.planned.now.entry.function.now c.args.planned.now.predicates c.args.steps.edges c.args.inputs.now c.loop-input.input-index _
          c.loop-input-test.true _ _ c.in_ok-run.run' c.in_ok-push.ensures.items is c.loop-input.invariant.ends;
      plan = c.in_ok-add.ensures.plan;
      hits =
          hits_more c.args.planned.now.entry.graph.now c.args.planned.now.entry.function.now c.args.planned.now.predicates c.args.steps.edges c.args.inputs.now c.loop-input.input-index _
          c.loop-input-test.true c.args.planned.now.plan c.args.ends _ _ c.in_ok-run.run' new.0 new.1.0 is new.1.1 c.loop-input.invariant.hits;
    }
