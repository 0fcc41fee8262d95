use Rattle.std.proofs.Common.{◌≡◌, take}
use Rattle.measurer.specs.Measurers.{IsMadeFor, hits_of}
use Rattle.command.specs.Measure.{AreAllHits}
use Rattle.command.specs.Runs.{ends_of, runs_of}
use Rattle.command.proofs.measure.measure_all.Given as goal

abbrev pub invariant-loop-input : goal.invariant-loop-input
invariant-loop-input l = record {
  ends : l.run_ends.items ≡ ends_of (runs_of l.planned.entry.graph.now l.planned.entry.function.now l.planned.predicates l.steps.edges (take l.input-index l.inputs));
  plan : IsMadeFor l.planned.plan l.measurer;
  hits : AreAllHits l.planned.plan l.fn.ends (runs_of l.planned.entry.graph.now l.planned.entry.function.now l.planned.predicates l.steps.edges (take l.input-index l.inputs)) (hits_of l.measurer);
}
