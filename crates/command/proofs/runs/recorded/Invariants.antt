use Rattle.std.proofs.Common.{◌≡◌, ◌≤◌, map, take}
use Rattle.command.specs.RunList.{edges_in, ending, most_listed}
use Rattle.command.specs.Runs.{no_predicates, runs_of}
use Rattle.command.proofs.runs.recorded.Given as goal

abbrev pub invariant-loop-input : goal.invariant-loop-input
invariant-loop-input l = record {
  few : l.listed ≤ most_listed;
  listed : l.listed ≡ edges_in (runs_of l.starts.entry.graph.now l.starts.entry.function.now no_predicates l.steps (take l.input-index l.starts.inputs.now));
  runs : l.runs.items ≡ map ending (runs_of l.starts.entry.graph.now l.starts.entry.function.now no_predicates l.steps (take l.input-index l.starts.inputs.now));
}
