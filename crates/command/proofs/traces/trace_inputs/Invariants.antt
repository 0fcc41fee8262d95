use Rattle.std.proofs.Common.{◌≡◌, ◌≤◌, ◌++◌}
use Rattle.command.specs.RunList.{edges_in, most_listed}
use Rattle.command.specs.Runs.{no_predicates, runs_of}
use Rattle.command.specs.Traces.{traces_of}
use Rattle.command.proofs.traces.trace_inputs.Given as goal

abbrev pub invariant-loop-input : goal.invariant-loop-input
invariant-loop-input l = record {
  all : l.fn.inputs.items ≡ l.yielded ++ l.input-iterator.rest.items;
  few : l.listed ≤ most_listed;
  listed : l.listed ≡ edges_in (runs_of l.entry.graph.now l.entry.function.now no_predicates l.steps l.yielded);
  traces : l.traces.items ≡ traces_of l.entry.graph.now l.entry.function.now l.ends l.steps l.yielded;
}
