use Rattle.std.proofs.Common.{◌≡◌, ◌++◌}
use Rattle.std.specs.Prelude.{slice_get}
use Rattle.std.specs.Option.{IsSomeAnd}
use Rattle.trace_file.proofs.RunLaws.{AreTraces}
use Rattle.trace_file.proofs.runs.traces_of.Given as goal

abbrev pub invariant-loop-line : goal.invariant-loop-line
invariant-loop-line l = record {
  each : IsSomeAnd (slice_get l.graph.functions l.entry) (AreTraces l.graph l.predicates l.ends l.yielded l.traces.items);
  all : l.fn.lines.items ≡ l.yielded ++ l.line-iterator.rest.items;
}
