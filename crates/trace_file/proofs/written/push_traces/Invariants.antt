use Rattle.std.proofs.Common.{◌≡◌, ◌++◌, drop}
use Rattle.std.specs.List.{flat_map}
use Rattle.trace_file.specs.Written.{trace_line}
use Rattle.trace_file.proofs.written.push_traces.Given as goal

abbrev pub invariant-loop-trace : goal.invariant-loop-trace
invariant-loop-trace l =
    l.text.items ++ flat_map (trace_line l.kinds) (drop l.trace-index l.traces) ≡ l.initial.text.items ++ flat_map (trace_line l.kinds) l.traces
