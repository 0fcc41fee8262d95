use Rattle.std.proofs.Common.{◌≡◌, ◌++◌}
use Rattle.command.specs.TraceFile.{inputs_in}
use Rattle.command.proofs.replay.inputs_in.Given as goal

abbrev pub invariant-loop-trace : goal.invariant-loop-trace
invariant-loop-trace l = l.inputs.items ++ inputs_in l.trace-iterator.rest.items ≡ inputs_in l.fn.traces.items
