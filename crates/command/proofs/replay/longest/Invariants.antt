use Rattle.std.proofs.Common.{◌≡◌, ◌+◌, ◌<◌, ◌^◌, drop}
use Rattle.std.specs.Prelude.{max}
use Rattle.command.specs.TraceFile.{longest}
use Rattle.command.proofs.replay.longest.Given as goal

abbrev pub invariant-loop-trace : goal.invariant-loop-trace
invariant-loop-trace l = (max l.most (longest (drop l.trace-index l.traces)) ≡ longest l.traces) × (l.most + 1 < 2 ^ 64)
