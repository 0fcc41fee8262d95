use Rattle.std.proofs.Common.{◌≡◌}
use Rattle.unwinder.specs.Progress.{begun}
use Rattle.unwinder.proofs.unwinding.agenda_of.Given as goal

abbrev pub invariant-loop-other : goal.invariant-loop-other
invariant-loop-other l = l.agenda.items ≡ begun l.fn.first l._other
