use Rattle.std.proofs.Common.{◌≡◌, take, map}
use Rattle.unwinder.specs.Agenda.{entry_at}
use Rattle.unwinder.proofs.taking.entries_of.Given as goal

abbrev pub invariant-loop-arrival : goal.invariant-loop-arrival
invariant-loop-arrival l = l.entries ≡ map (entry_at l.node l.predicates l.end) (take l.arrival-index l.row)
