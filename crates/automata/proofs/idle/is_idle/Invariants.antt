use Rattle.std.proofs.Common.{take}
use Rattle.automata.specs.Passing.{Silent}
use Rattle.automata.proofs.idle.is_idle.Given as goal

abbrev pub invariant-loop-mark : goal.invariant-loop-mark
invariant-loop-mark g l = Silent g.T.Truth.holds l.truth (take l.mark-index l.marks)
