use Rattle.std.proofs.Common.{All, take}
use Rattle.trace_file.proofs.PartLaws.{IsOtherBehind}
use Rattle.trace_file.proofs.parts.cut_at.Given as goal

abbrev pub invariant-loop-at : goal.invariant-loop-at
invariant-loop-at l = All (IsOtherBehind l.mark) (take l.at l.parts)
