use Rattle.std.proofs.Common.{take}
use Rattle.std.specs.List.{AllZip}
use Rattle.c_values.specs.Kind.{IsValue}
use Rattle.suite.proofs.candidates.row.Candidates.words.Given as goal

abbrev pub invariant-loop-slot : goal.invariant-loop-slot
invariant-loop-slot l = AllZip IsValue (take l.slot l.kinds) l.words
