use Rattle.std.proofs.Common.{take}
use Rattle.cfa.specs.Names.{AreFirstNumbers}
use Rattle.cfa.proofs.names.first_numbers.Given as goal

abbrev pub invariant-loop-i : goal.invariant-loop-i
invariant-loop-i l = AreFirstNumbers (take l.i l.parts.functions) l.names
