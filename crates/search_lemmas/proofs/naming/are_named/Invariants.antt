use Rattle.std.proofs.Common.{take}
use Rattle.search_lemmas.specs.Naming.{AreNamed}
use Rattle.search_lemmas.proofs.naming.are_named.Given as goal

abbrev pub invariant-loop-at : goal.invariant-loop-at
invariant-loop-at l = AreNamed l.table (take l.at l.literals) (take l.at l.others)
