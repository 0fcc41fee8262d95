use Rattle.std.proofs.Common.{take}
use Rattle.search_lemmas.specs.Naming.{AreNamed}
use Rattle.search_lemmas.proofs.naming.all_named.Given as goal

abbrev pub invariant-loop-literal : goal.invariant-loop-literal
invariant-loop-literal l = AreNamed l.table (take l.literal-index l.literals) l.others.items
