use Rattle.std.proofs.Common.{take}
use Rattle.cnf.proofs.ClauseLaws.{RisesTo}
use Rattle.search_lemmas.proofs.naming.do_rise.Given as goal

abbrev pub invariant-loop-literal : goal.invariant-loop-literal
invariant-loop-literal l = RisesTo 0 (take l.literal-index l.literals) l.low
