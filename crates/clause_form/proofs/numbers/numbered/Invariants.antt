use Rattle.clause_form.proofs.NumberLaws.{AreNumbered}
use Rattle.clause_form.proofs.numbers.numbered.Given as goal

abbrev pub invariant-loop-marked : goal.invariant-loop-marked
invariant-loop-marked l = AreNumbered l.marks l.marked-index l.variable.items l.count
