use Rattle.unwinder.proofs.Merges.{ChosenSoFar}
use Rattle.unwinder.proofs.merging.chosen.Given as goal

abbrev pub invariant-loop-i : goal.invariant-loop-i
invariant-loop-i l = ChosenSoFar l.initial.circuit l.circuit l.test l.yes.cells l.initial.no.cells l.no.cells l.i
