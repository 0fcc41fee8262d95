use Rattle.goal_formula.proofs.Ends.{EndsSoFar}
use Rattle.bounds_check.proofs.staying.some_ended.Given as goal

abbrev pub invariant-loop-entry : goal.invariant-loop-entry
invariant-loop-entry l = EndsSoFar l.initial.circuit l.circuit l.entries l.some l.entry-index
