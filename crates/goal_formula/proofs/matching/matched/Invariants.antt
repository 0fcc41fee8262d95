use Rattle.automata.specs.Standing.{gates_of}
use Rattle.goal_formula.proofs.Taken.{IsTakenTo}
use Rattle.goal_formula.proofs.matching.matched.Given as goal

abbrev pub invariant-loop-at : goal.invariant-loop-at
invariant-loop-at l = IsTakenTo (gates_of l.nfa) l.fn.circuit l.circuit l.nfa l.reach l.entries l.at
