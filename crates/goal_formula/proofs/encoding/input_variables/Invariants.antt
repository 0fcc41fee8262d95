use Rattle.goal_formula.specs.Parts.{AreInputVariables}
use Rattle.goal_formula.proofs.encoding.input_variables.Given as goal

abbrev pub invariant-loop-place : goal.invariant-loop-place
invariant-loop-place l = AreInputVariables l.circuit l.variable l.place l.bits.items
