use Rattle.std.proofs.Common.{◌≡◌, drop}
use Rattle.goal_formula.specs.Bits.{assignment, number_in}
use Rattle.goal_formula.proofs.model.number_of.Given as goal

abbrev pub invariant-loop-place : goal.invariant-loop-place
invariant-loop-place l = l.number ≡ number_in (assignment l.model) (drop l.place l.row)
