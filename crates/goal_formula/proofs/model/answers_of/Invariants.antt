use Rattle.std.proofs.Common.{◌≡◌, map, take}
use Rattle.goal_formula.specs.Bits.{assignment, number_in}
use Rattle.goal_formula.proofs.model.answers_of.Given as goal

abbrev pub invariant-loop-row : goal.invariant-loop-row
invariant-loop-row l = l.answers ≡ map (number_in (assignment l.model)) (take l.row-index l.rows)
