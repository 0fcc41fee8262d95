use Rattle.goal_formula.proofs.Rooms.{variables_are_few_law}
use Rattle.goal_formula.proofs.laws.variables_are_few.Goals as goal

pub returns : goal.returns
returns c = variables_are_few_law
