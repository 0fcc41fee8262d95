use Rattle.goal_formula_laws.proofs.formula_laws.Orders.{lower_is_before}
use Rattle.goal_formula_laws.proofs.formula_laws.laws.lower_is_before.Goals as goal

pub returns : goal.returns
returns c = lower_is_before
