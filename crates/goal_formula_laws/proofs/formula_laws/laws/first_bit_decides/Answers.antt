use Rattle.goal_formula_laws.proofs.formula_laws.Orders.{first_bit_decides}
use Rattle.goal_formula_laws.proofs.formula_laws.laws.first_bit_decides.Goals as goal

pub returns : goal.returns
returns c = first_bit_decides
