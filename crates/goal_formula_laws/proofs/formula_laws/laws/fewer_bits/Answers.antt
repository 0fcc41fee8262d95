use Rattle.goal_formula_laws.proofs.formula_laws.Orders.{fewer_bits}
use Rattle.goal_formula_laws.proofs.formula_laws.laws.fewer_bits.Goals as goal

pub returns : goal.returns
returns c = fewer_bits
