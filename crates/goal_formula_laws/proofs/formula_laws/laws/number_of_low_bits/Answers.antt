use Rattle.goal_formula_laws.proofs.formula_laws.Rows.{number_of_low_bits}
use Rattle.goal_formula_laws.proofs.formula_laws.laws.number_of_low_bits.Goals as goal

pub returns : goal.returns
returns c = number_of_low_bits
