use Rattle.goal_formula_laws.proofs.formula_laws.Rows.{low_bits_of_number}
use Rattle.goal_formula_laws.proofs.formula_laws.laws.low_bits_of_number.Goals as goal

pub returns : goal.returns
returns c = low_bits_of_number
