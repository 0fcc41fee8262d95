use Rattle.goal_formula_laws.proofs.formula_laws.Rows.{highest_bit_of_rows}
use Rattle.goal_formula_laws.proofs.formula_laws.laws.highest_bit_of_rows.Goals as goal

pub returns : goal.returns
returns c = highest_bit_of_rows
