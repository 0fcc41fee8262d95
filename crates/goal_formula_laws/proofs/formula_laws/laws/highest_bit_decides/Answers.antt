use Rattle.goal_formula_laws.proofs.formula_laws.Rows.{highest_bit_decides}
use Rattle.goal_formula_laws.proofs.formula_laws.laws.highest_bit_decides.Goals as goal

pub returns : goal.returns
returns c = highest_bit_decides
