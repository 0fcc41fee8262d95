use Rattle.goal_formula_laws.proofs.formula_laws.Units.{units_keep}
use Rattle.goal_formula_laws.proofs.formula_laws.laws.units_keep.Goals as goal

pub returns : goal.returns
returns c = units_keep
