use Rattle.goal_formula_laws.proofs.formula_laws.Units.{units_hold}
use Rattle.goal_formula_laws.proofs.formula_laws.laws.units_hold.Goals as goal

pub returns : goal.returns
returns c = units_hold
