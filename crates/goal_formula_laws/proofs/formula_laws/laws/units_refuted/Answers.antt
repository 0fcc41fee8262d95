use Rattle.goal_formula_laws.proofs.formula_laws.Units.{units_refuted}
use Rattle.goal_formula_laws.proofs.formula_laws.laws.units_refuted.Goals as goal

pub returns : goal.returns
returns c = units_refuted
