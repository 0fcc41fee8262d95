use Rattle.goal_formula_laws.proofs.unwound_laws.Leaving.{none_has_ended}
use Rattle.goal_formula_laws.proofs.unwound_laws.none_has_ended.Goals as goal

pub returns : goal.returns
returns c = none_has_ended
