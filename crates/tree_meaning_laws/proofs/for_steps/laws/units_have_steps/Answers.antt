use Rattle.tree_meaning_laws.proofs.for_steps.Typed.{units_have_steps}
use Rattle.tree_meaning_laws.proofs.for_steps.laws.units_have_steps.Goals as goal

pub returns : goal.returns
returns c = units_have_steps
