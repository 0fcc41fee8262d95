use Rattle.bounds_check.proofs.Short.{derivations_suffice_law}
use Rattle.bounds_check.proofs.laws.derivations_suffice.Goals as goal

pub returns : goal.returns
returns c = derivations_suffice_law
