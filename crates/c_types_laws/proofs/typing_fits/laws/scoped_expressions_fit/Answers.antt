use Rattle.c_types_laws.proofs.typing_fits.Scoped.{scoped_meets}
use Rattle.c_types_laws.proofs.typing_fits.laws.scoped_expressions_fit.Goals as goal

pub returns : goal.returns
returns c = scoped_meets
