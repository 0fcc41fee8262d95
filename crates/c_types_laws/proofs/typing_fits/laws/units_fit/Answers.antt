use Rattle.c_types_laws.proofs.typing_fits.Units.{unit_fits}
use Rattle.c_types_laws.proofs.typing_fits.laws.units_fit.Goals as goal

pub returns : goal.returns
returns c items files contents none = unit_fits items files contents none
