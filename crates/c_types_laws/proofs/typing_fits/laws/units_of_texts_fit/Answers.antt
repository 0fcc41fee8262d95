use Rattle.std.proofs.Common.{length}
use Rattle.c_types_laws.proofs.tree_contents.Texts.{units_of_texts}
use Rattle.c_types_laws.proofs.typing_fits.Units.{unit_fits}
use Rattle.c_types_laws.proofs.typing_fits.laws.units_of_texts_fit.Goals as goal

pub returns : goal.returns
returns c texts tokens items lexed derived none = unit_fits items (length texts) (units_of_texts texts tokens items lexed derived) none
