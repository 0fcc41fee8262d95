use Rattle.cfa.proofs.ExprKinds.{agrees}
use Rattle.cfa.proofs.laws.fitting_values.Goals as goal

pub returns : goal.returns
returns c room cells frame e k n fits is = (agrees room cells frame e).value k n fits is
