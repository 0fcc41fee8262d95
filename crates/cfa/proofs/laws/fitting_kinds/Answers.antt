use Rattle.cfa.proofs.ExprKinds.{agrees}
use Rattle.cfa.proofs.laws.fitting_kinds.Goals as goal

pub returns : goal.returns
returns c room cells frame e k fits = record { own = (agrees room cells frame e).kind k fits; evaluated = (agrees room cells frame e).evaluated k fits }
