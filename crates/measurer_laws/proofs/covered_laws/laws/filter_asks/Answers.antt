use Rattle.measurer_laws.proofs.covered_laws.Queries.{filter_asks}
use Rattle.measurer_laws.proofs.covered_laws.laws.filter_asks.Goals as goal

pub returns : goal.returns
returns c = filter_asks
