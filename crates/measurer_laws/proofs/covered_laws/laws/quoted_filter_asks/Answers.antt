use Rattle.measurer_laws.proofs.covered_laws.Queries.{quoted_filter_asks}
use Rattle.measurer_laws.proofs.covered_laws.laws.quoted_filter_asks.Goals as goal

pub returns : goal.returns
returns c = quoted_filter_asks
