use Rattle.bounds_check_laws.proofs.ending_laws.Asking.{kept_nodes_ask}
use Rattle.bounds_check_laws.proofs.ending_laws.kept_nodes_ask.Goals as goal

pub returns : goal.returns
returns c = kept_nodes_ask
