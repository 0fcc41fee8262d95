use Rattle.bounds_check_laws.proofs.ending_laws.Asking.{all_nodes_ask}
use Rattle.bounds_check_laws.proofs.ending_laws.all_nodes_ask.Goals as goal

pub returns : goal.returns
returns c = all_nodes_ask
