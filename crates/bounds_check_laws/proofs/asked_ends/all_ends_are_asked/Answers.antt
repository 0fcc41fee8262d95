use Rattle.bounds_check_laws.proofs.asked_ends.Asked.{all_ends_are_asked}
use Rattle.bounds_check_laws.proofs.asked_ends.all_ends_are_asked.Goals as goal

pub returns : goal.returns
returns c = all_ends_are_asked c.all_nodes_ask.ensures
