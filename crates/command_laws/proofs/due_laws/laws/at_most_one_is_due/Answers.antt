use Rattle.command_laws.proofs.due_laws.OneDue.{at_most_one}
use Rattle.command_laws.proofs.due_laws.laws.at_most_one_is_due.Goals as goal

pub returns : goal.returns
returns c = at_most_one c.one_outcome.ensures c.one_outcome-2.ensures c.one_outcome-3.ensures c.one_list_of_hits.ensures
