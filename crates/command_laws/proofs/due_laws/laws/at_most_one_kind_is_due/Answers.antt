use Rattle.command_laws.proofs.due_laws.OneKind.{at_most_one_kind}
use Rattle.command_laws.proofs.due_laws.laws.at_most_one_kind_is_due.Goals as goal

pub returns : goal.returns
returns c =
    at_most_one_kind c.one_outcome.ensures c.one_outcome-2.ensures c.one_outcome-3.ensures c.one_list_of_hits.ensures c.one_count.ensures c.one_size.ensures c.not_too_many.ensures
