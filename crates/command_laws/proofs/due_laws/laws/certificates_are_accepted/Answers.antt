use Rattle.command_laws.proofs.due_laws.Accepted.{certificates_are_accepted}
use Rattle.command_laws.proofs.due_laws.laws.certificates_are_accepted.Goals as goal

pub returns : goal.returns
returns c =
    certificates_are_accepted c.one_outcome.ensures c.one_outcome-2.ensures c.one_list_of_hits.ensures c.one_count.ensures c.one_size.ensures c.not_too_many.ensures
