use Rattle.command_laws.proofs.refuted_laws.Ends.{reports_refute_traps}
use Rattle.command_laws.proofs.refuted_laws.reports_refute_traps.Goals as goal

pub returns : goal.returns
returns c = reports_refute_traps c.one_outcome.ensures c.automata_return_plainly.ensures c.all_ends_are_asked.ensures c.answers_are_read.ensures c.none_traps.ensures
