use Rattle.command_laws.proofs.refuted_laws.Ends.{reports_let_return}
use Rattle.command_laws.proofs.refuted_laws.reports_let_return.Goals as goal

pub returns : goal.returns
returns c = reports_let_return c.one_outcome.ensures c.automata_return_plainly.ensures c.all_ends_are_asked.ensures c.answers_are_read.ensures c.each_returns.ensures
