use Rattle.command_laws.proofs.printed_laws.Written.{written_is_due}
use Rattle.command_laws.proofs.printed_laws.written_is_due.Goals as goal

pub returns : goal.returns
returns c = written_is_due
