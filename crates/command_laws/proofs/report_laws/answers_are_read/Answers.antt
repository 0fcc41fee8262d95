use Rattle.command_laws.proofs.report_laws.Report.{answers_are_read}
use Rattle.command_laws.proofs.report_laws.answers_are_read.Goals as goal

pub returns : goal.returns
returns c = answers_are_read
