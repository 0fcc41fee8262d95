use Rattle.command_laws.proofs.refuted_laws.Reports.{reports_are_true}
use Rattle.command_laws.proofs.refuted_laws.reports_are_true.Goals as goal

pub returns : goal.returns
returns c = reports_are_true
