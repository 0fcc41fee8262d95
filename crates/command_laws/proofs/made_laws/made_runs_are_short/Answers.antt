use Rattle.command_laws.proofs.made_laws.Made.{made_runs_are_short}
use Rattle.command_laws.proofs.made_laws.made_runs_are_short.Goals as goal

pub returns : goal.returns
returns c = made_runs_are_short
