use Rattle.command_laws.proofs.made_laws.Made.{none_traps}
use Rattle.command_laws.proofs.made_laws.none_traps.Goals as goal

pub returns : goal.returns
returns c = none_traps
