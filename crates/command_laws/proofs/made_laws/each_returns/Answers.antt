use Rattle.command_laws.proofs.made_laws.Made.{each_returns}
use Rattle.command_laws.proofs.made_laws.each_returns.Goals as goal

pub returns : goal.returns
returns c = each_returns
