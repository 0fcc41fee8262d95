use Rattle.command.proofs.FirstCovering as laws
use Rattle.command.proofs.laws.missed_by_all.Goals as goal

pub returns : goal.returns
returns c = laws.missed_by_all
