use Rattle.command.proofs.FirstCovering as laws
use Rattle.command.proofs.laws.covered_by_the_first.Goals as goal

pub returns : goal.returns
returns c = laws.covered_by_the_first
