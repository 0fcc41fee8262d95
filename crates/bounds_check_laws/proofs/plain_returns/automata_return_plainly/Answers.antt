use Rattle.bounds_check_laws.proofs.plain_returns.Whole.{automata_return_plainly}
use Rattle.bounds_check_laws.proofs.plain_returns.automata_return_plainly.Goals as goal

pub returns : goal.returns
returns c = automata_return_plainly
