use Rattle.search_checked.proofs.Pairs.{checks_are_pairs}
use Rattle.search_checked.proofs.laws.checks_are_pairs.Goals as goal

pub returns : goal.returns
returns c = checks_are_pairs
