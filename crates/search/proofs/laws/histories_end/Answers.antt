use Rattle.search.proofs.HistoryLaws.{histories_end_law}
use Rattle.search.proofs.laws.histories_end.Goals as goal

pub returns : goal.returns
returns c = histories_end_law
