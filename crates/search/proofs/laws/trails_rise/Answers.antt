use Rattle.search.proofs.HistoryLaws.{trails_rise_law}
use Rattle.search.proofs.laws.trails_rise.Goals as goal

pub returns : goal.returns
returns c = trails_rise_law
