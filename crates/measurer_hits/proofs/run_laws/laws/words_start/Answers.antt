use Rattle.measurer_hits.proofs.run_laws.Alike.{words_start}
use Rattle.measurer_hits.proofs.run_laws.laws.words_start.Goals as goal

pub returns : goal.returns
returns c = words_start
