use Rattle.measurer_hits.proofs.run_laws.Fitting.{least_word}
use Rattle.measurer_hits.proofs.run_laws.laws.least_word.Goals as goal

pub returns : goal.returns
returns c = least_word
