use Rattle.measurer_hits.proofs.run_laws.Taken.{fitted_words_alike}
use Rattle.measurer_hits.proofs.run_laws.laws.fitted_words.Goals as goal

pub returns : goal.returns
returns c = fitted_words_alike
