use Rattle.input_text.proofs.Fitting.{accepted_fit}
use Rattle.input_text.proofs.laws.accepted_texts_fit.Goals as goal

pub returns : goal.returns
returns c = accepted_fit
