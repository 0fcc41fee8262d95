use Rattle.unwinder.proofs.input_words.InputLemmas.{still_inputs}
use Rattle.unwinder.proofs.input_words.laws.inputs_stay.Goals as goal

pub returns : goal.returns
returns c = still_inputs
