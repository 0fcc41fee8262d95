use Rattle.unwinder.proofs.input_words.WorldLemmas.{world_of-same}
use Rattle.unwinder.proofs.input_words.laws.truncated_answers.Goals as goal

pub returns : goal.returns
returns c = world_of-same
