use Rattle.unwinder.proofs.input_words.WorldLemmas.{length-world_of}
use Rattle.unwinder.proofs.input_words.laws.world_lengths.Goals as goal

pub returns : goal.returns
returns c = length-world_of
