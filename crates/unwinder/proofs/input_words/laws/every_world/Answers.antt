use Rattle.unwinder.proofs.input_words.WorldLemmas.{every_world_is_an_inputs}
use Rattle.unwinder.proofs.input_words.laws.every_world.Goals as goal

pub returns : goal.returns
returns c = every_world_is_an_inputs
