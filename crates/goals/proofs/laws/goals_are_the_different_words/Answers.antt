use Rattle.goals.proofs.DifferentWords.{all_words, different, words_kept}
use Rattle.goals.proofs.laws.goals_are_the_different_words.Goals as goal

pub returns : goal.returns
returns c = record { words = words_kept; different = different; all = all_words }
