use Rattle.std.proofs.Common.{◌≡◌, drop}
use Rattle.command_words.specs.Reading.{has_short, texts}
use Rattle.command_words.proofs.reading.any_short.Given as goal

abbrev pub invariant-loop-word : goal.invariant-loop-word
invariant-loop-word l = has_short (texts l.words) ≡ has_short (texts (drop l.word-index l.words))
