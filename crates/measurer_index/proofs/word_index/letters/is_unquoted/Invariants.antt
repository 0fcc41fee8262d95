use Rattle.std.proofs.Common.{◌≡◌, drop}
use Rattle.measurer_index.specs.word_index.Walks.{is_unquoted}
use Rattle.measurer_index.proofs.word_index.letters.is_unquoted.Given as goal

abbrev pub invariant-loop-letter : goal.invariant-loop-letter
invariant-loop-letter l = is_unquoted l.word ≡ is_unquoted (drop l.letter-index l.word)
