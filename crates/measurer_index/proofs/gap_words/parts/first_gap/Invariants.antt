use Rattle.std.proofs.Common.{take}
use Rattle.measurer_index.specs.gap_words.Parts.{AreLetters}
use Rattle.measurer_index.proofs.gap_words.parts.first_gap.Given as goal

abbrev pub invariant-loop-place : goal.invariant-loop-place
invariant-loop-place l = AreLetters (take l.place l.word)
