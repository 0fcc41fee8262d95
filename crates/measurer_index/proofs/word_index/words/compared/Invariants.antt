use Rattle.std.proofs.Common.{◌≡◌, drop}
use Rattle.std.specs.Cmp.Lexicographic.{slice_cmp}
use Rattle.std.specs.Ordering.{nat_cmp}
use Rattle.measurer_index.specs.word_index.Order.{keys}
use Rattle.measurer_index.proofs.word_index.words.compared.Given as goal

-- up to there the words are equal
abbrev pub invariant-loop-at : goal.invariant-loop-at
invariant-loop-at l = slice_cmp nat_cmp (keys l.a) (keys l.b) ≡ slice_cmp nat_cmp (drop l.at (keys l.a)) (drop l.at (keys l.b))
