use Rattle.std.proofs.Common.{◌-◌, ◌+◌, length}
use Rattle.measurer_index.proofs.gap_words.Gaps.{IsSought}
use Rattle.measurer_index.proofs.gap_words.gap_word.+word_start.Given as goal

abbrev pub invariant-loop-at : goal.invariant-loop-at
invariant-loop-at l = IsSought l.path l.last l.word l.gap.place l.gap.span l.start l.from l.next

abbrev pub decreases-loop-at : goal.decreases-loop-at
decreases-loop-at l = length l.path.edges + 1 - l.from

abbrev pub decreases-word_start : goal.decreases-word_start
decreases-word_start l = length l.word.now
