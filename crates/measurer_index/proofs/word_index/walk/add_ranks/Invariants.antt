use Rattle.measurer_index.specs.word_index.Numbers.{Adds}
use Rattle.measurer_index.proofs.word_index.Steps.{RankNumbers}
use Rattle.measurer_index.proofs.word_index.walk.add_ranks.Given as goal

abbrev pub invariant-loop-rank : goal.invariant-loop-rank
invariant-loop-rank l = Adds (RankNumbers l.order l.low l.rank) l.initial.numbers l.numbers
