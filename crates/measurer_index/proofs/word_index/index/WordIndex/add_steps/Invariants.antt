use Rattle.measurer_index.specs.word_index.Numbers.{Adds}
use Rattle.measurer_index.proofs.word_index.Enough.{Walked}
use Rattle.measurer_index.proofs.word_index.Steps.{Below}
use Rattle.measurer_index.proofs.word_index.index.WordIndex.add_steps.Given as goal

abbrev pub invariant-loop-at : goal.invariant-loop-at
invariant-loop-at l = Adds (Below (Walked l.goals l.self.order l.self.absents l.path l.last l.edges l.at-items) l.at-index) l.initial.numbers l.numbers
