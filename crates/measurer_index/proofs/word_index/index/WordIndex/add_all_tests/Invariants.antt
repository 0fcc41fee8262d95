use Rattle.measurer_index.specs.word_index.Groups.{IsTest, Started}
use Rattle.measurer_index.specs.word_index.Numbers.{Adds}
use Rattle.measurer_index.specs.word_index.Tables.{root}
use Rattle.measurer_index.proofs.word_index.index.WordIndex.add_all_tests.Given as goal

abbrev pub invariant-loop-at : goal.invariant-loop-at
invariant-loop-at l = Adds (Started l.goals l.order l.path l.last IsTest (root l.order l.self.absents) l.at) l.initial.numbers l.numbers
