use Rattle.std.proofs.Common.{◌≡◌, length}
use Rattle.measurer_index.proofs.word_index.Begun.{Tabled}
use Rattle.measurer_index.proofs.word_index.tables.begun.Given as goal

abbrev pub invariant-loop-number : goal.invariant-loop-number
invariant-loop-number l = record {
  length : length l.groups ≡ l.number;
  begun : Tabled l.goals l.order l.absents l.edges l.groups;
}
