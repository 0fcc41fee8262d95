use Rattle.std.proofs.Common.{length}
use Rattle.measurer_index.specs.word_index.Places.{IsOnce}
use Rattle.measurer_index.proofs.word_index.Enough.{Chosen}
use Rattle.measurer_index.proofs.word_index.places.step_places.Given as goal

abbrev pub invariant-loop-at : goal.invariant-loop-at
invariant-loop-at l = Chosen (IsOnce l.goals l.order l.last l.groups) l.number-items (length l.groups) l.at l.done.items l.places.items
