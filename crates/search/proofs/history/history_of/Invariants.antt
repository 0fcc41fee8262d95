use Rattle.std.proofs.Common.{◌≡◌, ◌++◌, length, reverse}
use Rattle.search.specs.Steps.{jump_count, moves_of}
use Rattle.search.proofs.history.history_of.Given as goal

abbrev pub invariant-loop-moves : goal.invariant-loop-moves
invariant-loop-moves l = record {
  count : jump_count l.steps.items ≡ length l.lines;
  gives : moves_of l.fn.steps.items l.fn.lines ≡ moves_of l.steps.items l.lines ++ reverse l.moves.items;
}

abbrev pub decreases-loop-moves : goal.decreases-loop-moves
decreases-loop-moves l = length l.steps.items
