use Rattle.std.proofs.Common.{ℕ, ◌<◌}
use Rattle.measurer_index.specs.word_index.Tables.{BeginsBelow}
use Rattle.measurer_index.specs.word_index.Walks.{word_at}
use Rattle.measurer_index.proofs.word_index.tables.size.Given as goal

abbrev pub invariant-loop-goal : goal.invariant-loop-goal
invariant-loop-goal l = (g : ℕ) → g < l.goal-index → BeginsBelow l.edges l.size (word_at l.goals g)
