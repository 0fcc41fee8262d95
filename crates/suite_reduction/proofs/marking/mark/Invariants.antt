use Rattle.std.proofs.Common.{◌≡◌, ℕ, length, option_map, slice_get, take}
use Rattle.suite_reduction.specs.Marks.{marked}
use Rattle.suite_reduction.proofs.marking.mark.Given as goal

abbrev pub invariant-loop-goal : goal.invariant-loop-goal
invariant-loop-goal l = record {
  same_length : length l.firsts ≡ length l.initial.firsts;
  so_far : (k : ℕ) → slice_get l.firsts k ≡ option_map (marked l.input (take l.goal-index l.goals) k) (slice_get l.initial.firsts k);
}
