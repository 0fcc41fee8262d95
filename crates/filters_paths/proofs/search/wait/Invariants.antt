use Rattle.std.proofs.Common.{ℕ, ◌+◌, ◌<◌, ◌≤◌, All, Contains, length, get_or}
use Rattle.filters_paths.proofs.search.wait.Given as goal

abbrev pub invariant-loop-taken : goal.invariant-loop-taken
invariant-loop-taken l = record {
  waiting : All (λ k. k < length l.graph.edges) l.waiting.items;
  kept : (k : ℕ) → Contains l.initial.waiting.items k → Contains l.waiting.items k;
  more : (j : ℕ) → length l.row ≤ j + l.taken → j < length l.row → 0 < get_or l.left (get_or l.row j 0) 0 → Contains l.waiting.items (get_or l.row j 0);
}
