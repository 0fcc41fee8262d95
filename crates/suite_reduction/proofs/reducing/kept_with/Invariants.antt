use Rattle.std.proofs.Common.{◌≡◌, ◌≤◌, ◌+◌, length, reverse, map, vec_len}
use Rattle.suite_reduction.specs.Marks.{first_hits}
use Rattle.suite_reduction.proofs.SuiteLaws.{kept_at}
use Rattle.suite_reduction.proofs.reducing.kept_with.Given as goal

abbrev pub invariant-loop-place : goal.invariant-loop-place
invariant-loop-place l = record {
  numbers : l.kept.items ≡ reverse (map (λ input. input.0) (kept_at l.hits.lists.now l.place));
  later : l.later.items ≡ first_hits (reverse (map (λ input. input.1) (kept_at l.hits.lists.now l.place))) (length l.firsts);
  same_length : vec_len l.later ≡ length l.firsts;
  few : vec_len l.kept + l.place ≤ length l.hits.lists.now;
}
