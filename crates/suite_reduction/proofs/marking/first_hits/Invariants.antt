use Rattle.std.proofs.Common.{◌≡◌, take, vec_len}
use Rattle.suite_reduction.specs.Marks.{first_hits}
use Rattle.suite_reduction.proofs.marking.first_hits.Given as goal

abbrev pub invariant-loop-place : goal.invariant-loop-place
invariant-loop-place l = record {
  same_length : vec_len l.firsts ≡ l.count;
  so_far : l.firsts.items ≡ first_hits (take l.place l.hits.lists.now) l.count;
}
