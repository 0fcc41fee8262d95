use Rattle.std.proofs.Common.{◌≡◌, ℕ, ◌≤◌, length}
use Rattle.c_parse.specs.ReadingStatements.{labels_at}
use Rattle.c_parse.proofs.Loops.{with_front}
use Rattle.c_parse.proofs.simple.labels.Given as goal

abbrev pub decreases-labels : goal.decreases-labels
decreases-labels l = length l.rest

abbrev pub invariant-labels : goal.invariant-labels
invariant-labels l = record {
  bound : ℕ;
  enough : length l.rest ≤ bound;
  so_far : with_front l.list (labels_at bound l.rest) ≡ labels_at (length l.tokens) l.tokens;
}
