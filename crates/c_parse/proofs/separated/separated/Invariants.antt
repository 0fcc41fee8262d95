use Rattle.std.proofs.Common.{◌≡◌, ℕ, ◌≤◌, length}
use Rattle.c_parse.specs.ReadingStatements.{separated_at}
use Rattle.c_parse.proofs.Loops.{with_front}
use Rattle.c_parse.proofs.separated.separated.Given as goal

abbrev pub decreases-forms : goal.decreases-forms
decreases-forms g l = length l.rest

abbrev pub invariant-forms : goal.invariant-forms
invariant-forms g l = record {
  bound : ℕ;
  enough : length l.rest ≤ bound;
  so_far : with_front l.list (separated_at g.T.Part.reads l.comma l.last bound l.rest) ≡ separated_at g.T.Part.reads l.comma l.last (length l.tokens) l.tokens;
}
