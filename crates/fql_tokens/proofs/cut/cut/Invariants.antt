use Rattle.std.proofs.Common.{◌≡◌, ◌≤◌, ◌+◌, ◌-◌, length}
use Rattle.fql_tokens.specs.Outcome.{cut_at, cutting}
use Rattle.fql_tokens.proofs.Cutting.{with_front}
use Rattle.fql_tokens.proofs.cut.cut.Given as goal

abbrev pub invariant-loop : goal.invariant-loop
invariant-loop l = record {
  started : 1 ≤ l.column;
  place : l.column + length l.rest ≤ 1 + length l.text;
  so_far : with_front l.made (cut_at (length l.text - l.counter) l.column l.mode l.rest) ≡ cutting l.text;
}
