use Rattle.std.proofs.Common.{◌≡◌, ◌-◌, length}
use Rattle.fql_read.specs.Reading.{kinds_at}
use Rattle.fql_read.proofs.Loops.{with_front}
use Rattle.fql_read.proofs.kinds.kinds_up_to_close.Given as goal

abbrev pub invariant-loop : goal.invariant-loop
invariant-loop l = with_front l.list (kinds_at (length l.tokens - l.counter) l.rest) ≡ kinds_at (length l.tokens) l.tokens
