use Rattle.std.proofs.Common.{◌≡◌, ◌<◌, ℕ, length, get_or}
use Rattle.measurer_index.specs.occurrences.Places.{AreFirstsFrom, AreNextFrom}
use Rattle.measurer_index.proofs.occurrences.tables.chains_of.Given as goal

abbrev pub invariant-loop-place : goal.invariant-loop-place
invariant-loop-place l = record {
  room : (k : ℕ) → k < length l.numbers → get_or l.numbers k 0 < length l.firsts.items;
  size : length l.next.items ≡ length l.numbers;
  firsts : AreFirstsFrom l.numbers l.place l.firsts.items;
  next : AreNextFrom l.numbers l.place l.next.items;
}
