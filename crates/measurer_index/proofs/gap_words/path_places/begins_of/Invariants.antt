use Rattle.std.proofs.Common.{◌≡◌, ◌+◌, length}
use Rattle.measurer_index.specs.gap_words.Parts.{IsBegin}
use Rattle.measurer_index.proofs.gap_words.Begins.{AreBegun}
use Rattle.measurer_index.proofs.gap_words.path_places.begins_of.Given as goal

abbrev pub invariant-loop-place : goal.invariant-loop-place
invariant-loop-place l = record {
  size : length l.begins.items ≡ l.place + 1;
  begin : IsBegin l.set l.edges l.place l.begin;
  begun : AreBegun l.set l.edges l.begins.items (l.place + 1);
}
