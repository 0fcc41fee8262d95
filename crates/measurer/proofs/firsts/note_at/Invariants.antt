use Rattle.std.proofs.Common.{◌≡◌, length, take}
use Rattle.measurer.proofs.Noting.{HasNotes}
use Rattle.measurer.proofs.firsts.note_at.Given as goal

abbrev pub invariant-loop-place : goal.invariant-loop-place
invariant-loop-place l = record {
  size : length l.table.items ≡ length l.initial.table.items;
  notes : HasNotes l.initial.table.items l.number (take l.place-index l.places) l.table.items;
}
