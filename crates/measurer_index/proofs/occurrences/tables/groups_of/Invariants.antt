use Rattle.std.proofs.Common.{◌≡◌, ◌+◌, length}
use Rattle.std.specs.Prelude.{slice_index}
use Rattle.measurer_index.specs.occurrences.Places.{AreGroups}
use Rattle.measurer_index.proofs.occurrences.tables.groups_of.Given as goal

abbrev pub invariant-loop-first : goal.invariant-loop-first
invariant-loop-first l = record {
  size : length l.begins.items ≡ l.first-index + 1;
  last : slice_index l.begins.items l.first-index ≡ length l.places.items;
  groups : AreGroups l.numbers l.places.items l.begins.items l.first-index;
}
