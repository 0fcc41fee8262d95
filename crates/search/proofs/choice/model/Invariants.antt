use Rattle.std.proofs.Common.{◌≡◌, ◌≤◌, ◌<◌, ◌-◌, ℕ, pos, false, length, slice_index_or}
use Rattle.cnf.specs.literal_marks.Marks.{marked}
use Rattle.cnf.specs.declared.literal_marks.places.Places.TheVariants.{ByKey}
use Rattle.search.proofs.choice.model.Given as goal

abbrev pub invariant-loop-place : goal.invariant-loop-place
invariant-loop-place l = record {
  count : length l.model.items ≡ l.place;
  values : (v : ℕ) → 0 < v → v ≤ l.place → slice_index_or l.model.items (v - 1) false ≡ marked ByKey l.values (pos v);
}
