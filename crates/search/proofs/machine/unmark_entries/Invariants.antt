use Rattle.std.proofs.Common.{◌≡◌, ℤ, take}
use Rattle.std.specs.Prelude.{◌&&◌, not}
use Rattle.cnf.specs.literal_marks.Marks.{marked}
use Rattle.cnf.specs.declared.literal_marks.places.Places.TheVariants.{ByKey}
use Rattle.search.specs.Machine.{is_true}
use Rattle.search.proofs.machine.unmark_entries.Given as goal

abbrev pub invariant-loop-entry : goal.invariant-loop-entry
invariant-loop-entry l = (x : ℤ) → marked ByKey l.values x ≡ (marked ByKey l.fn.values x && not (is_true (take l.entry-index l.entries) x))
