use Rattle.std.proofs.Common.{◌≡◌, ◌+◌, ◌*◌, ◌≤◌, ℤ, false}
use Rattle.cnf.specs.Clauses.{literal_key}
use Rattle.cnf.specs.literal_marks.Marks.{marked}
use Rattle.cnf.specs.declared.literal_marks.places.Places.TheVariants.{ByKey}
use Rattle.search.specs.Machine.{IsOver, is_open}
use Rattle.search.proofs.choice.lowest_open_behind.Given as goal

abbrev pub invariant-loop-place : goal.invariant-loop-place
invariant-loop-place l = (x : ℤ) → IsOver l.place x → 2 * l.known + 2 ≤ literal_key x → is_open (marked ByKey l.values) x ≡ false
